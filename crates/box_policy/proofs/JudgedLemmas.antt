-- A decision goes from rule to rule of those that are ahead.
use Rattle.std.proofs.Common.{◌≡◌, ◌∙◌, ℕ, zero, suc, ◌+◌, ◌-◌, ◌≤◌, ◌<◌, ◌&&◌, Bool, true, false, cond, List, [], ◌∷◌}
use Rattle.std.proofs.Common.{length, drop, Some, None, Option, sym, ap, refl, subst, arith, slice_get, get_or}
use Rattle.std.specs.Prelude.{nat_le}
use Rattle.std.proofs.lemmas.Bool.{and_parts, leb-true}
use Rattle.box_policy.specs.declared.deciding.Ahead.{Ahead}
use Rattle.box_policy.specs.declared.deciding.Target.{Target}
use Rattle.box_policy.specs.declared.index.Index.{Index}
use Rattle.box_policy.specs.declared.policy.Decision.TheVariants.{NoRule}
use Rattle.box_policy.specs.declared.policy.Kind.{Kind}
use Rattle.box_policy.specs.declared.policy.Rule.{Rule}
use Rattle.box_policy.specs.Decisions.{decision_from, decided, speaks}
use Rattle.box_policy.specs.Short.{are_short}
use Rattle.box_policy.specs.Shelves.{first_of, stands, shelf_of, chain, IsIndex}
use Rattle.box_policy.specs.Targets.{IsTarget, rooted_at, under_at, other_at, least, after}
use Rattle.box_policy.proofs.AheadLemmas.{Met, met, none_met, after_met, chain_at, length-chain, IsMet, IsShelf}
use Rattle.box_policy.proofs.CoversLemmas.{covers, rooted_at-shelf, under_at-shelf, other_at-shelf}

-- ahead are the first rules of the shelves that are not passed
pub record IsAhead (target : Target) (rules : List Rule) (ahead : Ahead) (passed : ℕ) : Type 0 where
  pub within : passed ≤ length rules
  pub rooted : ahead.rooted ≡ first_of (rooted_at target) (passed + 1) (drop passed rules)
  pub under : ahead.under ≡ first_of (under_at target) (passed + 1) (drop passed rules)
  pub other : ahead.other ≡ first_of (other_at target) (passed + 1) (drop passed rules)

-- the number of the rule that is met
abbrev pub Meets : Ahead → ℕ → Type 0
Meets ahead number = least ahead.rooted (least ahead.under ahead.other) ≡ Some number

within_drop : {X : Type 0} (i : ℕ) (xs : List X) (x : X) (rest : List X) → drop i xs ≡ x ∷ rest → i < length xs
within_drop zero [] x rest h = cc
within_drop zero (y ∷ ys) x rest h = omega arith
within_drop (suc i) [] x rest h = cc
within_drop (suc i) (y ∷ ys) x rest h = let l = within_drop i ys x rest h in omega (arith, l)

read_drop : {X : Type 0} (i : ℕ) (xs : List X) (x y : X) (rest : List X) → drop i xs ≡ x ∷ rest → y ≡ get_or xs i y
    → x ≡ y
read_drop zero [] x y rest h g = cc
read_drop zero (z ∷ zs) x y rest h g = let a : z ≡ x = cc in sym a ∙ sym g
read_drop (suc i) [] x y rest h g = cc
read_drop (suc i) (z ∷ zs) x y rest h g = read_drop i zs x y rest h g

pub short_at : (rules : List Rule) (i : ℕ) (rule : Rule) → are_short rules ≡ true → i < length rules
    → rule ≡ get_or rules i rule → length rule.pattern ≤ 4096
short_at [] i rule h l is = absurd (omega arith)
short_at (x ∷ xs) zero rule h l is = subst (λ r. length r.pattern ≤ 4096) (sym is)
    (leb-true (length x.pattern) 4096 (and_parts (nat_le (length x.pattern) 4096) (are_short xs) h).0)
short_at (x ∷ xs) (suc i) rule h l is =
    short_at xs i rule (and_parts (nat_le (length x.pattern) 4096) (are_short xs) h).1 (omega (arith, l)) is

module _ (target : Target) (rules : List Rule) (ahead : Ahead) (passed number : ℕ)
    (a : IsAhead target rules ahead passed) (meets : Meets ahead number) where
  pub it : Met (rooted_at target) (under_at target) (other_at target) rules passed number
  it = met (rooted_at target) (under_at target) (other_at target) rules (drop passed rules) passed number refl
      (sym (λ i. least (a.rooted i) (least (a.under i) (a.other i))) ∙ meets)

  place : number - 1 ≡ it.j
  place = let n = it.number in omega (arith, n)

  pub bounds : (passed < number) × (number ≤ length rules)
  bounds =
      let n = it.number in
      let f = it.from in
      let w = within_drop it.j rules it.rule (drop (it.j + 1) rules) it.there in
      (omega (arith, n, f), omega (arith, n, w))

  moved : (test : Rule → Bool) (one next : Option ℕ) → IsShelf test
      → one ≡ first_of test (passed + 1) (drop passed rules) → IsMet test rules passed it.j it.rule
      → next ≡ first_of (stands (shelf_of it.rule)) (it.j + 1 + 1) (drop (it.j + 1) rules)
      → after number next one ≡ first_of test (number + 1) (drop number rules)
  moved test one next shelved is is_met is_next =
      subst (λ n. after n next one ≡ first_of test (n + 1) (drop n rules)) (sym it.number)
      (ap (after (it.j + 1) next) is ∙ after_met test rules passed it.j it.rule next shelved is_met is_next)

  next_is : (index : Index) (next : Option ℕ) → IsIndex rules index → slice_get index.nexts.items (number - 1)
      ≡ Some next
      → next ≡ first_of (stands (shelf_of it.rule)) (it.j + 1 + 1) (drop (it.j + 1) rules)
  next_is index next indexed read =
      let chained : slice_get (chain 1 rules) it.j ≡ Some next = sym (λ i. slice_get (indexed.nexts i) (place i))
      ∙ read in
      let count : 1 + it.j + 1 ≡ it.j + 1 + 1 = omega arith in
      subst (λ n. next ≡ first_of (stands (shelf_of it.rule)) n (drop (it.j + 1) rules)) count
      (chain_at 1 it.j rules it.rule (drop (it.j + 1) rules) next it.there chained)

  pub steps : (index : Index) (next : Option ℕ) (new : Ahead) → IsIndex rules index
      → slice_get index.nexts.items (number - 1) ≡ Some next
      → new ≡ record {
        rooted = after number next ahead.rooted;
        under = after number next ahead.under;
        other =
            after number next ahead.other;
      } → IsAhead target rules new number
  steps index next new indexed read is =
      let is_next = next_is index next indexed read in
      subst (λ x. IsAhead target rules x number) (sym is) (record {
        within = bounds.1;
        rooted = moved (rooted_at target) ahead.rooted next (rooted_at-shelf target) a.rooted it.rooted is_next;
        under = moved (under_at target) ahead.under next (under_at-shelf target) a.under it.under is_next;
        other = moved (other_at target) ahead.other next (other_at-shelf target) a.other it.other is_next;
      })

  -- the rule that is met decides, or those behind it do
  pub rest : (looked : Rule → Bool) (base : List ℕ) (kind : Kind) (subject : List ℕ) (given : Bool) (rule : Rule)
      → IsTarget base kind subject target → rule ≡ get_or rules (number - 1) rule
      → decision_from looked (passed + 1) base (drop passed rules) kind subject given
      ≡ cond (looked rule && speaks base rule kind subject given) (decided rule.effect number)
      (decision_from looked (number + 1) base (drop number rules) kind subject given)
  rest looked base kind subject given rule t read =
      let same : it.rule ≡ rule = read_drop it.j rules it.rule rule (drop (it.j + 1) rules) it.there
      (read ∙ ap (λ k. get_or rules k rule) place) in
      it.rest looked base kind subject given (covers base kind subject given target t)
      ∙ (λ i. cond (looked (same i) && speaks base (same i) kind subject given)
      (decided (same i).effect (sym it.number i))
      (decision_from looked (sym it.number i + 1) base (drop (sym it.number i) rules) kind subject given))

  pub decides : (looked : Rule → Bool) (base : List ℕ) (kind : Kind) (subject : List ℕ) (given : Bool) (rule : Rule)
      → IsTarget base kind subject target → rule ≡ get_or rules (number - 1) rule
      → (looked rule && speaks base rule kind subject given) ≡ true
      → decision_from looked (passed + 1) base (drop passed rules) kind subject given ≡ decided rule.effect number
  decides looked base kind subject given rule t read holds =
      rest looked base kind subject given rule t read
      ∙ ap (λ b. cond b (decided rule.effect number) (decision_from looked (number + 1) base (drop number rules)
      kind subject given)) holds

  pub goes_on : (looked : Rule → Bool) (base : List ℕ) (kind : Kind) (subject : List ℕ) (given : Bool) (rule : Rule)
      → IsTarget base kind subject target → rule ≡ get_or rules (number - 1) rule
      → (looked rule && speaks base rule kind subject given) ≡ false
      → decision_from looked (passed + 1) base (drop passed rules) kind subject given ≡ decision_from looked
      (number + 1) base (drop number rules) kind subject given
  goes_on looked base kind subject given rule t read fails =
      rest looked base kind subject given rule t read
      ∙ ap (λ b. cond b (decided rule.effect number) (decision_from looked (number + 1) base (drop number rules)
      kind subject given)) fails

-- where none is ahead no rule speaks
pub ends : (looked : Rule → Bool) (target : Target) (rules : List Rule) (ahead : Ahead) (passed : ℕ) (base : List ℕ)
    (kind : Kind) (subject : List ℕ) (given : Bool) → IsAhead target rules ahead passed
    → IsTarget base kind subject target → least ahead.rooted (least ahead.under ahead.other) ≡ None
    → decision_from looked (passed + 1) base (drop passed rules) kind subject given ≡ NoRule
ends looked target rules ahead passed base kind subject given a t none =
    none_met (rooted_at target) (under_at target) (other_at target) rules looked base kind subject given
    (covers base kind subject given target t) passed
    (sym (λ i. least (a.rooted i) (least (a.under i) (a.other i))) ∙ none)
