-- The first rule that speaks is the first of those that are met by the index.
use Rattle.std.proofs.Common.{◌≡◌, ◌∙◌, ℕ, zero, suc, ◌+◌, ◌≤◌, ◌<◌, Bool, true, false, ◌&&◌, ◌||◌, not, cond, List, []}
use Rattle.std.proofs.Common.{◌∷◌, length, drop, Some, None, Option, sym, ap, refl, subst, arith, inl, inr, ◌⊎◌, IfSome}
use Rattle.std.proofs.Common.{slice_get}
use Rattle.std.specs.Prelude.{◌==◌, nat_lt}
use Rattle.std.proofs.lemmas.Bool.{true≢false, eq-eqb, ne_eqb, lt-ltb, cases_lt}
use Rattle.box_policy.specs.declared.policy.Decision.TheVariants.{NoRule}
use Rattle.box_policy.specs.declared.policy.Kind.{Kind}
use Rattle.box_policy.specs.declared.policy.Rule.{Rule}
use Rattle.box_policy.specs.Decisions.{decision_from, decided, speaks}
use Rattle.box_policy.specs.Shelves.{first_of, stands, shelf_of, chain}
use Rattle.box_policy.specs.Targets.{least, after}

-- ---- the first rule that passes

bound_step : (b : Bool) (n x : ℕ) (later : Option ℕ) → (later ≡ Some x → n + 1 ≤ x) → cond b (Some n) later ≡ Some x
    → n ≤ x
bound_step true n x later ih h = let e : n ≡ x = cc in omega (arith, e)
bound_step false n x later ih h = omega (arith, ih h)

pub first_of-bound : (test : Rule → Bool) (n : ℕ) (rules : List Rule) (x : ℕ) → first_of test n rules ≡ Some x → n ≤ x
first_of-bound test n [] x h = cc
first_of-bound test n (rule ∷ rules) x h = bound_step (test rule) n x (first_of test (n + 1) rules)
    (first_of-bound test (n + 1) rules x) h

pub first_of-same : (test other : Rule → Bool) (n : ℕ) (rules : List Rule) → ((rule : Rule) → test rule ≡ other rule)
    → first_of test n rules ≡ first_of other n rules
first_of-same test other n [] same = refl
first_of-same test other n (rule ∷ rules) same =
    ap (λ b. cond b (Some n) (first_of test (n + 1) rules)) (same rule) ∙ ap (λ o. cond (other rule) (Some n) o)
    (first_of-same test other (n + 1) rules same)

pub first_of-never : (n : ℕ) (rules : List Rule) → first_of (λ _. false) n rules ≡ None
first_of-never n [] = refl
first_of-never n (rule ∷ rules) = first_of-never (n + 1) rules

none_step : (b : Bool) (n : ℕ) (later : Option ℕ) → cond b (Some n) later ≡ None → (b ≡ false) × (later ≡ None)
none_step true n later h = cc
none_step false n later h = (refl, h)

-- ---- the lesser of two

least-first : (n : ℕ) (u v : Option ℕ) → ((x : ℕ) → u ≡ Some x → n ≤ x) → ((x : ℕ) → v ≡ Some x → n ≤ x) → (u ≡ Some n)
    ⊎ (v ≡ Some n) → least u v ≡ Some n
least-first n None v bu bv (inl h) = cc
least-first n None v bu bv (inr h) = h
least-first n (Some k) None bu bv (inl h) = h
least-first n (Some k) None bu bv (inr h) = cc
least-first n (Some k) (Some l) bu bv h = lesser (bu k refl) (bv l refl) (either h)
  where
    either : (Some k ≡ Some n) ⊎ (Some l ≡ Some n) → (k ≡ n) ⊎ (l ≡ n)
    either (inl e) = inl cc
    either (inr e) = inr cc

    lesser : n ≤ k → n ≤ l → (k ≡ n) ⊎ (l ≡ n) → cond (nat_lt l k) (Some l) (Some k) ≡ Some n
    lesser a b (inl e) = grind arith
    lesser a b (inr e) = grind arith

least-none : (u v : Option ℕ) → least u v ≡ None → (u ≡ None) × (v ≡ None)
least-none None v h = (refl, h)
least-none (Some k) None h = cc
least-none (Some k) (Some l) h = absurd (some_at (nat_lt l k) l k h)
  where
    some_at : (b : Bool) (l k : ℕ) → cond b (Some l) (Some k) ≡ None → ⊥
    some_at true l k h = cc
    some_at false l k h = cc

-- ---- the rule that is met

drop-next : {X : Type 0} (i : ℕ) (xs : List X) (x : X) (rest : List X) → drop i xs ≡ x ∷ rest → drop (i + 1) xs ≡ rest
drop-next zero [] x rest h = cc
drop-next zero (y ∷ ys) x rest h = cc
drop-next (suc i) [] x rest h = cc
drop-next (suc i) (y ∷ ys) x rest h =
    let count : suc i + 1 ≡ suc (i + 1) = omega arith in
    ap (λ k. drop k (y ∷ ys)) count ∙ drop-next i ys x rest h

-- of the rules behind the first i the one that is met is at place j, and what was passed over passes no test
abbrev pub IsMet : (Rule → Bool) → List Rule → ℕ → ℕ → Rule → Type 0
IsMet test rules i j rule = first_of test (i + 1) (drop i rules) ≡ cond (test rule) (Some (j + 1))
    (first_of test (j + 1 + 1) (drop (j + 1) rules))

and_false : (a b : Bool) → b ≡ false → (a && b) ≡ false
and_false true b h = h
and_false false b h = refl

module _ (p q r : Rule → Bool) (rules : List Rule) where
  -- a rule that speaks passes one of the tests
  abbrev pub Covers : List ℕ → Kind → List ℕ → Bool → Type 0
  Covers base kind subject given = (rule : Rule) → p rule ≡ false → q rule ≡ false → r rule ≡ false
      → speaks base rule kind subject given ≡ false

  pub record Met (i m : ℕ) : Type 0 where
    pub j : ℕ
    pub number : m ≡ j + 1
    pub from : i ≤ j
    pub rule : Rule
    pub there : drop j rules ≡ rule ∷ drop (j + 1) rules
    pub rooted : IsMet p rules i j rule
    pub under : IsMet q rules i j rule
    pub other : IsMet r rules i j rule
    pub rest : (looked : Rule → Bool) (base : List ℕ) (kind : Kind) (subject : List ℕ) (given : Bool)
        → Covers base kind subject given
        → decision_from looked (i + 1) base (drop i rules) kind subject given ≡ decision_from looked (j + 1) base
        (rule ∷ drop (j + 1) rules) kind subject given

  met_here : (i m : ℕ) (rule : Rule) (more : List Rule) → drop i rules ≡ rule ∷ more → Some (i + 1) ≡ Some m → Met i m
  met_here i m rule more at h =
      let there : drop i rules ≡ rule ∷ drop (i + 1) rules =
      at ∙ ap (λ l. rule ∷ l) (sym (drop-next i rules rule more at)) in
      record {
        j = i;
        number = let e : i + 1 ≡ m = cc in sym e;
        from = omega arith;
        rule = rule;
        there = there;
        rooted = ap (first_of p (i + 1)) there;
        under = ap (first_of q (i + 1)) there;
        other = ap (first_of r (i + 1)) there;
        rest = λ looked base kind subject given covers. ap (λ l. decision_from looked (i + 1) base l kind subject given)
            there;
      }

  passed_test : (test : Rule → Bool) (i j : ℕ) (rule found : Rule) (more : List Rule) → drop i rules ≡ rule ∷ more
      → test rule ≡ false → IsMet test rules (i + 1) j found → IsMet test rules i j found
  passed_test test i j rule found more at fails later =
      ap (first_of test (i + 1)) at
      ∙ (ap (λ b. cond b (Some (i + 1)) (first_of test (i + 1 + 1) more)) fails
      ∙ (ap (first_of test (i + 1 + 1)) (sym (drop-next i rules rule more at)) ∙ later))

  met_later : (i m : ℕ) (rule : Rule) (more : List Rule) → drop i rules ≡ rule ∷ more → p rule ≡ false → q rule ≡ false
      → r rule ≡ false → Met (i + 1) m → Met i m
  met_later i m rule more at np nq nr later = record {
    j = later.j;
    number = later.number;
    from = omega (arith, later.from);
    rule = later.rule;
    there = later.there;
    rooted = passed_test p i later.j rule later.rule more at np later.rooted;
    under = passed_test q i later.j rule later.rule more at nq later.under;
    other = passed_test r i later.j rule later.rule more at nr later.other;
    rest = λ looked base kind subject given covers.
        ap (λ l. decision_from looked (i + 1) base l kind subject given) at
        ∙ (ap (λ b. cond b (decided rule.effect (i + 1)) (decision_from looked (i + 1 + 1) base more kind subject
        given)) (and_false (looked rule) _ (covers rule np nq nr))
        ∙ (ap (λ l. decision_from looked (i + 1 + 1) base l kind subject given) (sym (drop-next i rules rule more at))
        ∙ later.rest looked base kind subject given covers));
  }

  first_is : (test : Rule → Bool) (n : ℕ) (rule : Rule) (more : List Rule) → test rule ≡ true
      → first_of test n (rule ∷ more) ≡ Some n
  first_is test n rule more h = ap (λ b. cond b (Some n) (first_of test (n + 1) more)) h

  first_not : (test : Rule → Bool) (n : ℕ) (rule : Rule) (more : List Rule) → test rule ≡ false
      → first_of test n (rule ∷ more) ≡ first_of test (n + 1) more
  first_not test n rule more h = ap (λ b. cond b (Some n) (first_of test (n + 1) more)) h

  -- the least of the first rules of the three tests
  abbrev least_at : ℕ → List Rule → Option ℕ
  least_at n rs = least (first_of p n rs) (least (first_of q n rs) (first_of r n rs))

  least-bound : (n : ℕ) (u v : Option ℕ) → ((x : ℕ) → u ≡ Some x → n ≤ x) → ((x : ℕ) → v ≡ Some x → n ≤ x) → (x : ℕ)
      → least u v ≡ Some x → n ≤ x
  least-bound n None v bu bv x h = bv x h
  least-bound n (Some k) None bu bv x h = bu x h
  least-bound n (Some k) (Some l) bu bv x h = of (nat_lt l k) h
    where
      of : (b : Bool) → cond b (Some l) (Some k) ≡ Some x → n ≤ x
      of true e = bv x e
      of false e = bu x e

  pub met : (rs : List Rule) (i m : ℕ) → drop i rules ≡ rs → least_at (i + 1) rs ≡ Some m → Met i m
  met [] i m at h = cc
  met (rule ∷ more) i m at h = by (met more (i + 1) m (drop-next i rules rule more at)) (p rule) (q rule)
      (r rule) refl refl refl
    where
      of_p : (x : ℕ) → first_of p (i + 1) (rule ∷ more) ≡ Some x → i + 1 ≤ x
      of_p = first_of-bound p (i + 1) (rule ∷ more)

      of_q : (x : ℕ) → first_of q (i + 1) (rule ∷ more) ≡ Some x → i + 1 ≤ x
      of_q = first_of-bound q (i + 1) (rule ∷ more)

      of_r : (x : ℕ) → first_of r (i + 1) (rule ∷ more) ≡ Some x → i + 1 ≤ x
      of_r = first_of-bound r (i + 1) (rule ∷ more)

      of_both : (x : ℕ) → least (first_of q (i + 1) (rule ∷ more)) (first_of r (i + 1) (rule ∷ more)) ≡ Some x
          → i + 1 ≤ x
      of_both = least-bound (i + 1) (first_of q (i + 1) (rule ∷ more)) (first_of r (i + 1) (rule ∷ more)) of_q of_r

      here : (first_of p (i + 1) (rule ∷ more) ≡ Some (i + 1))
          ⊎ (least (first_of q (i + 1) (rule ∷ more)) (first_of r (i + 1) (rule ∷ more)) ≡ Some (i + 1)) → Met i m
      here which = met_here i m rule more at
          (sym (least-first (i + 1) (first_of p (i + 1) (rule ∷ more)) (least (first_of q (i + 1) (rule ∷ more))
          (first_of r (i + 1) (rule ∷ more))) of_p of_both which) ∙ h)

      later : p rule ≡ false → q rule ≡ false → r rule ≡ false → least_at (i + 1) (rule ∷ more)
          ≡ least_at (i + 1 + 1) more
      later np nq nr = λ k. least (first_not p (i + 1) rule more np k) (least (first_not q (i + 1) rule more nq k)
          (first_not r (i + 1) rule more nr k))

      by : (least_at (i + 1 + 1) more ≡ Some m → Met (i + 1) m) → (a b c : Bool) → p rule ≡ a → q rule ≡ b → r rule ≡ c
          → Met i m
      by onward true b c ip iq ir = here (inl (first_is p (i + 1) rule more ip))
      by onward false true c ip iq ir =
          here (inr (least-first (i + 1) (first_of q (i + 1) (rule ∷ more)) (first_of r (i + 1) (rule ∷ more)) of_q of_r
          (inl (first_is q (i + 1) rule more iq))))
      by onward false false true ip iq ir =
          here (inr (least-first (i + 1) (first_of q (i + 1) (rule ∷ more)) (first_of r (i + 1) (rule ∷ more)) of_q of_r
          (inr (first_is r (i + 1) rule more ir))))
      by onward false false false ip iq ir = met_later i m rule more at ip iq ir (onward (sym (later ip iq ir) ∙ h))

  none_from : (looked : Rule → Bool) (base : List ℕ) (kind : Kind) (subject : List ℕ) (given : Bool)
      → Covers base kind subject given → (rs : List Rule) (n : ℕ)
      → first_of p n rs ≡ None → first_of q n rs ≡ None → first_of r n rs ≡ None
      → decision_from looked n base rs kind subject given ≡ NoRule
  none_from looked base kind subject given covers [] n np nq nr = refl
  none_from looked base kind subject given covers (rule ∷ more) n np nq nr =
      let a = none_step (p rule) n (first_of p (n + 1) more) np in
      let b = none_step (q rule) n (first_of q (n + 1) more) nq in
      let c = none_step (r rule) n (first_of r (n + 1) more) nr in
      ap (λ t. cond t (decided rule.effect n) (decision_from looked (n + 1) base more kind subject given))
      (and_false (looked rule) _ (covers rule a.0 b.0 c.0))
      ∙ none_from looked base kind subject given covers more (n + 1) a.1 b.1 c.1

  pub none_met : (looked : Rule → Bool) (base : List ℕ) (kind : Kind) (subject : List ℕ) (given : Bool)
      → Covers base kind subject given → (i : ℕ)
      → least_at (i + 1) (drop i rules) ≡ None → decision_from looked (i + 1) base (drop i rules) kind subject given
      ≡ NoRule
  none_met looked base kind subject given covers i h =
      let a = least-none (first_of p (i + 1) (drop i rules)) (least (first_of q (i + 1) (drop i rules))
      (first_of r (i + 1) (drop i rules))) h in
      let b = least-none (first_of q (i + 1) (drop i rules)) (first_of r (i + 1) (drop i rules)) a.1 in
      none_from looked base kind subject given covers (drop i rules) (i + 1) a.0 b.0 b.1

-- ---- behind the rule that was met

-- the rules that pass stand on one shelf
abbrev pub IsShelf : (Rule → Bool) → Type 0
IsShelf test = (rule : Rule) → test rule ≡ true → (other : Rule) → test other ≡ stands (shelf_of rule) other

kept_after : (n : ℕ) (next o : Option ℕ) → ((x : ℕ) → o ≡ Some x → n + 1 ≤ x) → after n next o ≡ o
kept_after n next None bound = refl
kept_after n next (Some k) bound =
    let b = bound k refl in ap (λ t. cond t next (Some k)) (ne_eqb k n (λ e. absurd (omega (arith, b, e))))

pub after_met : (test : Rule → Bool) (rules : List Rule) (i j : ℕ) (rule : Rule) (next : Option ℕ) → IsShelf test
    → IsMet test rules i j rule
    → next ≡ first_of (stands (shelf_of rule)) (j + 1 + 1) (drop (j + 1) rules)
    → after (j + 1) next (first_of test (i + 1) (drop i rules)) ≡ first_of test (j + 1 + 1) (drop (j + 1) rules)
after_met test rules i j rule next shelved is_met is_next = ap (after (j + 1) next) is_met ∙ by (test rule) refl
  where
    by : (b : Bool) → test rule ≡ b
        → after (j + 1) next (cond (test rule) (Some (j + 1)) (first_of test (j + 1 + 1) (drop (j + 1) rules)))
        ≡ first_of test (j + 1 + 1) (drop (j + 1) rules)
    by true h =
        ap (λ t. after (j + 1) next (cond t (Some (j + 1)) (first_of test (j + 1 + 1) (drop (j + 1) rules)))) h
        ∙ (ap (λ t. cond t next (Some (j + 1))) (eq-eqb (j + 1) (j + 1) refl)
        ∙ (is_next ∙ sym (first_of-same test (stands (shelf_of rule)) (j + 1 + 1) (drop (j + 1) rules)
        (shelved rule h))))
    by false h =
        ap (λ t. after (j + 1) next (cond t (Some (j + 1)) (first_of test (j + 1 + 1) (drop (j + 1) rules)))) h
        ∙ kept_after (j + 1) next (first_of test (j + 1 + 1) (drop (j + 1) rules)) (λ x e. let b =
        first_of-bound test (j + 1 + 1) (drop (j + 1) rules) x e in omega (arith, b))

-- ---- the chain of a shelf

pub length-chain : (n : ℕ) (rules : List Rule) → length (chain n rules) ≡ length rules
length-chain n [] = refl
length-chain n (rule ∷ rules) = ap suc (length-chain (n + 1) rules)

pub chain_at : (n j : ℕ) (rules : List Rule) (rule : Rule) (rest : List Rule) (next : Option ℕ)
    → drop j rules ≡ rule ∷ rest → slice_get (chain n rules) j ≡ Some next
    → next ≡ first_of (stands (shelf_of rule)) (n + j + 1) rest
chain_at n zero [] rule rest next at h = cc
chain_at n zero (x ∷ xs) rule rest next at h =
    let same : x ≡ rule = cc in
    let more : xs ≡ rest = cc in
    let is : first_of (stands (shelf_of x)) (n + 1) xs ≡ next = cc in
    sym is ∙ (λ i. first_of (stands (shelf_of (same i))) (count i) (more i))
  where
    count : n + 1 ≡ n + 0 + 1
    count = omega arith
chain_at n (suc j) [] rule rest next at h = cc
chain_at n (suc j) (x ∷ xs) rule rest next at h =
    subst (λ (k : ℕ). next ≡ first_of (stands (shelf_of rule)) k rest) count (chain_at (n + 1) j xs rule rest next at h)
  where
    count : n + 1 + j + 1 ≡ n + suc j + 1
    count = omega arith
