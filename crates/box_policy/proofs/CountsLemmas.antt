-- Counts change neither what a rule speaks of nor where it stands in the index.
use Rattle.std.proofs.Common.{◌≡◌, ◌∙◌, ℕ, zero, suc, ◌+◌, ◌-◌, ◌≤◌, ◌<◌, Bool, true, false, ◌&&◌, not, cond, List, []}
use Rattle.std.proofs.Common.{◌∷◌, map, length, Some, None, Option, IfSome, sym, ap, refl, subst, arith, slice_get}
use Rattle.std.specs.Prelude.{◌==◌, nat_le, nat_lt, slice_set, int_le, pos, ℤ, unsigned_abs}
use Rattle.std.specs.Option.{option_map}
use Rattle.std.specs.Prelude.{option_and_then, codes}
use Rattle.std.specs.List.{AllZip}
use Rattle.std.specs.Str.{bytes_eq}
use Rattle.std.proofs.lemmas.Bool.{le-leb, leb-true, ltb-true, ltb-false, leb-false}
use Rattle.std.proofs.lemmas.List.{length-map}
use Rattle.toml.specs.Data.{Data, Members, as_integer, get_member}
use Rattle.box_policy.specs.declared.index.Index.{Index}
use Rattle.box_policy.specs.declared.policy.Effect.{Effect}
use Rattle.box_policy.specs.declared.policy.Effect.TheVariants.{Allow, Deny}
use Rattle.box_policy.specs.declared.policy.Kind.{Kind}
use Rattle.box_policy.specs.declared.policy.Quota.{Quota}
use Rattle.box_policy.specs.declared.policy.Rule.{Rule}
use Rattle.box_policy.specs.Counts.{cleared, counted, effect_cleared, effect_counted, is_spent, is_used_up}
use Rattle.box_policy.specs.Counts.{is_used_up_at, is_used_up_by, is_used_up_if, noted, one_more, rule_at, rule_cleared}
use Rattle.box_policy.specs.Counts.{rules_noted, unused, with_counted}
use Rattle.box_policy.specs.Decisions.{decided, decision, decision_from, is_left, speaks}
use Rattle.box_policy.specs.Rulebook.{Rulebook}
use Rattle.box_policy.specs.Shelves.{IsIndex, chain, first_of, shelf_of, stands}
use Rattle.box_policy.specs.Short.{are_short}
use Rattle.box_policy.specs.Tree.{tables_of, text_at}
use Rattle.box_policy.specs.Words.{allowing, denying, effect_named, effect_of, quota_named}
use Rattle.box_policy.specs.Written.{Written, WritesRule}

-- ---- one rule, but for its count

unused-one : (b : Bool) (q : Quota) → unused (cond b (record q { used = q.used + 1 }) q) ≡ unused q
unused-one true q = refl
unused-one false q = refl

effect-counted : (e : Effect) → effect_cleared (effect_counted e) ≡ effect_cleared e
effect-counted Deny = refl
effect-counted (Allow None) = refl
effect-counted (Allow (Some q)) = ap (λ u. Allow (Some u)) (unused-one (nat_lt q.used q.limit) q)

effect-cleared : (e : Effect) → effect_cleared (effect_cleared e) ≡ effect_cleared e
effect-cleared Deny = refl
effect-cleared (Allow None) = refl
effect-cleared (Allow (Some q)) = refl

rule-counted : (rule : Rule) → rule_cleared (counted rule) ≡ rule_cleared rule
rule-counted rule = ap (λ e. record rule { effect = e }) (effect-counted rule.effect)

rule-cleared : (rule : Rule) → rule_cleared (rule_cleared rule) ≡ rule_cleared rule
rule-cleared rule = ap (λ e. record rule { effect = e }) (effect-cleared rule.effect)

-- ---- the rules, but for their counts

abbrev pub Same : List Rule → List Rule → Type 0
Same rules others = map rule_cleared rules ≡ map rule_cleared others

pub cleared-same : (rules : List Rule) → Same (map rule_cleared rules) rules
cleared-same [] = refl
cleared-same (rule ∷ rules) = λ i. rule-cleared rule i ∷ cleared-same rules i

set-same : (rules : List Rule) (k : ℕ) (rule : Rule) → slice_get rules k ≡ Some rule
    → Same (slice_set rules k (counted rule)) rules
set-same [] k rule h = refl
set-same (x ∷ xs) zero rule h =
    let e : rule ≡ x = cc in λ i. (rule-counted rule ∙ ap rule_cleared e) i ∷ map rule_cleared xs
set-same (x ∷ xs) (suc k) rule h = ap (λ ys. rule_cleared x ∷ ys) (set-same xs k rule h)

read_at : {A : Type 0} (b : Bool) (o : Option A) (x : A) → cond b None o ≡ Some x → o ≡ Some x
read_at true o x h = cc
read_at false o x h = h

pub noted-same : (n : ℕ) (rules : List Rule) → Same (rules_noted n rules) rules
noted-same n rules = by (rule_at n rules) refl
  where
    by : (o : Option Rule) → rule_at n rules ≡ o → Same (with_counted n rules o) rules
    by None h = refl
    by (Some rule) h = set-same rules (n - 1) rule (read_at (n == 0) (slice_get rules (n - 1)) rule h)

-- ---- what does not look at counts

first_of-cleared : (place : List ℕ) (n : ℕ) (rules : List Rule) → first_of (stands place) n (map rule_cleared rules)
    ≡ first_of (stands place) n rules
first_of-cleared place n [] = refl
first_of-cleared place n (rule ∷ rules) = ap (λ o. cond (stands place rule) (Some n) o)
    (first_of-cleared place (n + 1) rules)

chain-cleared : (n : ℕ) (rules : List Rule) → chain n (map rule_cleared rules) ≡ chain n rules
chain-cleared n [] = refl
chain-cleared n (rule ∷ rules) = λ i. first_of-cleared (shelf_of rule) (n + 1) rules i ∷ chain-cleared (n + 1) rules i

short-cleared : (rules : List Rule) → are_short (map rule_cleared rules) ≡ are_short rules
short-cleared [] = refl
short-cleared (rule ∷ rules) = ap (λ b. nat_le (length rule.pattern) 4096 && b) (short-cleared rules)

-- what the cleared rules have in common the rules have
common : {A : Type 0} (f : List Rule → A) → ((rules : List Rule) → f (map rule_cleared rules) ≡ f rules)
    → (rules others : List Rule) → Same rules others → f rules ≡ f others
common f cleared rules others same = sym (cleared rules) ∙ (ap f same ∙ cleared others)

-- what a policy keeps true
abbrev pub IsKept : List Rule → Index → Type 0
IsKept rules index = (length rules ≤ 1024) × (are_short rules ≡ true) × IsIndex rules index

pub kept : (rules others : List Rule) (index : Index) → Same rules others → IsKept rules index → IsKept others index
kept rules others index same (few, short, indexed) = (
  subst (λ (n : ℕ). n ≤ 1024) (common length (λ rs. length-map rs rule_cleared) rules others same) few,
  sym (common are_short short-cleared rules others same) ∙ short,
  record {
    firsts = λ place. indexed.firsts place ∙ common (first_of (stands place) 1) (first_of-cleared place 1) rules others
        same;
    nexts = indexed.nexts ∙ common (chain 1) (chain-cleared 1) rules others same;
  },
)

-- ---- a policy that was read

fresh_quota : (b : Bool) (z : ℤ) → IfSome (cond b (Some (record { limit = unsigned_abs z; used = 0 })) None)
    (λ (q : Quota). unused q ≡ q)
fresh_quota true z = refl
fresh_quota false z = tt

fresh_allowing : (o : Option Quota) → IfSome o (λ q. unused q ≡ q)
    → IfSome (option_and_then (λ (q : Quota). Some (Allow (Some q))) o) (λ e. effect_cleared e ≡ e)
fresh_allowing None h = tt
fresh_allowing (Some q) h = ap (λ u. Allow (Some u)) h

quota_at : (o : Option ℤ) → IfSome (option_and_then quota_named o) (λ q. unused q ≡ q)
quota_at None = tt
quota_at (Some z) = fresh_quota (int_le (pos 1) z && int_le z (pos 1000000)) z

fresh_allow : (limit : Option Data) → IfSome (allowing limit) (λ e. effect_cleared e ≡ e)
fresh_allow None = refl
fresh_allow (Some d) = fresh_allowing (option_and_then quota_named (as_integer d)) (quota_at (as_integer d))

fresh_deny : (limit : Option Data) → IfSome (denying limit) (λ e. effect_cleared e ≡ e)
fresh_deny None = refl
fresh_deny (Some d) = tt

fresh_named : (a b : Bool) (limit : Option Data) → IfSome (cond a (allowing limit) (cond b (denying limit) None))
    (λ e. effect_cleared e ≡ e)
fresh_named true b limit = fresh_allow limit
fresh_named false true limit = fresh_deny limit
fresh_named false false limit = tt

fresh_effect : (limit : Option Data) (word : Option (List ℕ)) → IfSome (option_and_then (effect_named limit) word)
    (λ e. effect_cleared e ≡ e)
fresh_effect limit None = tt
fresh_effect limit (Some word) = fresh_named (bytes_eq word (codes "allow")) (bytes_eq word (codes "deny")) limit

some_fresh : (o : Option Effect) (e : Effect) → IfSome o (λ e. effect_cleared e ≡ e) → o ≡ Some e → effect_cleared e ≡ e
some_fresh o e h is = subst (λ (o : Option Effect). IfSome o (λ e. effect_cleared e ≡ e)) is h

fresh_rule : (table : Members) (rule : Rule) → WritesRule table rule → rule_cleared rule ≡ rule
fresh_rule table rule w =
    ap (λ e. record rule { effect = e }) (some_fresh (effect_of table) rule.effect
    (fresh_effect (get_member (codes "limit") table) (text_at (codes "effect") table)) w.effect)

pub fresh_rules : (tables : List Members) (rules : List Rule) → AllZip WritesRule tables rules
    → map rule_cleared rules ≡ rules
fresh_rules [] [] w = refl
fresh_rules [] (rule ∷ rules) w = absurd w
fresh_rules (table ∷ tables) [] w = absurd w
fresh_rules (table ∷ tables) (rule ∷ rules) w = λ i. fresh_rule table rule w.0 i ∷ fresh_rules tables rules w.1 i

-- ---- what was decided stays, as long as no rule is used up

decided-counted : (e : Effect) (n : ℕ) → decided (effect_counted e) n ≡ decided e n
decided-counted (Allow quota) n = refl
decided-counted Deny n = refl

left_by : (b : Bool) (q : Quota) → nat_lt q.used q.limit ≡ b
    → is_spent (Some (cond b (record q { used = q.used + 1 }) q)) ≡ false → nat_le q.limit q.used ≡ false
left_by true q e h = grind arith
left_by false q e h = h

left_before : (e : Effect) → is_used_up_by (effect_counted e) ≡ false → is_used_up_by e ≡ false
left_before Deny h = h
left_before (Allow None) h = h
left_before (Allow (Some q)) h = left_by (nat_lt q.used q.limit) q refl h

module _ (base : List ℕ) (kind : Kind) (subject : List ℕ) (given : Bool) where
  counted_decides : (m : ℕ) (rule : Rule) (d : _) → is_used_up (counted rule) ≡ false
      → cond (is_left (counted rule) && speaks base (counted rule) kind subject given) (decided (counted rule).effect m)
      d
      ≡ cond (is_left rule && speaks base rule kind subject given) (decided rule.effect m) d
  counted_decides m rule d h =
      let before : is_used_up rule ≡ false = left_before rule.effect h in
      let same : is_left (counted rule) ≡ is_left rule = ap not (h ∙ sym before) in
      λ i. cond (same i && speaks base rule kind subject given) (decided-counted rule.effect m i) d

  set_decides : (rules : List Rule) (k m : ℕ) (rule : Rule) → slice_get rules k ≡ Some rule
      → is_used_up (counted rule) ≡ false
      → decision_from is_left m base (slice_set rules k (counted rule)) kind subject given
      ≡ decision_from is_left m base rules kind subject given
  set_decides [] k m rule at h = refl
  set_decides (x ∷ xs) zero m rule at h =
      let e : rule ≡ x = cc in
      counted_decides m rule (decision_from is_left (m + 1) base xs kind subject given) h
      ∙ ap (λ r. cond (is_left r && speaks base r kind subject given) (decided r.effect m)
      (decision_from is_left (m + 1) base xs kind subject given)) e
  set_decides (x ∷ xs) (suc k) m rule at h =
      ap (λ d. cond (is_left x && speaks base x kind subject given) (decided x.effect m) d)
      (set_decides xs k (m + 1) rule at h)

got_set : {A : Type 0} (xs : List A) (k : ℕ) (x y : A) → slice_get xs k ≡ Some x → slice_get (slice_set xs k y) k
    ≡ Some y
got_set [] k x y h = cc
got_set (z ∷ zs) zero x y h = refl
got_set (z ∷ zs) (suc k) x y h = got_set zs k x y h

some_at : {A : Type 0} (b : Bool) (o : Option A) (x : A) → cond b None o ≡ Some x → b ≡ false
some_at true o x h = cc
some_at false o x h = refl

-- what is decided stays where the rule that was counted is not used up by that
pub decides_still : (n : ℕ) (book : Rulebook) (kind : Kind) (subject : List ℕ) (given : Bool)
    → is_used_up_at (noted n book) n ≡ false
    → decision (noted n book) kind subject given ≡ decision book kind subject given
decides_still n book kind subject given = by (rule_at n book.rules) refl
  where
    by : (o : Option Rule) → rule_at n book.rules ≡ o → is_used_up_if (rule_at n (with_counted n book.rules o)) ≡ false
        → decision_from is_left 1 book.base (with_counted n book.rules o) kind subject given
        ≡ decision_from is_left 1 book.base book.rules kind subject given
    by None e h = refl
    by (Some rule) e h =
        let at : slice_get book.rules (n - 1) ≡ Some rule = read_at (n == 0) (slice_get book.rules (n - 1)) rule e in
        let there : (n == 0) ≡ false = some_at (n == 0) (slice_get book.rules (n - 1)) rule e in
        let now : rule_at n (slice_set book.rules (n - 1) (counted rule)) ≡ Some (counted rule) =
        ap (λ b. cond b None (slice_get (slice_set book.rules (n - 1) (counted rule)) (n - 1))) there
        ∙ got_set book.rules (n - 1) rule (counted rule) at in
        set_decides book.base kind subject given book.rules (n - 1) 1 rule at (sym (ap is_used_up_if now) ∙ h)

-- a policy that was read has allowed nothing
pub written_fresh : (bytes : List ℕ) (book : Rulebook) → Written bytes book → cleared book ≡ book
written_fresh bytes book written =
    ap (λ rules. record book { rules = rules }) (fresh_rules (tables_of (get_member (codes "rule") written.tree))
    book.rules written.writes.rules)
