use Rattle.std.proofs.Common.{◌≡◌, ◌∙◌, ℕ, zero, suc, ◌+◌, ◌<◌, List, [], ◌∷◌, ◌++◌, length, drop, map, take, set}
use Rattle.std.proofs.Common.{get_or, sym, ap, arith}
use Rattle.box_policy.specs.declared.policy.Rule.{Rule}
use Rattle.box_policy.specs.Counts.{rule_cleared}
use Rattle.box_policy.proofs.counting.clear_in.Goals as goal

-- the rules before this one are cleared
abbrev cleared_to : List Rule → ℕ → List Rule
cleared_to rules k = map rule_cleared (take k rules) ++ drop k rules

next_cleared : (rules : List Rule) (k : ℕ) (d : Rule) → k < length rules
    → set (cleared_to rules k) k (rule_cleared (get_or (cleared_to rules k) k d)) ≡ cleared_to rules (k + 1)
next_cleared [] k d h = absurd (omega (arith, h))
next_cleared (x ∷ xs) zero d h = cc
next_cleared (x ∷ xs) (suc k) d h =
    let count : suc (k + 1) ≡ suc k + 1 = omega arith in
    ap (λ ys. rule_cleared x ∷ ys) (next_cleared xs k d (omega (arith, h))) ∙ ap (cleared_to (x ∷ xs)) count

pub loop-rule-preserved : goal.loop-rule-preserved
loop-rule-preserved c =
    let k = c.loop-rule.rule-index in
    let below : k < length c.args.rules.now.items = omega (
      arith,
      c.loop-rule-test.true,
      ap length c.deref_mut-rule-items.ensures.value,
    ) in
    ap (set c.loop-rule.rule-items k) c.clear.ensures
    ∙ (ap (λ ys. set ys k (rule_cleared (get_or ys k c.rule-item.result))) c.loop-rule.invariant
    ∙ next_cleared c.args.rules.now.items k c.rule-item.result below)
