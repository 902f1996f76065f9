use Rattle.std.proofs.Common.{◌≡◌, ◌++◌, drop, map, take}
use Rattle.box_policy.specs.Counts.{rule_cleared}
use Rattle.box_policy.proofs.counting.clear_in.Given as goal

-- the rules up to this one are cleared
abbrev pub invariant-loop-rule : goal.invariant-loop-rule
invariant-loop-rule l = l.rule-items ≡ map rule_cleared (take l.rule-index l.fn.rules.items)
    ++ drop l.rule-index l.fn.rules.items
