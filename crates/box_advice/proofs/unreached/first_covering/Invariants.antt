use Rattle.std.proofs.Common.{◌≡◌, ◌+◌, drop, length, take}
use Rattle.box_policy.specs.Shelves.{first_of}
use Rattle.box_advice.specs.Covers.{covers}
use Rattle.box_advice.specs.Unreached.{first_covering}
use Rattle.box_advice.proofs.unreached.first_covering.Given as goal

-- none of those before covers it
abbrev pub invariant-loop-rule : goal.invariant-loop-rule
invariant-loop-rule l = record {
  count : l.number ≡ l.rule-index;
  rest : first_of (λ rule. covers l.policy.base rule l.later) (l.number + 1)
      (drop l.rule-index (take (length l.heads) l.policy.rules))
      ≡ first_covering l.policy.base (take (length l.heads) l.policy.rules) l.later;
}
