use Rattle.std.proofs.Common.{◌≡◌, ◌+◌, ◌++◌, drop}
use Rattle.box_policy.specs.Telling.{told_from}
use Rattle.box_policy.proofs.policy.Policy.told.Given as goal

-- what was told, and then what is left, is the whole
abbrev pub invariant-loop-rule : goal.invariant-loop-rule
invariant-loop-rule l = record {
  count : l.number ≡ l.rule-index;
  rest : l.told.items ++ told_from (l.number + 1) l.self.base (drop l.rule-index l.all) l.kind l.subject l.given
      ≡ told_from 1 l.self.base l.all l.kind l.subject l.given;
}
