use Rattle.std.proofs.Common.{◌≡◌, length}
use Rattle.box_advice.specs.Heads.{AreHeads}
use Rattle.box_advice.specs.Unreached.{unreached_in}
use Rattle.box_advice.proofs.unreached.found.Given as goal

-- those before are told, and have their heads
abbrev pub invariant-loop-rule : goal.invariant-loop-rule
invariant-loop-rule l = record {
  count : length l.heads.items ≡ l.rule-index;
  told : l.told.items ≡ unreached_in l.policy.base l.policy.rules (length l.heads.items);
  heads : AreHeads l.policy.base l.policy.rules l.heads.items;
}
