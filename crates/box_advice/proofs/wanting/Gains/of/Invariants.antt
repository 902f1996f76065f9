use Rattle.std.proofs.Common.{◌≡◌, ◌≤◌, [], drop, length}
use Rattle.box_advice.specs.Heads.{HasHeads}
use Rattle.box_advice.specs.Wishes.{grants_from}
use Rattle.box_advice.proofs.wanting.Gains.of.Given as goal

-- those that are left gain behind what was gained what all gain, and there is room for these
abbrev pub invariant-loop-wish : goal.invariant-loop-wish
invariant-loop-wish l = record {
  kept : HasHeads l.policy.base l.gains.rules.items l.gains.heads.items;
  rest : grants_from l.policy l.gains.rules.items (drop l.wish-index l.wishes) ≡ grants_from l.policy [] l.wishes;
  few : length l.gains.rules.items ≤ l.room;
}
