use Rattle.std.proofs.Common.{◌≡◌, take}
use Rattle.box_advice.proofs.proposing.are_all_same.Given as goal

-- those before are the same
abbrev pub invariant-loop-i : goal.invariant-loop-i
invariant-loop-i l = take l.i l.ones ≡ take l.i l.others
