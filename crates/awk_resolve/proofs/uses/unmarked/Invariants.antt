use Rattle.std.proofs.Common.{◌≡◌, replicate, false}
use Rattle.awk_resolve.proofs.uses.unmarked.Given as goal

abbrev pub invariant-loop-i : goal.invariant-loop-i
invariant-loop-i l = l.marks ≡ replicate l.i false
