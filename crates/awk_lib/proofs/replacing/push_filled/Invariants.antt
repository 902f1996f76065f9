use Rattle.std.proofs.Common.{◌≡◌, false, length}
use Rattle.awk_lib.specs.Replacing.{filled}
use Rattle.awk_lib.specs.Written.{written}
use Rattle.awk_lib.proofs.replacing.push_filled.Given as goal

-- what is made and what is still to come make the whole
abbrev pub invariant-loop-at : goal.invariant-loop-at
invariant-loop-at l = written l.out (filled l.matched false l.rest) ≡ written l.fn.out (filled l.matched false l.with)

abbrev pub decreases-loop-at : goal.decreases-loop-at
decreases-loop-at l = length l.rest
