use Rattle.std.proofs.Common.{length}
use Rattle.awk_ere.proofs.Wholes.{Reading}
use Rattle.awk_ere.proofs.read.read.Given as goal

abbrev pub invariant-loop-top : goal.invariant-loop-top
invariant-loop-top l = Reading l.text l.groups.items l.top l.sets.items l.rest

abbrev pub decreases-loop-top : goal.decreases-loop-top
decreases-loop-top l = length l.rest
