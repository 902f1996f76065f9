use Rattle.std.proofs.Common.{◌-◌, length}
use Rattle.awk_resolve.proofs.Reaching.{Reaching}
use Rattle.awk_resolve.proofs.uses.reached.Given as goal

abbrev pub invariant-loop-n : goal.invariant-loop-n
invariant-loop-n l = Reaching l.seeds l.links l.done l.reach

abbrev pub decreases-loop-n : goal.decreases-loop-n
decreases-loop-n l = length l.links - l.done
