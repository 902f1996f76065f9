use Rattle.std.proofs.Common.{◌+◌, ◌*◌, length, sum}
use Rattle.awk_ere.proofs.Reach.{IsReaching}
use Rattle.awk_ere.proofs.search.reach.Given as goal

abbrev pub invariant-loop-at : goal.invariant-loop-at
invariant-loop-at l = IsReaching l.program l.ends.first l.ends.last l.from l.start l.fn.starts l.starts l.stack.items

abbrev pub decreases-loop-at : goal.decreases-loop-at
decreases-loop-at l = length l.stack.items + 3 * sum l.starts
