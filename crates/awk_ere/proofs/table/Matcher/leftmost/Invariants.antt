use Rattle.std.proofs.Common.{◌-◌, length}
use Rattle.awk_ere.specs.Matcher.{NoneTo}
use Rattle.awk_ere.proofs.table.Matcher.leftmost.Given as goal

abbrev pub invariant-loop-at : goal.invariant-loop-at
invariant-loop-at l = NoneTo l.self l.text l.from l.at

abbrev pub decreases-loop-at : goal.decreases-loop-at
decreases-loop-at l = length l.text - l.at
