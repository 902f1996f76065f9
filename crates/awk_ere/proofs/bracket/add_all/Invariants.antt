use Rattle.std.proofs.Common.{take}
use Rattle.awk_ere.specs.Lexing.{Adds}
use Rattle.awk_ere.proofs.bracket.add_all.Given as goal

abbrev pub invariant-loop-range : goal.invariant-loop-range
invariant-loop-range l = Adds l.fn.set (take l.range-index l.ranges) l.set
