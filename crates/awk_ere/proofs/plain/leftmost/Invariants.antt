use Rattle.awk_ere.specs.View.{pattern}
use Rattle.awk_ere.proofs.Images.{NoneBefore}
use Rattle.awk_ere.proofs.plain.leftmost.Given as goal

abbrev pub invariant-loop-start : goal.invariant-loop-start
invariant-loop-start l = NoneBefore l.text (pattern l.sets l.node) l.from l.start
