use Rattle.awk_ere.proofs.Images.{NoneAfter}
use Rattle.awk_ere.proofs.plain.last.Given as goal

abbrev pub invariant-loop-after : goal.invariant-loop-after
invariant-loop-after l = NoneAfter l.set l.after
