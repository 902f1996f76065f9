use Rattle.awk_ere.specs.Table.{AreFlags}
use Rattle.awk_ere.proofs.Images.{IsEither}
use Rattle.awk_ere.proofs.plain.union.Given as goal

abbrev pub invariant-loop-at : goal.invariant-loop-at
invariant-loop-at l = AreFlags (IsEither l.some l.others) l.at l.all.items
