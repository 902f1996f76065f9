use Rattle.awk_ere.specs.Image.{IsReached, Stays}
use Rattle.awk_ere.specs.Table.{AreFlags}
use Rattle.awk_ere.proofs.plain.only.Given as goal

abbrev pub invariant-loop-at : goal.invariant-loop-at
invariant-loop-at l = AreFlags (IsReached (Stays l.place) l.from) l.at l.to.items
