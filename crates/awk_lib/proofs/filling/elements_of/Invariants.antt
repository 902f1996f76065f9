use Rattle.awk_lib.proofs.Parts.{Filling}
use Rattle.awk_lib.proofs.filling.elements_of.Given as goal

abbrev pub invariant-loop-part : goal.invariant-loop-part
invariant-loop-part l = Filling l.places.items l.yielded l.number
