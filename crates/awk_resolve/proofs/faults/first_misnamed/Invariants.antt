use Rattle.std.proofs.Common.{None, All, take}
use Rattle.awk_resolve.specs.Search.{Finds, MisnamedAt}
use Rattle.awk_resolve.proofs.faults.first_misnamed.Given as goal

abbrev pub invariant-loop-part : goal.invariant-loop-part
invariant-loop-part l = All (λ p. Finds (MisnamedAt l.known p.role) None) (take l.part-index l.parts)
