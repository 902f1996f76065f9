use Rattle.std.proofs.Common.{None, All, take}
use Rattle.awk_resolve.specs.Clash.{OneOf}
use Rattle.awk_resolve.specs.Search.{Finds, WordAt}
use Rattle.awk_resolve.proofs.faults.first_misplaced.Given as goal

abbrev pub invariant-loop-part : goal.invariant-loop-part
invariant-loop-part l = All (λ p. Finds (OneOf (WordAt p.role) p.mentions) None) (take l.part-index l.parts)
