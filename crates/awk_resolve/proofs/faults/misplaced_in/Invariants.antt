use Rattle.std.proofs.Common.{None, All, take}
use Rattle.awk_resolve.specs.Search.{Finds, WordAt}
use Rattle.awk_resolve.proofs.faults.misplaced_in.Given as goal

abbrev pub invariant-loop-mention : goal.invariant-loop-mention
invariant-loop-mention l = All (λ m. Finds (WordAt l.role m) None) (take l.mention-index l.mentions)
