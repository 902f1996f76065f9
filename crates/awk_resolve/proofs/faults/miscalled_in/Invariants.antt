use Rattle.std.proofs.Common.{None, All, take}
use Rattle.awk_resolve.specs.Search.{Finds, MiscallAt}
use Rattle.awk_resolve.proofs.faults.miscalled_in.Given as goal

abbrev pub invariant-loop-mention : goal.invariant-loop-mention
invariant-loop-mention l = All (λ m. Finds (MiscallAt l.known m) None) (take l.mention-index l.mentions)
