use Rattle.std.proofs.Common.{◌≡◌, ◌++◌, drop}
use Rattle.awk_resolve.specs.Said.{defined}
use Rattle.awk_resolve.specs.Kinds.{texts}
use Rattle.awk_resolve.proofs.tables.add_functions.Given as goal

abbrev pub invariant-loop-part : goal.invariant-loop-part
invariant-loop-part l = l.initial.out ++ texts (defined l.parts) ≡ l.out ++ texts (defined (drop l.part-index l.parts))
