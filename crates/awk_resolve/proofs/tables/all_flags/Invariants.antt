use Rattle.std.proofs.Common.{◌≡◌, ◌++◌, drop}
use Rattle.awk_resolve.specs.Tables as spec
use Rattle.awk_resolve.proofs.tables.all_flags.Given as goal

abbrev pub invariant-loop-part : goal.invariant-loop-part
invariant-loop-part l = spec.all_flags (spec.arrays_by l.kinds) l.parts ≡ l.all ++ spec.all_flags
    (spec.arrays_by l.kinds) (drop l.part-index l.parts)
