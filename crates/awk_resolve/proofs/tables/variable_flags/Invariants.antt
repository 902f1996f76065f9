use Rattle.std.proofs.Common.{◌≡◌, ◌++◌, drop, map}
use Rattle.awk_resolve.specs.Tables as spec
use Rattle.awk_resolve.proofs.tables.variable_flags.Given as goal

abbrev pub invariant-loop-text : goal.invariant-loop-text
invariant-loop-text l =
    spec.variable_flags (spec.arrays_by l.kinds) (map (λ t. t.items) l.texts) ≡ l.are ++ spec.variable_flags
    (spec.arrays_by l.kinds) (map (λ t. t.items) (drop l.text-index l.texts))
