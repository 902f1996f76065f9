use Rattle.std.proofs.Common.{◌≡◌, ◌++◌, drop, map}
use Rattle.awk_resolve.specs.Kinds.{parameter}
use Rattle.awk_resolve.specs.Tables as spec
use Rattle.awk_resolve.proofs.tables.parameter_flags.Given as goal

abbrev pub invariant-loop-param : goal.invariant-loop-param
invariant-loop-param l =
    map (λ q. spec.arrays_by l.kinds (parameter l.function q.text)) l.params ≡ l.are
    ++ map (λ q. spec.arrays_by l.kinds (parameter l.function q.text)) (drop l.param-index l.params)
