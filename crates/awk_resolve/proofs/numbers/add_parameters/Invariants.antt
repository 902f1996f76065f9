use Rattle.std.proofs.Common.{◌≡◌, ◌+◌, drop, length}
use Rattle.awk_resolve.specs.Numbering as spec
use Rattle.awk_resolve.proofs.numbers.add_parameters.Given as goal

abbrev pub invariant-loop-param : goal.invariant-loop-param
invariant-loop-param l =
    (spec.scope l.initial.count l.initial.scope l.params ≡ spec.scope l.count l.scope (drop l.param-index l.params))
    × (l.initial.count + length l.params ≡ l.count + length (drop l.param-index l.params))
