use Rattle.std.proofs.Common.{◌≡◌, drop}
use Rattle.awk_resolve.specs.Tables as spec
use Rattle.awk_resolve.proofs.variables.add_arguments.Given as goal

abbrev pub invariant-loop-arg : goal.invariant-loop-arg
invariant-loop-arg l = spec.behind l.initial.out (spec.outside l.parameters (spec.given l.args)) ≡ spec.behind l.out
    (spec.outside l.parameters (spec.given (drop l.arg-index l.args)))
