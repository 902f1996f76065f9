use Rattle.std.proofs.Common.{◌≡◌, ◌++◌, drop}
use Rattle.awk_resolve.specs.Uses as spec
use Rattle.awk_resolve.proofs.uses.arguments.Given as goal

abbrev pub invariant-loop-arg : goal.invariant-loop-arg
invariant-loop-arg l = (l.initial.out ++ spec.arguments l.inside.numbers.now l.inside.role.now l.parameters 0 l.args
    ≡ l.out ++ spec.arguments l.inside.numbers.now l.inside.role.now l.parameters l.position (drop l.arg-index l.args))
    × (l.position ≡ l.arg-index)
