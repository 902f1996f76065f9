use Rattle.std.proofs.Common.{◌≡◌, drop}
use Rattle.awk_resolve.specs.Numbering as spec
use Rattle.awk_resolve.proofs.numbers.Globals.add_arguments.Given as goal

abbrev pub invariant-loop-arg : goal.invariant-loop-arg
invariant-loop-arg l =
    spec.with_arguments l.within.role.now l.args (spec.beside l.within.functions.now l.initial.self)
    ≡ spec.with_arguments l.within.role.now (drop l.arg-index l.args) (spec.beside l.within.functions.now l.self)
