use Rattle.std.proofs.Common.{◌≡◌, drop}
use Rattle.awk_resolve.specs.Tables as spec
use Rattle.awk_resolve.proofs.variables.add_parts.Given as goal

abbrev pub invariant-loop-part : goal.invariant-loop-part
invariant-loop-part l = spec.behind l.initial.out (spec.mentioned l.parts) ≡ spec.behind l.out
    (spec.mentioned (drop l.part-index l.parts))
