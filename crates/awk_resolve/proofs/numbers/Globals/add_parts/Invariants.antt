use Rattle.std.proofs.Common.{◌≡◌, drop}
use Rattle.awk_resolve.specs.Numbering as spec
use Rattle.awk_resolve.proofs.numbers.Globals.add_parts.Given as goal

abbrev pub invariant-loop-part : goal.invariant-loop-part
invariant-loop-part l =
    spec.with_parts l.parts (spec.beside l.functions l.initial.self) ≡ spec.with_parts (drop l.part-index l.parts)
    (spec.beside l.functions l.self)
