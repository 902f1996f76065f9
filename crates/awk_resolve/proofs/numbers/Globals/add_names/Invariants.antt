use Rattle.std.proofs.Common.{◌≡◌, drop, map}
use Rattle.awk_resolve.specs.Numbering as spec
use Rattle.awk_resolve.proofs.numbers.Globals.add_names.Given as goal

abbrev pub invariant-loop-text : goal.invariant-loop-text
invariant-loop-text l =
    spec.with_names l.within.role.now (map (λ w. w.now) l.texts) (spec.beside l.within.functions.now l.initial.self)
    ≡ spec.with_names l.within.role.now (map (λ w. w.now) (drop l.text-index l.texts))
    (spec.beside l.within.functions.now l.self)
