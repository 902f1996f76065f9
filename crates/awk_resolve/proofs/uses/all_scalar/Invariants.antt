use Rattle.std.proofs.Common.{◌≡◌, ◌++◌, drop, map}
use Rattle.awk_resolve.specs.Uses as spec
use Rattle.awk_resolve.proofs.uses.all_scalar.Given as goal

abbrev pub invariant-loop-text : goal.invariant-loop-text
invariant-loop-text l =
    l.initial.out ++ spec.all_scalar l.inside.numbers.now l.inside.role.now (map (λ w. w.now) l.texts) ≡ l.out
    ++ spec.all_scalar l.inside.numbers.now l.inside.role.now (map (λ w. w.now) (drop l.text-index l.texts))
