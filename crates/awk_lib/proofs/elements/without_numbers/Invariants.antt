use Rattle.std.specs.Prelude.{◌≡◌, map}
use Rattle.awk_lib.proofs.elements.without_numbers.Given as goal

abbrev pub invariant-loop-key : goal.invariant-loop-key
invariant-loop-key l = l.texts.items ≡ map (λ k. k.value) l.yielded
