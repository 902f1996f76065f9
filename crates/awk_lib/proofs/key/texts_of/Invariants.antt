use Rattle.std.specs.Prelude.{◌≡◌}
use Rattle.awk_lib.proofs.key.texts_of.Given as goal

abbrev pub invariant-loop-key : goal.invariant-loop-key
invariant-loop-key l = l.texts.items ≡ l.yielded
