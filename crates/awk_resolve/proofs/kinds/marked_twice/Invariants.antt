use Rattle.std.proofs.Common.{◌≡◌, ◌<◌, ℕ, true, Some}
use Rattle.awk_resolve.specs.Marks.{is_marked}
use Rattle.awk_resolve.proofs.kinds.marked_twice.Given as goal

abbrev pub invariant-loop-is_scalar : goal.invariant-loop-is_scalar
invariant-loop-is_scalar l = record {
  none_yet : (n : ℕ) → n < l.is_scalar-index → is_marked l.is_scalar-items (Some n) ≡ true
      → is_marked l.kinds.arrays (Some n) ≡ true → ⊥;
  here : l.number ≡ l.is_scalar-index;
}
