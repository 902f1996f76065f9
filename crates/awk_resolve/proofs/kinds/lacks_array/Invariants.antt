use Rattle.std.proofs.Common.{◌≡◌, ◌<◌, ℕ, true, Some, None, slice_get}
use Rattle.awk_resolve.specs.Marks.{is_marked}
use Rattle.awk_resolve.proofs.kinds.lacks_array.Given as goal

abbrev pub invariant-loop-arg : goal.invariant-loop-arg
invariant-loop-arg l = record {
  none_yet : (i : ℕ) → i < l.arg-index → slice_get l.args i ≡ Some None
      → is_marked l.kinds.arrays (slice_get l.parameters i) ≡ true → ⊥;
  here : l.position ≡ l.arg-index;
}
