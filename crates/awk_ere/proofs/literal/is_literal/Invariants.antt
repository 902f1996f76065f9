use Rattle.std.proofs.Common.{◌≡◌, ℕ, ◌<◌, false, slice_index}
use Rattle.awk_ere.specs.Literal.{is_special}
use Rattle.awk_ere.proofs.literal.is_literal.Given as goal

abbrev pub invariant-loop-byte : goal.invariant-loop-byte
invariant-loop-byte l = (i : ℕ) → i < l.byte-index → is_special (slice_index l.text i) ≡ false
