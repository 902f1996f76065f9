use Rattle.std.proofs.Common.{◌≡◌, ◌+◌, drop}
use Rattle.awk_ere.specs.Interval.{digits_len}
use Rattle.awk_ere.proofs.interval.digits_len.Given as goal

abbrev pub invariant-loop-byte : goal.invariant-loop-byte
invariant-loop-byte l = (l.len ≡ l.byte-index) × (l.len + digits_len (drop l.byte-index l.text) ≡ digits_len l.text)
