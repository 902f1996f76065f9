use Rattle.std.proofs.Common.{◌≡◌, ◌+◌, ◌≤◌, length, drop}
use Rattle.awk_tokens.specs.Scan.{digits_len}
use Rattle.awk_tokens.proofs.scan.digits_len.Given as goal

abbrev pub invariant-loop-b : goal.invariant-loop-b
invariant-loop-b l = (l.n ≡ l.b-index) × (l.n + digits_len (drop l.b-index l.z) ≡ digits_len l.z)
