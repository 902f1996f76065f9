use Rattle.std.proofs.Common.{◌≡◌, ◌+◌, ◌≤◌, length, drop}
use Rattle.awk_tokens.specs.Scan.{name_len}
use Rattle.awk_tokens.proofs.scan.name_len.Given as goal

abbrev pub invariant-loop-b : goal.invariant-loop-b
invariant-loop-b l = (l.n ≡ l.b-index) × (l.n + name_len (drop l.b-index l.z) ≡ name_len l.z)
