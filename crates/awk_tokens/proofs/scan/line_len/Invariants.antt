use Rattle.std.proofs.Common.{◌≡◌, ◌+◌, ◌≤◌, length, drop}
use Rattle.awk_tokens.specs.Scan.{line_len}
use Rattle.awk_tokens.proofs.scan.line_len.Given as goal

abbrev pub invariant-loop-b : goal.invariant-loop-b
invariant-loop-b l = (l.n ≡ l.b-index) × (l.n + line_len (drop l.b-index l.z) ≡ line_len l.z)
