use Rattle.std.proofs.Common.{◌≡◌, ◌+◌, ◌≤◌, length, drop}
use Rattle.awk_tokens.specs.Scan.{letters_len}
use Rattle.awk_tokens.proofs.scan.letters_len.Given as goal

abbrev pub invariant-loop-b : goal.invariant-loop-b
invariant-loop-b l = (l.n ≡ l.b-index) × (l.n + letters_len (drop l.b-index l.z) ≡ letters_len l.z)
