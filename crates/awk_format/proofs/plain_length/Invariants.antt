use Rattle.std.proofs.Common.{◌≡◌, ◌+◌, ◌==◌, drop}
use Rattle.std.specs.List.{position_or_len}
use Rattle.awk_format.proofs.plain_length.Given as goal

-- no byte so far is a `%`
abbrev pub invariant-loop-i : goal.invariant-loop-i
invariant-loop-i l = position_or_len (λ b. b == 0x25) l.text ≡ l.i + position_or_len (λ b. b == 0x25) (drop l.i l.text)
