use Rattle.std.proofs.Common.{◌≡◌, ◌+◌, ◌-◌, ◌^◌, min, drop, take}
use Rattle.std.specs.List.{prefix_len}
use Rattle.std.specs.Str.Parse.{digits_value}
use Rattle.std.specs.Char.{is_ascii_digit}
use Rattle.awk_text.proofs.numeral.leading_digits.Given as goal

-- all bytes so far are digits, and this is what they are worth
abbrev pub invariant-loop-i : goal.invariant-loop-i
invariant-loop-i l = (prefix_len is_ascii_digit l.text ≡ l.i + prefix_len is_ascii_digit (drop l.i l.text))
    × (l.value ≡ min (digits_value 10 (take l.i l.text)) (2 ^ 64 - 1))
