use Rattle.std.proofs.Common.{◌≡◌, ◌+◌, ◌^◌, ◌<◌, take, drop}
use Rattle.std.specs.Char.{is_ascii_digit}
use Rattle.std.specs.List.{prefix_len}
use Rattle.std.specs.Str.Parse.{digits_value}
use Rattle.awk_text.proofs.lent.few_digits.Given as goal

-- all bytes so far are digits, and this is what they are worth
abbrev pub invariant-loop-b : goal.invariant-loop-b
invariant-loop-b l =
    (prefix_len is_ascii_digit l.text ≡ l.b-index + prefix_len is_ascii_digit (drop l.b-index l.text))
    × (l.value ≡ digits_value 10 (take l.b-index l.text))
    × (digits_value 10 (take l.b-index l.text) < 10 ^ l.b-index)
