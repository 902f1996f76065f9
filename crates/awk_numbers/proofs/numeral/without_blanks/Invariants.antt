use Rattle.std.proofs.Common.{◌≡◌, ◌+◌, drop}
use Rattle.std.specs.List.{prefix_len}
use Rattle.awk_numbers.specs.Numerals.{is_blank}
use Rattle.awk_numbers.proofs.numeral.without_blanks.Given as goal

-- all bytes so far are blanks
abbrev pub invariant-loop-i : goal.invariant-loop-i
invariant-loop-i l = prefix_len is_blank l.text ≡ l.i + prefix_len is_blank (drop l.i l.text)
