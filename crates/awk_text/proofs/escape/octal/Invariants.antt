use Rattle.std.proofs.Common.{◌≡◌, ◌+◌, ◌%◌, drop, take}
use Rattle.std.specs.List.{prefix_len}
use Rattle.awk_text.specs.Escapes.{is_octal, octal_value}
use Rattle.awk_text.proofs.escape.octal.Given as goal

-- all bytes so far are octal digits, and this is what they are worth modulo 256
abbrev pub invariant-loop-i : goal.invariant-loop-i
invariant-loop-i l = (prefix_len is_octal l.most ≡ l.i + prefix_len is_octal (drop l.i l.most))
    × (l.value ≡ octal_value (take l.i l.most) % 256)
