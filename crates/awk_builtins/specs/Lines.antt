-- A text that is made piece by piece, as far as it is kept.
use Rattle.std.specs.Prelude.{nat_le, length, Option, Some, None, if◌then◌else◌}
use Rattle.awk_text.specs.Limits.{most_bytes}
use Rattle.awk_program.specs.Slots.{Text}

-- the text, where it is within the limit on texts
abbrev pub held : Text → Option Text
held text = if nat_le (length text) most_bytes then Some text else None
