-- Places in a script: lines and columns count from 1, columns in bytes, and both stay at
-- 4,294,967,295 from there on.
use Rattle.std.specs.Prelude.{ℕ, ◌+◌, min, not, if◌then◌else◌, ◌==◌, count_by}
use Rattle.std.specs.List.{suffix_len}
use Rattle.awk_text.specs.declared.place.Place.{Place}
use Rattle.awk_tokens.specs.Bytes.{Text}

abbrev pub capped : ℕ → ℕ
capped n = min n 4294967295

-- the place directly after this front of a script: its line is one more than the newlines of the
-- front, its column one more than the bytes behind the last newline
abbrev pub place_after : Text → Place
place_after front = record
    { line = capped (count_by (λ b. b == 10) front + 1); column = capped (suffix_len (λ b. not (b == 10)) front + 1) }

-- the place one byte further on
abbrev pub next_place : Place → ℕ → Place
next_place place b =
    if b == 10 then record { line = capped (place.line + 1); column = 1 }
    else record { line = place.line; column = capped (place.column + 1) }
