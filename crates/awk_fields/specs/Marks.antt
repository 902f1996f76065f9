-- Bytes that are looked for.
use Rattle.std.specs.Prelude.{◌==◌, ℕ, ◌||◌, Bool}
use Rattle.awk_fields.specs.declared.marks.Marks.{Marks}

abbrev pub is_mark : Marks → ℕ → Bool
is_mark marks b = b == marks.first || (b == marks.second || b == marks.third)
