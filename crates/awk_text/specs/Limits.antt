-- The limit on texts.
use Rattle.std.specs.Prelude.{ℕ}

-- the most bytes that a text that a script makes may have
abbrev pub most_bytes : ℕ
most_bytes = 16777216
