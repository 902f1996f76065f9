-- A text that is made piece by piece, while it is within the limit on texts.
use Rattle.std.specs.Prelude.{ℕ, ◌+◌, nat_le, List, ◌++◌, length, Option, Some, None, if◌then◌else◌}
use Rattle.awk_text.specs.Limits.{most_bytes}

-- the text so far and one more piece, where both are within the limit
abbrev pub written : Option (List ℕ) → List ℕ → Option (List ℕ)
written None piece = None
written (Some text) piece = if nat_le (length text + length piece) most_bytes then Some (text ++ piece) else None
