-- A text that is made piece by piece, while it is within the limit on texts.
use Rattle.std.specs.Prelude.{◌≡◌, ℕ, ◌+◌, nat_le, List, ◌++◌, length, Option, Some, None, Result, Ok, Err}
use Rattle.std.specs.Prelude.{if◌then◌else◌}
use Rattle.awk_text.specs.declared.fault.Fault.{Fault}
use Rattle.awk_text.specs.Limits.{most_bytes}

-- the text so far and one more piece, where both are within the limit
abbrev pub written : Option (List ℕ) → List ℕ → Option (List ℕ)
written None piece = None
written (Some text) piece = if nat_le (length text + length piece) most_bytes then Some (text ++ piece) else None

-- the same of a piece that may be a fault, and then nothing is said
abbrev pub Writes : Option (List ℕ) → Result (List ℕ) Fault → Option (List ℕ) → Type 0
Writes old (Ok piece) new = new ≡ written old piece
Writes old (Err e) new = ⊥
