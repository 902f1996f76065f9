-- Patterns in which each byte stands for itself.
use Rattle.std.specs.Prelude.{◌≡◌, ℕ, ◌+◌, ◌<◌, ◌≤◌, Bool, false, ◌||◌, ◌==◌, List, length, Option, Some, None}
use Rattle.std.specs.Prelude.{slice_index}
use Rattle.memchr.specs.Find.{OccursAt}

-- `.`, `(`, `)`, `|`, `^`, `$`, `*`, `+`, `?`, `[`, `\` and `{`, which may stand for something else
abbrev pub is_special : ℕ → Bool
is_special c =
    c == 46 || c == 40 || c == 41 || c == 124 || c == 94 || c == 36 || c == 42 || c == 43 || c == 63 || c == 91
    || c == 92 || c == 123

abbrev pub IsLiteral : List ℕ → Type 0
IsLiteral s = (i : ℕ) → i < length s → is_special (slice_index s i) ≡ false

-- the first place from `from` on where the needle occurs, as its start and its end
abbrev pub FindsText : List ℕ → List ℕ → ℕ → Option (ℕ × ℕ) → Type 0
FindsText needle s from None = (k : ℕ) → from ≤ k → OccursAt s needle k → ⊥
FindsText needle s from (Some m) = (from ≤ m.0) × OccursAt s needle m.0 × (m.1 ≡ m.0 + length needle)
    × ((k : ℕ) → from ≤ k → OccursAt s needle k → m.0 ≤ k)
