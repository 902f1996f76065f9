-- The search for what separates next, by an ERE.
use Rattle.std.specs.Prelude.{ℕ, ◌≤◌, ◌<◌, Bool, List, [], ◌∷◌, length, Option, Some, None}
use Rattle.awk_ere.specs.Spelled.{Finds}
use Rattle.awk_fields.specs.Fields.{Separators}

-- the ERE's best match from a place that is not behind this one
abbrev pub IsAhead : List ℕ → List ℕ → ℕ → Option (ℕ × ℕ) → Type 0
IsAhead source s from found = (before : ℕ) × (before ≤ from) × Finds source s before found

-- this match separates next, with whatever separates behind it; or nothing separates
pub record IsNext (source : List ℕ) (newline : Bool) (s : List ℕ) (from start end : ℕ) : Type 0 where
  pub after : from ≤ start
  pub some : start < end
  pub within : end ≤ length s
  pub leads : (rest : List (ℕ × ℕ)) → Separators source newline s end rest →
      Separators source newline s from ((start, end) ∷ rest)

abbrev pub IsNextSeparator : List ℕ → Bool → List ℕ → ℕ → Option (ℕ × ℕ) → Type 0
IsNextSeparator source newline s from None = Separators source newline s from []
IsNextSeparator source newline s from (Some m) = IsNext source newline s from m.0 m.1
