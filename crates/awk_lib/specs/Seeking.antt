-- The search for the match that is replaced next.
use Rattle.std.specs.Prelude.{ℕ, ◌≤◌, List, [], ◌∷◌, length, Option, Some, None}
use Rattle.awk_lib.specs.Replacing.{next_from, AllFrom}

-- this match is replaced next, and then whatever is replaced behind it; or none is
pub record IsNext (source text : List ℕ) (from : ℕ) (last : Option ℕ) (m : ℕ × ℕ) : Type 0 where
  pub after : from ≤ m.0
  pub ordered : m.0 ≤ m.1
  pub inside : m.1 ≤ length text
  pub leads : (rest : List (ℕ × ℕ)) → AllFrom source text (next_from m) (Some m.1) rest →
      AllFrom source text from last (m ∷ rest)

abbrev pub IsNextMatch : List ℕ → List ℕ → ℕ → Option ℕ → Option (ℕ × ℕ) → Type 0
IsNextMatch source text from last None = AllFrom source text from last []
IsNextMatch source text from last (Some m) = IsNext source text from last m
