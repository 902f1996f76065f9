-- Patterns that match the same.
use Rattle.std.specs.Prelude.{ℕ, List}
use Rattle.awk_ere.specs.Pattern.{Pattern, Matches}

-- p and q match the same places of every text
pub record IsSame (p q : Pattern) : Type 0 where
  pub to : (s : List ℕ) (i j : ℕ) → Matches s p i j → Matches s q i j
  pub from : (s : List ℕ) (i j : ℕ) → Matches s q i j → Matches s p i j
