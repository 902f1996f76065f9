-- The best match: the leftmost one, and of those the longest (POSIX.1-2017 XBD 9.1, "matched").
use Rattle.std.specs.Prelude.{ℕ, ◌≤◌, List, length, Option, Some, None}
use Rattle.awk_ere.specs.Pattern.{Pattern, Matches}

-- from i to j is a match, none from `from` on starts before it, and none from i is longer
pub record IsBest (s : List ℕ) (p : Pattern) (from i j : ℕ) : Type 0 where
  pub after : from ≤ i
  pub within : j ≤ length s
  pub matches : Matches s p i j
  pub leftmost : (k l : ℕ) → from ≤ k → l ≤ length s → Matches s p k l → i ≤ k
  pub longest : (l : ℕ) → l ≤ length s → Matches s p i l → l ≤ j

-- the best match from `from` on, or that there is none
abbrev pub Best : List ℕ → Pattern → ℕ → Option (ℕ × ℕ) → Type 0
Best s p from None = (i j : ℕ) → from ≤ i → j ≤ length s → Matches s p i j → ⊥
Best s p from (Some m) = IsBest s p from m.0 m.1
