-- What is reached along links.
use Rattle.std.specs.Prelude.{◌≡◌, ◌<◌, ℕ, List, length, slice_get, Some, Contains}

-- The least set of numbers, of as many as there are lists of links, that has the seeds and, with a
-- number, those that it is linked to.
pub data Reached (seeds : List ℕ) (links : List (List ℕ)) : ℕ → Type 0 where
  seed : (n : ℕ) → n < length links → Contains seeds n → Reached seeds links n
  link : (m n : ℕ) (ns : List ℕ) → Reached seeds links m → slice_get links m ≡ Some ns → Contains ns n →
      n < length links → Reached seeds links n
