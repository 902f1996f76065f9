-- What a pattern matches (POSIX.1-2017 XBD 9.1 and 9.4).
use Rattle.std.specs.Prelude.{◌≡◌, ℕ, zero, suc, ◌+◌, ◌<◌, ◌≤◌, ◌⊎◌, Bool, true, List, length, Option, Some, None}
use Rattle.std.specs.Prelude.{slice_index}

pub data Pattern : Type 0 where
  -- the empty text
  empty : Pattern
  -- one byte that passes the test
  bytes : (ℕ → Bool) → Pattern
  -- the start and the end of the whole text
  start : Pattern
  finish : Pattern
  -- one after the other, either
  cat : Pattern → Pattern → Pattern
  alt : Pattern → Pattern → Pattern
  -- at least so many times, and at most so many where there is a bound
  repeat : Pattern → ℕ → Option ℕ → Pattern

-- a chain of so many steps of R leads from i to j
abbrev pub Chain : (ℕ → ℕ → Type 0) → ℕ → ℕ → ℕ → Type 0
Chain R zero i j = i ≡ j
Chain R (suc n) i j = (k : ℕ) × R i k × Chain R n k j

-- a count is within an upper bound, where there is one
abbrev pub AtMost : Option ℕ → ℕ → Type 0
AtMost None n = Unit {0}
AtMost (Some m) n = n ≤ m

-- the pattern matches the text s from the place i to the place j
abbrev pub Matches : List ℕ → Pattern → ℕ → ℕ → Type 0
Matches s empty i j = i ≡ j
Matches s (bytes test) i j = (i < length s) × (test (slice_index s i) ≡ true) × (j ≡ i + 1)
Matches s start i j = (i ≡ 0) × (i ≡ j)
Matches s finish i j = (i ≡ length s) × (i ≡ j)
Matches s (cat p q) i j = (k : ℕ) × Matches s p i k × Matches s q k j
Matches s (alt p q) i j = Matches s p i j ⊎ Matches s q i j
Matches s (repeat p least most) i j =
    (n : ℕ) × (least ≤ n) × AtMost most n × Chain (Matches s p) n i j
