-- What is one alone: the pattern that a text spells, and what a search answers.
use Rattle.std.specs.Prelude.{◌≡◌, ℕ, Bool, List, Option}
use Rattle.awk_ere.specs.Pattern.{Pattern}
use Rattle.awk_ere.specs.Best.{Best}
use Rattle.awk_ere.specs.Spelled.{Spelled, IsPattern, Finds, HasMatch}

-- a text is read as one pattern at most, which has one size
abbrev pub OneReading : Type 0
OneReading = (s : List ℕ) (p q : Pattern) (n m : ℕ) → Spelled s p n → Spelled s q m → (p ≡ q) × (n ≡ m)

-- the same within the limits
abbrev pub OnePattern : Type 0
OnePattern = (s : List ℕ) (p q : Pattern) → IsPattern s p → IsPattern s q → p ≡ q

-- from one place on, a text has one best match of a pattern, or none
abbrev pub OneMatch : Type 0
OneMatch = (s : List ℕ) (p : Pattern) (from : ℕ) (a b : Option (ℕ × ℕ)) → Best s p from a → Best s p from b → a ≡ b

-- so a search for what a text spells answers one thing alone
abbrev pub OneFinding : Type 0
OneFinding =
    (source s : List ℕ) (from : ℕ) (a b : Option (ℕ × ℕ)) → Finds source s from a → Finds source s from b → a ≡ b

-- and so does a test
abbrev pub OneTest : Type 0
OneTest = (source s : List ℕ) (b c : Bool) → HasMatch source s b → HasMatch source s c → b ≡ c
