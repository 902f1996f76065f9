-- Which texts are patterns, which are refused, and what a search gives.
use Rattle.std.specs.Prelude.{◌≡◌, ◌↔◌, Bool, IsTrue, ℕ, ◌<◌, ◌≤◌, ◌⊎◌, List, length, Option}
use Rattle.awk_ere.specs.Pattern.{Pattern, Matches}
use Rattle.awk_ere.specs.Best.{Best}
use Rattle.awk_ere.specs.Token.{Token}
use Rattle.awk_ere.specs.Reading.{IsRead, HasFault}
use Rattle.awk_ere.specs.Grammar.{ere, Spells}
use Rattle.awk_ere.specs.declared.error.EreFault.{EreFault}
use Rattle.awk_ere.specs.declared.error.EreFault.TheVariants.{Syntax, Interval, Size, Memory}

-- the most bytes that a pattern's text may have
abbrev pub most_pattern_bytes : ℕ
most_pattern_bytes = 4096

-- the greatest size that a pattern may have
abbrev pub most_size : ℕ
most_size = 20000

-- the number of a refusal
abbrev pub code_of : EreFault → ℕ
code_of Syntax = 1
code_of Interval = 2
code_of Size = 3
code_of Memory = 4

-- the text spells the pattern, which has this size
abbrev pub Spelled : List ℕ → Pattern → ℕ → Type 0
Spelled s p size = (ts : List Token) × IsRead s ts × Spells ere ts p size

-- the text spells the pattern within the limits
pub record IsPattern (s : List ℕ) (p : Pattern) : Type 0 where
  pub size : ℕ
  pub spelled : Spelled s p size
  pub short : length s ≤ most_pattern_bytes
  pub small : size ≤ most_size

-- the text is refused with this code: E3 where it is too long, then E1 or E2 for its leftmost fault,
-- then E3 where its pattern is too large; E4, which memory alone causes, says nothing of the text
abbrev pub IsRefused : List ℕ → ℕ → Type 0
IsRefused s code =
    ((code ≡ 3) × (most_pattern_bytes < length s))
    ⊎ ((code ≡ 1) × (length s ≤ most_pattern_bytes) × HasFault s Syntax)
    ⊎ ((code ≡ 2) × (length s ≤ most_pattern_bytes) × HasFault s Interval)
    ⊎ ((code ≡ 3) × (length s ≤ most_pattern_bytes)
    × ((p : Pattern) × (size : ℕ) × Spelled s p size × (most_size < size)))
    ⊎ (code ≡ 4)

-- the best match of the pattern that the source spells
abbrev pub Finds : List ℕ → List ℕ → ℕ → Option (ℕ × ℕ) → Type 0
Finds source s from found = (p : Pattern) × IsPattern source p × Best s p from found

-- the text is accepted, and what is made of it stands for it
abbrev pub IsAccepted : List ℕ → List ℕ → Type 0
IsAccepted s e = (e ≡ s) × ((p : Pattern) × IsPattern s p)

-- whether the source's pattern matches somewhere
abbrev pub HasMatch : List ℕ → List ℕ → Bool → Type 0
HasMatch source s b =
    (p : Pattern) × IsPattern source p × (IsTrue b ↔ ((i : ℕ) × (j : ℕ) × (j ≤ length s) × Matches s p i j))
