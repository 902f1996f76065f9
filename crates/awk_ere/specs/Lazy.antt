-- States that are made as a search meets them.
use Rattle.std.specs.Prelude.{◌≡◌, ◌↔◌, ℕ, ◌<◌, ◌≤◌, Bool, true, false, IsTrue, IfSome, List, []}
use Rattle.std.specs.Prelude.{◌∷◌, length, Option, Some, None, Contains}
use Rattle.awk_ere.specs.Pattern.{Pattern, Matches}
use Rattle.awk_ere.specs.Program.{IsSound}
use Rattle.awk_ere.specs.Spelled.{IsPattern, Finds}
use Rattle.awk_ere.specs.Table.{steps_of, cell, IsCell, IsLed, AreFlags, EndsAtLast, EndsSomewhere}
use Rattle.awk_ere.specs.declared.program.Instruction.{Instruction}
use Rattle.awk_ere.specs.declared.lazy.Met.{Met}
use Rattle.awk_ere.specs.declared.table.Sought.{Sought}
use Rattle.awk_ere.specs.declared.table.Sought.TheVariants.{Match, NoMatch, Left}
use Rattle.awk_ere.specs.declared.lazy.TheConstants.{UNKNOWN}

-- where the number is that of a state, it is the one after the byte b in S
abbrev pub IsNext : List (List Bool) → List Instruction → ℕ → List ℕ → List (List ℕ) → ℕ → Type 0
IsNext sets program b S lists n = n < UNKNOWN → (n < length lists) × IsCell sets program b S (steps_of lists n)

-- where a state is known, a search begins in it at the step, at the text's start or later
abbrev pub IsBegun : List Instruction → ℕ → Bool → List (List ℕ) → Option ℕ → Type 0
IsBegun program step first lists known =
    IfSome known (λ n. (n < length lists) × IsLed program first false (step ∷ []) (steps_of lists n))

-- the rows of the states with these steps: each cell is right where it is known, and the flags say where a match ends
pub record AreRows (sets : List (List Bool)) (program : List Instruction) (lists cells : List (List ℕ))
    (accepts ends : List Bool) : Type 0 where
  pub each : length cells ≡ length lists
  pub next : (q b : ℕ) → q < length lists → b < 256 →
      IsNext sets program b (steps_of lists q) lists (cell cells q b)
  pub accept : AreFlags (λ q. Contains (steps_of lists q) 0) (length lists) accepts
  pub end : AreFlags (λ q. EndsAtLast program (steps_of lists q)) (length lists) ends

-- the states of a program that were met, and those in which a search from the step begins
pub record AreMet (sets : List (List Bool)) (program : List Instruction) (step : ℕ) (m : Met) : Type 0 where
  pub rows : AreRows sets program m.lists m.rows.cells.items m.rows.accepts.items m.rows.ends.items
  pub first : IsBegun program step true m.lists m.first
  pub later : IsBegun program step false m.lists m.later

-- a match of the pattern starts at the place or later
abbrev pub MatchesFrom : List ℕ → Pattern → ℕ → Type 0
MatchesFrom s p from = (i : ℕ) × (j : ℕ) × (from ≤ i) × (j ≤ length s) × Matches s p i j

-- whether the source's pattern matches from the place on
abbrev pub HasMatchFrom : List ℕ → List ℕ → ℕ → Bool → Type 0
HasMatchFrom source s from b = (p : Pattern) × IsPattern source p × (IsTrue b ↔ MatchesFrom s p from)

-- what begins at the step ends where a match of the pattern starts there or later
pub record IsAhead (sets : List (List Bool)) (program : List Instruction) (step : ℕ) (p : Pattern) : Type 0 where
  pub sound : IsSound program
  pub inside : step < length program
  pub ahead : (s : List ℕ) (from : ℕ) → EndsSomewhere sets program s step from ↔ MatchesFrom s p from

-- the end of the longest match of the pattern from the place, or that none starts there
abbrev pub Longest : List ℕ → Pattern → ℕ → Option ℕ → Type 0
Longest s p from None = (j : ℕ) → j ≤ length s → Matches s p from j → ⊥
Longest s p from (Some j) =
    (j ≤ length s) × Matches s p from j × ((l : ℕ) → l ≤ length s → Matches s p from l → l ≤ j)

-- the same of the source's pattern
abbrev pub LongestFrom : List ℕ → List ℕ → ℕ → Option ℕ → Type 0
LongestFrom source s from found = (p : Pattern) × IsPattern source p × Longest s p from found

-- k is a place from `from` on, and no match of the source's pattern starts between
pub record NoneBefore (source s : List ℕ) (from k : ℕ) : Type 0 where
  pub pattern : Pattern
  pub is : IsPattern source pattern
  pub after : from ≤ k
  pub within : k ≤ length s
  pub none : (i j : ℕ) → from ≤ i → i < k → j ≤ length s → Matches s pattern i j → ⊥

-- what is found is the best match of the source's pattern, and before the start that is left none starts
abbrev pub IsSoughtFor : List ℕ → List ℕ → ℕ → Sought → Type 0
IsSoughtFor source s from (Match i j) = Finds source s from (Some (i, j))
IsSoughtFor source s from NoMatch = Finds source s from None
IsSoughtFor source s from (Left k) = NoneBefore source s from k
