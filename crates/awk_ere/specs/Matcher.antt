-- What the searches of a matcher find.
use Rattle.std.specs.Prelude.{◌≡◌, ℕ, ◌+◌, ◌<◌, ◌≤◌, ◌⊎◌, List, length, Option, Some, None}
use Rattle.awk_ere.specs.Pattern.{Pattern}
use Rattle.awk_ere.specs.Search as runs
use Rattle.awk_ere.specs.Search.{IsMachine}
use Rattle.awk_ere.specs.Table as table
use Rattle.awk_ere.specs.Table.{Matcher}
use Rattle.awk_ere.specs.declared.table.Matcher.TheInside.{Inside}
use Rattle.awk_ere.specs.declared.table.Sought.{Sought}
use Rattle.awk_ere.specs.declared.table.Sought.TheVariants.{Match, NoMatch, Left}

abbrev pub matcher_of : Inside → Matcher
matcher_of m =
    record { sets = m.sets.items; program = m.program.items; table = m.table; entry = m.entry; scan = m.scan }

-- the matches of the program are the pattern's
abbrev pub StandsFor : Matcher → Pattern → Type 0
StandsFor m p = IsMachine m.sets m.program m.entry p

-- each match starts at the text's start
abbrev pub IsAnchored : Matcher → Type 0
IsAnchored m = (s : List ℕ) (i j : ℕ) → runs.Goes m.sets m.program s m.entry i 0 j → i ≡ 0

-- a search from this place begins as those of later places do
abbrev pub IsLater : Matcher → ℕ → Type 0
IsLater m from = 0 < from ⊎ m.table.entry.first ≡ m.table.entry.later

-- a search from the step e at the place i begins in this state, whatever the text is
abbrev pub BeginsIn : Matcher → ℕ → ℕ → ℕ → Type 0
BeginsIn m e i state = (s : List ℕ) →
    table.IsAt m.sets m.program s m.table.cells.items m.table.accepts.items m.table.ends.items e i i state

module _ (m : Matcher) (s : List ℕ) where
  -- a match that begins at the step e and the place i ends somewhere
  abbrev pub EndsFrom : ℕ → ℕ → Type 0
  EndsFrom e i = table.EndsSomewhere m.sets m.program s e i

  -- a match starts at the place
  abbrev pub StartsAt : ℕ → Type 0
  StartsAt i = EndsFrom m.entry i

  -- a match starts at the place or later
  abbrev pub StartsFrom : ℕ → Type 0
  StartsFrom from = (i : ℕ) × (from ≤ i) × StartsAt i

  -- the end of the longest match from the place, or that there is none
  abbrev pub IsLongest : ℕ → Option ℕ → Type 0
  IsLongest i found = table.IsLongest m.sets m.program s m.entry i (length s + 1) found

  -- k is a place from `from` on, and no match starts between
  pub record NoneTo (from k : ℕ) : Type 0 where
    pub after : from ≤ k
    pub within : k ≤ length s
    pub none : (i j : ℕ) → from ≤ i → i < k → j < length s + 1 → runs.Goes m.sets m.program s m.entry i 0 j → ⊥

  -- the best match from `from` on, or that there is none
  abbrev pub Finds : ℕ → Option (ℕ × ℕ) → Type 0
  Finds from found = runs.Finds m.sets m.program s m.entry from found

  -- what is found is the best match, and before the start that is left none starts
  abbrev pub IsSought : ℕ → Sought → Type 0
  IsSought from (Match i j) = Finds from (Some (i, j))
  IsSought from NoMatch = Finds from None
  IsSought from (Left k) = NoneTo from k
