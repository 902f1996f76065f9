-- The end of the longest match from each place, by reading the text backwards: one more than it, or 0 where there is
-- none.
use Rattle.std.specs.Prelude.{◌≡◌, ℕ, ◌+◌, ◌-◌, ◌<◌, ◌≤◌, Bool, List, length, slice_get, slice_index}
use Rattle.std.specs.Prelude.{Option, Some, None}
use Rattle.awk_ere.specs.Program.{Skips}
use Rattle.awk_ere.specs.Search.{target_of, Goes}
use Rattle.awk_ere.specs.declared.program.Instruction.{Instruction}

-- what the row tells of a step, or nothing where there is none
abbrev pub told : List ℕ → Option ℕ → ℕ
told row (Some r) = slice_index row r
told row None = 0

-- what a step leads to over the byte b, where `behind` tells of the place behind it
abbrev pub over : List (List Bool) → ℕ → List ℕ → Instruction → ℕ
over sets b behind x = told behind (target_of sets b x)

-- the first so many steps of the row have what they lead to over the byte
abbrev pub AreOver : List (List Bool) → List Instruction → ℕ → List ℕ → ℕ → List ℕ → Type 0
AreOver sets program b behind count row =
    (q : ℕ) (x : Instruction) → q < count → slice_get program q ≡ Some x → slice_index row q ≡ over sets b behind x

-- all but the first step do, which is the end of a match, and that is `here`
pub record IsBegun (sets : List (List Bool)) (program : List Instruction) (b here : ℕ) (behind row : List ℕ)
    : Type 0 where
  pub first : slice_index row 0 ≡ here
  pub others : (q : ℕ) (x : Instruction) → 0 < q → slice_get program q ≡ Some x →
      slice_index row q ≡ over sets b behind x

-- no row value is less
abbrev pub IsAbove : List ℕ → List ℕ → Type 0
IsAbove old new = (q : ℕ) → slice_index old q ≤ slice_index new q

-- the step q leads as far as the steps that it goes on to without reading
abbrev pub IsSettledAt : List Instruction → Bool → Bool → List ℕ → ℕ → Type 0
IsSettledAt program first last row q = (r : ℕ) → Skips program first last q r → slice_index row r ≤ slice_index row q

-- so do all steps
abbrev pub IsSettled : List Instruction → Bool → Bool → List ℕ → Type 0
IsSettled program first last row = (q : ℕ) → IsSettledAt program first last row q

module _ (sets : List (List Bool)) (program : List Instruction) (s : List ℕ) where
  -- v is one more than the greatest end that the step q leads to from the place i, or 0 where it leads to none
  pub record IsFarthest (q i v : ℕ) : Type 0 where
    pub sound : (j : ℕ) → v ≡ j + 1 → Goes sets program s q i 0 j
    pub complete : (j : ℕ) → Goes sets program s q i 0 j → j < v

  -- the row tells so of each step
  abbrev pub IsRow : ℕ → List ℕ → Type 0
  IsRow i row = (q : ℕ) → IsFarthest q i (slice_index row q)

  -- what the row tells is an end, though maybe not the greatest
  abbrev pub AreEnds : ℕ → List ℕ → Type 0
  AreEnds i row = (q j : ℕ) → slice_index row q ≡ j + 1 → Goes sets program s q i 0 j

  -- the row of the place behind i, or an empty one behind the text's end
  pub record IsBehind (i : ℕ) (row : List ℕ) : Type 0 where
    pub inside : (q j : ℕ) → slice_index row q ≡ j + 1 → i < length s
    pub next : i < length s → IsRow (i + 1) row

  -- for the first so many places from the text's end back the ends of the longest matches from there
  abbrev pub AreFarthestTo : ℕ → ℕ → List ℕ → Type 0
  AreFarthestTo e count ends = (left : ℕ) → left < count → IsFarthest e (length s - left) (slice_index ends left)

  -- for all places
  abbrev pub AreFarthest : ℕ → List ℕ → Type 0
  AreFarthest e ends = AreFarthestTo e (length s + 1) ends
