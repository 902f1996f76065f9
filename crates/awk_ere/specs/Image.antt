-- Sets of places in a text, and where a pattern leads from them.
use Rattle.std.specs.Prelude.{◌≡◌, ◌↔◌, ℕ, ◌≤◌, ◌⊎◌, Bool, true, false, List, length, Option, Some, None}
use Rattle.std.specs.Prelude.{slice_index_or}
use Rattle.awk_ere.specs.Pattern.{Pattern, Chain, AtMost, Matches}

-- the place is in the set
abbrev pub IsIn : List Bool → ℕ → Type 0
IsIn set i = slice_index_or set i false ≡ true

-- R leads to j from a place of the set
abbrev pub IsReached : (ℕ → ℕ → Type 0) → List Bool → ℕ → Type 0
IsReached R from j = (i : ℕ) × IsIn from i × R i j

-- `to` has the places that R leads to from those of `from`, and no others
pub record IsImage (R : ℕ → ℕ → Type 0) (from to : List Bool) : Type 0 where
  pub len : length to ≡ length from
  pub each : (j : ℕ) → IsIn to j ↔ IsReached R from j

-- `all` has the places of both sets
pub record IsUnion (xs ys all : List Bool) : Type 0 where
  pub len : length all ≡ length xs
  pub each : (j : ℕ) → IsIn all j ↔ (IsIn xs j ⊎ IsIn ys j)

-- at most so many steps of R lead from i to j
abbrev pub Within : (ℕ → ℕ → Type 0) → Option ℕ → ℕ → ℕ → Type 0
Within R most i j = (n : ℕ) × AtMost most n × Chain R n i j

-- at this place alone, without a step
abbrev pub Stays : ℕ → ℕ → ℕ → Type 0
Stays place i j = (i ≡ place) × (i ≡ j)

-- no step of R, or one
abbrev pub Maybe : (ℕ → ℕ → Type 0) → ℕ → ℕ → Type 0
Maybe R i j = (i ≡ j) ⊎ R i j

-- this place alone is in the set
abbrev pub IsSingle : ℕ → List Bool → Type 0
IsSingle place set = (j : ℕ) → IsIn set j ↔ (j ≡ place)

-- the greatest place of the set
abbrev pub IsLast : List Bool → Option ℕ → Type 0
IsLast set None = (j : ℕ) → IsIn set j → ⊥
IsLast set (Some e) = IsIn set e × ((j : ℕ) → IsIn set j → j ≤ e)

-- the end of the longest match from i
abbrev pub Longest : List ℕ → Pattern → ℕ → Option ℕ → Type 0
Longest s p i None = (j : ℕ) → Matches s p i j → ⊥
Longest s p i (Some e) = Matches s p i e × (e ≤ length s) × ((j : ℕ) → Matches s p i j → j ≤ e)
