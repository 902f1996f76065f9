-- What the search keeps: for each step of the program the least start from which a place is reached there.
use Rattle.std.specs.Prelude.{◌≡◌, ◌==◌, ℕ, ◌+◌, ◌<◌, ◌≤◌, ◌⊎◌, Bool, true, List, [], ◌∷◌, length, Option, Some, None}
use Rattle.std.specs.Prelude.{slice_get, slice_index_or, Contains, if◌then◌else◌}
use Rattle.awk_ere.specs.Pattern.{Pattern}
use Rattle.awk_ere.specs.Program.{holds, Skips, SkipPath, Path, IsSound, Means}
use Rattle.awk_ere.specs.declared.program.Instruction.{Instruction}
use Rattle.awk_ere.specs.declared.token.Class.{Class}
use Rattle.awk_ere.specs.declared.program.Instruction.TheVariants.{Eat, Fork, AtStart, AtEnd, Done, Hole}
use Rattle.awk_ere.specs.declared.search.TheConstants.{NONE}

-- the start that a step is marked with, or NONE
abbrev pub mark : List ℕ → ℕ → ℕ
mark starts q = slice_index_or starts q NONE

-- the steps that follow without reading, the preferred one last
abbrev pub targets : Bool → Bool → Instruction → List ℕ
targets first last (Fork a b) = b ∷ a ∷ []
targets first last (AtStart r) = if first then r ∷ [] else []
targets first last (AtEnd r) = if last then r ∷ [] else []
targets first last (Eat k r) = []
targets first last Done = []
targets first last Hole = []

-- each marked step is in the list, which names steps alone, and no mark is more than NONE
pub record IsListed (starts active : List ℕ) : Type 0 where
  pub each : (q : ℕ) → q < length starts → mark starts q < NONE → Contains active q
  pub below : (q : ℕ) → Contains active q → q < length starts
  pub small : (q : ℕ) → mark starts q ≤ NONE

abbrev pub IsBlank : List ℕ → Type 0
IsBlank starts = (q : ℕ) → mark starts q ≡ NONE

-- no step is marked later than one that leads to it without reading
abbrev pub IsClosed : List Instruction → Bool → Bool → List ℕ → Type 0
IsClosed program first last starts = (q r : ℕ) → Skips program first last q r → mark starts r ≤ mark starts q

abbrev pub LeadsTo : List Instruction → Bool → Bool → ℕ → ℕ → Type 0
LeadsTo program first last q r = (n : ℕ) × SkipPath program first last n q r

-- new is old with this start at all that `from` leads to, where it is less
pub record Reaches (program : List Instruction) (first last : Bool) (from start : ℕ) (old new : List ℕ) : Type 0 where
  pub lower : (q : ℕ) → mark new q ≤ mark old q
  pub there : mark new from ≤ start
  pub origin : (q : ℕ) → (mark new q ≡ mark old q) ⊎ ((mark new q ≡ start) × LeadsTo program first last from q)
  pub closed : IsClosed program first last new

-- the step q reads the byte b and goes to r
pub record Takes (sets : List (List Bool)) (program : List Instruction) (b q r : ℕ) : Type 0 where
  pub class : Class
  pub step : slice_get program q ≡ Some (Eat class r)
  pub taken : holds sets class b ≡ true

-- new marks what starts of at most cap reach over the byte b
pub record Advances (sets : List (List Bool)) (program : List Instruction) (b : ℕ) (first last : Bool) (cap : ℕ)
    (starts new : List ℕ) : Type 0 where
  pub closed : IsClosed program first last new
  pub sound : (q : ℕ) → mark new q < NONE → (p : ℕ) × (r : ℕ) × Takes sets program b p r
      × LeadsTo program first last r q × (mark starts p ≡ mark new q)
  pub complete : (p r : ℕ) → mark starts p ≤ cap → Takes sets program b p r → mark new r ≤ mark starts p

-- where a step goes over the byte
unfoldable pub target_of : List (List Bool) → ℕ → Instruction → Option ℕ
target_of sets b (Eat k r) = if holds sets k b then Some r else None
target_of sets b (Fork x y) = None
target_of sets b (AtStart r) = None
target_of sets b (AtEnd r) = None
target_of sets b Done = None
target_of sets b Hole = None

module _ (sets : List (List Bool)) (program : List Instruction) (s : List ℕ) where
  -- some steps lead from q at the place i to r at the place j
  abbrev pub Goes : ℕ → ℕ → ℕ → ℕ → Type 0
  Goes q i r j = (n : ℕ) × Path sets program s n q i r j

  -- at this place each step is marked with the least start below `limit` that reaches it from e
  pub record Marks (e from limit place : ℕ) (starts : List ℕ) : Type 0 where
    pub sound : (q : ℕ) → mark starts q < NONE → (from ≤ mark starts q) × (mark starts q ≤ place)
        × Goes e (mark starts q) q place
    pub cover : (i q : ℕ) → from ≤ i → i < limit → Goes e i q place → mark starts q ≤ i
    pub closed : IsClosed program (place == 0) (place == length s) starts

-- of the pairs that R relates, whose second is below `bound` and whose first is at least `from`, this has the least
-- first, and then the greatest second
pub record IsBestOf (R : ℕ → ℕ → Type 0) (bound from i j : ℕ) : Type 0 where
  pub after : from ≤ i
  pub within : j < bound
  pub related : R i j
  pub leftmost : (k l : ℕ) → from ≤ k → l < bound → R k l → i ≤ k
  pub longest : (l : ℕ) → l < bound → R i l → l ≤ j

abbrev pub BestOf : (ℕ → ℕ → Type 0) → ℕ → ℕ → Option (ℕ × ℕ) → Type 0
BestOf R bound from None = (i j : ℕ) → from ≤ i → j < bound → R i j → ⊥
BestOf R bound from (Some m) = IsBestOf R bound from m.0 m.1

-- the starts below this still matter, where `next` would be the next one
abbrev pub limit_of : ℕ → Option (ℕ × ℕ) → ℕ
limit_of next None = next
limit_of next (Some m) = m.0 + 1

-- the last of them
abbrev pub cap_of : ℕ → Option (ℕ × ℕ) → ℕ
cap_of place None = place
cap_of place (Some m) = m.0

-- the best run of the program on the text
abbrev pub Finds : List (List Bool) → List Instruction → List ℕ → ℕ → ℕ → Option (ℕ × ℕ) → Type 0
Finds sets program s e from result = BestOf (λ i j. Goes sets program s e i 0 j) (length s + 1) from result

-- the program stands for the pattern
pub record IsMachine (sets : List (List Bool)) (program : List Instruction) (entry : ℕ) (p : Pattern) : Type 0 where
  pub sound : IsSound program
  pub inside : entry < length program
  pub done : slice_get program 0 ≡ Some Done
  pub means : Means sets program entry p 0
