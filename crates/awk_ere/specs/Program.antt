-- A pattern's program: what its steps do, and what it means for a part of it to stand for a pattern.
use Rattle.std.specs.Prelude.{◌≡◌, ◌==◌, ℕ, zero, suc, ◌+◌, ◌<◌, ◌≤◌, ◌⊎◌, Bool, true, false, List, [], length, Some}
use Rattle.std.specs.Prelude.{slice_get, slice_index, slice_index_or}
use Rattle.awk_ere.specs.Pattern.{Pattern, cat, alt, Matches}
use Rattle.awk_ere.specs.declared.token.Class.{Class}
use Rattle.awk_ere.specs.declared.token.Class.TheVariants.{One, Any, In}
use Rattle.awk_ere.specs.declared.program.Instruction.{Instruction}
use Rattle.awk_ere.specs.declared.program.Instruction.TheVariants.{Eat, Fork, AtStart, AtEnd, Done, Hole}

-- whether the byte is in the class; sets are named by number
abbrev pub holds : List (List Bool) → Class → ℕ → Bool
holds sets (One c) b = b == c
holds sets Any b = true
holds sets (In k) b = slice_index_or (slice_index_or sets k []) b false

-- p so many times, and then q
abbrev pub times : ℕ → Pattern → Pattern → Pattern
times zero p q = q
times (suc n) p q = cat p (times n p q)

-- from q to r without reading, where `first` and `last` say whether the place is the text's start or end
pub data Skips (program : List Instruction) (first last : Bool) (q r : ℕ) : Type 0 where
  left : (other : ℕ) → slice_get program q ≡ Some (Fork r other) → Skips program first last q r
  right : (other : ℕ) → slice_get program q ≡ Some (Fork other r) → Skips program first last q r
  at_start : slice_get program q ≡ Some (AtStart r) → first ≡ true → Skips program first last q r
  at_end : slice_get program q ≡ Some (AtEnd r) → last ≡ true → Skips program first last q r

-- n steps lead from q to r without reading
abbrev pub SkipPath : List Instruction → Bool → Bool → ℕ → ℕ → ℕ → Type 0
SkipPath program first last zero q r = q ≡ r
SkipPath program first last (suc n) q r = (p : ℕ) × Skips program first last q p × SkipPath program first last n p r

module _ (sets : List (List Bool)) (program : List Instruction) (s : List ℕ) where
  -- from q to r, reading the byte at i
  pub record Eats (q i r : ℕ) : Type 0 where
    pub class : Class
    pub step : slice_get program q ≡ Some (Eat class r)
    pub inside : i < length s
    pub taken : holds sets class (slice_index s i) ≡ true

  abbrev pub Moves : ℕ → ℕ → ℕ → ℕ → Type 0
  Moves q i r j = (Skips program (i == 0) (i == length s) q r × (j ≡ i)) ⊎ (Eats q i r × (j ≡ i + 1))

  -- n steps lead from q at the place i to r at the place j
  abbrev pub Path : ℕ → ℕ → ℕ → ℕ → ℕ → Type 0
  Path zero q i r j = (q ≡ r) × (i ≡ j)
  Path (suc n) q i r j = (p : ℕ) × (k : ℕ) × Moves q i p k × Path n p k r j

-- a step that is no hole
abbrev pub IsReal : Instruction → Type 0
IsReal Hole = ⊥
IsReal _ = Unit {0}

-- the same steps where the program has no hole
abbrev pub Extends : List Instruction → List Instruction → Type 0
Extends program full = (q : ℕ) (x : Instruction) → IsReal x → slice_get program q ≡ Some x → slice_get full q ≡ Some x

-- however the program goes on: a path from e to the end is a match of p and a path from `next` that is no longer
pub record Means (sets : List (List Bool)) (program : List Instruction) (e : ℕ) (p : Pattern) (next : ℕ) : Type 0 where
  pub into : (full : List Instruction) (s : List ℕ) (n i j : ℕ) → Extends program full → slice_get full 0 ≡ Some Done →
      Path sets full s n e i 0 j → (k : ℕ) × (m : ℕ) × (m ≤ n) × Matches s p i k × Path sets full s m next k 0 j
  pub back : (full : List Instruction) (s : List ℕ) (k n i j : ℕ) → Extends program full → Matches s p i k →
      Path sets full s n next k 0 j → (m : ℕ) × Path sets full s m e i 0 j

-- each step that this one names is below n
abbrev pub NamesBelow : ℕ → Instruction → Type 0
NamesBelow n (Eat k r) = r < n
NamesBelow n (Fork a b) = (a < n) × (b < n)
NamesBelow n (AtStart r) = r < n
NamesBelow n (AtEnd r) = r < n
NamesBelow n Done = Unit {0}
NamesBelow n Hole = Unit {0}

pub record IsSound (program : List Instruction) : Type 0 where
  pub names : (q : ℕ) (x : Instruction) → slice_get program q ≡ Some x → NamesBelow (length program) x

-- new has the steps of old at its front
pub record Grows (old new : List Instruction) : Type 0 where
  pub longer : length old ≤ length new
  pub kept : (q : ℕ) → q < length old → slice_get new q ≡ slice_get old q

-- new is old with a part, entered at e, that stands for p and goes on at `next`
pub record Compiles (old new : List Instruction) (e : ℕ) (p : List (List Bool) → Pattern) (next : ℕ) : Type 0 where
  pub sound : IsSound new
  pub grows : Grows old new
  pub below : e < length new
  pub means : (sets : List (List Bool)) → Means sets new e (p sets) next

-- the same for p so many times, before what stands at `next`
pub record Copies (old new : List Instruction) (e : ℕ) (p : List (List Bool) → Pattern) (count next : ℕ) : Type 0 where
  pub sound : IsSound new
  pub grows : Grows old new
  pub below : e < length new
  pub means : (sets : List (List Bool)) (q : Pattern) (last : ℕ) → Means sets old next q last →
      Means sets new e (times count (p sets) q) last

-- the same for p or what stands at `others`, which goes on at `next` too
pub record Joins (old new : List Instruction) (e : ℕ) (p : List (List Bool) → Pattern) (others next : ℕ) : Type 0 where
  pub sound : IsSound new
  pub grows : Grows old new
  pub below : e < length new
  pub means : (sets : List (List Bool)) (q : Pattern) → Means sets old others q next →
      Means sets new e (alt (p sets) q) next

-- a part may be added before `next`
pub record IsReady (program : List Instruction) (next : ℕ) : Type 0 where
  pub sound : IsSound program
  pub below : next < length program
