-- Lists of steps: what is said of those that take bytes, and of what they lead to without reading.
use Rattle.std.specs.Prelude.{◌≡◌, ◌↔◌, ℕ, Bool, true, false, List, Some, length, slice_get, Contains}
use Rattle.awk_ere.specs.Program.{Skips}
use Rattle.awk_ere.specs.Search.{IsBlank}
use Rattle.awk_ere.specs.declared.program.Instruction.{Instruction}
use Rattle.awk_ere.specs.declared.program.Instruction.TheVariants.{Eat, Fork, AtStart, AtEnd, Done, Hole}
use Rattle.awk_ere.specs.declared.closure.Room.{Room}

-- room for the marks of the program's steps, none of which is marked
abbrev pub IsRoom : List Instruction → Room → Type 0
IsRoom program r = (length r.starts ≡ length program) × IsBlank r.starts

-- what a step of the list leads to without reading, with bytes on both sides, is in the list
abbrev pub IsClosedList : List Instruction → List ℕ → Type 0
IsClosedList program list = (q r : ℕ) → Contains list q → Skips program false false q r → Contains list r

-- whether the step waits for the text's end
abbrev pub is_at_end : Instruction → Bool
is_at_end (Eat k r) = false
is_at_end (Fork x y) = false
is_at_end (AtStart r) = false
is_at_end (AtEnd r) = true
is_at_end Done = false
is_at_end Hole = false

abbrev pub NoneWait : List Instruction → List ℕ → Type 0
NoneWait program list = (q : ℕ) (x : Instruction) → Contains list q → slice_get program q ≡ Some x → is_at_end x ≡ false

-- whether the step takes a byte
abbrev pub is_eat : Instruction → Bool
is_eat (Eat k r) = true
is_eat (Fork x y) = false
is_eat (AtStart r) = false
is_eat (AtEnd r) = false
is_eat Done = false
is_eat Hole = false

abbrev pub IsEat : List Instruction → ℕ → Type 0
IsEat program q = (x : Instruction) × (slice_get program q ≡ Some x) × (is_eat x ≡ true)

-- these are the steps of the list that take a byte
abbrev pub AreEating : List Instruction → List ℕ → List ℕ → Type 0
AreEating program list eating = (q : ℕ) → Contains eating q ↔ (Contains list q × IsEat program q)
