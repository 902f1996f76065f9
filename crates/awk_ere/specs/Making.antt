-- How the rows of a table are made.
use Rattle.std.specs.Prelude.{◌≡◌, ◌↔◌, ℕ, ◌+◌, ◌<◌, ◌≤◌, Bool, true, false, List, length, slice_index}
use Rattle.std.specs.Prelude.{slice_index_or, Contains}
use Rattle.awk_ere.specs.Closure.{IsClosedList, IsRoom}
use Rattle.awk_ere.specs.Program.{IsSound}
use Rattle.awk_ere.specs.Search.{Takes}
use Rattle.awk_ere.specs.Table.{steps_of, AreEdges, IsLed}
use Rattle.awk_ere.specs.declared.program.Instruction.{Instruction}
use Rattle.awk_ere.specs.declared.states.TheConstants.{SLOTS, UNKNOWN}
use Rattle.awk_ere.specs.declared.states.Maker.{Maker}
use Rattle.awk_ere.specs.declared.states.States.{States}

-- where the number is that of a state, it has the steps that those of the kernel lead to without reading
abbrev pub IsMadeBy : List Instruction → List (List ℕ) → List ℕ → ℕ → Type 0
IsMadeBy program lists kernel n =
    n < UNKNOWN → (n < length lists) × IsLed program false false kernel (steps_of lists n)

-- each kernel makes the state with the number that stands at its place
pub record AreMadeBy (program : List Instruction) (lists kernels : List (List ℕ)) (numbers : List ℕ) : Type 0 where
  pub len : length numbers ≡ length kernels
  pub each : (i : ℕ) → i < length kernels → IsMadeBy program lists (steps_of kernels i) (slice_index numbers i)

-- each list has what its steps lead to without reading, with bytes on both sides
abbrev pub AreClosed : List Instruction → List (List ℕ) → Type 0
AreClosed program lists = (q : ℕ) → q < length lists → IsClosedList program (steps_of lists q)

-- the states know by which kernels they were made, and have room for more; each hash has a slot
pub record AreMade (program : List Instruction) (s : States) : Type 0 where
  pub room : IsRoom program s.room
  pub by : AreMadeBy program s.lists s.kernels s.numbers.items
  pub slots : length s.slots.items ≡ SLOTS
  pub closed : AreClosed program s.lists

-- where the byte b is no edge, each step of the list takes it where it takes the byte before
abbrev pub AreListEdges : List (List Bool) → List Instruction → List ℕ → List Bool → Type 0
AreListEdges sets program list edges =
    (slice_index_or edges 0 false ≡ true)
    × ((b q r : ℕ) → b + 1 < 256 → slice_index_or edges (b + 1) false ≡ false → Contains list q →
    Takes sets program (b + 1) q r ↔ Takes sets program b q r)

-- behind each byte, up to the last that is like it, no byte is an edge
pub record AreRuns (edges : List Bool) (last : List ℕ) : Type 0 where
  pub inside : (b : ℕ) → b < 256 → (b ≤ slice_index last b) × (slice_index last b < 256)
  pub none : (b c : ℕ) → b < 256 → b ≤ c → c < slice_index last b → slice_index_or edges (c + 1) false ≡ false

-- the maker's runs are those of its program
pub record IsMaker (m : Maker) : Type 0 where
  pub sound : IsSound m.program.now
  pub edges : List Bool
  pub are : AreEdges m.sets.now m.program.now edges
  pub runs : AreRuns edges m.alike.now
