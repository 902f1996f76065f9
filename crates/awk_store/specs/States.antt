-- The machine's state that a store stands for, where variables go by their names again.
use Rattle.std.specs.Prelude.{◌≡◌, ◌<◌, ℕ, false, if◌then◌else◌, List, [], ◌∷◌, length, map, get_or, Option, Some, None}
use Rattle.std.specs.Str.{bytes_eq}
use Rattle.awk_text.specs.declared.value.Value.{Value}
use Rattle.awk_fields.specs.Rows.{Row}
use Rattle.awk_program.specs.Slots.{Text, slot_of, name_of}
use Rattle.awk_program.specs.declared.variables.Own.{Own}
use Rattle.awk_machine.specs.Begins.{nothing}
use Rattle.awk_machine.specs.State as m
use Rattle.awk_machine.specs.State.{Array, State}
use Rattle.box_world.specs.Events.{Key}
use Rattle.awk_store.specs.declared.cell.Cell.{Cell}
use Rattle.awk_store.specs.declared.frame.Bound.{Bound}
use Rattle.awk_store.specs.declared.frame.Bound.TheVariants.{Scalar, Handed}
use Rattle.awk_store.specs.declared.frame.Reference.{Reference}
use Rattle.awk_store.specs.declared.frame.Reference.TheVariants.{Shared, Made, Nothing}
use Rattle.awk_store.specs.declared.phase.Phase.{Phase}
use Rattle.awk_store.specs.declared.phase.Phase.TheVariants.{Beginning, Ruling, Ending}
use Rattle.awk_store.specs.Kept.{Kept, scalar, listed}

-- the cell of a name
abbrev pub cell_named : List Text → List Cell → Text → Option Cell
cell_named [] cells x = None
cell_named (n ∷ ns) [] x = None
cell_named (n ∷ ns) (c ∷ cs) x = if bytes_eq n x then Some c else cell_named ns cs x

abbrev pub values_of : List Text → List Cell → Text → Option Value
values_of names cells x = scalar (cell_named names cells x)

abbrev pub arrays_of : List Text → List Cell → Text → Option Array
arrays_of names cells x = listed (cell_named names cells x)

-- a slot that is none has the empty name, and so has what a parameter with a value stands for
abbrev pub reference_of : List Text → Reference → m.Reference
reference_of names (Shared k) = m.Shared (get_or names k [])
reference_of names (Made n) = m.Made n
reference_of names Nothing = m.Shared []

abbrev pub bound_of : List Text → Bound → m.Bound
bound_of names (Scalar x) = m.Scalar x
bound_of names (Handed reference) = m.Handed (reference_of names reference)

abbrev pub phase_of : Phase → m.Phase
phase_of Beginning = m.Beginning
phase_of Ruling = m.Ruling
phase_of Ending = m.Ending

-- what a store does not hold: how much of each stream was taken, and the machine's record, which the store may have
-- split
pub record Hidden : Type 0 where
  pub taken : Key → ℕ
  pub row : Row

abbrev pub state : List Text → Kept → Hidden → State
state names kept hidden = record {
  numbers = kept.numbers;
  random = kept.random;
  values = values_of names kept.cells;
  arrays = arrays_of names kept.cells;
  locals = map (bound_of names) kept.frame;
  depth = kept.depth;
  made = kept.made;
  row = hidden.row;
  phase = phase_of kept.phase;
  on = λ n. get_or kept.on n false;
  main = kept.main;
  taken = hidden.taken;
  status = kept.status;
  course = nothing;
}

-- each name has one slot, and none is empty: that is the name of a slot that is none
abbrev pub IsOnce : List Text → Type 0
IsOnce names = (j k : ℕ) → j < length names → get_or names j [] ≡ get_or names k [] → j ≡ k

-- what the laws need of the names: awk's own have their slots
pub record Sound (names : List Text) : Type 0 where
  pub once : IsOnce names
  pub own : (x : Own) → get_or names (slot_of x) [] ≡ name_of x
