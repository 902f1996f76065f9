-- How what a store holds changes, one definition for each call that changes it.
use Rattle.std.specs.Prelude.{◌≡◌, ◌⊎◌, Option, Ok, Err, unwrap_or, ℕ, zero, suc, ◌+◌, ◌-◌, Bool, true, false}
use Rattle.std.specs.Prelude.{if◌then◌else◌, ℤ, pos, List, [], ◌∷◌, ◌++◌, length, take, map, replicate, slice_set, Some}
use Rattle.std.specs.Prelude.{None, Result}
use Rattle.awk_numbers.specs.declared.number.Number.{Number}
use Rattle.awk_numbers.specs.declared.number.Number.TheVariants.{Whole}
use Rattle.awk_numbers.specs.declared.number.Numbers.{Numbers}
use Rattle.awk_numbers.specs.declared.random.Random.{Random}
use Rattle.awk_numbers.specs.Random.{first_random}
use Rattle.awk_text.specs.declared.value.Value.{Value}
use Rattle.awk_text.specs.declared.value.Value.TheVariants as v
use Rattle.awk_text.specs.declared.fault.Fault.{Fault}
use Rattle.awk_text.specs.declared.fault.Fault.TheVariants.{Memory as NoMemory}
use Rattle.awk_text.specs.Arithmetic.{add}
use Rattle.awk_text.specs.Values.{number_of}
use Rattle.awk_fields.specs.Rows.{Row, known, unsplit}
use Rattle.awk_fields.specs.Separators.{separator}
use Rattle.awk_format.specs.Directives.{◌>>=◌}
use Rattle.awk_lib.specs.Arrays.{element, put}
use Rattle.awk_program.specs.Slots.{Text, slot_of}
use Rattle.awk_program.specs.declared.program.GlobalName.{GlobalName}
use Rattle.awk_program.specs.declared.variables.Own.{Own}
use Rattle.awk_program.specs.declared.variables.Own.TheVariants as own
use Rattle.awk_program.specs.declared.variables.Variable.{Variable}
use Rattle.awk_program.specs.declared.variables.Variable.TheVariants.{Global, Parameter}
use Rattle.awk_machine.specs.Begins.{first_value}
use Rattle.awk_machine.specs.State.{Array, Main}
use Rattle.awk_machine.specs.Targets.{is_empty}
use Rattle.awk_store.specs.declared.cell.Cell.{Cell}
use Rattle.awk_store.specs.declared.cell.Cell.TheVariants as cell
use Rattle.awk_store.specs.declared.frame.Bound.{Bound}
use Rattle.awk_store.specs.declared.frame.Bound.TheVariants.{Scalar, Handed}
use Rattle.awk_store.specs.declared.frame.Reference.{Reference}
use Rattle.awk_store.specs.declared.frame.Reference.TheVariants.{Shared, Made, Nothing}
use Rattle.awk_store.specs.declared.phase.Phase.{Phase}
use Rattle.awk_store.specs.declared.phase.Phase.TheVariants.{Beginning}
use Rattle.awk_store.specs.Kept.{Kept, own_text}

-- ---- at first

abbrev pub first_cell : GlobalName → Cell
first_cell x = if x.is_array then cell.Array [] else cell.Value (first_value x.text)

abbrev pub first_main : Main
first_main = record { position = 1; current = None; named = false; ended = false; failed = false }

abbrev pub first_kept : Numbers → Number → List GlobalName → Kept
first_kept numbers setup names = record {
  numbers = numbers;
  random = first_random setup;
  cells = map first_cell names;
  frame = [];
  depth = 0;
  made = [];
  row = record { whole = []; fields = known [] };
  phase = Beginning;
  on = [];
  main = first_main;
  status = None;
  used = 0;
}

-- ---- variables

-- the cell at a slot changed; nothing where the slot is none
abbrev pub change_at : (Cell → Cell) → List Cell → ℕ → List Cell
change_at f [] k = []
change_at f (c ∷ cs) zero = f c ∷ cs
change_at f (c ∷ cs) (suc k) = c ∷ change_at f cs k

-- a cell keeps its kind
abbrev pub given_value : Value → Cell → Cell
given_value x (cell.Value old) = cell.Value x
given_value x (cell.Array a) = cell.Array a

abbrev pub given_array : Array → Cell → Cell
given_array a (cell.Value x) = cell.Value x
given_array a (cell.Array old) = cell.Array a

abbrev pub with_value : Variable → Value → Kept → Kept
with_value (Global k) x kept = record kept { cells = change_at (given_value x) kept.cells k }
with_value (Parameter k) x kept = record kept { frame = slice_set kept.frame k (Scalar x) }

abbrev pub with_own : Own → Value → Kept → Kept
with_own name x kept = record kept { cells = change_at (given_value x) kept.cells (slot_of name) }

-- the number of a counter and 1 more
abbrev pub counted : Numbers → Value → Result Number Fault
counted numbers x = number_of numbers x >>= λ n. add numbers n (Whole (pos 1))

abbrev pub with_array : Reference → Array → Kept → Kept
with_array (Shared k) a kept = record kept { cells = change_at (given_array a) kept.cells k }
with_array (Made k) a kept = record kept { made = slice_set kept.made k a }
with_array Nothing a kept = kept

-- an element of an array, where there is one, is given a value: what holds the array then holds the new one
abbrev pub Puts : Option Array → Text → Value → (Array → Type 0) → Type 0
Puts at key x Holds = (new : Array) × (put (unwrap_or at []) key x ≡ Ok new) × Holds new

-- why it is not
abbrev pub PutsNot : Option Array → Text → Value → Fault → Type 0
PutsNot at key x e = (e ≡ NoMemory) ⊎ (put (unwrap_or at []) key x ≡ Err e)

-- an element that holds a whole number is given the sum of that and another one, which is whole
abbrev pub Adds : Numbers → Option Array → Text → ℤ → (Array → Type 0) → Type 0
Adds numbers at key by Holds = (n : ℤ) × (m : ℤ) × (element (unwrap_or at []) key ≡ Some (v.Num n))
    × (add numbers (Whole n) (Whole by) ≡ Ok (Whole m)) × Puts at key (v.Num m) Holds

-- ---- calls

-- the parameters without an argument: each array is a new one, from this number on
abbrev pub missing : ℕ → List Bool → List Bound
missing n [] = []
missing n (true ∷ are_arrays) = Handed (Made n) ∷ missing (n + 1) are_arrays
missing n (false ∷ are_arrays) = Scalar v.Unset ∷ missing n are_arrays

abbrev pub new_arrays : List Bool → List Array
new_arrays [] = []
new_arrays (true ∷ are_arrays) = [] ∷ new_arrays are_arrays
new_arrays (false ∷ are_arrays) = new_arrays are_arrays

-- a call begins: these parameters have an argument, those behind them have none
abbrev pub entered : List Bound → List Bool → Kept → Kept
entered given others kept = record kept {
  frame = given ++ missing (length kept.made) others;
  depth = kept.depth + 1;
  made = kept.made ++ new_arrays others;
}

-- a call ends: the caller's parameters are back, and as many arrays as there were
abbrev pub left : List Bound → ℕ → Kept → Kept
left frame n kept = record kept { frame = frame; depth = kept.depth - 1; made = take n kept.made }

-- all calls end
abbrev pub unwound : Kept → Kept
unwound kept = record kept { frame = []; depth = 0; made = [] }

-- ---- the record

abbrev pub with_row : Row → Kept → Kept
with_row row kept = record kept { row = row }

-- a record of this text, whose fields go by FS and RS as they are
abbrev pub row_of : Kept → Text → Row
row_of kept text =
    record { whole = text; fields = unsplit (separator (own_text kept own.Fs) (is_empty (own_text kept own.Rs))) }

-- ---- the run

abbrev pub with_random : Random → Kept → Kept
with_random random kept = record kept { random = random }

abbrev pub with_phase : Phase → Kept → Kept
with_phase phase kept = record kept { phase = phase }

abbrev pub with_flag : List Bool → ℕ → Bool → List Bool
with_flag on n b = slice_set (on ++ replicate ((n + 1) - length on) false) n b

abbrev pub with_on : ℕ → Bool → Kept → Kept
with_on n b kept = record kept { on = with_flag kept.on n b }

abbrev pub with_main : Main → Kept → Kept
with_main main kept = record kept { main = main }

abbrev pub with_status : ℕ → Kept → Kept
with_status n kept = record kept { status = Some n }

abbrev pub stepped : Kept → Kept
stepped kept = record kept { used = kept.used + 1 }
