-- What a store holds, as plain data: the variables of the whole script by their slots, the parameters of the present
-- call by their places, the record, and how far the run is.
use Rattle.std.specs.Prelude.{ℕ, ◌==◌, Bool, false, List, [], Option, Some, None, unwrap_or, slice_get}
use Rattle.std.specs.Prelude.{Result}
use Rattle.awk_numbers.specs.declared.number.Numbers.{Numbers}
use Rattle.awk_numbers.specs.declared.random.Random.{Random}
use Rattle.awk_text.specs.declared.value.Value.{Value}
use Rattle.awk_text.specs.declared.value.Value.TheVariants as v
use Rattle.awk_text.specs.declared.fault.Fault.{Fault}
use Rattle.awk_text.specs.Values.{text_of}
use Rattle.awk_fields.specs.Rows.{Row}
use Rattle.awk_format.specs.NumberTexts.{value_by}
use Rattle.awk_program.specs.Slots.{Text, slot_of}
use Rattle.awk_program.specs.declared.variables.Own.{Own}
use Rattle.awk_program.specs.declared.variables.Own.TheVariants as own
use Rattle.awk_program.specs.declared.variables.Variable.{Variable}
use Rattle.awk_program.specs.declared.variables.Variable.TheVariants.{Global, Parameter}
use Rattle.awk_machine.specs.State.{Array, Main}
use Rattle.awk_store.specs.declared.cell.Cell.{Cell}
use Rattle.awk_store.specs.declared.cell.Cell.TheVariants as cell
use Rattle.awk_store.specs.declared.frame.Bound.{Bound}
use Rattle.awk_store.specs.declared.frame.Bound.TheVariants.{Scalar, Handed}
use Rattle.awk_store.specs.declared.frame.Reference.{Reference}
use Rattle.awk_store.specs.declared.frame.Reference.TheVariants.{Shared, Made, Nothing}
use Rattle.awk_store.specs.declared.phase.Phase.{Phase}

pub record Kept : Type 0 where
  -- which numbers the script has
  pub numbers : Numbers
  -- the sequence that rand draws from
  pub random : Random
  -- the variables of the whole script
  pub cells : List Cell
  -- the parameters of the present call, how deep it is, and the arrays that calls have made
  pub frame : List Bound
  pub depth : ℕ
  pub made : List Array
  -- `$0` and its fields
  pub row : Row
  pub phase : Phase
  -- whether the range of a rule is on, by its place among the rules; those behind the end are off
  pub on : List Bool
  -- how far the main input is read
  pub main : Main
  -- the status that an `exit` gave
  pub status : Option ℕ
  -- the steps that were taken
  pub used : ℕ

-- ---- values

-- the value of a cell: an array, and a slot that is none, has none
abbrev pub scalar : Option Cell → Option Value
scalar None = None
scalar (Some (cell.Value x)) = Some x
scalar (Some (cell.Array a)) = None

abbrev pub value_at : List Cell → ℕ → Value
value_at cells k = unwrap_or (scalar (slice_get cells k)) v.Unset

-- a parameter that holds a value, and the value that one holds
abbrev pub as_scalar : Value → Bound
as_scalar x = Scalar x

abbrev pub held_by : Bound → Value
held_by (Scalar x) = x
held_by (Handed reference) = v.Unset

abbrev pub bound_scalar : Option Bound → Option Value
bound_scalar None = None
bound_scalar (Some (Scalar x)) = Some x
bound_scalar (Some (Handed reference)) = None

abbrev pub value : Kept → Variable → Value
value kept (Global k) = value_at kept.cells k
value kept (Parameter k) = unwrap_or (bound_scalar (slice_get kept.frame k)) v.Unset

-- NF is no variable, but a property of the record
abbrev pub is_nf : Variable → Bool
is_nf (Global k) = k == slot_of own.Nf
is_nf (Parameter k) = false

-- awk's own variables, and their texts
abbrev pub own_value : Kept → Own → Value
own_value kept x = value_at kept.cells (slot_of x)

abbrev pub own_text : Kept → Own → Text
own_text kept x = text_of (own_value kept x)

-- a value of which a text is wanted: of a number with a fraction the text that CONVFMT makes of it now
abbrev pub by_convfmt : Kept → Value → Result Value Fault
by_convfmt kept x = value_by kept.numbers (own_text kept own.Convfmt) x

-- ---- arrays

-- the array of a cell
abbrev pub listed : Option Cell → Option Array
listed None = None
listed (Some (cell.Value x)) = None
listed (Some (cell.Array a)) = Some a

-- which array a parameter was handed: none where it holds a value
abbrev pub bound_reference : Option Bound → Reference
bound_reference None = Nothing
bound_reference (Some (Scalar x)) = Nothing
bound_reference (Some (Handed reference)) = reference

abbrev pub reference : Kept → Variable → Reference
reference kept (Global k) = Shared k
reference kept (Parameter k) = bound_reference (slice_get kept.frame k)

-- the array, where there is one
abbrev pub array_found : Kept → Reference → Option Array
array_found kept (Shared k) = listed (slice_get kept.cells k)
array_found kept (Made k) = slice_get kept.made k
array_found kept Nothing = None

abbrev pub array_at : Kept → Reference → Array
array_at kept at = unwrap_or (array_found kept at) []

abbrev pub array : Kept → Variable → Array
array kept a = array_at kept (reference kept a)
