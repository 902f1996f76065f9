-- What variables hold: those of the whole script go by their names, and parameters by their places
-- (POSIX.1-2017 XCU awk, "User-Defined Functions", "Variables and Special Variables").
use Rattle.std.specs.Prelude.{Bool, false, if◌then◌else◌, [], codes, slice_get, slice_index_or, slice_set, Option, Some}
use Rattle.std.specs.Prelude.{None, unwrap_or, option_map, Result, Ok}
use Rattle.std.specs.Str.{bytes_eq}
use Rattle.awk_numbers.specs.declared.number.Number.{Number}
use Rattle.awk_text.specs.declared.value.Value.{Value}
use Rattle.awk_text.specs.declared.value.Value.TheVariants as v
use Rattle.awk_text.specs.declared.fault.Fault.{Fault}
use Rattle.awk_text.specs.Values.{numeric, text_of}
use Rattle.awk_format.specs.Directives.{◌>>=◌}
use Rattle.awk_format.specs.NumberTexts.{value_by}
use Rattle.awk_program.specs.Slots.{Text}
use Rattle.awk_program.specs.Program.{Variable, global, parameter}
use Rattle.awk_program.specs.declared.operators.Comparison.{Comparison}
use Rattle.awk_machine.specs.Operators.{compared}
use Rattle.awk_machine.specs.State.{Array, State, Bound, Scalar, Handed, Reference, Shared, Made}

-- another map, in which a name that was there has this; a name that was not there stays without
abbrev pub changed : {A : Type 0} → (Text → Option A) → Text → A → Text → Option A
changed m name x other = if bytes_eq name other then option_map (λ old. x) (m other) else m other

-- NF is no variable, but a property of the record
abbrev pub is_nf : Variable → Bool
is_nf (global name) = bytes_eq name (codes "NF")
is_nf (parameter n) = false

-- ---- values

abbrev pub own_value : State → Text → Value
own_value s name = unwrap_or (s.values name) v.Unset

-- the text of one that awk sets
abbrev pub own_text : State → Text → Text
own_text s name = text_of (own_value s name)

-- a value of which a text is wanted: of a number with a fraction the text that CONVFMT makes of it now
abbrev pub by_convfmt : State → Value → Result Value Fault
by_convfmt s x = value_by s.numbers (own_text s (codes "CONVFMT")) x

-- a value that is compared with another one: its text is wanted where that is no number
abbrev pub beside : State → Option Number → Value → Result Value Fault
beside s (Some n) x = Ok x
beside s None x = by_convfmt s x

abbrev pub compared_by : State → Comparison → Value → Value → Result Value Fault
compared_by s how x y =
    beside s (numeric s.numbers y) x >>= λ a. beside s (numeric s.numbers x) y
    >>= λ b. Ok (compared s.numbers how a b)

abbrev pub bound_value : Bound → Value
bound_value (Scalar v) = v
bound_value (Handed reference) = v.Unset

abbrev pub variable : State → Variable → Value
variable s (global name) = own_value s name
variable s (parameter n) = bound_value (slice_index_or s.locals n (Scalar v.Unset))

abbrev pub with_own : Text → Value → State → State
with_own name v s = record s { values = changed s.values name v }

abbrev pub with_variable : Variable → Value → State → State
with_variable (global name) v s = with_own name v s
with_variable (parameter n) v s = record s { locals = slice_set s.locals n (Scalar v) }

-- ---- arrays

-- no array has the empty name: so a parameter that holds a value stands for none
abbrev pub bound_reference : Option Bound → Reference
bound_reference (Some (Handed reference)) = reference
bound_reference (Some (Scalar v)) = Shared []
bound_reference None = Shared []

abbrev pub reference : State → Variable → Reference
reference s (global name) = Shared name
reference s (parameter n) = bound_reference (slice_get s.locals n)

abbrev pub array_at : State → Reference → Array
array_at s (Shared name) = unwrap_or (s.arrays name) []
array_at s (Made n) = slice_index_or s.made n []

abbrev pub array : State → Variable → Array
array s a = array_at s (reference s a)

abbrev pub array_set : Reference → Array → State → State
array_set (Shared name) new s = record s { arrays = changed s.arrays name new }
array_set (Made n) new s = record s { made = slice_set s.made n new }

abbrev pub with_array : Variable → Array → State → State
with_array a new s = array_set (reference s a) new s
