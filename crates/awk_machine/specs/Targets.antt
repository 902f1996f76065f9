-- How variables, elements and fields are read and set
-- (POSIX.1-2017 XCU awk, "Expressions in awk", "Variables and Special Variables").
use Rattle.std.specs.Prelude.{ℕ, zero, suc, nat_lt, Bool, true, false, if◌then◌else◌, ℤ, pos, List, [], ◌∷◌, length}
use Rattle.std.specs.Prelude.{codes, slice_index_or, Option, Some, None, Result, Ok, Err}
use Rattle.awk_numbers.specs.declared.number.Numbers.{Numbers}
use Rattle.awk_text.specs.declared.place.Place.{Place}
use Rattle.awk_text.specs.declared.value.Value.{Value}
use Rattle.awk_text.specs.declared.value.Value.TheVariants as v
use Rattle.awk_text.specs.declared.fault.Fault.{Fault}
use Rattle.awk_text.specs.declared.fault.Fault.TheVariants.{Pattern}
use Rattle.awk_text.specs.Arithmetic.{whole_of}
use Rattle.awk_text.specs.Values.{text_of, number_of}
use Rattle.awk_fields.specs.Separators.{separator}
use Rattle.awk_fields.specs.Rows as row
use Rattle.awk_fields.specs.Rows.{unsplit, known, place_of, with_field, with_count, rebuilt, blank}
use Rattle.awk_format.specs.Directives.{◌>>=◌}
use Rattle.awk_program.specs.Slots.{Text}
use Rattle.awk_program.specs.Program as p
use Rattle.awk_lib.specs.Arrays.{element, put}
use Rattle.awk_machine.specs.Operators.{of_count, limited}
use Rattle.awk_machine.specs.Pieces.{Piece, Do, Target, Variable, Element, Field, Give, Set, Whole, Rebuild, Check}
use Rattle.awk_machine.specs.Pieces.{Then, Goes, Seeks, give, granted, ends, Faulted}
use Rattle.awk_machine.specs.Questions.{Spells, Fields, yes, these}
use Rattle.awk_machine.specs.Variables.{is_nf, own_text, by_convfmt, variable, with_variable, array, with_array}

-- ---- the target that is meant

-- the number of a field, from 0 to 65,535
abbrev pub field_of : Numbers → Value → Result Value Fault
field_of numbers x = number_of numbers x >>= λ y. whole_of y >>= λ z. place_of z >>= λ n. Ok (of_count n)

-- that number, once it is one
abbrev pub field_number : Value → ℕ
field_number (v.Num (pos n)) = n
field_number other = 0

-- by the value that its subscripts, as one text, or its number gave
abbrev pub target : p.Reference → Value → Target
target (p.variable a) spot = Variable a
target (p.element place a xs) spot = Element a (text_of spot) place
target (p.field place x) spot = Field (field_number spot)

-- ---- reading

-- a field above the last one is unset
abbrev pub get_field : ℕ → Then
get_field zero k s = Goes (give (v.Input s.row.whole) k) s
get_field (suc n) k s = Seeks (Fields s.row) (λ a. give (slice_index_or (these a) n blank).value k) s

abbrev pub get_variable : p.Variable → Then
get_variable a k s =
    if is_nf a then Seeks (Fields s.row) (λ a. give (of_count (length (these a))) k) s
    else Goes (give (variable s a) k) s

-- an element that is not there is made
abbrev pub get_element : Option Value → p.Variable → Text → Place → Then
get_element (Some x) a key place k s = Goes (give x k) s
get_element None a key place k s =
    granted place (put (array s a) key v.Unset) (λ new k s. Goes (give v.Unset k) (with_array a new s)) k s

abbrev pub get : Target → Then
get (Variable a) k s = get_variable a k s
get (Element a key place) k s = get_element (element (array s a) key) a key place k s
get (Field n) k s = get_field n k s

-- ---- patterns

-- on, where the text is an ERE; else F3
abbrev pub check : Place → Text → Then
check place source k s = Seeks (Spells source) (λ a. if yes a then k else ends (Faulted Pattern place)) s

-- a text that separates is an ERE where it has two bytes or more
abbrev pub check_separator : Place → Text → List Piece → List Piece
check_separator place by k = if nat_lt 1 (length by) then Do (Check place by) ∷ k else k

-- ---- setting

-- the fields' texts with OFS between are the record's text
abbrev pub rebuild : Place → List row.Field → Then
rebuild place fs k s =
    granted place (limited (rebuilt (own_text s (codes "OFS")) fs))
    (λ text k s. Goes k (record s { row = record { whole = text; fields = known fs } })) k s

-- `$0` is the text of the value, before which FS is looked at; another field is the value, and in the record's text
-- that of it by CONVFMT
abbrev pub set_shown : ℕ → Place → (x shown : Value) → Then
set_shown zero place x shown k s =
    Goes (check_separator place (own_text s (codes "FS")) (Do (Whole place (text_of shown)) ∷ k)) s
set_shown (suc n) place x shown k s =
    Seeks (Fields s.row)
    (λ a. Do (Rebuild place (with_field (these a) n (record { value = x; shown = shown }))) ∷ k) s

abbrev pub set_field : ℕ → Place → Value → Then
set_field n place x k s = granted place (by_convfmt s x) (set_shown n place x) k s

abbrev pub set_nf : Place → Value → Then
set_nf place x k s =
    granted place (number_of s.numbers x >>= λ y. whole_of y >>= place_of)
    (λ n k s. Seeks (Fields s.row) (λ a. Do (Rebuild place (with_count (these a) n)) ∷ k) s) k s

abbrev pub set : Target → Place → Value → Then
set (Variable a) place x k s = if is_nf a then set_nf place x k s else Goes k (with_variable a x s)
set (Element a key at) place x k s = granted at (put (array s a) key x) (λ new k s. Goes k (with_array a new s)) k s
set (Field n) place x k s = set_field n place x k s

-- what an assignment gives: for NF it is always a number, and for `$0` input unless it is a number with a fraction
abbrev pub as_number : Result ℤ Fault → Value
as_number (Ok n) = v.Num n
as_number (Err fault) = v.Unset

abbrev pub as_record : Value → Value
as_record (v.Real x) = v.Real x
as_record x = v.Input (text_of x)

abbrev pub stored : Numbers → Target → Value → Value
stored numbers (Variable a) x = if is_nf a then as_number (number_of numbers x >>= whole_of) else x
stored numbers (Element a key at) x = x
stored numbers (Field zero) x = as_record x
stored numbers (Field (suc n)) x = x

-- a value is stored, and given
abbrev pub store : Target → Place → Value → Then
store to place x k s = Goes (Do (Set to place x) ∷ Do (Give (stored s.numbers to x)) ∷ k) s

-- ---- the whole record

abbrev pub is_empty : Text → Bool
is_empty [] = true
is_empty (b ∷ bs) = false

-- `$0` is this text; its fields go by FS and RS as they are now
abbrev pub whole : Place → Text → Then
whole place text k s =
    granted place (limited text) (λ text k s.
    Goes k (record s {
      row =
          record {
            whole = text;
            fields =
                unsplit (separator (own_text s (codes "FS")) (is_empty (own_text s (codes "RS"))));
          };
    })) k s
