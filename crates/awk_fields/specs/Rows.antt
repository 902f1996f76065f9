-- A record: its whole text and its fields (POSIX.1-2017 XCU awk, "Expressions in awk" and "Input
-- Files").
use Rattle.std.specs.Prelude.{◌≡◌, ◌⊎◌, ℕ, zero, suc, ◌+◌, ◌-◌, ◌<◌, ◌≤◌, nat_le, if◌then◌else◌, ℤ, pos, negsuc, List}
use Rattle.std.specs.Prelude.{[], ◌∷◌, ◌++◌, length, map, replicate, take, Result, Ok, Err, slice_index_or, slice_set}
use Rattle.std.specs.List.{flat_map}
use Rattle.awk_text.specs.Limits.{most_bytes}
use Rattle.awk_text.specs.Values.{text_of}
use Rattle.awk_text.specs.declared.value.Value.{Value}
use Rattle.awk_text.specs.declared.value.Value.TheVariants.{Unset, Input}
use Rattle.awk_text.specs.declared.fault.Fault.{Fault}
use Rattle.awk_text.specs.declared.fault.Fault.TheVariants.{FieldNumber, TextTooLong, Memory}
use Rattle.awk_fields.specs.Separators.{Separator}
use Rattle.awk_fields.specs.Fields.{Fields}

-- a field: its value, and what stands for that in the record's text, which is another value where the value is a number
-- that has its text by a format
pub record Field : Type 0 where
  pub value : Value
  pub shown : Value

abbrev pub plain : Value → Field
plain value = record { value = value; shown = value }

-- a text's own
abbrev pub input : List ℕ → Field
input text = plain (Input text)

-- one that is not there
abbrev pub blank : Field
blank = plain Unset

pub data Held : Type 0 where
  -- the text's own, by what separates them
  unsplit : Separator → Held
  known : List Field → Held

pub record Row : Type 0 where
  pub whole : List ℕ
  pub fields : Held

-- these are the fields: a text's own are input
abbrev pub AreHeld : List ℕ → Held → List Field → Type 0
AreHeld whole (unsplit separator) fields =
    (texts : List (List ℕ)) × Fields separator whole texts × (fields ≡ map input texts)
AreHeld whole (known found) fields = fields ≡ found

abbrev pub HasFields : Row → List Field → Type 0
HasFields row fields = AreHeld row.whole row.fields fields

-- the same record, or the same once its fields are known
abbrev pub IsKept : Row → Row → Type 0
IsKept old new = (new ≡ old)
    ⊎ ((fields : List Field) × HasFields old fields × (new ≡ record { whole = old.whole; fields = known fields }))

-- ---- numbers of fields

-- the greatest number of a field that is named or set, and count that is set
abbrev pub most_fields : ℕ
most_fields = 65535

abbrev pub place_of : ℤ → Result ℕ Fault
place_of (pos n) = if nat_le n most_fields then Ok n else Err FieldNumber
place_of (negsuc n) = Err FieldNumber

-- the place of a field that can be set, counted from 0
abbrev pub behind_whole : Result ℕ Fault → Result ℕ Fault
behind_whole (Ok zero) = Err FieldNumber
behind_whole (Ok (suc k)) = Ok k
behind_whole (Err fault) = Err fault

abbrev pub field_place : ℤ → Result ℕ Fault
field_place n = behind_whole (place_of n)

-- ---- what is got and set

-- the value of a field by its number: 0 is the whole text, and a field above the last one is unset
abbrev pub IsValueAt : Row → ℕ → Value → Type 0
IsValueAt row zero value = value ≡ Input row.whole
IsValueAt row (suc k) value =
    (fields : List Field) × HasFields row fields × (value ≡ (slice_index_or fields k blank).value)

-- the fields with unset ones behind them, up to a count
abbrev pub padded : List Field → ℕ → List Field
padded fields count = fields ++ replicate (count - length fields) blank

abbrev pub with_field : List Field → ℕ → Field → List Field
with_field fields k field = slice_set (padded fields (k + 1)) k field

abbrev pub with_count : List Field → ℕ → List Field
with_count fields count = take count (padded fields count)

-- the texts of the values, with OFS between
abbrev pub joined : List ℕ → List Value → List ℕ
joined ofs [] = []
joined ofs (value ∷ values) = text_of value ++ flat_map (λ v. ofs ++ text_of v) values

abbrev pub shown_in : Field → Value
shown_in field = field.shown

-- the text of a record that is made of these fields
abbrev pub rebuilt : List ℕ → List Field → List ℕ
rebuilt ofs fields = joined ofs (map shown_in fields)

-- the record with these fields, its text rebuilt of them
pub record IsRebuilt (ofs : List ℕ) (fields : List Field) (new : Row) : Type 0 where
  pub fits : length (rebuilt ofs fields) ≤ most_bytes
  pub new_is : new ≡ record { whole = rebuilt ofs fields; fields = known fields }

pub record SetsField (old : Row) (n : ℤ) (field : Field) (ofs : List ℕ) (new : Row) : Type 0 where
  pub place : ℕ
  pub place_is : field_place n ≡ Ok place
  pub fields : List Field
  pub before : HasFields old fields
  pub after : IsRebuilt ofs (with_field fields place field) new

pub record SetsCount (old : Row) (n : ℤ) (ofs : List ℕ) (new : Row) : Type 0 where
  pub count : ℕ
  pub count_is : place_of n ≡ Ok count
  pub fields : List Field
  pub before : HasFields old fields
  pub after : IsRebuilt ofs (with_count fields count) new

-- why a field can't be set, and a count
abbrev pub SetsNoField : Row → ℤ → Field → List ℕ → Fault → Type 0
SetsNoField old n field ofs fault =
    (fault ≡ Memory)
    ⊎ ((fault ≡ FieldNumber) × (field_place n ≡ Err FieldNumber))
    ⊎ ((fault ≡ TextTooLong)
    × ((place : ℕ) × (fields : List Field) × (field_place n ≡ Ok place) × HasFields old fields
    × (most_bytes < length (rebuilt ofs (with_field fields place field)))))

abbrev pub SetsNoCount : Row → ℤ → List ℕ → Fault → Type 0
SetsNoCount old n ofs fault =
    (fault ≡ Memory)
    ⊎ ((fault ≡ FieldNumber) × (place_of n ≡ Err FieldNumber))
    ⊎ ((fault ≡ TextTooLong)
    × ((count : ℕ) × (fields : List Field) × (place_of n ≡ Ok count) × HasFields old fields
    × (most_bytes < length (rebuilt ofs (with_count fields count)))))
