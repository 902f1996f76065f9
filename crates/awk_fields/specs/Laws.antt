-- What is one alone: the fields of a text and of a record; and what records that are kept have in common.
use Rattle.std.specs.Prelude.{◌≡◌, ◌↔◌, ℕ, List}
use Rattle.awk_fields.specs.Separators.{Separator}
use Rattle.awk_fields.specs.Fields.{Fields}
use Rattle.awk_fields.specs.Rows.{Field, Row, HasFields, IsKept}

-- a text has one list of fields
abbrev pub OneList : Type 0
OneList = (separator : Separator) (s : List ℕ) (xs ys : List (List ℕ)) → Fields separator s xs → Fields separator s ys →
    xs ≡ ys

-- and so has a record
abbrev pub OneRow : Type 0
OneRow = (row : Row) (xs ys : List Field) → HasFields row xs → HasFields row ys → xs ≡ ys

-- what is kept of a kept record is kept
abbrev pub KeptAgain : Type 0
KeptAgain = (a b c : Row) → IsKept a b → IsKept b c → IsKept a c

-- a kept record has the same fields
abbrev pub KeptFields : Type 0
KeptFields = (old new : Row) (fields : List Field) → IsKept old new → HasFields new fields ↔ HasFields old fields
