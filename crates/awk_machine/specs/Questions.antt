-- What a run has to know of patterns and of fields, which is said by relations: a question, and its right answer
-- (POSIX.1-2017 XBD 9.4; XCU awk, "Regular Expressions" and "Variables and Special Variables", FS).
use Rattle.std.specs.Prelude.{Bool, true, false, List, [], ℕ}
use Rattle.awk_ere.specs.Spelled.{HasMatch}
use Rattle.awk_fields.specs.Separators.{Separator, IsEre, IsNoEre}
use Rattle.awk_fields.specs.Fields as fields
use Rattle.awk_fields.specs.Rows.{Field, Row, HasFields}
use Rattle.awk_program.specs.Slots.{Text}
use Rattle.awk_lib.specs.Replacing.{Found}

pub data Question : Type 0 where
  -- whether the text is an ERE
  Spells : Text → Question
  -- whether the ERE matches somewhere in the text; its best match there, or with true all that gsub replaces
  Matches : (source text : Text) → Question
  Finds : (source text : Text) → Bool → Question
  -- the parts of a text, and the fields of a record
  Divides : Separator → Text → Question
  Fields : Row → Question

pub data Answer : Type 0 where
  Is : Bool → Answer
  Places : List (ℕ × ℕ) → Answer
  Texts : List Text → Answer
  These : List Field → Answer

abbrev pub Right : Question → Answer → Type 0
Right (Spells source) (Is true) = IsEre source
Right (Spells source) (Is false) = IsNoEre source
Right (Matches source text) (Is b) = HasMatch source text b
Right (Finds source text all) (Places ms) = Found source text all ms
Right (Divides separator text) (Texts parts) = fields.Fields separator text parts
Right (Fields row) (These found) = HasFields row found
Right question answer = ⊥

-- ---- what an answer says

abbrev pub yes : Answer → Bool
yes (Is b) = b
yes answer = false

abbrev pub places : Answer → List (ℕ × ℕ)
places (Places ms) = ms
places answer = []

abbrev pub texts : Answer → List Text
texts (Texts parts) = parts
texts answer = []

abbrev pub these : Answer → List Field
these (These found) = found
these answer = []
