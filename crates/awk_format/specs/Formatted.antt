-- The text that a format makes of values. POSIX.1-2017, XCU awk, "Formatted Output".
use Rattle.std.specs.Prelude.{ℕ, zero, suc, ◌+◌, ◌-◌, ◌==◌, List, [], ◌∷◌, ◌++◌, length, Option, Some, None, Result, Ok}
use Rattle.std.specs.Prelude.{Err, if◌then◌else◌}
use Rattle.awk_numbers.specs.declared.number.Numbers.{Numbers}
use Rattle.awk_text.specs.declared.fault.Fault.{Fault}
use Rattle.awk_text.specs.declared.fault.Fault.TheVariants.{Format, TextTooLong}
use Rattle.awk_text.specs.declared.value.Value.{Value}
use Rattle.awk_format.specs.declared.directive.Directive.{Directive}
use Rattle.awk_format.specs.Directives.{◌>>=◌, directive_of, tail_of}
use Rattle.awk_format.specs.Fields.{converted}
use Rattle.awk_format.specs.Written.{written}

-- a piece of a format: a byte that stands for itself, or a conversion specification, which may be a fault
pub data Piece : Type 0 where
  plain : ℕ → Piece
  directed : Result Directive Fault → Piece

-- the piece whose `%` stands before this text, and how many bytes of the text belong to it: `%%` is a `%`
abbrev pub piece_of : Numbers → List ℕ → Piece
piece_of numbers [] = directed (Err Format)
piece_of numbers (b ∷ bs) = if b == 0x25 then plain 0x25 else directed (directive_of numbers (b ∷ bs))

abbrev pub piece_length : List ℕ → ℕ
piece_length [] = 0
piece_length (b ∷ bs) = if b == 0x25 then 1 else length (b ∷ bs) - length (tail_of (b ∷ bs)) + 1

-- the pieces of a format, after the bytes that belong to the piece before
abbrev pub pieces_after : Numbers → ℕ → List ℕ → List Piece
pieces_after numbers taken [] = []
pieces_after numbers (suc taken) (b ∷ bs) = pieces_after numbers taken bs
pieces_after numbers zero (b ∷ bs) =
    if b == 0x25 then piece_of numbers bs ∷ pieces_after numbers (piece_length bs) bs
    else plain b ∷ pieces_after numbers 0 bs

abbrev pub pieces : Numbers → List ℕ → List Piece
pieces numbers format = pieces_after numbers 0 format

-- the text of the pieces, or the first fault: each conversion specification takes one value, and F4 is that none is
-- left
abbrev pub made : Numbers → List Piece → List Value → Result (List ℕ) Fault
made numbers [] values = Ok []
made numbers (plain b ∷ ps) values = made numbers ps values >>= λ text. Ok (b ∷ text)
made numbers (directed (Err e) ∷ ps) values = Err e
made numbers (directed (Ok d) ∷ ps) [] = Err Format
made numbers (directed (Ok d) ∷ ps) (value ∷ values) = do
  field ← converted numbers d value
  text ← made numbers ps values
  Ok (field ++ text)

abbrev pub made_of : Numbers → List ℕ → List Value → Result (List ℕ) Fault
made_of numbers format values = made numbers (pieces numbers format) values

-- a text so far and what is still made; a text over the limit is F6
abbrev pub within : Option (List ℕ) → Result (List ℕ) Fault
within (Some text) = Ok text
within None = Err TextTooLong

abbrev pub completed : Option (List ℕ) → Result (List ℕ) Fault → Result (List ℕ) Fault
completed so_far (Ok text) = within (written so_far text)
completed so_far (Err e) = Err e

-- the whole, from the empty text on
abbrev pub formatted : Numbers → List ℕ → List Value → Result (List ℕ) Fault
formatted numbers format values = completed (Some []) (made_of numbers format values)
