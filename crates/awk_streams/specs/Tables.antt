-- The streams that a run has open, as a list.
use Rattle.std.specs.Prelude.{◌≡◌, ℕ, nat_eq, Bool, ◌&&◌, List, [], ◌∷◌, map, if◌then◌else◌, Option, Some, None}
use Rattle.awk_fields.specs.declared.reader.Taken.{Taken}
use Rattle.awk_fields.specs.declared.reader.Taken.TheVariants.{Record}
use Rattle.awk_fields.specs.Heads.{head}
use Rattle.awk_fields.specs.Takes.{Input, Takes}
use Rattle.box_world.specs.Events.{Class, OperandFile, InputFile, InputCommand, OutputFile, OutputCommand, Stream}
use Rattle.box_world.specs.Events.{class_number, is_named}
use Rattle.std.specs.Str.{bytes_eq}
use Rattle.awk_streams.specs.declared.streams.Class as code
use Rattle.awk_streams.specs.declared.streams.Class.TheVariants as class
use Rattle.awk_streams.specs.declared.streams.KeptName.{KeptName}
use Rattle.awk_streams.specs.declared.streams.Open.{Open}

-- a class, as requests have it
abbrev pub kind : code.Class → Class
kind class.OperandFile = OperandFile
kind class.InputFile = InputFile
kind class.InputCommand = InputCommand
kind class.OutputFile = OutputFile
kind class.OutputCommand = OutputCommand

-- an open stream, and what was read of it and not taken
pub record Entry : Type 0 where
  pub stream : Stream
  pub input : Input

-- the open streams in order of opening, the standard input, and how many streams more need no memory
pub record Table : Type 0 where
  pub entries : List Entry
  pub input : Input
  pub room : ℕ

abbrev pub entry_of : KeptName × Open → Entry
entry_of e = record {
  stream = record { class = kind e.0.class; text = e.0.text.items; number = e.1.number };
  input =
      e.1.reader.input;
}

abbrev pub open_of : Table → List Stream
open_of table = map (λ e. e.stream) table.entries

-- a kept name is this class and text
abbrev pub has_name : Class → List ℕ → KeptName → Bool
has_name c text n = nat_eq (class_number c) (class_number (kind n.class)) && bytes_eq text n.text.items

-- what is held unread of the first of this class and text
abbrev pub find_input : Class → List ℕ → List Entry → Option Input
find_input c text [] = None
find_input c text (e ∷ es) = if is_named c text e.stream then Some e.input else find_input c text es

-- the entries without the first of this class and text
abbrev pub entries_without : Class → List ℕ → List Entry → List Entry
entries_without c text [] = []
entries_without c text (e ∷ es) = if is_named c text e.stream then es else e ∷ entries_without c text es

-- the entries once what is held unread of the first of this class and text is changed
abbrev pub with_input : Class → List ℕ → (Input → Input) → List Entry → List Entry
with_input c text change [] = []
with_input c text change (e ∷ es) =
    if is_named c text e.stream then record e { input = change e.input } ∷ es else e ∷ with_input c text change es

-- what was answered is the first record of what an open input held unread, and the rest is left there
abbrev pub TakesOf : Class → List ℕ → List ℕ → List Entry → Taken → List Entry → Type 0
TakesOf c text rs old answer new = (i : Input) → find_input c text old ≡ Some i → (j : Input)
    × Takes (head rs i.unread i.ended) answer i j × (new ≡ with_input c text (λ x. j) old)

-- this is the first record of what an input held unread that is open, and the rest is left there
abbrev pub TakesLine : Class → List ℕ → List ℕ → List Entry → List ℕ → List Entry → Type 0
TakesLine c text rs old line new = (i : Input) × (find_input c text old ≡ Some i) × (j : Input)
    × Takes (head rs i.unread i.ended) (Record line) i j × (new ≡ with_input c text (λ x. j) old)
