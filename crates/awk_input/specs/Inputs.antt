-- The main input (POSIX.1-2017 XCU awk, "STDIN" and "Input Files").
use Rattle.std.specs.Prelude.{◌≡◌, Bool, true, false, if◌then◌else◌, List, [], ◌∷◌, ◌++◌, codes, Option, Some, None}
use Rattle.std.specs.Prelude.{Result, Ok, Err}
use Rattle.awk_text.specs.Quoted.{quoted}
use Rattle.awk_text.specs.declared.value.Value.{Value}
use Rattle.awk_text.specs.declared.value.Value.TheVariants as v
use Rattle.box_world.specs.Events.{Key, Standard}
use Rattle.box_world.specs.declared.world.World.{Ghosts}
use Rattle.awk_program.specs.Slots.{Text}
use Rattle.awk_program.specs.declared.variables.Own.TheVariants as own
use Rattle.awk_machine.specs.MainInput.{own_name}
use Rattle.awk_machine.specs.Pieces.{Piece, At, Do, Forget, Past, Records, Report, Rules, Step, Take, give}
use Rattle.awk_machine.specs.State.{Given, Main}
use Rattle.awk_streams.specs.declared.getline.NextRecord.{NextRecord}
use Rattle.awk_streams.specs.declared.getline.NextRecord.TheVariants as found
use Rattle.awk_streams.specs.declared.halt.Halt.{Halt}
use Rattle.awk_streams.specs.Readings.{IsLine}
use Rattle.awk_streams.specs.Tables.{Table}
use Rattle.awk_streams.specs.Tasks.{goes_on}
use Rattle.awk_store.specs.Kept.{Kept, own_text}
use Rattle.awk_store.specs.Wholes.{Whole}
use Rattle.awk_input.specs.Performs.{LeadsWhole, MeetsWhole}

-- ---- how far it is read

-- no operand is left
abbrev pub after_operands : Main → Main
after_operands main = if main.named then record main { ended = true } else record main { current = Some (Standard 0) }

-- the standard input is done with
abbrev pub past_standard : Main → Main
past_standard main = record main { current = None; ended = if main.named then false else true }

-- the first record of the stream that the main input comes from, which is taken, has this text
pub record IsMainLine (k : Kept) (old : Table) (text : Text) (new : Table) : Type 0 where
  pub key : Key
  pub going : k.main.ended ≡ false
  pub current : k.main.current ≡ Some key
  pub line : IsLine key (own_text k own.Rs) old text new

-- ---- a message

abbrev pub message : (what name : Text) → Text
message what name = codes "awkbox: cannot " ++ what ++ codes " \"" ++ quoted name ++ codes "\"\n"

-- ---- what is left to be done

-- more records are read, or none is left
abbrev pub more : Bool → List Piece → List Piece
more true k = At Records [] ∷ k
more false k = k

-- by what was read: the record is given, the stream is passed, or it is given up with a message
abbrev pub found_main : Key → NextRecord → List Piece → List Piece
found_main key (found.Record text) k = give (v.Input text) k
found_main key found.End k = Do (Past key) ∷ Do Take ∷ k
found_main key found.Failed k =
    Do (Report (codes "read") (own_name key)) ∷ Do (Forget key) ∷ Do (Past key) ∷ Do Take ∷ k

-- once a record is there, or the end; or there is more to do
abbrev pub taken : Option Value → List Piece → List Piece
taken (Some x) k = give x k
taken None k = Do Take ∷ k

-- a record is set and counted, takes a step, and meets the rules
abbrev pub counted_on : Given → Unit {0} → List Piece → List Piece
counted_on g u k = Do Step ∷ Do (Rules 0 g.program.rules) ∷ At Records [] ∷ k

-- where there was a record; and else what is behind the main input
abbrev pub meeting : Given → Bool → List Piece → List Piece
meeting g true k = counted_on g (tt {0}) k
meeting g false k = k

abbrev pub at_records : List Piece → List Piece
at_records k = At Records [] ∷ k

-- behind whatever was done the machine leads on, or the whole is halted
abbrev pub LeadsOrHalts : {W A : Type 0} → Ghosts W → Given → Piece → Whole → W → (List Piece → List Piece) → Result A Halt →
    Whole → W → Type 0
LeadsOrHalts ghosts g p old w to (Ok x) new w' = LeadsWhole ghosts g p old w to new w'
LeadsOrHalts ghosts g p old w to (Err h) new w' = MeetsWhole ghosts g p (goes_on {A = Unit {0}}) old w (Err h) new w'
