-- The operands of the main input (POSIX.1-2017 XCU awk, "OPERANDS" and "Input Files").
use Rattle.std.specs.Prelude.{◌≡◌, ◌&&◌, Bool, true, false, ℤ, List, ◌∷◌, codes, unwrap_or, Result}
use Rattle.std.specs.List.{before_first, list_any}
use Rattle.awk_text.specs.declared.fault.Fault.{Fault}
use Rattle.awk_program.specs.Slots.{Text, slot_of}
use Rattle.awk_program.specs.declared.variables.Own.TheVariants as own
use Rattle.awk_program.specs.declared.variables.Variable.{Variable}
use Rattle.awk_program.specs.declared.variables.Variable.TheVariants.{Global}
use Rattle.box_world.specs.declared.ask.Mode.TheVariants as mode
use Rattle.box_world.specs.declared.ask.Reply.{Reply}
use Rattle.box_world.specs.declared.ask.Reply.TheVariants as reply
use Rattle.box_world.specs.Events.{Class, OperandFile, Key, Standard, Named, Opens}
use Rattle.awk_machine.specs.MainInput.{is_equals, begin_opened, operand_want}
use Rattle.awk_machine.specs.Moves.{move}
use Rattle.awk_machine.specs.Pieces.{Piece, Do, Begun, Report, Then, Asks}
use Rattle.awk_machine.specs.State.{Course, Given}
use Rattle.awk_machine.specs.Streams.{seen}
use Rattle.awk_store.specs.Kept.{Kept, own_value}
use Rattle.awk_store.specs.Numbers.{whole_number}
use Rattle.awk_store.specs.States.{Hidden}
use Rattle.awk_streams.specs.Tables.{Table, entries_without, open_of}
use Rattle.awk_store.specs.Wholes.{Whole, Agreeing, base, used}
use Rattle.awk_input.specs.Hosts.{Hosted, can_set}

-- how many operands ARGC says there are, less the fraction
abbrev pub operand_count : Kept → Result ℤ Fault
operand_count k = whole_number k.numbers (own_value k own.Argc)

-- the array of the operands
abbrev pub argv : Variable
argv = Global (slot_of own.Argv)

-- whether an operand of this text is an assignment to the host
abbrev pub is_assigning : Hosted → Text → Bool
is_assigning h text = list_any is_equals text && can_set h (before_first is_equals text)

abbrev pub is_done : Reply → Bool
is_done reply.Done = true
is_done other = false

-- the move of the piece is what this does for the state of the other whole, which differs in how far the main input is
-- read
pub record Moves (g : Given) (p : Piece) (old : Whole) (then_ : Then) (new : Whole) : Type 0 where
  pub same : used new ≡ used old
  pub agrees : (hid : Hidden) (c : Course) → Agreeing g old hid c → Agreeing g new hid c
  pub moves : (k : List Piece) (hid : Hidden) (c : Course) → Agreeing g old hid c →
      move g (p ∷ k) (seen (base g old hid) c) ≡ then_ k (seen (base g new hid) c)

-- the operand's file is opened
abbrev pub opening_of : Given → Text → Then
opening_of g text k s = Asks (operand_want g text (Opens mode.Read OperandFile text)) (λ r. begin_opened text k r) s

-- what is left to be done once it is open, or can't be opened
abbrev pub begun_or : Text → Bool → List Piece → List Piece
begun_or text true k = Do (Begun (Named OperandFile text) text) ∷ k
begun_or text false k = Do (Report (codes "open") text) ∷ k

-- the stream that is read now
abbrev pub current_key : Kept → Key
current_key k = unwrap_or k.main.current (Standard 0)

-- but for what is held unread of the stream, and for the room that there is, the tables are one
pub record IsBut (c : Class) (text : Text) (old new : Table) : Type 0 where
  pub streams : open_of new ≡ open_of old
  pub others : entries_without c text new.entries ≡ entries_without c text old.entries
  pub input : new.input ≡ old.input
