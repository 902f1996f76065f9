-- What the tasks of streams owe, whatever else the machine holds: they change what is open, and what was taken of it.
use Rattle.std.specs.Prelude.{◌≡◌, ◌≤◌, ◌+◌, ◌==◌, Bool, true, false, ℕ, nat_eq, if◌then◌else◌, List, [], ◌∷◌, ◌++◌}
use Rattle.std.specs.Prelude.{map, length, drop, codes, is_some, Option, Some, None, Result, Ok, Err}
use Rattle.awk_text.specs.declared.place.Place.{Place}
use Rattle.awk_text.specs.declared.value.Value.TheVariants.{Input as InputText}
use Rattle.awk_fields.specs.Rows.{Row}
use Rattle.awk_fields.specs.Takes.{Input}
use Rattle.box_world.specs.Calls.{IsFitting, numbers_after}
use Rattle.box_world.specs.declared.ask.Ask.{Ask}
use Rattle.box_world.specs.declared.ask.Reply.{Reply}
use Rattle.box_world.specs.declared.ask.Reply.TheVariants.{Opened, Failed, Value as GivenValue}
use Rattle.box_world.specs.declared.ask.Request.{Request}
use Rattle.box_world.specs.declared.ask.Request.TheVariants.{Put}
use Rattle.box_world.specs.declared.ask.Stop.{Stop}
use Rattle.box_world.specs.declared.ask.Stop.TheVariants as stop
use Rattle.box_world.specs.Events.{Class, Key, Standard, Named, Stream, find_stream, open_streams}
use Rattle.box_world.specs.declared.world.World.{Ghosts}
use Rattle.awk_program.specs.Slots.{Text}
use Rattle.awk_program.specs.Program.{global}
use Rattle.awk_machine.specs.Getline.{failure}
use Rattle.awk_machine.specs.Pieces.{nowhere, Piece, Do, Read, Set, Element, Environ, Closing, Outcome, give}
use Rattle.awk_machine.specs.State.{State, Course, Given}
use Rattle.awk_machine.specs.Streams.{came, has_ended, same_key}
use Rattle.awk_streams.specs.declared.halt.Halt.{Halt}
use Rattle.awk_streams.specs.Chains.{Follows, Ended, Meets, halt_by}
use Rattle.awk_streams.specs.Tables.{Table, Entry, open_of, find_input}

-- ---- one request

pub record Answered {W : Type 0} (ghosts : Ghosts W) (ask : Ask) (old : W) (reply : Reply) (new : W) : Type 0 where
  pub call : Follows ghosts old ((ask, reply) ∷ []) new
  pub fits : IsFitting (ghosts.open_numbers old) ask.request reply

pub record Refused {W : Type 0} (ghosts : Ghosts W) (ask : Ask) (old : W) (h : Halt) (new : W) : Type 0 where
  pub by : Stop
  pub is : h ≡ halt_by ask.place by
  pub memory : by ≡ stop.Memory → Follows ghosts old [] new
  pub log : by ≡ stop.Log → Ended ghosts old [] ask new

abbrev pub Answers : {W : Type 0} → Ghosts W → Ask → W → Result Reply Halt → W → Type 0
Answers ghosts ask old (Ok reply) new = Answered ghosts ask old reply new
Answers ghosts ask old (Err h) new = Refused ghosts ask old h new

abbrev pub is_failed : Reply → Bool
is_failed Failed = true
is_failed reply = false

-- the numbers that are open after a request
abbrev pub Numbers : Request → List ℕ → Result Reply Halt → List ℕ → Type 0
Numbers request old (Ok reply) new = new ≡ numbers_after request reply old
Numbers request old (Err h) new = new ≡ old

-- ---- the table and the machine

-- what was read of an open stream
abbrev pub input_at : Key → Table → Option Input
input_at (Standard n) table = if n == 0 then Some table.input else None
input_at (Named c text) table = find_input c text table.entries

-- what came of a stream and was not taken, and whether its end came
pub record IsRead (key : Key) (input : Input) (taken : ℕ) (c : Course) : Type 0 where
  pub unread : input.unread ≡ drop taken (came key c.events)
  pub ended : input.ended ≡ has_ended key c.events
  pub within : taken ≤ length (came key c.events)

-- no two streams have one name
abbrev pub Distinct : List Stream → Type 0
Distinct [] = Unit {0}
Distinct (s ∷ ss) = (find_stream s.class s.text ss ≡ None) × Distinct ss

-- the table is what the events say
pub record IsTable (table : Table) (taken : Key → ℕ) (c : Course) : Type 0 where
  pub streams : open_streams c.events ≡ open_of table
  pub distinct : Distinct (open_of table)
  pub inputs : (key : Key) (input : Input) → input_at key table ≡ Some input → IsRead key input (taken key) c

-- the number of a stream that stands open
abbrev pub IsNumber : Key → ℕ → Table → Type 0
IsNumber (Standard n) number table = number ≡ n
IsNumber (Named c text) number table = find_stream c text (open_of table) ≡ Some number

-- what else the machine holds is s
abbrev pub beside : State → Table → (Key → ℕ) → State
beside s table taken = record s { taken = taken }

-- what a task owes, for a table, and whatever else the machine holds
abbrev pub MeetsTable : {W A : Type 0} → Ghosts W → Given → State → Piece → (A → List Piece → List Piece) → Table → W →
    Result A Halt → Table → W → Type 0
MeetsTable ghosts g s p to old w result new w' =
    Meets ghosts (beside s) IsTable (λ table. s.course.used) g p to old w result new w'

abbrev pub goes_on : {A : Type 0} → A → List Piece → List Piece
goes_on x k = k

-- ---- the numbers of the table are open in the world

abbrev pub one_if : Bool → ℕ
one_if b = if b then 1 else 0

-- how often a number stands in a list
abbrev pub times : ℕ → List ℕ → ℕ
times n [] = 0
times n (k ∷ ks) = one_if (nat_eq k n) + times n ks

abbrev pub Within : List ℕ → List ℕ → Type 0
Within own all = (n : ℕ) → times n own ≤ times n all

abbrev pub Owns : List ℕ → Table → Type 0
Owns numbers table = Within (map (λ s. s.number) (open_of table)) numbers

-- ---- an opening

-- the number that a reply opens
abbrev pub number_opened : Reply → Option ℕ
number_opened (Opened n) = Some n
number_opened reply = None

-- the entries once a stream has this number, of which nothing is read
abbrev pub entries_opened : Class → Text → Option ℕ → List Entry → List Entry
entries_opened c text (Some n) es = es
    ++ (record {
      stream = record { class = c; text = text; number = n };
      input =
          record { unread = []; ended = false };
    }) ∷ []
entries_opened c text None es = es

-- but for the room that there is, the tables are one
pub record IsSame (old new : Table) : Type 0 where
  pub entries : new.entries ≡ old.entries
  pub input : new.input ≡ old.input

-- the world was asked, and the table has what it opened
pub record Opening {W : Type 0} (ghosts : Ghosts W) (ask : Ask) (c : Class) (text : Text) (table : Table) (old : W)
    (found : Option ℕ) (after : Table) (new : W) : Type 0 where
  pub reply : Reply
  pub answer : Answered ghosts ask old reply new
  pub number : number_opened reply ≡ found
  pub entries : after.entries ≡ entries_opened c text found table.entries
  pub input : after.input ≡ table.input

abbrev pub Opens : {W : Type 0} → Ghosts W → Ask → Class → Text → Table → W → Result (Option ℕ) Halt → Table → W →
    Type 0
Opens ghosts ask c text table old (Ok found) after new = Opening ghosts ask c text table old found after new
Opens ghosts ask c text table old (Err h) after new = Refused ghosts ask old h new × IsSame table after

-- what is done once a stream is open to be read, or cannot be opened
abbrev pub fetched : Place → Key → Option ℕ → List Piece → List Piece
fetched place key (Some n) k = Do (Read place key) ∷ k
fetched place key None k = give failure k

-- what is left to be done at the end: all that was left, while nothing was shut
abbrev pub left_of : Bool → List Piece → List Piece
left_of true k = []
left_of false k = k

abbrev pub closing : Outcome → Bool → List Piece → List Piece
closing o shut k = Do (Closing o) ∷ left_of shut k

-- ---- the whole of what the code holds: a store, of whatever kind, and the table

-- what the code does not hold
pub record Hidden : Type 0 where
  pub taken : Key → ℕ
  pub row : Row

-- the machine's state, less the course: `base` is what a store and the hidden record say of it
abbrev pub whole : {R : Type 0} → (R → Row → State) → R × Table → Hidden → State
whole base x hid = record (base x.0 hid.row) { taken = hid.taken }

-- the store is sound, and the table is what the events say
abbrev pub Agrees : {R : Type 0} → (R → Row → Type 0) → R × Table → Hidden → Course → Type 0
Agrees Sound x hid c = IsTable x.1 hid.taken c × Sound x.0 hid.row

-- ---- an output

-- what a request puts
abbrev pub text_put : Request → Option Text
text_put (Put n text) = Some text
text_put request = None

-- ---- the environment

abbrev pub value_given : Reply → Option Text
value_given (GivenValue text) = Some text
value_given reply = None

-- what is done once the value of a name is known, or it has none
abbrev pub looked : Text → List Text → Option Text → List Piece → List Piece
looked name names (Some text) k =
    Do (Set (Element (global (codes "ENVIRON")) name nowhere) nowhere (InputText text)) ∷ Do (Environ names) ∷ k
looked name names None k = Do (Environ names) ∷ k

-- ---- reading

-- of an open stream this is held unread now, and of the others what was held before
pub record IsReadAt (key : Key) (input : Input) (old new : Table) : Type 0 where
  pub streams : open_of new ≡ open_of old
  pub live : is_some (input_at key old) ≡ true
  pub inputs : (other : Key) → input_at other new ≡ (if same_key other key then Some input else input_at other old)
