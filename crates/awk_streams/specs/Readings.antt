-- Streams that are read (POSIX.1-2017 XCU awk, "Input/Output and General Functions", getline).
use Rattle.std.specs.Prelude.{◌≡◌, ◌⊎◌, ℕ, Bool, true, false, pos, List, ◌∷◌, ◌++◌, Option, Some, None}
use Rattle.awk_text.specs.declared.place.Place.{Place}
use Rattle.awk_text.specs.declared.fault.Fault.TheVariants.{TextTooLong}
use Rattle.awk_text.specs.declared.value.Value.{Value}
use Rattle.awk_text.specs.declared.value.Value.TheVariants as v
use Rattle.awk_fields.specs.declared.reader.Taken.{Taken}
use Rattle.awk_fields.specs.declared.reader.Taken.TheVariants as taking
use Rattle.awk_fields.specs.Heads.{Head, taken, need_more, done, too_long, head}
use Rattle.awk_fields.specs.Takes.{Input}
use Rattle.box_world.specs.declared.ask.Reply.{Reply}
use Rattle.box_world.specs.declared.ask.Reply.TheVariants.{Bytes, End, Failed}
use Rattle.box_world.specs.Events.{Key, Standard, Named, Reads}
use Rattle.awk_program.specs.Slots.{Text}
use Rattle.awk_machine.specs.Getline.{failure, first_record}
use Rattle.awk_machine.specs.Moves.{move}
use Rattle.awk_machine.specs.Pieces.{Piece, Task, Do, Read, Fetch, Then, Goes, Asks, give, fails}
use Rattle.awk_machine.specs.State.{State, Course, Given}
use Rattle.awk_machine.specs.Streams.{left, seen, want}
use Rattle.awk_streams.specs.declared.getline.NextRecord as declared
use Rattle.awk_streams.specs.declared.getline.NextRecord.TheVariants as found
use Rattle.awk_streams.specs.declared.halt.Halt.{Halt}
use Rattle.awk_streams.specs.declared.halt.Halt.TheVariants as halt
use Rattle.awk_streams.specs.declared.inputs.InputStream.{InputStream}
use Rattle.awk_streams.specs.declared.inputs.InputStream.TheVariants as source
use Rattle.awk_streams.specs.Tables.{Table, kind}
use Rattle.awk_streams.specs.Tasks.{IsReadAt, IsSame, beside, input_at}

-- the key of a stream that is read
abbrev pub key_of : InputStream → Key
key_of source.Standard = Standard 0
key_of (source.Stream name) = Named (kind name.class) name.text.now

-- it stands open
abbrev pub IsLive : Key → Table → Type 0
IsLive key table = (i : Input) × (input_at key table ≡ Some i)

-- so it is with what is held unread of it
abbrev pub Holds : Key → Table → (Input → Type 0) → Type 0
Holds key table Is = (i : Input) → input_at key table ≡ Some i → Is i

-- its end has not come
abbrev pub GoesOn : Key → Table → Type 0
GoesOn key table = Holds key table (λ i. i.ended ≡ false)

-- no record of it is whole yet
abbrev pub Waits : Text → Key → Table → Type 0
Waits rs key table = Holds key table (λ i. head rs i.unread i.ended ≡ need_more)

-- ---- its first record

abbrev pub read_taken : Taken → Option declared.NextRecord
read_taken (taking.Record text) = Some (found.Record text)
read_taken taking.NeedMore = None
read_taken taking.Done = Some found.End

-- the answer, where this is what stands first: the record, which is taken, the end, or none yet
abbrev pub FirstIs : Key → Table → Table → Input → Head → Option declared.NextRecord → Type 0
FirstIs key old new i (taken text rest) (Some x) =
    (x ≡ found.Record text) × IsReadAt key (record { unread = rest; ended = i.ended }) old new
FirstIs key old new i done (Some x) = (x ≡ found.End) × IsReadAt key i old new
FirstIs key old new i need_more None = IsReadAt key i old new
FirstIs key old new i first answer = ⊥

-- the stream is open, and its first record, which is taken, has this text
pub record IsLine (key : Key) (rs : Text) (old : Table) (text : Text) (new : Table) : Type 0 where
  pub before : Input
  pub live : input_at key old ≡ Some before
  pub first : FirstIs key old new before (head rs before.unread before.ended) (Some (found.Record text))

-- it can't be taken: it is too long, or memory is refused
abbrev pub FailsFirst : Place → Head → Halt → Type 0
FailsFirst place first h = (h ≡ halt.Memory) ⊎ ((h ≡ halt.Fault TextTooLong place) × (first ≡ too_long))

-- ---- more of it

-- what came is held, and whether the reading goes on
abbrev pub Received : Key → Table → Table → Input → Reply → Bool → Type 0
Received key old new i (Bytes bytes) on =
    (on ≡ true) × IsReadAt key (record { unread = i.unread ++ bytes; ended = false }) old new
Received key old new i End on = (on ≡ true) × IsReadAt key (record { unread = i.unread; ended = true }) old new
Received key old new i reply on = (on ≡ false) × IsSame old new

-- some bytes came
abbrev pub HasCome : Reply → Type 0
HasCome (Bytes bytes) = Unit {0}
HasCome reply = ⊥

-- ---- the machine reads

-- the piece p reads a record of the stream, and goes on by what was read; requests are made at this place
pub record IsReading (g : Given) (s : State) (p : Piece) (place : Place) (key : Key)
    (to : declared.NextRecord → List Piece → List Piece) : Type 0 where
  -- what it does by what stands first, and by the reply to a request for more
  pub by_head : Head → Then
  pub then_ : List Piece → Reply → List Piece
  pub moves : (k : List Piece) (table : Table) (t : Key → ℕ) (c : Course) → move g (p ∷ k) (seen (beside s table t) c)
      ≡ by_head (first_record key (seen (beside s table t) c)) k (seen (beside s table t) c)
  pub takes : (text rest : Text) (k : List Piece) (t : State) → by_head (taken text rest) k t
      ≡ Goes (to (found.Record text) k) (left key rest t)
  pub ends : (k : List Piece) (t : State) → by_head done k t ≡ Goes (to found.End k) t
  pub faults : (k : List Piece) (t : State) → by_head too_long k t ≡ fails TextTooLong place t
  pub asks : (k : List Piece) (t : State) → by_head need_more k t ≡ Asks (want place (Reads key)) (then_ k) t
  pub again : (k : List Piece) (bytes : Text) → then_ k (Bytes bytes) ≡ p ∷ k
  pub ended : (k : List Piece) → then_ k End ≡ p ∷ k
  pub failed : (k : List Piece) → then_ k Failed ≡ to found.Failed k

-- what is left to be done once there is more to read, or the reading has failed
abbrev pub further : Piece → (declared.NextRecord → List Piece → List Piece) → Bool → List Piece → List Piece
further p to true k = p ∷ k
further p to false k = to found.Failed k

-- where a reading has failed, the end has not come
abbrev pub FailsOpen : Key → declared.NextRecord → Table → Type 0
FailsOpen key found.Failed table = GoesOn key table
FailsOpen key other table = Unit {0}

-- ---- getline

-- the value of what was read: the record as input, 0 at the end, and -1 where it failed
abbrev pub read_value : declared.NextRecord → Value
read_value (found.Record text) = v.Input text
read_value found.End = v.Num (pos 0)
read_value found.Failed = failure

abbrev pub gives_read : declared.NextRecord → List Piece → List Piece
gives_read x k = give (read_value x) k

-- what is left to be done once a stream stands open to be read, or can't be opened
abbrev pub read_further : Place → Key → Bool → List Piece → List Piece
read_further place key on k = further (Do (Read place key)) gives_read on k

-- a record of a stream that is opened where it is not open; the standard input is
abbrev pub fetching : Place → Key → Task
fetching place (Standard n) = Read place (Standard n)
fetching place (Named class text) = Fetch place class text
