-- What a script asks of the world, as plain awk speaks of it: streams go by keys, never by numbers
-- (POSIX.1-2017 XCU awk, "Input and Output").
use Rattle.std.specs.Prelude.{ℕ, ◌^◌, List, [], ◌∷◌, ◌++◌, Bool, true, false, if◌then◌else◌, ◌&&◌, ◌==◌, Option, Some}
use Rattle.std.specs.Prelude.{None, unwrap_or, map}
use Rattle.std.specs.Str.{bytes_eq}
use Rattle.awk_text.specs.declared.place.Place.{Place}
use Rattle.box_world.specs.declared.ask.Ask.{Ask}
use Rattle.box_world.specs.declared.ask.Mode.{Mode}
use Rattle.box_world.specs.declared.ask.Reply.{Reply}
use Rattle.box_world.specs.declared.ask.Reply.TheVariants.{Opened, Failed}
use Rattle.box_world.specs.declared.ask.Request.{Request}
use Rattle.box_world.specs.declared.ask.Request.TheVariants.{Open, Next, Put, Shut, System, Env, Assign}
use Rattle.box_world.specs.Calls.{Call}

-- what sort of stream a text names
pub data Class : Type 0 where
  OperandFile : Class
  InputFile : Class
  InputCommand : Class
  OutputFile : Class
  OutputCommand : Class

-- the name of a stream: a standard one by its number, another by its class and its text
pub data Key : Type 0 where
  Standard : ℕ → Key
  Named : Class → List ℕ → Key

-- a request that names its stream by a key
pub data Wish : Type 0 where
  Opens : Mode → Class → List ℕ → Wish
  Reads : Key → Wish
  Writes : Key → List ℕ → Wish
  Shuts : Key → Wish
  Runs : List ℕ → Wish
  Looks : List ℕ → Wish
  Assigns : List ℕ → List ℕ → Wish

-- a wish, its place in the script, and whether it is of an operand that was given
pub record Want : Type 0 where
  pub place : Place
  pub given : Bool
  pub wish : Wish

-- a request and the world's reply to it
pub record Event : Type 0 where
  pub want : Want
  pub reply : Reply

-- a stream that is open, and its number
pub record Stream : Type 0 where
  pub class : Class
  pub text : List ℕ
  pub number : ℕ

-- one number for each class
abbrev pub class_number : Class → ℕ
class_number OperandFile = 0
class_number InputFile = 1
class_number InputCommand = 2
class_number OutputFile = 3
class_number OutputCommand = 4

-- whether the stream is the one of this class and text
abbrev pub is_named : Class → List ℕ → Stream → Bool
is_named class text stream = (class_number class == class_number stream.class) && bytes_eq text stream.text

-- the number of the stream of this class and text
abbrev pub find_stream : Class → List ℕ → List Stream → Option ℕ
find_stream class text [] = None
find_stream class text (s ∷ ss) = if is_named class text s then Some s.number else find_stream class text ss

-- the streams without the first of this class and text
abbrev pub without_stream : Class → List ℕ → List Stream → List Stream
without_stream class text [] = []
without_stream class text (s ∷ ss) = if is_named class text s then ss else s ∷ without_stream class text ss

-- the open streams after one more event: an opening that succeeded adds its stream, a shutting ends it whatever the
-- reply
abbrev pub streams_after : Wish → Reply → List Stream → List Stream
streams_after (Opens mode class text) (Opened n) streams =
    streams ++ (record { class = class; text = text; number = n }) ∷ []
streams_after (Shuts (Named class text)) reply streams = without_stream class text streams
streams_after wish reply streams = streams

-- the streams that are open after these events, in order of opening; the newest event comes first
abbrev pub open_streams : List Event → List Stream
open_streams [] = []
open_streams (e ∷ es) = streams_after e.want.wish e.reply (open_streams es)

-- a number that no stream has: those of streams are below it
abbrev pub no_stream : ℕ
no_stream = 2 ^ 32

-- the number that stands for a key; one that is not open has none, and no run names it
abbrev pub number_of : Key → List Stream → ℕ
number_of (Standard n) streams = n
number_of (Named class text) streams = unwrap_or (find_stream class text streams) no_stream

-- the request of the world that a wish is, where these streams are open
abbrev pub request_of : Wish → List Stream → Request
request_of (Opens mode class text) streams = Open mode text
request_of (Reads key) streams = Next (number_of key streams)
request_of (Writes key bytes) streams = Put (number_of key streams) bytes
request_of (Shuts key) streams = Shut (number_of key streams)
request_of (Runs command) streams = System command
request_of (Looks name) streams = Env name
request_of (Assigns name text) streams = Assign name text

abbrev pub ask_of : Want → List Stream → Ask
ask_of want streams = record { place = want.place; given = want.given; request = request_of want.wish streams }

-- the calls of the world that the events are, the oldest call first; the newest event comes first
abbrev pub calls : List Event → List Call
calls [] = []
calls (e ∷ es) = calls es ++ (ask_of e.want (open_streams es), e.reply) ∷ []

-- what was wanted by the events, the oldest first; the newest event comes first
abbrev pub wants : List Event → List Want
wants [] = []
wants (e ∷ es) = wants es ++ e.want ∷ []

-- a request that may fail without a fault of its own: a denial and a failure of the world look alike
abbrev pub Fails : Event → Type 0
Fails e = FailsAs e.want.wish e.reply
  where
    FailsAs : Wish → Reply → Type 0
    FailsAs (Opens mode class text) Failed = Unit {0}
    FailsAs (Runs command) Failed = Unit {0}
    FailsAs (Looks name) Failed = Unit {0}
    FailsAs (Assigns name text) Failed = Unit {0}
    FailsAs wish reply = ⊥
