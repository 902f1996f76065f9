-- Streams, read off what was asked and answered; the newest event comes first
-- (POSIX.1-2017 XCU awk, "Input/Output and General Functions").
use Rattle.std.specs.Prelude.{ℕ, ◌+◌, ◌-◌, Bool, true, false, if◌then◌else◌, ◌&&◌, ◌==◌, List, [], ◌∷◌, ◌++◌, drop}
use Rattle.std.specs.Prelude.{length, is_some}
use Rattle.std.specs.Str.{bytes_eq}
use Rattle.awk_text.specs.declared.place.Place.{Place}
use Rattle.awk_program.specs.Slots.{Text}
use Rattle.box_world.specs.declared.ask.Reply.{Reply}
use Rattle.box_world.specs.declared.ask.Reply.TheVariants.{Opened, Bytes, End}
use Rattle.box_world.specs.Events.{Key, Standard, Named, class_number, Wish, Opens, Reads, Want, Event, find_stream}
use Rattle.box_world.specs.Events.{open_streams}
use Rattle.awk_machine.specs.State.{State, Course}

abbrev pub same_key : Key → Key → Bool
same_key (Standard m) (Standard n) = m == n
same_key (Named c s) (Named d t) = (class_number c == class_number d) && bytes_eq s t
same_key one other = false

-- a standard stream, or one whose last opening that succeeded has no later shutting
abbrev pub is_live : Key → List Event → Bool
is_live (Standard n) es = true
is_live (Named class text) es = is_some (find_stream class text (open_streams es))

-- whether the event opens the stream
abbrev pub opens : Key → Wish → Reply → Bool
opens key (Opens mode class text) (Opened n) = same_key key (Named class text)
opens key wish reply = false

-- the bytes that came since it was opened, in order
abbrev pub with_bytes : Key → Wish → Reply → Text → Text
with_bytes key (Reads other) (Bytes bytes) text = if same_key key other then text ++ bytes else text
with_bytes key wish reply text = if opens key wish reply then [] else text

abbrev pub came : Key → List Event → Text
came key [] = []
came key (e ∷ es) = with_bytes key e.want.wish e.reply (came key es)

-- whether its end came since then
abbrev pub ended_after : Key → Wish → Reply → Bool → Bool
ended_after key (Reads other) End ended = if same_key key other then true else ended
ended_after key wish reply ended = if opens key wish reply then false else ended

abbrev pub has_ended : Key → List Event → Bool
has_ended key [] = false
has_ended key (e ∷ es) = ended_after key e.want.wish e.reply (has_ended key es)

-- what came and was not taken
abbrev pub unread : Key → State → Text
unread key s = drop (s.taken key) (came key s.course.events)

abbrev pub with_taken : Key → ℕ → State → State
with_taken key n s = record s { taken = λ other. if same_key key other then n else s.taken other }

-- a record is taken, and this is left behind it
abbrev pub left : Key → Text → State → State
left key rest s = with_taken key (length (came key s.course.events) - length rest) s

-- ---- requests

-- one that is no operand's
abbrev pub want : Place → Wish → Want
want place wish = record { place = place; given = false; wish = wish }

abbrev pub event : Want → Reply → Event
event w reply = record { want = w; reply = reply }

-- the state, as a move sees it after this course
abbrev pub seen : State → Course → State
seen s c = record s { course = c }

-- one step more, and one event more
abbrev pub with_step : Course → Course
with_step c = record c { used = c.used + 1 }

abbrev pub with_event : Want → Reply → Course → Course
with_event w reply c = record c { events = event w reply ∷ c.events }
