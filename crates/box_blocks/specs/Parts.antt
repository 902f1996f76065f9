-- What is asked of a world in place of calls whose neighbouring Puts are joined.
use Rattle.std.specs.Prelude.{◌≡◌, ℕ, ◌≤◌, Bool, List, [], ◌∷◌, ◌++◌, length, map, flat_map, Option, None, Some}
use Rattle.awk_text.specs.declared.place.Place.{Place}
use Rattle.box_world.specs.Calls.{Call}
use Rattle.box_world.specs.declared.ask.Ask.{Ask}
use Rattle.box_world.specs.declared.ask.Reply.{Reply}
use Rattle.box_world.specs.declared.ask.Reply.TheVariants.{Done, Failed}
use Rattle.box_world.specs.declared.ask.Request.{Request}
use Rattle.box_world.specs.declared.ask.Request.TheVariants.{Put, Shut}

-- an ask that is a Put
pub record Writing : Type 0 where
  pub place : Place
  pub given : Bool
  pub number : ℕ
  pub bytes : List ℕ

abbrev pub put_of : Writing → Ask
put_of w = record { place = w.place; given = w.given; request = Put w.number w.bytes }

-- the Put, answered Done
abbrev pub done : Writing → Call
done w = (put_of w, Done)

-- one in place of several: the first, with the bytes of all
abbrev pub joined : Writing → List Writing → Writing
joined first more = record first { bytes = first.bytes ++ flat_map (λ w. w.bytes) more }

abbrev pub AllTo : ℕ → List Writing → Type 0
AllTo n [] = Unit {0}
AllTo n (w ∷ ws) = (w.number ≡ n) × AllTo n ws

-- How calls go together with those of the world behind.
pub data Part : Type 0 where
  -- one that was asked as it came, with the reply of the world behind
  Same : Call → Part
  -- neighbouring Puts to one stream, each answered Done, and the reply to the one that was asked in their place
  Block : Writing → List Writing → Reply → Part
  -- a Put that was not asked, and answered Failed, since a block before it had failed
  Refused : Ask → Part
  -- a Shut that was asked, with the reply of the world behind, and answered Failed, since a block before it had
  Ended : Ask → Reply → Part

-- the calls as they were answered
abbrev pub answered_of : Part → List Call
answered_of (Same call) = call ∷ []
answered_of (Block first more reply) = map done (first ∷ more)
answered_of (Refused ask) = (ask, Failed) ∷ []
answered_of (Ended ask reply) = (ask, Failed) ∷ []

-- the calls of the world behind
abbrev pub asked_of : Part → List Call
asked_of (Same call) = call ∷ []
asked_of (Block first more reply) = (put_of (joined first more), reply) ∷ []
asked_of (Refused ask) = []
asked_of (Ended ask reply) = (ask, reply) ∷ []

abbrev pub answered : List Part → List Call
answered parts = flat_map answered_of parts

abbrev pub asked : List Part → List Call
asked parts = flat_map asked_of parts

-- Of a stream's block that failed no reply has told yet: `untold` is that stream's number. The next Put to it tells it,
abbrev pub IsPutTo : Option ℕ → Request → Type 0
IsPutTo untold (Put n bytes) = untold ≡ Some n
IsPutTo untold request = ⊥

-- or its Shut
abbrev pub IsShutOf : Option ℕ → Request → Type 0
IsShutOf untold (Shut n) = untold ≡ Some n
IsShutOf untold request = ⊥

-- The part may be next. While a failure is untold, nothing is joined; a block has at most 65,536 bytes.
abbrev pub IsRight : Option ℕ → Part → Type 0
IsRight untold (Same call) = (¬ IsPutTo untold call.0.request) × (¬ IsShutOf untold call.0.request)
IsRight untold (Block first more reply) =
    (untold ≡ None) × AllTo first.number more × (length (joined first more).bytes ≤ 65536)
IsRight untold (Refused ask) = IsPutTo untold ask.request
IsRight untold (Ended ask reply) = IsShutOf untold ask.request

-- whose failure is untold after a block of this stream
abbrev pub untold_by : ℕ → Reply → Option ℕ
untold_by n Done = None
untold_by n reply = Some n

abbrev pub untold_after : Option ℕ → Part → Option ℕ
untold_after untold (Same call) = untold
untold_after untold (Block first more reply) = untold_by first.number reply
untold_after untold (Refused ask) = None
untold_after untold (Ended ask reply) = None

abbrev pub untold_in : Option ℕ → List Part → Option ℕ
untold_in untold [] = untold
untold_in untold (part ∷ parts) = untold_in (untold_after untold part) parts

abbrev pub AllRight : Option ℕ → List Part → Type 0
AllRight untold [] = Unit {0}
AllRight untold (part ∷ parts) = IsRight untold part × AllRight (untold_after untold part) parts
