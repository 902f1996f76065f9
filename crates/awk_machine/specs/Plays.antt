-- Whole runs of plain awk: chains of moves, with any replies that fit and the right answers.
use Rattle.std.specs.Prelude.{ℕ, ◌≡◌, List, [], ◌∷◌, Option, Some, None}
use Rattle.awk_text.specs.declared.place.Place.{Place}
use Rattle.awk_text.specs.declared.fault.Fault.TheVariants.{Memory, Log}
use Rattle.box_world.specs.declared.ask.Reply.{Reply}
use Rattle.box_world.specs.Calls.{IsFitting, open_after}
use Rattle.box_world.specs.Events.{Want, Event, calls, ask_of, open_streams}
use Rattle.awk_machine.specs.Advances.{advance}
use Rattle.awk_machine.specs.Begins.{nothing, first_pieces, first_state}
use Rattle.awk_machine.specs.Pieces.{Piece, Goes, Steps, Asks, Seeks, Over, Outcome, Faulted}
use Rattle.awk_machine.specs.Questions.{Question, Answer, Right}
use Rattle.awk_machine.specs.State.{State, Course, Given}
use Rattle.awk_machine.specs.Streams.{seen, with_step, with_event}

-- a reply that the world may give to what is wanted after these events
abbrev pub Fits : List Event → Want → Reply → Type 0
Fits es w reply = IsFitting (open_after (calls es) []) (ask_of w (open_streams es)).request reply

-- The machine comes from these pieces, this state and this course to those.
pub data Reaches (g : Given) : List Piece → State → Course → List Piece → State → Course → Type 0 where
  here : {k : List Piece} {s : State} {c : Course} → Reaches g k s c k s c
  goes : {k l m : List Piece} {s t u : State} {c d : Course} → advance g k (seen s c) ≡ Goes l t →
      Reaches g l (seen t c) c m u d → Reaches g k s c m u d
  steps : {k l m : List Piece} {s t u : State} {c d : Course} → advance g k (seen s c) ≡ Steps l t →
      Reaches g l (seen t (with_step c)) (with_step c) m u d → Reaches g k s c m u d
  asks : {k m : List Piece} {s t u : State} {c d : Course} {w : Want} {then_ : Reply → List Piece} (reply : Reply) →
      advance g k (seen s c) ≡ Asks w then_ t → Fits c.events w reply →
      Reaches g (then_ reply) (seen t (with_event w reply c)) (with_event w reply c) m u d → Reaches g k s c m u d
  seeks : {k m : List Piece} {s t u : State} {c d : Course} {q : Question} {then_ : Answer → List Piece}
      (answer : Answer) →
      advance g k (seen s c) ≡ Seeks q then_ t → Right q answer → Reaches g (then_ answer) (seen t c) c m u d →
      Reaches g k s c m u d

-- Where a run may end with this outcome: at the end; for want of memory, wherever something is left to do;
-- or at a request whose denial could not be logged, which is no event.
pub data Stands (g : Given) : List Piece → State → Course → Outcome → Option Want → Type 0 where
  over : {k : List Piece} {s : State} {c : Course} {o : Outcome} → advance g k (seen s c) ≡ Over o →
      Stands g k s c o None
  lacks : {p : Piece} {k : List Piece} {s : State} {c : Course} {place : Place} →
      Stands g (p ∷ k) s c (Faulted Memory place) None
  unlogged : {k : List Piece} {s t : State} {c : Course} {w : Want} {then_ : Reply → List Piece} →
      advance g k (seen s c) ≡ Asks w then_ t → Stands g k s c (Faulted Log w.place) (Some w)

-- A whole run: its events, the newest first, its outcome, the steps that it took, and the request that it ended at.
pub record Plays (g : Given) (events : List Event) (o : Outcome) (used : ℕ) (last : Option Want) : Type 0 where
  pub todo : List Piece
  pub end : State
  pub chain : Reaches g (first_pieces g) (first_state g) nothing todo end (record { events = events; used = used })
  pub stands : Stands g todo end (record { events = events; used = used }) o last
