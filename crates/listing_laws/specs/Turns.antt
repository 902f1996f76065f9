-- How the number of a stream is opened and shut: in turn, and in the end it is shut.
use Rattle.std.specs.Prelude.{◌≡◌, ℕ, Bool, true, false, not, ◌==◌, List, [], ◌∷◌, Option}
use Rattle.awk_machine.specs.Laws.{IsWhole}
use Rattle.awk_machine.specs.Pieces.{Outcome}
use Rattle.awk_machine.specs.Plays.{Plays}
use Rattle.awk_machine.specs.State.{Given}
use Rattle.box_world.specs.Calls.{Call}
use Rattle.box_world.specs.Events.{Event, Want, calls}
use Rattle.box_world.specs.declared.ask.Reply.{Reply}
use Rattle.box_world.specs.declared.ask.Reply.TheVariants.{Opened}
use Rattle.box_world.specs.declared.ask.Request.{Request}
use Rattle.box_world.specs.declared.ask.Request.TheVariants.{Open, Shut}

-- the call opens the stream of this number; it shuts it, whatever the reply
abbrev pub opens : ℕ → Request → Reply → Bool
opens n (Open mode text) (Opened k) = k == n
opens n request reply = false

abbrev pub shuts : ℕ → Request → Bool
shuts n (Shut k) = k == n
shuts n request = false

-- The number is open now, or it is not. While it is open, no call opens it, up to the one that shuts it; while it is
-- not open, none shuts it, up to one that opens it; and it is not open in the end.
abbrev pub TakesTurns : ℕ → Bool → List Call → Type 0
TakesTurns n is_open [] = is_open ≡ false
TakesTurns n true (c ∷ cs) = (opens n c.0.request c.1 ≡ false) × TakesTurns n (not (shuts n c.0.request)) cs
TakesTurns n false (c ∷ cs) = (shuts n c.0.request ≡ false) × TakesTurns n (opens n c.0.request c.1) cs

-- each number that is opened is shut just once before it is opened again, or before the calls end
abbrev pub AreShutOnce : List Call → Type 0
AreShutOnce cs = (n : ℕ) → TakesTurns n false cs

-- so it is of the calls of a run, unless want of memory or of the log ended it
abbrev pub NumbersShut : Type 0
NumbersShut =
    (g : Given) (events : List Event) (o : Outcome) (used : ℕ) (last : Option Want) →
    Plays g events o used last → IsWhole o → AreShutOnce (calls events)
