-- How the numbers of streams are opened and shut by what a policy lets through.
use Rattle.std.specs.Prelude.{ℕ, List, Option}
use Rattle.awk_machine.specs.Laws.{IsWhole}
use Rattle.awk_machine.specs.Pieces.{Outcome}
use Rattle.awk_machine.specs.State.{Given}
use Rattle.box_monitor.specs.Passed.{passed_on}
use Rattle.box_policy.specs.Rulebook.{Rulebook}
use Rattle.box_world.specs.Events.{Event, Want, calls}
use Rattle.listing_laws.specs.Turns.{AreShutOnce}
use Rattle.awkbox.specs.Drives.{PlaysUnder}

-- each number that is opened is shut just once before it is opened again or the run ends, unless want of memory or of
-- the log ended it
abbrev pub PassedShut : Type 0
PassedShut =
    (book : Rulebook) (g : Given) (events : List Event) (o : Outcome) (used : ℕ) (last : Option Want) →
    PlaysUnder book g events o used last → IsWhole o →
    AreShutOnce (calls (passed_on book events))
