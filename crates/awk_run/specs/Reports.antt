-- What the report of a run owes.
use Rattle.std.specs.Prelude.{ℕ, Bool, List, Option, None}
use Rattle.awk_text.specs.declared.fault.Fault.TheVariants.{Log}
use Rattle.box_world.specs.Calls.{Call}
use Rattle.box_world.specs.Events.{Want}
use Rattle.box_world.specs.declared.ask.Ask.{Ask}
use Rattle.awk_machine.specs.Laws.{Played}
use Rattle.awk_machine.specs.Pieces.{Outcome, Faulted}
use Rattle.awk_machine.specs.State.{Given}

-- the log ends a run only at a request
abbrev pub IsTold : Outcome → Option Want → Type 0
IsTold (Faulted Log place) None = ⊥
IsTold o last = Unit {0}

-- The report is plain awk's over some events, and the world follows by the calls that they are.
pub record Reported {W : Type 0} (follows : W → List Call → W → Type 0) (has_stopped : W → Bool)
    (stops : W → List Call → Ask → W → Type 0) (g : Given) (old : W) (o : Outcome) (used : ℕ) (new : W) : Type 0 where
  pub played : Played follows has_stopped stops g old o used new
  pub told : IsTold o played.last
