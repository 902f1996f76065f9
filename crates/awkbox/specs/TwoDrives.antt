-- What holds of any two runs that `drive` has answered for one policy's text, one script's text, one setup and one
-- bound.
use Rattle.std.specs.Prelude.{◌≡◌, ℕ, List, Option}
use Rattle.awk_machine.specs.Laws.{Alike, IsWhole, replies}
use Rattle.awk_machine.specs.Pieces.{Outcome}
use Rattle.awk_run.specs.SetupParts.{SetupParts}
use Rattle.box_monitor.specs.Lines.{log_text}
use Rattle.box_monitor.specs.Passed.{passed_on, told_of}
use Rattle.box_monitor.specs.declared.log_end.LogEnd.{LogEnd}
use Rattle.box_world.specs.Calls.{Call}
use Rattle.box_world.specs.Events.{Event, calls}
use Rattle.box_world.specs.declared.ask.Ask.{Ask}
use Rattle.box_policy.specs.Rulebook.{Rulebook}
use Rattle.awkbox.specs.Drives.{DrivesText}

-- the allowed requests, as events and as calls of the world, the outcome, the steps and the lines of the log
pub record SameDrive (book other : Rulebook) (es fs : List Event) (o p : Outcome) (m n : ℕ) : Type 0 where
  pub policy : book ≡ other
  pub events : passed_on book es ≡ passed_on other fs
  pub asked : calls (passed_on book es) ≡ calls (passed_on other fs)
  pub outcome : o ≡ p
  pub used : m ≡ n
  pub lines : log_text (told_of book es) ≡ log_text (told_of other fs)

module _ {V W K L : Type 0}
    (follows : V → List Call → V → Type 0) (stops : V → List Call → Ask → V → Type 0) (contents : K → Option (List ℕ))
    (follows' : W → List Call → W → Type 0) (stops' : W → List Call → Ask → W → Type 0)
    (contents' : L → Option (List ℕ)) where
  -- Where the allowed requests of both have equal replies at each position that both have, they are one run, whatever
  -- else their worlds and logs are, unless want of memory or of the log ended one of them.
  abbrev pub TwoDrives : Type 0
  TwoDrives =
      (policy script : List ℕ) (setup : SetupParts) (steps : ℕ) (v v' : V) (w w' : W) (k k' : K) (l l' : L)
      (o p : Outcome) (m n : ℕ) (end end' : LogEnd) →
      (x : DrivesText follows stops contents policy script setup steps v k o m end v' k') →
      (y : DrivesText follows' stops' contents' policy script setup steps w l p n end' w' l') →
      Alike (replies (passed_on x.book x.drives.events)) (replies (passed_on y.book y.drives.events)) →
      IsWhole o → IsWhole p →
      SameDrive x.book y.book x.drives.events y.drives.events o p m n
