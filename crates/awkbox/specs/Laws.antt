-- What holds of any two runs under a policy.
use Rattle.std.specs.Prelude.{◌≡◌, ℕ, List, Option}
use Rattle.awk_machine.specs.Laws.{Alike, IsWhole, replies}
use Rattle.awk_machine.specs.Pieces.{Outcome}
use Rattle.awk_machine.specs.State.{Given}
use Rattle.box_world.specs.Events.{Event, Want, calls}
use Rattle.box_policy.specs.Rulebook.{Rulebook}
use Rattle.box_monitor.specs.Lines.{log_text}
use Rattle.box_monitor.specs.Passed.{passed_on, told_of}
use Rattle.awkbox.specs.Drives.{PlaysUnder}

-- the allowed requests, as events and as calls of the world, the outcome, the steps and the lines of the log
pub record SameRun (book : Rulebook) (es fs : List Event) (o p : Outcome) (m n : ℕ) : Type 0 where
  pub events : passed_on book es ≡ passed_on book fs
  pub asked : calls (passed_on book es) ≡ calls (passed_on book fs)
  pub outcome : o ≡ p
  pub used : m ≡ n
  pub lines : log_text (told_of book es) ≡ log_text (told_of book fs)

-- Two runs under one policy, given one script, setup and bound, whose allowed requests have equal replies at each
-- position that both have, are one run, where neither is ended by want of memory or of the log.
abbrev pub TwoWorlds : Type 0
TwoWorlds =
    (book : Rulebook) (g : Given) (es fs : List Event) (o p : Outcome) (m n : ℕ) (v w : Option Want) →
    PlaysUnder book g es o m v → PlaysUnder book g fs p n w →
    Alike (replies (passed_on book es)) (replies (passed_on book fs)) → IsWhole o → IsWhole p →
    SameRun book es fs o p m n
