-- What a run under a policy does: it is plain awk's, but for what the policy denies (POSIX.1-2017 XCU awk).
use Rattle.std.specs.Prelude.{◌≡◌, ℕ, ◌-◌, ◌^◌, min, List, length, Option, None, Some, ◌⊎◌}
use Rattle.std.specs.Io.KnownBytes.{Appends}
use Rattle.awk_machine.specs.Pieces.{Outcome, Faulted}
use Rattle.awk_machine.specs.Plays.{Plays}
use Rattle.awk_machine.specs.State.{Given}
use Rattle.awk_parse.specs.declared.script.Script.{Script}
use Rattle.awk_run.specs.Givens.{given_of}
use Rattle.awk_run.specs.SetupParts.{SetupParts}
use Rattle.awk_text.specs.declared.fault.Fault.TheVariants.{Log as NoLog}
use Rattle.box_world.specs.Calls.{Call}
use Rattle.box_world.specs.Events.{Event, Want, ask_of, calls, open_streams}
use Rattle.box_world.specs.declared.ask.Ask.{Ask}
use Rattle.box_policy.specs.Rulebook.{Rulebook}
use Rattle.box_monitor.specs.Lines.{line_of, log_text}
use Rattle.box_monitor.specs.Passed.{DeniedFail, denial_after, passed_on, told_of}
use Rattle.box_monitor.specs.Stops.{LogEnds}
use Rattle.box_monitor.specs.Told.{Told}
use Rattle.box_monitor.specs.declared.log_end.LogEnd.{LogEnd}
use Rattle.box_monitor.specs.declared.log_end.LogEnd.TheVariants.{Whole}
use Rattle.awkbox.specs.Accepted.{Accepted}

-- Plain awk plays these events, the newest first, to this outcome, in these steps, and each that the policy denies
-- after those before it has failed, as awk lets it fail. The last request, which is no event, is the one that the log
-- ended the run at.
pub record PlaysUnder (book : Rulebook) (g : Given) (events : List Event) (o : Outcome) (used : ℕ) (last : Option Want)
    : Type 0 where
  pub plays : Plays g events o used last
  pub failed : DeniedFail book events

module _ {W L : Type 0} (stops : W → List Call → Ask → W → Type 0) (contents : L → Option (List ℕ)) where
  -- the log has the line of each denial, in order, and no more
  pub record EndsWhole (book : Rulebook) (log : L) (events : List Event) (end : LogEnd) (log' : L) : Type 0 where
    pub whole : end ≡ Whole
    pub lines : Appends (contents log) (contents log') (log_text (told_of book events))

  -- the last request is denied, and the log did not take its line whole
  pub record EndsAtLog (book : Rulebook) (log : L) (events : List Event) (want : Want) (end : LogEnd) (log' : L) : Type
      0 where
    pub line : Told
    pub denied : denial_after book events want ≡ Some line
    pub ends : LogEnds (Some end) (contents log) (contents log') (log_text (told_of book events)) (line_of line)

  -- the last request is not denied, and the world may stop at it of itself
  pub record EndsInside (book : Rulebook) (world : W) (log : L) (events : List Event) (want : Want) (end : LogEnd)
      (world' : W) (log' : L) : Type 0 where
    pub allowed : denial_after book events want ≡ None
    pub inner : stops world (calls (passed_on book events)) (ask_of want (open_streams events)) world'
    pub whole : EndsWhole book log events end log'

  -- How the log stands: whole, but where the last request ended the run with F12.
  abbrev pub LogStands : Rulebook → W → L → List Event → Outcome → Option Want → LogEnd → W → L → Type 0
  LogStands book world log events (Faulted NoLog place) (Some want) end world' log' =
      EndsAtLog book log events want end log' ⊎ EndsInside book world log events want end world' log'
  LogStands book world log events (Faulted NoLog place) None end world' log' = ⊥
  LogStands book world log events outcome last end world' log' = EndsWhole book log events end log'

module _ {W L : Type 0} (follows : W → List Call → W → Type 0) (stops : W → List Call → Ask → W → Type 0)
    (contents : L → Option (List ℕ)) where
  -- The run is plain awk's over some events, of which each denied one failed; the world comes from the first one by
  -- exactly the others, unchanged and in order; and the log tells of the denied ones.
  pub record Drives (book : Rulebook) (g : Given) (world : W) (log : L) (o : Outcome) (used : ℕ) (end : LogEnd)
      (world' : W) (log' : L) : Type 0 where
    pub events : List Event
    pub last : Option Want
    pub plays : PlaysUnder book g events o used last
    pub passed : follows world (calls (passed_on book events)) world'
    pub stands : LogStands stops contents book world log events o last end world' log'

  -- the same, and so many lines were told; from 2^64 - 1 on no more are counted
  pub record DrivesCounted (book : Rulebook) (g : Given) (world : W) (log : L) (o : Outcome) (used denials : ℕ)
      (end : LogEnd) (world' : W) (log' : L) : Type 0 where
    pub drives : Drives book g world log o used end world' log'
    pub counted : denials ≡ min (length (told_of book drives.events)) (2 ^ 64 - 1)

  -- the same of the texts of a policy and of a script
  pub record DrivesText (policy script : List ℕ) (setup : SetupParts) (steps : ℕ) (world : W) (log : L) (o : Outcome)
      (used : ℕ) (end : LogEnd) (world' : W) (log' : L) : Type 0 where
    pub book : Rulebook
    pub spelled : Script
    pub accepted : Accepted setup.numbers policy script setup.assigns book spelled
    pub drives : Drives book (given_of spelled setup steps) world log o used end world' log'
