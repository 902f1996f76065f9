-- How a monitor comes to answer `Stop::Log`.
use Rattle.std.specs.Prelude.{◌≡◌, ℕ, ◌<◌, true, List, ◌++◌, length, take, Option, None, Some, is_some, ◌⊎◌}
use Rattle.std.specs.Io.KnownBytes.{Appends}
use Rattle.box_world.specs.Calls.{Call}
use Rattle.box_world.specs.declared.ask.Ask.{Ask}
use Rattle.box_monitor.specs.Asked.{after, asked, told}
use Rattle.box_monitor.specs.Denials.{denial_of}
use Rattle.box_monitor.specs.Lines.{line_of, log_text}
use Rattle.box_monitor.specs.Told.{Told}
use Rattle.box_monitor.specs.Watch.{Watch}
use Rattle.box_monitor.specs.declared.log_end.LogEnd.{LogEnd}
use Rattle.box_monitor.specs.declared.log_end.LogEnd.TheVariants.{Whole, Part, Unsure}

-- known bytes grow by the text and then by the first bytes of the line, but not by all of it
abbrev pub AppendsPart : Option (List ℕ) → Option (List ℕ) → List ℕ → List ℕ → Type 0
AppendsPart old new text line = (n : ℕ) × (n < length line) × Appends old new (text ++ take n line)

-- How the log ends where the monitor stops at a denied ask: after the text it has a part of the line,
-- or its writer was given the whole line and could not flush it.
abbrev pub LogEnds : Option LogEnd → Option (List ℕ) → Option (List ℕ) → List ℕ → List ℕ → Type 0
LogEnds (Some Part) old new text line = AppendsPart old new text line
LogEnds (Some Unsure) old new text line = Appends old new (text ++ line)
LogEnds (Some Whole) old new text line = ⊥
LogEnds None old new text line = ⊥

-- it stops at a denied ask, whose line the log did not take whole
pub record StopsAtLog {W L : Type 0} (contents : L → Option (List ℕ))
    (old : Watch W L) (calls : List Call) (ask : Ask) (new : Watch W L) : Type 0 where
  pub line : Told
  pub denied : denial_of (after old.policy calls) ask ≡ Some line
  pub log : LogEnds new.stop (contents old.log) (contents new.log) (log_text (told old.policy calls)) (line_of line)

-- it stops at an ask that is not denied, where the world behind does
pub record StopsInside {W L : Type 0} (stops : W → List Call → Ask → W → Type 0) (contents : L → Option (List ℕ))
    (old : Watch W L) (calls : List Call) (ask : Ask) (new : Watch W L) : Type 0 where
  pub allowed : denial_of (after old.policy calls) ask ≡ None
  pub inner : stops old.world (asked old.policy calls) ask new.world
  pub stop : new.stop ≡ Some Whole
  pub log : Appends (contents old.log) (contents new.log) (log_text (told old.policy calls))

-- it had stopped before, or stops at the log, or inside
abbrev pub Stops : {W L : Type 0} → (W → List Call → Ask → W → Type 0) → (L → Option (List ℕ))
    → Watch W L → List Call → Ask → Watch W L → Type 0
Stops stops contents old calls ask new =
    (is_some old.stop ≡ true) ⊎ StopsAtLog contents old calls ask new ⊎ StopsInside stops contents old calls ask new
