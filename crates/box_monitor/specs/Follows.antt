-- How a monitor goes on by calls that it answered.
use Rattle.std.specs.Prelude.{◌≡◌, ℕ, ◌+◌, ◌-◌, ◌^◌, ◌≤◌, min, Bool, List, length, Option, None}
use Rattle.std.specs.Io.KnownBytes.{Appends}
use Rattle.box_world.specs.Calls.{Call}
use Rattle.box_monitor.specs.Asked.{after, asked, told, AllFailed}
use Rattle.box_monitor.specs.Lines.{log_text}
use Rattle.box_monitor.specs.Watch.{Watch}

-- What holds as long as the monitor has not stopped. The world behind has not stopped either, and the
-- log has grown by the lines of what was denied, where its writer tells its bytes.
pub record Goes {W L : Type 0} (has_stopped : W → Bool) (contents : L → Option (List ℕ))
    (old : Watch W L) (calls : List Call) (new : Watch W L) : Type 0 where
  pub before : old.stop ≡ None
  pub steady : has_stopped new.world ≡ has_stopped old.world
  pub log : Appends (contents old.log) (contents new.log) (log_text (told old.policy calls))

-- The monitor goes on by these calls: the world behind by those that are not denied, which were counted
-- for the rules that allow them, and the others were answered Failed, counted and told.
pub record Follows {W L : Type 0} (follows : W → List Call → W → Type 0) (has_stopped : W → Bool)
    (contents : L → Option (List ℕ)) (old : Watch W L) (calls : List Call) (new : Watch W L) : Type 0 where
  pub policy : new.policy ≡ after old.policy calls
  pub inner : follows old.world (asked old.policy calls) new.world
  pub failed : AllFailed old.policy calls
  pub denials : old.denials ≤ 2 ^ 64 - 1 → new.denials ≡ min (old.denials + length (told old.policy calls)) (2 ^ 64 - 1)
  pub goes : new.stop ≡ None → Goes has_stopped contents old calls new
