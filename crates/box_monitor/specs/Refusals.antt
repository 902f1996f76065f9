-- What a monitor does with one denied ask.
use Rattle.std.specs.Prelude.{◌≡◌, ℕ, ◌+◌, ◌-◌, ◌^◌, min, List, [], Option}
use Rattle.std.specs.Io.KnownBytes.{Appends}
use Rattle.box_monitor.specs.Lines.{line_of}
use Rattle.box_monitor.specs.Stops.{LogEnds}
use Rattle.box_monitor.specs.Told.{Told}
use Rattle.box_monitor.specs.Watch.{Watch}

-- one more denied ask was logged and counted
pub record Tells {W L : Type 0} (contents : L → Option (List ℕ))
    (old : Watch W L) (t : Told) (new : Watch W L) : Type 0 where
  pub policy : new.policy ≡ old.policy
  pub world : new.world ≡ old.world
  pub denials : new.denials ≡ min (old.denials + 1) (2 ^ 64 - 1)
  pub stop : new.stop ≡ old.stop
  pub log : Appends (contents old.log) (contents new.log) (line_of t)

-- the log did not take the line of a denied ask
pub record Breaks {W L : Type 0} (contents : L → Option (List ℕ))
    (old : Watch W L) (t : Told) (new : Watch W L) : Type 0 where
  pub policy : new.policy ≡ old.policy
  pub world : new.world ≡ old.world
  pub denials : new.denials ≡ old.denials
  pub log : LogEnds new.stop (contents old.log) (contents new.log) [] (line_of t)
