-- How a monitor comes to answer `Stop::Memory`.
use Rattle.std.specs.Prelude.{◌≡◌, List, ℕ, Option, None}
use Rattle.box_world.specs.declared.ask.Ask.{Ask}
use Rattle.box_monitor.specs.Denials.{denial_of}
use Rattle.box_monitor.specs.Watch.{Watch}

-- an ask that is not denied, where the world behind answered so; a denied one, where no room was had for its line
abbrev pub Lacks : {W L : Type 0} → (W → Ask → W → Type 0) → Watch W L → Ask → Watch W L → Type 0
Lacks lacks old ask new = denial_of old.policy ask ≡ None → lacks old.world ask new.world
