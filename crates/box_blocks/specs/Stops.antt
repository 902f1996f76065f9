-- How a world that joins Puts comes to answer `Stop::Log`.
use Rattle.std.specs.Prelude.{◌≡◌, true, List, [], ◌++◌, ◌⊎◌}
use Rattle.box_world.specs.Calls.{Call}
use Rattle.box_world.specs.declared.ask.Ask.{Ask}
use Rattle.box_blocks.specs.Blocks.{AreHeld, Blocks, Holds}
use Rattle.box_blocks.specs.Parts.{AllRight, Part, Writing, answered, asked, put_of}

-- the world behind is asked for what is held first
abbrev pub IsAskedFirst : List Call → Ask → Ask → Type 0
IsAskedFirst rest ask first =
    ((rest ≡ []) × (first ≡ ask)) ⊎ ((held : Writing) × Holds held rest × (first ≡ put_of held))

-- the world behind stops, at what is held or at the ask
pub record StopsBehind {W : Type 0} (stops : W → List Call → Ask → W → Type 0) (old : Blocks W)
    (puts calls : List Call) (ask : Ask) (new : Blocks W) : Type 0 where
  pub parts : List Part
  pub rest : List Call
  pub are : puts ++ calls ≡ answered parts ++ rest
  pub right : AllRight old.untold parts
  pub first : Ask
  pub is_first : IsAskedFirst rest ask first
  pub inner : stops old.world (asked parts) first new.world

-- it had stopped before, or the world behind stops
abbrev pub Stops : {W : Type 0} → (W → List Call → Ask → W → Type 0) → Blocks W → List Call → Ask → Blocks W → Type 0
Stops stops old calls ask new =
    (old.stopped ≡ true)
    ⊎ ((puts : List Call) → AreHeld old.held puts → StopsBehind stops old puts calls ask new)
