-- How a world that joins Puts goes on by calls that it answered.
use Rattle.std.specs.Prelude.{◌≡◌, Bool, false, List, ◌++◌}
use Rattle.box_world.specs.Calls.{Call}
use Rattle.box_blocks.specs.Blocks.{AreHeld, Blocks}
use Rattle.box_blocks.specs.Parts.{AllRight, Part, answered, asked, untold_in}

-- What was held before and the calls are parts, of which the world behind was asked each, and what is held now.
pub record Goes {W : Type 0} (follows : W → List Call → W → Type 0) (old : Blocks W) (puts calls : List Call)
    (new : Blocks W) : Type 0 where
  pub parts : List Part
  pub rest : List Call
  pub are : puts ++ calls ≡ answered parts ++ rest
  pub held : AreHeld new.held rest
  pub right : AllRight old.untold parts
  pub untold : new.untold ≡ untold_in old.untold parts
  pub inner : follows old.world (asked parts) new.world

-- it had not stopped, and neither has the world behind
pub record Steady {W : Type 0} (has_stopped : W → Bool) (old new : Blocks W) : Type 0 where
  pub before : old.stopped ≡ false
  pub same : has_stopped new.world ≡ has_stopped old.world

-- so it goes on, whichever Puts are those that were held before
pub record Follows {W : Type 0} (follows : W → List Call → W → Type 0) (has_stopped : W → Bool) (old : Blocks W)
    (calls : List Call) (new : Blocks W) : Type 0 where
  pub goes : (puts : List Call) → AreHeld old.held puts → Goes follows old puts calls new
  pub steady : new.stopped ≡ false → Steady has_stopped old new
