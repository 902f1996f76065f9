-- What the world behind was asked once nothing is held any more.
use Rattle.std.specs.Prelude.{◌≡◌, ℕ, Bool, false, List, [], ◌++◌, Option, None, IsSome, Result, Ok, Err, ◌⊎◌}
use Rattle.box_world.specs.Calls.{Call}
use Rattle.box_blocks.specs.Blocks.{Blocks, Holds}
use Rattle.box_blocks.specs.Follows.{Follows}
use Rattle.box_blocks.specs.Parts.{AllRight, Part, Writing, answered, asked, untold_in}
use Rattle.box_blocks.specs.declared.buffered.NotWritten.{NotWritten}

-- The inner calls are those, but that neighbouring Puts to one stream are joined, and what of a failure is untold yet.
pub record Joined (calls inner : List Call) (untold : Option ℕ) : Type 0 where
  pub parts : List Part
  pub are : calls ≡ answered parts
  pub asks : inner ≡ asked parts
  pub right : AllRight None parts
  pub left : untold ≡ untold_in None parts

-- each call was asked, and each failure told
pub record AllWritten {W : Type 0} (follows : W → List Call → W → Type 0) (first : W) (calls : List Call) (last : W)
    : Type 0 where
  pub inner : List Call
  pub joined : Joined calls inner None
  pub follows_by : follows first inner last

-- the last Puts were answered Done and not asked, or a failure is untold
pub record NotAllWritten {W : Type 0} (follows : W → List Call → W → Type 0) (first : W) (calls : List Call) (last : W)
    : Type 0 where
  pub written : List Call
  pub rest : List Call
  pub are : calls ≡ written ++ rest
  pub inner : List Call
  pub untold : Option ℕ
  pub joined : Joined written inner untold
  pub follows_by : follows first inner last
  pub lost : IsSome untold ⊎ ((held : Writing) × Holds held rest)

abbrev pub Ends : {W : Type 0} → (W → List Call → W → Type 0) → W → List Call → Result (Unit {0}) NotWritten → W
    → Type 0
Ends follows first calls (Ok done) last = AllWritten follows first calls last
Ends follows first calls (Err error) last = NotAllWritten follows first calls last

-- nothing is held and untold any more; or something is
abbrev pub IsEmptied : {W : Type 0} → (W → List Call → W → Type 0) → (W → Bool) → Blocks W
    → Result (Unit {0}) NotWritten → Blocks W → Type 0
IsEmptied follows has_stopped old (Ok done) new =
    Follows follows has_stopped old [] new × (new.held ≡ None) × (new.untold ≡ None)
IsEmptied follows has_stopped old (Err error) new =
    Follows follows has_stopped old [] new × (IsSome new.untold ⊎ IsSome new.held)

-- the world, asked nothing yet
abbrev pub fresh : {W : Type 0} → W → Blocks W
fresh world = record { world = world; held = None; untold = None; stopped = false }
