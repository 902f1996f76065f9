-- What each step of a world that joins Puts does.
use Rattle.std.specs.Prelude.{◌≡◌, true, ℕ, Bool, List, [], ◌∷◌, ◌++◌, None, Some, IsSome, Result, Ok, Err, ◌⊎◌}
use Rattle.box_world.specs.Calls.{Call, IsFitting}
use Rattle.box_world.specs.declared.ask.Ask.{Ask}
use Rattle.box_world.specs.declared.ask.Reply.{Reply}
use Rattle.box_world.specs.declared.ask.Stop.{Stop}
use Rattle.box_world.specs.declared.ask.Stop.TheVariants.{Memory, Log}
use Rattle.box_blocks.specs.Blocks.{Blocks, MayBeHeld}
use Rattle.box_blocks.specs.Follows.{Follows}
use Rattle.box_blocks.specs.Parts.{Writing, put_of}
use Rattle.box_blocks.specs.Stops.{Stops}

-- what is held is taken, to be asked
pub record Takes {W : Type 0} (open_numbers : W → List ℕ) (old new : Blocks W) (ask : Ask) : Type 0 where
  pub held : Writing
  pub was : old.held ≡ Some held
  pub is_ask : ask ≡ put_of held
  pub may : MayBeHeld (open_numbers old.world) old.untold held
  pub left : new ≡ record old { held = None }

-- a Put is joined to what is held
pub record JoinsTo {W : Type 0} (old : Blocks W) (ask : Ask) (new : Blocks W) : Type 0 where
  pub held : Writing
  pub more : Writing
  pub was : old.held ≡ Some held
  pub is_ask : ask ≡ put_of more
  pub to_same : more.number ≡ held.number
  pub left : new ≡ record old { held = Some (record held { bytes = held.bytes ++ more.bytes }) }

-- a Put is held
pub record BeginsWith {W : Type 0} (old : Blocks W) (ask : Ask) (new : Blocks W) : Type 0 where
  pub held : Writing
  pub is_ask : ask ≡ put_of held
  pub left : new ≡ record old { held = Some held }

-- the world behind lacks memory for what is held, or for the ask
pub record Lacks {W : Type 0} (follows : W → List Call → W → Type 0) (lacks : W → Ask → W → Type 0)
    (old : Blocks W) (ask : Ask) (new : Blocks W) : Type 0 where
  pub behind : W
  pub reached : (behind ≡ old.world) ⊎ ((calls : List Call) × follows old.world calls behind)
  pub at_ask : Ask
  pub is_asked : (at_ask ≡ ask) ⊎ ((held : Writing) × (old.held ≡ Some held) × (at_ask ≡ put_of held))
  pub lacking : lacks behind at_ask new.world

module _ {W : Type 0} (follows : W → List Call → W → Type 0) (has_stopped : W → Bool) (open_numbers : W → List ℕ)
    (stops : W → List Call → Ask → W → Type 0) (lacks : W → Ask → W → Type 0) where
  -- only the world behind has changed, and has not stopped
  pub record IsSame (old new : Blocks W) : Type 0 where
    pub held : new.held ≡ None
    pub untold : new.untold ≡ old.untold
    pub stopped : new.stopped ≡ old.stopped
    pub steady : has_stopped new.world ≡ has_stopped old.world

  -- what a world owes of an ask, where it had not stopped
  abbrev pub Owes : Blocks W → Ask → Result Reply Stop → Blocks W → Type 0
  Owes old ask (Ok reply) new =
      Follows follows has_stopped old ((ask, reply) ∷ []) new × IsFitting (open_numbers old.world) ask.request reply
      × (new.stopped ≡ old.stopped)
  Owes old ask (Err Memory) new =
      Follows follows has_stopped old [] new × (new.stopped ≡ old.stopped) × Lacks follows lacks old ask new
  Owes old ask (Err Log) new =
      Follows follows has_stopped old [] new × Stops stops old [] ask new × (new.stopped ≡ true)

  -- nothing is held any more; or the world behind had no memory, or stops
  abbrev pub Empties : Blocks W → Result (Unit {0}) Stop → Blocks W → Type 0
  Empties old (Ok done) new = Follows follows has_stopped old [] new × (new.held ≡ None) × (new.stopped ≡ old.stopped)
  Empties old (Err Memory) new =
      Follows follows has_stopped old [] new × IsSome new.held × (new.stopped ≡ old.stopped)
      × ((ask : Ask) → Lacks follows lacks old ask new)
  Empties old (Err Log) new =
      Follows follows has_stopped old [] new × IsSome new.held × (new.stopped ≡ true)
      × ((ask : Ask) → Stops stops old [] ask new)

  -- the world behind was asked, where nothing is held
  abbrev pub Passes : Blocks W → Ask → Result Reply Stop → Blocks W → Type 0
  Passes old ask (Ok reply) new =
      follows old.world ((ask, reply) ∷ []) new.world × IsFitting (open_numbers old.world) ask.request reply
      × IsSame old new
  Passes old ask (Err Memory) new = follows old.world [] new.world × IsSame old new × lacks old.world ask new.world
  Passes old ask (Err Log) new =
      follows old.world [] new.world × (new.held ≡ None) × (new.untold ≡ old.untold) × (new.stopped ≡ true)
      × stops old.world [] ask new.world
