-- What contracts see of a world that joins Puts.
use Rattle.std.specs.Prelude.{◌≡◌, ℕ, ◌≤◌, Bool, List, [], ◌∷◌, map, length, Option, None, Some}
use Rattle.box_world.specs.Calls.{Call, IsStream}
use Rattle.box_blocks.specs.Parts.{AllTo, Writing, done, joined}

-- the world behind, the Put in place of those that it was not asked yet, the number whose block failed with no reply
-- that told it, and whether it has answered `Stop::Log`
pub record Blocks (W : Type 0) : Type 0 where
  pub world : W
  pub held : Option Writing
  pub untold : Option ℕ
  pub stopped : Bool

-- these Puts, each answered Done, are held as one
pub record Holds (held : Writing) (puts : List Call) : Type 0 where
  pub first : Writing
  pub more : List Writing
  pub are : puts ≡ map done (first ∷ more)
  pub as_one : held ≡ joined first more
  pub to_one : AllTo first.number more

abbrev pub AreHeld : Option Writing → List Call → Type 0
AreHeld None puts = puts ≡ []
AreHeld (Some held) puts = Holds held puts

-- nothing is held while a failure is untold, and what is held is to a stream of the world behind
pub record MayBeHeld (numbers : List ℕ) (untold : Option ℕ) (held : Writing) : Type 0 where
  pub told : untold ≡ None
  pub within : length held.bytes ≤ 65536
  pub stream : IsStream numbers held.number

abbrev pub IsSound : List ℕ → Option ℕ → Option Writing → Type 0
IsSound numbers untold None = Unit {0}
IsSound numbers untold (Some held) = MayBeHeld numbers untold held
