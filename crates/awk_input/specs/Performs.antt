-- What a task owes that asks something of the world, for the whole that a run holds.
use Rattle.std.specs.Prelude.{List, ◌∷◌, Result, MatchResult}
use Rattle.box_world.specs.declared.world.World.{Ghosts}
use Rattle.awk_machine.specs.Pieces.{Piece}
use Rattle.awk_machine.specs.State.{Course, Given}
use Rattle.awk_machine.specs.Streams.{seen}
use Rattle.awk_store.specs.States.{Hidden}
use Rattle.awk_streams.specs.declared.halt.Halt.{Halt}
use Rattle.awk_streams.specs.Chains.{Knows, Comes, Halted, Leads, Meets}
use Rattle.awk_store.specs.Wholes.{Whole, Agreeing, base, used}

-- from its piece the machine leads on, or the part is halted
abbrev pub MeetsWhole : {W A : Type 0} → Ghosts W → Given → Piece → (A → List Piece → List Piece) → Whole → W →
    Result A Halt → Whole → W → Type 0
MeetsWhole ghosts g p to old w result new w' = Meets ghosts (base g) (Agreeing g) used g p to old w result new w'

-- from the piece p it has led on to other pieces
abbrev pub LeadsWhole : {W : Type 0} → Ghosts W → Given → Piece → Whole → W → (List Piece → List Piece) → Whole → W →
    Type 0
LeadsWhole ghosts g p old w to new w' = Leads ghosts (base g) (Agreeing g) used g p old w to new w'

-- from its piece the machine leads on, or the part is halted where more than what is behind the piece is left to be
-- done: `next` in the midst of records comes back to them
pub record MeetsIn {W A : Type 0} (ghosts : Ghosts W) (g : Given) (p : Piece) (to : A → List Piece → List Piece)
    (rest : List Piece → List Piece)
    (old : Whole) (w : W) (result : Result A Halt) (new : Whole) (w' : W) : Type 0 where
  pub plays : (first : W) (k : List Piece) (hid : Hidden) (c : Course) →
      Knows ghosts (base g) (Agreeing g) used first old hid c w →
      MatchResult result (λ x.
      Comes ghosts (base g) (Agreeing g) used g first (p ∷ k) (seen (base g old hid) c) c (to x k) new w')
      (λ h. Halted ghosts (base g) (Agreeing g) used g first (p ∷ k) (seen (base g old hid) c) c (rest k) new w' h)
