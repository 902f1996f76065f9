-- How far a run has come since its beginning, and how it ends.
use Rattle.std.specs.Prelude.{List, [], Result, MatchResult}
use Rattle.box_world.specs.declared.world.World.{Ghosts}
use Rattle.awk_machine.specs.Begins.{first_pieces, first_state, nothing}
use Rattle.awk_machine.specs.Pieces.{Piece, ends}
use Rattle.awk_machine.specs.State.{Given}
use Rattle.awk_streams.specs.declared.halt.Halt.{Halt}
use Rattle.awk_streams.specs.Chains.{Comes, Halted, Lacks, Unlogged}
use Rattle.awk_store.specs.Wholes.{Whole, Agreeing, base, used}
use Rattle.awk_input.specs.Performs.{MeetsIn}
use Rattle.awk_streams.specs.Tasks.{Owns}
use Rattle.awk_forms.specs.Runs.{IsGiven}
use Rattle.awk_forms.specs.declared.context.Context.{Context}
use Rattle.awk_run.specs.View.{view_outcome}
use Rattle.awk_run.specs.declared.ends.End.{End}
use Rattle.awk_run.specs.declared.ends.End.TheVariants.{Open, Memory, Log}

-- ---- parts of a run

-- what a piece in the midst of the records owes: `next` comes back to what `rest` leaves to be done
pub record DoesIn {W A : Type 0} (ghosts : Ghosts W)
    (cx : Context) (p : Given → Piece) (to : Given → A → List Piece → List Piece) (rest : List Piece → List Piece)
    (old : Whole) (w : W) (result : Result A Halt) (new : Whole) (w' : W) : Type 0 where
  pub plays : (g : Given) → IsGiven cx g → MeetsIn ghosts g (p g) (to g) rest old w result new w'
  pub owns : Owns (ghosts.open_numbers w') new.1

-- ---- from the beginning of a run on

module _ {W : Type 0} (ghosts : Ghosts W) (g : Given) (first : W) where
  -- the run has come to these pieces
  abbrev pub Reached : List Piece → Whole → W → Type 0
  Reached k now w = Comes ghosts (base g) (Agreeing g) used g first (first_pieces g) (first_state g) nothing k now w

  -- it is halted, outside of the records
  abbrev pub Stopped : Halt → Whole → W → Type 0
  Stopped h now w = Halted ghosts (base g) (Agreeing g) used g first (first_pieces g) (first_state g) nothing [] now w h

  abbrev pub ReachedOn : {A : Type 0} → (A → List Piece) → Result A Halt → Whole → W → Type 0
  ReachedOn to result now w = MatchResult result (λ x. Reached (to x) now w) (λ h. Stopped h now w)

  -- its own work has ended so
  abbrev pub Finished : End → Whole → W → Type 0
  Finished (Open outcome) now w = Reached (ends (view_outcome outcome)) now w
  Finished Memory now w = Lacks ghosts (base g) (Agreeing g) used g first (first_pieces g) (first_state g) nothing now w
  Finished (Log place) now w =
      Unlogged ghosts (base g) (Agreeing g) used g first (first_pieces g) (first_state g) nothing place now w
