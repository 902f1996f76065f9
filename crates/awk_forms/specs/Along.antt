-- How far a loop of the code has come.
use Rattle.std.specs.Prelude.{◌≡◌, ℕ, ◌+◌, List, ◌∷◌, length, reverse}
use Rattle.awk_text.specs.declared.value.Value.{Value}
use Rattle.awk_text.specs.declared.place.Place.{Place}
use Rattle.box_world.specs.declared.world.World.{Ghosts}
use Rattle.awk_program.specs.Program as p
use Rattle.awk_program.specs.Program.{Expression, Arguments}
use Rattle.awk_machine.specs.Forms.{value}
use Rattle.awk_machine.specs.Pieces.{Part, Piece, At, Value_of}
use Rattle.awk_machine.specs.State.{Given}
use Rattle.awk_streams.specs.Chains.{Leads}
use Rattle.awk_streams.specs.Tasks.{Owns}
use Rattle.awk_store.specs.Wholes.{Whole, Agreeing, base, used}
use Rattle.awk_forms.specs.declared.context.Context.{Context}
use Rattle.awk_forms.specs.Runs.{IsGiven, Waits}

module _ {W : Type 0} (ghosts : Ghosts W) (cx : Context) where
  -- from its piece the machine has come to where `to` says
  pub record Along (p : Given → Piece) (to : Given → List Piece → List Piece) (old : Whole) (w : W) (mid : Whole)
      (w' : W) : Type 0 where
    pub leads : (g : Given) → IsGiven cx g → Leads ghosts (base g) (Agreeing g) used g (p g) old w (to g) mid w'
    pub owns : Owns (ghosts.open_numbers w') mid.1

  -- so many of a list of parts are evaluated
  pub record Filling (xs : Given → List Expression) (had has : List Value) (n : ℕ) (old : Whole) (w : W) (mid : Whole)
      (w' : W) : Type 0 where
    pub leads : (g : Given) → IsGiven cx g → (part : Part) → Waits g part (length had) (xs g) →
        Leads ghosts (base g) (Agreeing g) used g (At part (reverse had)) old w (λ k. At part (reverse has) ∷ k) mid w'
    pub owns : Owns (ghosts.open_numbers w') mid.1
    pub count : length has ≡ length had + n

  -- so many arguments are evaluated
  pub record Arguing (xs : Given → Arguments) (has : List Value) (n : ℕ) (old : Whole) (w : W) (mid : Whole) (w' : W) :
      Type 0 where
    pub leads : (g : Given) → IsGiven cx g → (place : Place) (f : ℕ) →
        Leads ghosts (base g) (Agreeing g) used g (value (p.call place f (xs g))) old w
        (λ k. At (Value_of (p.call place f (xs g))) (reverse has) ∷ k) mid w'
    pub owns : Owns (ghosts.open_numbers w') mid.1
    pub count : length has ≡ n
