-- The arguments of calls (POSIX.1-2017 XCU awk, "User-Defined Functions").
use Rattle.std.specs.Prelude.{◌≡◌, ℕ, List, ◌∷◌, length, reverse, slice_get, Some, Result}
use Rattle.awk_text.specs.declared.place.Place.{Place}
use Rattle.awk_text.specs.declared.value.Value.{Value}
use Rattle.box_world.specs.declared.world.World.{Ghosts}
use Rattle.awk_program.specs.Program as p
use Rattle.awk_program.specs.Program.{Arguments}
use Rattle.awk_program.specs.View.{view}
use Rattle.awk_program.specs.declared.expressions.Argument as code
use Rattle.awk_program.specs.declared.expressions.Argument.TheVariants as argument
use Rattle.awk_program.specs.declared.expressions.Expr.{Expr}
use Rattle.awk_store.specs.Kept.{Kept}
use Rattle.awk_builtins.specs.AtHand.{IsThere}
use Rattle.awk_machine.specs.Calls.{Argument, arguments}
use Rattle.awk_machine.specs.Forms.{value}
use Rattle.awk_machine.specs.Pieces.{At, Value_of}
use Rattle.awk_machine.specs.State.{Given}
use Rattle.awk_streams.specs.declared.halt.Halt.{Halt}
use Rattle.awk_streams.specs.Chains.{Meets}
use Rattle.awk_streams.specs.Tasks.{Owns}
use Rattle.awk_store.specs.Wholes.{Whole, Agreeing, base, used}
use Rattle.awk_forms.specs.declared.context.Context.{Context}
use Rattle.awk_forms.specs.Runs.{IsGiven}

-- the arguments are evaluated from left to right, whatever function is called, and wherever
pub record Argues {W : Type 0} (ghosts : Ghosts W)
    (cx : Context) (xs : Given → Arguments) (old : Whole) (w : W) (result : Result (List Value) Halt) (new : Whole)
    (w' : W) : Type 0 where
  pub plays : (g : Given) → IsGiven cx g → (place : Place) (f : ℕ) →
      Meets ghosts (base g) (Agreeing g) used g (value (p.call place f (xs g)))
      (λ vs k. At (Value_of (p.call place f (xs g))) (reverse vs) ∷ k) old w result new w'
  pub owns : Owns (ghosts.open_numbers w') new.1

-- the next argument is evaluated, where it is evaluated, whatever stands before it
pub record Argued {W : Type 0} (ghosts : Ghosts W)
    (cx : Context) (x : Given → Argument) (old : Whole) (w : W) (result : Result Value Halt) (new : Whole) (w' : W) :
    Type 0 where
  pub plays : (g : Given) → IsGiven cx g → (place : Place) (f : ℕ) (xs : Arguments) (vs : List Value) →
      slice_get (arguments xs) (length vs) ≡ Some (x g) →
      Meets ghosts (base g) (Agreeing g) used g (At (Value_of (p.call place f xs)) vs)
      (λ v k. At (Value_of (p.call place f xs)) (v ∷ vs) ∷ k) old w result new w'
  pub owns : Owns (ghosts.open_numbers w') new.1

-- an argument is an expression whose value is there, and is this one
abbrev pub IsPassed : code.Argument Expr → Kept → Value → Type 0
IsPassed (argument.Value x) kept val = IsThere (λ names. view names x) kept val
IsPassed (argument.Array a) kept val = ⊥
IsPassed argument.Nothing kept val = ⊥
