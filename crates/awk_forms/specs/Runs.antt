-- What a part of a run owes, over any world.
use Rattle.std.specs.Prelude.{◌≡◌, ℕ, IfOk, ◌+◌, Bool, List, ◌∷◌, length, reverse, slice_get, Some, Result}
use Rattle.awk_numbers.specs.declared.number.Number.{Number}
use Rattle.awk_numbers.specs.declared.number.Numbers.{Numbers}
use Rattle.awk_text.specs.declared.fault.Fault.{Fault}
use Rattle.awk_text.specs.declared.value.Value.{Value}
use Rattle.awk_text.specs.Values.{number_of, truth}
use Rattle.box_world.specs.declared.world.World.{Ghosts}
use Rattle.awk_program.specs.View.{view_program}
use Rattle.awk_program.specs.Program.{Expression}
use Rattle.awk_machine.specs.Advances.{advance}
use Rattle.awk_machine.specs.Forms.{value}
use Rattle.awk_machine.specs.Pieces.{Part, Piece, At, Goes, give}
use Rattle.awk_machine.specs.State.{State, Given}
use Rattle.awk_machine.specs.Statements.{to_records}
use Rattle.awk_streams.specs.declared.halt.Halt.{Halt}
use Rattle.awk_streams.specs.Chains.{Meets}
use Rattle.awk_streams.specs.Tasks.{Owns}
use Rattle.awk_store.specs.Wholes.{Whole, Agreeing, base, used}
use Rattle.awk_input.specs.Hosts.{IsHost}
use Rattle.awk_forms.specs.declared.context.Context.{Context}
use Rattle.awk_forms.specs.declared.context.Run.{Run}

-- what a run is given is what the code has: the program, and what the host gave
pub record IsGiven (cx : Context) (g : Given) : Type 0 where
  pub program : g.program ≡ view_program cx.program.now
  pub host : IsHost cx.host.now g

-- what a run holds, as the machine's state is read of it
abbrev pub whole_of : Run → Whole
whole_of run = (run.store, run.streams)

-- from its piece the machine leads on, or the part is halted, whatever else the run is given; and the open streams are
-- the world's
pub record Does {W A : Type 0} (ghosts : Ghosts W)
    (cx : Context) (p : Given → Piece) (to : Given → A → List Piece → List Piece) (old : Whole) (w : W)
    (result : Result A Halt) (new : Whole) (w' : W) : Type 0 where
  pub plays : (g : Given) → IsGiven cx g → Meets ghosts (base g) (Agreeing g) used g (p g) (to g) old w result new w'
  pub owns : Owns (ghosts.open_numbers w') new.1

-- the same of an answer that is no value, but tells of the value that is given what is wanted of it, by the numbers of
-- the run
pub record Yields {W A : Type 0} (ghosts : Ghosts W)
    (cx : Context) (p : Given → Piece) (Is : Numbers → A → Value → Type 0) (old : Whole) (w : W)
    (result : Result A Halt)
    (new : Whole) (w' : W) : Type 0 where
  pub val : Value
  pub is : IfOk result (λ x. Is new.0.numbers x val)
  pub does : Does ghosts cx p (λ g x. give val) old w result new w'

-- what is told of a value
abbrev pub IsNumberOf : Numbers → Result Number Fault → Value → Type 0
IsNumberOf numbers number val = number ≡ number_of numbers val

abbrev pub IsTruthOf : Numbers → Bool → Value → Type 0
IsTruthOf numbers holds val = holds ≡ truth numbers val

abbrev pub IsUnwanted : {A : Type 0} → Numbers → A → Value → Type 0
IsUnwanted numbers x val = Unit {0}

-- ---- lists of parts

-- the part evaluates these from its n-th one on, as each is wanted; it is not the one that reads records
pub record Waits (g : Given) (part : Part) (n : ℕ) (xs : List Expression) : Type 0 where
  pub next : (m : ℕ) (x : Expression) → slice_get xs m ≡ Some x → (vs : List Value) → length vs ≡ n + m →
      (k : List Piece) (s : State) → advance g (At part vs ∷ k) s ≡ Goes (value x ∷ At part vs ∷ k) s
  pub passed : (vs : List Value) (k : List Piece) → to_records (At part vs ∷ k) ≡ to_records k

-- a list of parts is evaluated from left to right, for whatever part waits for them behind the values that it has
pub record Fills {W A : Type 0} (ghosts : Ghosts W)
    (cx : Context) (xs : Given → List Expression) (had has : List Value) (old : Whole) (w : W) (result : Result A Halt)
    (new : Whole) (w' : W) : Type 0 where
  pub plays : (g : Given) → IsGiven cx g → (part : Part) → Waits g part (length had) (xs g) →
      Meets ghosts (base g) (Agreeing g) used g (At part (reverse had)) (λ (x : A) k. At part (reverse has) ∷ k) old w
      result new w'
  pub owns : Owns (ghosts.open_numbers w') new.1
