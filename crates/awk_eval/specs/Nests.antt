-- Function values that evaluate expressions and statements at a number of levels, and at fewer.
use Rattle.std.specs.Prelude.{◌≡◌, ℕ, ◌≤◌, Result}
use Rattle.std.specs.Borrow.{Bor, MutBor}
use Rattle.awk_text.specs.declared.value.Value.{Value}
use Rattle.box_world.specs.declared.world.World.{Ghosts}
use Rattle.awk_streams.specs.Tasks.{Owns}
use Rattle.awk_streams.specs.declared.halt.Halt.{Halt}
use Rattle.awk_streams.specs.Flows.{flows}
use Rattle.awk_streams.specs.declared.flow.Flow.{Flow}
use Rattle.awk_machine.specs.Forms.{value}
use Rattle.awk_machine.specs.Pieces.{Do, Start, give}
use Rattle.awk_forms.specs.Runs.{Does}
use Rattle.awk_forms.specs.declared.context.Context.{Context}
use Rattle.awk_forms.specs.declared.context.Run.{Run}
use Rattle.awk_program.specs.View.{view, view_statement}
use Rattle.awk_program.specs.declared.expressions.Expr.{Expr}
use Rattle.awk_program.specs.declared.statements.Statement.{Statement}
use Rattle.awk_store.specs.Wholes.{names_in}

pub record Nests {W : Type 0} (ghosts : Ghosts W)
    (level : ℕ)
    (value_pre : Bor Context → Bor Expr → ℕ → MutBor Run → MutBor W → Type 0)
    (value_post : Bor Context → Bor Expr → ℕ → MutBor Run → MutBor W → Result Value Halt → MutBor Run → MutBor W →
    Type 0)
    (statement_pre : Bor Context → Bor Statement → ℕ → MutBor Run → MutBor W → Type 0)
    (statement_post : Bor Context → Bor Statement → ℕ → MutBor Run → MutBor W → Result Flow Halt → MutBor Run →
    MutBor W → Type 0) : Type 0 where
  pub value_callable : (cx : Bor Context) (e : Bor Expr) (n : ℕ) → n ≤ level → (run : MutBor Run) (w : MutBor W) →
      Owns (ghosts.open_numbers w.now) run.now.streams → value_pre cx e n run w
  pub value_does : (cx : Bor Context) (e : Bor Expr) (n : ℕ) → n ≤ level →
      (run : MutBor Run) (w : MutBor W) (r : Result Value Halt) (run' : MutBor Run) (w' : MutBor W) →
      value_post cx e n run w r run' w' →
      Does ghosts cx.now (λ g. value (view (names_in g) e.now)) (λ g. give) (run.now.store, run.now.streams) w.now r
      (run'.now.store, run'.now.streams) w'.now
  pub statement_callable : (cx : Bor Context) (x : Bor Statement) (n : ℕ) → n ≤ level →
      (run : MutBor Run) (w : MutBor W) → Owns (ghosts.open_numbers w.now) run.now.streams → statement_pre cx x n run w
  pub statement_does : (cx : Bor Context) (x : Bor Statement) (n : ℕ) → n ≤ level →
      (run : MutBor Run) (w : MutBor W) (r : Result Flow Halt) (run' : MutBor Run) (w' : MutBor W) →
      statement_post cx x n run w r run' w' →
      Does ghosts cx.now (λ g. Do (Start (view_statement (names_in g) x.now))) (λ g. flows)
      (run.now.store, run.now.streams) w.now r (run'.now.store, run'.now.streams) w'.now
