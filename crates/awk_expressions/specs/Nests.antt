-- A function value that reads expressions to a depth.
use Rattle.std.specs.Prelude.{ℕ, List, Result}
use Rattle.std.specs.declared.alloc.Global.{Global}
use denote.Ref.{MutBor}
use Rattle.awk_tokens.specs.declared.token.Token.{Token}
use Rattle.awk_tree.specs.declared.expressions.Expr.{Expr}
use Rattle.awk_tree.specs.declared.fault.ParseError.{ParseError}
use Rattle.awk_tree.specs.declared.goals.Goal.{Goal}
use Rattle.awk_tree.specs.View.{view}
use Rattle.awk_tree.specs.Input.{Reads}
use Rattle.awk_tree.specs.Expressions.{expr}

pub record Nests (depth : ℕ) (pre : Global → MutBor (List Token) → ℕ → Goal → Type 0)
    (post : Global → MutBor (List Token) → ℕ → Goal → Result Expr ParseError → MutBor (List Token)
    → Type 0) : Type 0 where
  pub callable : (alloc : Global) (old : MutBor (List Token)) (goal : Goal) → pre alloc old depth goal
  pub reads : (alloc : Global) (old new : MutBor (List Token)) (goal : Goal) (r : Result Expr ParseError) →
      post alloc old depth goal r new
      → Reads view (expr depth goal old.now) r new.now
