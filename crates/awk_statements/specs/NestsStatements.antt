-- A function value that reads statements to a depth.
use Rattle.std.specs.Prelude.{ℕ, List, Result}
use Rattle.std.specs.declared.alloc.Global.{Global}
use denote.Ref.{MutBor}
use Rattle.awk_tokens.specs.declared.token.Token.{Token}
use Rattle.awk_tree.specs.declared.statements.Statement.{Statement}
use Rattle.awk_tree.specs.declared.fault.ParseError.{ParseError}
use Rattle.awk_tree.specs.declared.goals.Nested.{Nested}
use Rattle.awk_tree.specs.View.{view_statement}
use Rattle.awk_tree.specs.Input.{Reads}
use Rattle.awk_tree.specs.Statements.{statement}

pub record NestsStatements (depth : ℕ) (pre : Global → MutBor (List Token) → ℕ → Nested → Type 0)
    (post : Global → MutBor (List Token) → ℕ → Nested → Result Statement ParseError → MutBor (List Token)
    → Type 0) : Type 0
  where
    pub callable : (alloc : Global) (old : MutBor (List Token)) (which : Nested) → pre alloc old depth which
    pub reads : (alloc : Global) (old new : MutBor (List Token)) (which : Nested) (r : Result Statement ParseError) →
        post alloc old depth which r new
        → Reads view_statement (statement depth which old.now) r new.now
