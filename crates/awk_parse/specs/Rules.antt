-- The names of the grammar's rules for expressions.
use Rattle.std.specs.Prelude.{Bool}

-- The first flag of a rule says that it stands in the list of a print, where `>` is no comparison;
-- the second that the last operand of the chain is an assignment.
pub data Rule : Type 0 where
  prim lvalue dol inc pow unary mul add cat pipe : Rule
  cmp match isin set cond expr : Bool → Rule
  and or : Bool → Bool → Rule
