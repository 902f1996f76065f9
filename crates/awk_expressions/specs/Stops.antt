-- Tokens behind an operand with which nothing goes on, so that most rules need not be looked at.
use Rattle.std.specs.Prelude.{Bool, true, false}
use Rattle.awk_tokens.specs.declared.terminals.Terminal.{Terminal}
use Rattle.awk_tokens.specs.declared.terminals.Terminal.TheVariants as w

-- no chain from `*` up to `in` goes on so
abbrev pub ends_chains : Terminal → Bool
ends_chains w.End = true
ends_chains w.CloseParen = true
ends_chains w.CloseBracket = true
ends_chains w.Comma = true
ends_chains (w.Assign how) = true
ends_chains w.And = true
ends_chains w.Or = true
ends_chains w.Question = true
ends_chains w.Colon = true
ends_chains other = false

-- no expression goes on so
abbrev pub ends_expression : Terminal → Bool
ends_expression w.End = true
ends_expression w.CloseParen = true
ends_expression w.CloseBracket = true
ends_expression w.Comma = true
ends_expression w.Colon = true
ends_expression other = false
