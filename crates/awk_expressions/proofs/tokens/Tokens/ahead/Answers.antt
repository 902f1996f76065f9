use Rattle.std.proofs.Common.{ap, ◌∙◌}
use Rattle.awk_tree.specs.Terminals.{ahead}
use Rattle.awk_expressions.proofs.tokens.Tokens.ahead.Goals as goal

pub returns : goal.returns
returns c = c.self.invariant.1 ∙ ap ahead c.self.view_is
