use Rattle.std.proofs.Common.{ap, ◌∙◌}
use Rattle.awk_tree.specs.Terminals.{look}
use Rattle.awk_expressions.proofs.tokens.Tokens.look.Goals as goal

pub returns : goal.returns
returns c = c.self.invariant.0 ∙ ap look c.self.view_is
