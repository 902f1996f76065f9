use Rattle.awk_tree.specs.View.{view_statement}
use Rattle.awk_statements.proofs.Closing.{tail_depth}
use Rattle.awk_statements.proofs.open.+is_open.Given as goal

abbrev pub decreases-is_open : goal.decreases-is_open
decreases-is_open l = tail_depth (view_statement l.statement.now)
