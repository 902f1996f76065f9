use Rattle.awk_expressions.proofs.nesting.+expr.Given as goal

abbrev pub decreases-expr : goal.decreases-expr
decreases-expr l = l.depth
