use Rattle.std.proofs.Common.{◌≡◌, ◌+◌, ◌++◌, drop, map}
use Rattle.awk_tree.specs.Tree.{statements_of}
use Rattle.awk_tree.specs.View.{view_statement}
use Rattle.awk_resolve.proofs.Weight.{statement_weight, statement_weights}
use Rattle.awk_resolve.specs.Mentions as spec
use Rattle.awk_resolve.proofs.statements.+statement.Given as goal

abbrev pub decreases-statement : goal.decreases-statement
decreases-statement l = statement_weight (view_statement l.s.now)

abbrev pub decreases-statements : goal.decreases-statements
decreases-statements l = 1 + statement_weights (statements_of (map view_statement l.xs.now))

abbrev pub invariant-statements-loop-s : goal.invariant-statements-loop-s
invariant-statements-loop-s l = l.initial.out ++ spec.each_said l.is_inside (statements_of (map view_statement l.xs))
    ≡ l.out ++ spec.each_said l.is_inside (statements_of (map view_statement (drop l.s-index l.xs)))
