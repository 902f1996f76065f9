use Rattle.std.proofs.Common.{◌≡◌, ◌+◌, ◌++◌, drop, map}
use Rattle.awk_canon.proofs.Weight.{statement_weight, statement_weights}
use Rattle.awk_tree.specs.Canon as spec
use Rattle.awk_tree.specs.Tree.{statements_of}
use Rattle.awk_tree.specs.View.{view_statement}
use Rattle.awk_canon.proofs.statements.+statement.Given as goal

abbrev pub decreases-statement : goal.decreases-statement
decreases-statement l = statement_weight (view_statement l.s.now)

abbrev pub decreases-if_else : goal.decreases-if_else
decreases-if_else l = 4 + (statement_weight (view_statement l.body.now) + statement_weight (view_statement l.other.now))

abbrev pub decreases-do_while : goal.decreases-do_while
decreases-do_while l = 4 + statement_weight (view_statement l.body.now)

abbrev pub decreases-for_loop : goal.decreases-for_loop
decreases-for_loop l = 4 + statement_weight (view_statement l.body.now)

abbrev pub decreases-action : goal.decreases-action
decreases-action l = 3 + statement_weights (statements_of (map view_statement l.xs.now))

abbrev pub decreases-statements : goal.decreases-statements
decreases-statements l = 1 + statement_weights (statements_of (map view_statement l.xs.now))

abbrev pub invariant-statements-loop-s : goal.invariant-statements-loop-s
invariant-statements-loop-s l = l.initial.out.items ++ spec.canon_statements (statements_of (map view_statement l.xs))
    ≡ l.out.items ++ spec.canon_statements (statements_of (map view_statement (drop l.s-index l.xs)))
