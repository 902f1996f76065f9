use Rattle.std.proofs.Common.{◌≡◌, ◌+◌, ◌*◌, ◌++◌, drop, map}
use Rattle.awk_tree.specs.View.{view_statement}
use Rattle.awk_program.specs.View as code
use Rattle.awk_lowering.specs.LoweredStatements.{statement}
use Rattle.awk_lowering.specs.Made.{names_in, scope_in}
use Rattle.awk_lowering.proofs.statements.+statement.Given as goal

abbrev pub decreases-statement : goal.decreases-statement
decreases-statement l = 16 * l.level

abbrev pub decreases-branch : goal.decreases-branch
decreases-branch l = 1 + 16 * l.level

abbrev pub decreases-fill : goal.decreases-fill
decreases-fill l = 1 + 16 * l.level

abbrev pub decreases-statements : goal.decreases-statements
decreases-statements l = 2 + 16 * l.level

abbrev pub invariant-fill-loop-x : goal.invariant-fill-loop-x
invariant-fill-loop-x l = map (code.view_statement (names_in l.context)) l.initial.out
    ++ map (statement (scope_in l.context)) (map view_statement l.xs) ≡ map (code.view_statement (names_in l.context))
    l.out ++ map (statement (scope_in l.context)) (map view_statement (drop l.x-index l.xs))
