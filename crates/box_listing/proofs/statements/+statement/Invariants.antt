use Rattle.std.proofs.Common.{◌≡◌, ◌+◌, ◌*◌, ◌++◌, drop, map}
use Rattle.awk_program.specs.Program.{statements_of}
use Rattle.awk_program.specs.View.{Names, view_statement}
use Rattle.box_listing.specs.Sites as spec
use Rattle.box_listing.proofs.statements.+statement.Given as goal

abbrev pub decreases-statement : goal.decreases-statement
decreases-statement l = 16 * l.level

abbrev pub decreases-two : goal.decreases-two
decreases-two l = 1 + 16 * l.level

abbrev pub decreases-statements : goal.decreases-statements
decreases-statements l = 1 + 16 * l.level

abbrev pub invariant-statements-loop-x : goal.invariant-statements-loop-x
invariant-statements-loop-x l = (t : Names)
    → l.initial.out.items ++ spec.each_done (statements_of (map (view_statement t) l.xs)) ≡ l.out.items
    ++ spec.each_done (statements_of (map (view_statement t) (drop l.x-index l.xs)))
