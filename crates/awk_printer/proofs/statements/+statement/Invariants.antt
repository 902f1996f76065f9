use Rattle.std.proofs.Common.{◌+◌, ◌*◌}
use Rattle.awk_printer.proofs.statements.+statement.Given as goal

abbrev pub decreases-statement : goal.decreases-statement
decreases-statement l = 16 * l.context.level

abbrev pub decreases-statement_of_parts : goal.decreases-statement_of_parts
decreases-statement_of_parts l = 7 + 16 * l.context.level

abbrev pub decreases-test : goal.decreases-test
decreases-test l = 1 + 16 * l.context.level

abbrev pub decreases-if_else : goal.decreases-if_else
decreases-if_else l = 1 + 16 * l.context.level

abbrev pub decreases-do_while : goal.decreases-do_while
decreases-do_while l = 1 + 16 * l.context.level

abbrev pub decreases-for_loop : goal.decreases-for_loop
decreases-for_loop l = 1 + 16 * l.context.level

abbrev pub decreases-for_each : goal.decreases-for_each
decreases-for_each l = 1 + 16 * l.context.level

abbrev pub decreases-statements : goal.decreases-statements
decreases-statements l = 1 + 16 * l.context.level

abbrev pub decreases-block : goal.decreases-block
decreases-block l = 2 + 16 * l.context.level
