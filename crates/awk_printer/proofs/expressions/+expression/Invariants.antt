use Rattle.std.proofs.Common.{◌+◌, ◌*◌}
use Rattle.awk_printer.proofs.expressions.+expression.Given as goal

abbrev pub decreases-expression : goal.decreases-expression
decreases-expression l = 16 * l.context.level

abbrev pub decreases-expression_of_parts : goal.decreases-expression_of_parts
decreases-expression_of_parts l = 7 + 16 * l.context.level

abbrev pub decreases-one : goal.decreases-one
decreases-one l = 1 + 16 * l.context.level

abbrev pub decreases-choice : goal.decreases-choice
decreases-choice l = 1 + 16 * l.context.level

abbrev pub decreases-at_one : goal.decreases-at_one
decreases-at_one l = 1 + 16 * l.context.level

abbrev pub decreases-at_two : goal.decreases-at_two
decreases-at_two l = 1 + 16 * l.context.level

abbrev pub decreases-ere : goal.decreases-ere
decreases-ere l = 1 + 16 * l.context.level

abbrev pub decreases-list : goal.decreases-list
decreases-list l = 1 + 16 * l.context.level

abbrev pub decreases-term : goal.decreases-term
decreases-term l = 1 + 16 * l.context.level

abbrev pub decreases-join : goal.decreases-join
decreases-join l = 1 + 16 * l.context.level

abbrev pub decreases-terms : goal.decreases-terms
decreases-terms l = 2 + 16 * l.context.level

abbrev pub decreases-joins : goal.decreases-joins
decreases-joins l = 2 + 16 * l.context.level

abbrev pub decreases-element : goal.decreases-element
decreases-element l = 2 + 16 * l.context.level

abbrev pub decreases-many : goal.decreases-many
decreases-many l = 2 + 16 * l.context.level

abbrev pub decreases-at_list : goal.decreases-at_list
decreases-at_list l = 2 + 16 * l.context.level

abbrev pub decreases-member : goal.decreases-member
decreases-member l = 2 + 16 * l.context.level

abbrev pub decreases-group : goal.decreases-group
decreases-group l = 2 + 16 * l.context.level

abbrev pub decreases-target : goal.decreases-target
decreases-target l = 3 + 16 * l.context.level

abbrev pub decreases-chain : goal.decreases-chain
decreases-chain l = 3 + 16 * l.context.level

abbrev pub decreases-concat : goal.decreases-concat
decreases-concat l = 3 + 16 * l.context.level

abbrev pub decreases-argument : goal.decreases-argument
decreases-argument l = 3 + 16 * l.context.level

abbrev pub decreases-at_target : goal.decreases-at_target
decreases-at_target l = 4 + 16 * l.context.level

abbrev pub decreases-setting : goal.decreases-setting
decreases-setting l = 4 + 16 * l.context.level

abbrev pub decreases-at_match : goal.decreases-at_match
decreases-at_match l = 4 + 16 * l.context.level

abbrev pub decreases-substitute : goal.decreases-substitute
decreases-substitute l = 4 + 16 * l.context.level

abbrev pub decreases-split : goal.decreases-split
decreases-split l = 4 + 16 * l.context.level

abbrev pub decreases-piped : goal.decreases-piped
decreases-piped l = 4 + 16 * l.context.level

abbrev pub decreases-arguments : goal.decreases-arguments
decreases-arguments l = 4 + 16 * l.context.level

abbrev pub decreases-pipes : goal.decreases-pipes
decreases-pipes l = 5 + 16 * l.context.level

abbrev pub decreases-call : goal.decreases-call
decreases-call l = 5 + 16 * l.context.level

abbrev pub decreases-pipe : goal.decreases-pipe
decreases-pipe l = 6 + 16 * l.context.level
