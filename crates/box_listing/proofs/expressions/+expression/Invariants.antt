use Rattle.std.proofs.Common.{◌≡◌, ◌+◌, ◌*◌, ◌++◌, option_copied, drop, map}
use Rattle.awk_program.specs.Program.{expressions_of, terms_of, joins_of}
use Rattle.awk_program.specs.View.{Names, view, view_term, view_joined, view_pipes, view_arguments}
use Rattle.box_listing.specs.Sites as spec
use Rattle.box_listing.proofs.expressions.+expression.Given as goal

abbrev pub decreases-expression : goal.decreases-expression
decreases-expression l = 0 + 16 * l.level

abbrev pub decreases-target : goal.decreases-target
decreases-target l = 3 + 16 * l.level

abbrev pub decreases-ere : goal.decreases-ere
decreases-ere l = 1 + 16 * l.level

abbrev pub decreases-each : goal.decreases-each
decreases-each l = 1 + 16 * l.level

abbrev pub decreases-terms : goal.decreases-terms
decreases-terms l = 1 + 16 * l.level

abbrev pub decreases-joins : goal.decreases-joins
decreases-joins l = 1 + 16 * l.level

abbrev pub decreases-argument : goal.decreases-argument
decreases-argument l = 1 + 16 * l.level

abbrev pub decreases-arguments : goal.decreases-arguments
decreases-arguments l = 2 + 16 * l.level

abbrev pub decreases-builtin : goal.decreases-builtin
decreases-builtin l = 2 + 16 * l.level

abbrev pub decreases-two : goal.decreases-two
decreases-two l = 1 + 16 * l.level

abbrev pub decreases-three : goal.decreases-three
decreases-three l = 2 + 16 * l.level

abbrev pub decreases-first_and_each : goal.decreases-first_and_each
decreases-first_and_each l = 2 + 16 * l.level

abbrev pub decreases-target_and : goal.decreases-target_and
decreases-target_and l = 4 + 16 * l.level

abbrev pub decreases-value_and_target : goal.decreases-value_and_target
decreases-value_and_target l = 4 + 16 * l.level

abbrev pub decreases-value_and_ere : goal.decreases-value_and_ere
decreases-value_and_ere l = 2 + 16 * l.level

abbrev pub decreases-piped : goal.decreases-piped
decreases-piped l = 4 + 16 * l.level

abbrev pub decreases-pipes : goal.decreases-pipes
decreases-pipes l = 6 + 16 * l.level

abbrev pub invariant-each-loop-x : goal.invariant-each-loop-x
invariant-each-loop-x l = (t : Names) → l.initial.out.items ++ spec.each (expressions_of (map (view t) l.xs))
    ≡ l.out.items ++ spec.each (expressions_of (map (view t) (drop l.x-index l.xs)))

abbrev pub invariant-terms-loop-x : goal.invariant-terms-loop-x
invariant-terms-loop-x l = (t : Names) → l.initial.out.items ++ spec.terms (terms_of (map (view_term t) l.xs))
    ≡ l.out.items ++ spec.terms (terms_of (map (view_term t) (drop l.x-index l.xs)))

abbrev pub invariant-joins-loop-x : goal.invariant-joins-loop-x
invariant-joins-loop-x l = (t : Names) → l.initial.out.items ++ spec.joins (joins_of (map (view_joined t) l.xs))
    ≡ l.out.items ++ spec.joins (joins_of (map (view_joined t) (drop l.x-index l.xs)))

abbrev pub invariant-arguments-loop-x : goal.invariant-arguments-loop-x
invariant-arguments-loop-x l = (t : Names) → l.initial.out.items ++ spec.arguments (view_arguments t l.xs) ≡ l.out.items
    ++ spec.arguments (view_arguments t (drop l.x-index l.xs))

abbrev pub invariant-pipes-loop-x : goal.invariant-pipes-loop-x
invariant-pipes-loop-x l = (t : Names) →
    l.initial.out.items ++ spec.pipes (option_copied l.initial.known) (view_pipes t l.xs) ≡ l.out.items
    ++ spec.pipes (option_copied l.known) (view_pipes t (drop l.x-index l.xs))
