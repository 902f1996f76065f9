use Rattle.std.proofs.Common.{◌≡◌, ◌+◌, ◌*◌, ◌++◌, drop, map, option_map}
use Rattle.awk_tree.specs.Tree.{trees_of, perhaps_of, terms_of, pipes_of}
use Rattle.awk_tree.specs.View.{view, view_term, view_piped}
use Rattle.awk_resolve.proofs.Weight.{weight, weights, weight_perhaps, weight_terms, weight_pipes}
use Rattle.awk_resolve.specs.Mentions as spec
use Rattle.awk_resolve.proofs.expressions.+expression.Given as goal

abbrev pub decreases-expression : goal.decreases-expression
decreases-expression l = 2 * weight (view l.e.now)

abbrev pub decreases-argument : goal.decreases-argument
decreases-argument l = 1 + 2 * weight (view l.x.now)

abbrev pub decreases-two : goal.decreases-two
decreases-two l = 1 + 2 * (weight (view l.x.now) + weight (view l.y.now))

abbrev pub decreases-first_and_each : goal.decreases-first_and_each
decreases-first_and_each l = 3 + 2 * (weight (view l.x.now) + weights (trees_of (map view l.xs.now)))

abbrev pub decreases-builtin : goal.decreases-builtin
decreases-builtin l = 3 + 2 * weights (trees_of (map view l.args.now))

abbrev pub decreases-each : goal.decreases-each
decreases-each l = 2 + 2 * weights (trees_of (map view l.xs.now))

abbrev pub decreases-arguments : goal.decreases-arguments
decreases-arguments l = 2 + 2 * weights (trees_of (map view l.xs.now))

abbrev pub decreases-perhaps : goal.decreases-perhaps
decreases-perhaps l = 1 + 2 * weight_perhaps (perhaps_of (option_map view l.x.now))

abbrev pub decreases-optional : goal.decreases-optional
decreases-optional l = 1 + 2 * weight_perhaps (perhaps_of (option_map view l.x.now))

abbrev pub decreases-terms : goal.decreases-terms
decreases-terms l = 2 + 2 * weight_terms (terms_of (map view_term l.ts.now))

abbrev pub decreases-pipes : goal.decreases-pipes
decreases-pipes l = 2 + 2 * weight_pipes (pipes_of (map view_piped l.ps.now))

abbrev pub invariant-each-loop-x : goal.invariant-each-loop-x
invariant-each-loop-x l = l.initial.out ++ spec.each (trees_of (map view l.xs)) ≡ l.out
    ++ spec.each (trees_of (map view (drop l.x-index l.xs)))

abbrev pub invariant-arguments-loop-x : goal.invariant-arguments-loop-x
invariant-arguments-loop-x l = l.initial.out ++ spec.arguments (trees_of (map view l.xs)) ≡ l.out ++ spec.arguments
    (trees_of (map view (drop l.x-index l.xs)))

abbrev pub invariant-terms-loop-term : goal.invariant-terms-loop-term
invariant-terms-loop-term l = l.initial.out ++ spec.terms (terms_of (map view_term l.ts)) ≡ l.out
    ++ spec.terms (terms_of (map view_term (drop l.term-index l.ts)))

abbrev pub invariant-pipes-loop-piped : goal.invariant-pipes-loop-piped
invariant-pipes-loop-piped l = l.initial.out ++ spec.pipes (pipes_of (map view_piped l.ps)) ≡ l.out
    ++ spec.pipes (pipes_of (map view_piped (drop l.piped-index l.ps)))
