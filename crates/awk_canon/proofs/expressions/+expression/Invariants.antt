use Rattle.std.proofs.Common.{◌≡◌, ◌+◌, ◌++◌, drop, map, option_map}
use Rattle.awk_canon.specs.Lists.{canon_behind}
use Rattle.awk_canon.proofs.Weight.{weight, weights, weight_perhaps, weight_terms, weight_pipes}
use Rattle.awk_tree.specs.Canon as spec
use Rattle.awk_tree.specs.Tree.{trees_of, perhaps_of, terms_of, pipes_of}
use Rattle.awk_tree.specs.View.{view, view_term, view_piped}
use Rattle.awk_canon.proofs.expressions.+expression.Given as goal

abbrev pub decreases-expression : goal.decreases-expression
decreases-expression l = weight (view l.e.now)

abbrev pub decreases-prefixed : goal.decreases-prefixed
decreases-prefixed l = 1 + weight (view l.x.now)

abbrev pub decreases-suffixed : goal.decreases-suffixed
decreases-suffixed l = 1 + weight (view l.x.now)

abbrev pub decreases-between : goal.decreases-between
decreases-between l = 2 + (weight (view l.x.now) + weight (view l.y.now))

abbrev pub decreases-choice : goal.decreases-choice
decreases-choice l = 4 + (weight (view l.x.now) + weight (view l.y.now) + weight (view l.z.now))

abbrev pub decreases-paren : goal.decreases-paren
decreases-paren l = 2 + weight (view l.x.now)

abbrev pub decreases-enclosed : goal.decreases-enclosed
decreases-enclosed l = 4 + weights (trees_of (map view l.xs.now))

abbrev pub decreases-list : goal.decreases-list
decreases-list l = 3 + weights (trees_of (map view l.xs.now))

abbrev pub decreases-behind : goal.decreases-behind
decreases-behind l = 2 + weights (trees_of (map view l.xs.now))

abbrev pub decreases-parts : goal.decreases-parts
decreases-parts l = 1 + weights (trees_of (map view l.xs.now))

abbrev pub decreases-chain : goal.decreases-chain
decreases-chain l = 4 + (weight (view l.x.now) + weight_terms (terms_of (map view_term l.ts.now)))

abbrev pub decreases-terms : goal.decreases-terms
decreases-terms l = 3 + weight_terms (terms_of (map view_term l.ts.now))

abbrev pub decreases-term : goal.decreases-term
decreases-term l = 2 + weight (view l.x.now.operand)

abbrev pub decreases-pipes : goal.decreases-pipes
decreases-pipes l = 3 + weight_pipes (pipes_of (map view_piped l.ps.now))

abbrev pub decreases-piped : goal.decreases-piped
decreases-piped l = 2 + weight_perhaps (perhaps_of (option_map view l.x.now.target))

abbrev pub decreases-optional : goal.decreases-optional
decreases-optional l = 1 + weight_perhaps (perhaps_of (option_map view l.x.now))

abbrev pub decreases-target : goal.decreases-target
decreases-target l = 1 + weight_perhaps (perhaps_of (option_map view l.x.now))

abbrev pub decreases-behind_one : goal.decreases-behind_one
decreases-behind_one l = 2 + weight_perhaps (perhaps_of (option_map view l.x.now))

abbrev pub decreases-split : goal.decreases-split
decreases-split l = 5 + (weight (view l.x.now) + weight_perhaps (perhaps_of (option_map view l.y.now)))

abbrev pub decreases-substitute : goal.decreases-substitute
decreases-substitute l = 5 + (weight (view l.x.now) + weight (view l.y.now) + weight_perhaps
    (perhaps_of (option_map view l.z.now)))

abbrev pub decreases-getline : goal.decreases-getline
decreases-getline l = 5 + (weight_perhaps (perhaps_of (option_map view l.x.now)) + weight_perhaps
    (perhaps_of (option_map view l.y.now)))

abbrev pub invariant-behind-loop-x : goal.invariant-behind-loop-x
invariant-behind-loop-x l = l.initial.out.items ++ canon_behind l.text (trees_of (map view l.xs)) ≡ l.out.items
    ++ canon_behind l.text (trees_of (map view (drop l.x-index l.xs)))

abbrev pub invariant-parts-loop-x : goal.invariant-parts-loop-x
invariant-parts-loop-x l = l.initial.out.items ++ spec.canon_parts (trees_of (map view l.xs)) ≡ l.out.items
    ++ spec.canon_parts (trees_of (map view (drop l.x-index l.xs)))

abbrev pub invariant-terms-loop-x : goal.invariant-terms-loop-x
invariant-terms-loop-x l = l.initial.out.items ++ spec.canon_terms (terms_of (map view_term l.ts)) ≡ l.out.items
    ++ spec.canon_terms (terms_of (map view_term (drop l.x-index l.ts)))

abbrev pub invariant-pipes-loop-x : goal.invariant-pipes-loop-x
invariant-pipes-loop-x l = l.initial.out.items ++ spec.canon_pipes (pipes_of (map view_piped l.ps)) ≡ l.out.items
    ++ spec.canon_pipes (pipes_of (map view_piped (drop l.x-index l.ps)))
