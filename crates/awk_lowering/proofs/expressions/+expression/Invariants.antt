use Rattle.std.proofs.Common.{◌≡◌, ◌+◌, ◌*◌, ◌++◌, drop, map}
use Rattle.awk_tree.specs.Tree.{trees_of, pipes_of}
use Rattle.awk_tree.specs.View.{view, view_term, view_piped}
use Rattle.awk_program.specs.View as code
use Rattle.awk_lowering.specs.Lowered.{lowered, lowered_text, lowered_pipes, arguments}
use Rattle.awk_lowering.specs.OneByOne.{lowered_term, lowered_join, then_pipes, then_arguments}
use Rattle.awk_lowering.specs.Made.{names_in, scope_in}
use Rattle.awk_lowering.proofs.expressions.+expression.Given as goal

abbrev pub decreases-expression : goal.decreases-expression
decreases-expression l = 16 * l.level

abbrev pub decreases-part : goal.decreases-part
decreases-part l = 1 + 16 * l.level

abbrev pub decreases-text : goal.decreases-text
decreases-text l = 2 + 16 * l.level

abbrev pub decreases-operand : goal.decreases-operand
decreases-operand l = 2 + 16 * l.level

abbrev pub decreases-key : goal.decreases-key
decreases-key l = 2 + 16 * l.level

abbrev pub decreases-fill : goal.decreases-fill
decreases-fill l = 1 + 16 * l.level

abbrev pub decreases-list : goal.decreases-list
decreases-list l = 2 + 16 * l.level

abbrev pub decreases-fill_texts : goal.decreases-fill_texts
decreases-fill_texts l = 3 + 16 * l.level

abbrev pub decreases-texts : goal.decreases-texts
decreases-texts l = 4 + 16 * l.level

abbrev pub decreases-fill_first_texts : goal.decreases-fill_first_texts
decreases-fill_first_texts l = 4 + 16 * l.level

abbrev pub decreases-first_texts : goal.decreases-first_texts
decreases-first_texts l = 5 + 16 * l.level

abbrev pub decreases-fill_terms : goal.decreases-fill_terms
decreases-fill_terms l = 2 + 16 * l.level

abbrev pub decreases-terms : goal.decreases-terms
decreases-terms l = 3 + 16 * l.level

abbrev pub decreases-fill_joins : goal.decreases-fill_joins
decreases-fill_joins l = 3 + 16 * l.level

abbrev pub decreases-joins : goal.decreases-joins
decreases-joins l = 4 + 16 * l.level

abbrev pub decreases-element : goal.decreases-element
decreases-element l = 5 + 16 * l.level

abbrev pub decreases-target : goal.decreases-target
decreases-target l = 6 + 16 * l.level

abbrev pub decreases-target_or_record : goal.decreases-target_or_record
decreases-target_or_record l = 7 + 16 * l.level

abbrev pub decreases-piped_target : goal.decreases-piped_target
decreases-piped_target l = 7 + 16 * l.level

abbrev pub decreases-fill_pipes : goal.decreases-fill_pipes
decreases-fill_pipes l = 8 + 16 * l.level

abbrev pub decreases-pipes : goal.decreases-pipes
decreases-pipes l = 9 + 16 * l.level

abbrev pub decreases-wanted : goal.decreases-wanted
decreases-wanted l = 3 + 16 * l.level

abbrev pub decreases-separator : goal.decreases-separator
decreases-separator l = 4 + 16 * l.level

abbrev pub decreases-split : goal.decreases-split
decreases-split l = 5 + 16 * l.level

abbrev pub decreases-getline : goal.decreases-getline
decreases-getline l = 8 + 16 * l.level

abbrev pub decreases-fill_arguments : goal.decreases-fill_arguments
decreases-fill_arguments l = 2 + 16 * l.level

abbrev pub decreases-arguments : goal.decreases-arguments
decreases-arguments l = 3 + 16 * l.level

abbrev pub decreases-call : goal.decreases-call
decreases-call l = 4 + 16 * l.level

abbrev pub decreases-called : goal.decreases-called
decreases-called l = 6 + 16 * l.level

abbrev pub decreases-located : goal.decreases-located
decreases-located l = 4 + 16 * l.level

abbrev pub decreases-plain : goal.decreases-plain
decreases-plain l = 7 + 16 * l.level

abbrev pub decreases-builtin : goal.decreases-builtin
decreases-builtin l = 8 + 16 * l.level

abbrev pub invariant-fill-loop-x : goal.invariant-fill-loop-x
invariant-fill-loop-x l = map (code.view (names_in l.context)) l.initial.out ++ map (lowered (scope_in l.context))
    (map view l.xs) ≡ map (code.view (names_in l.context)) l.out ++ map (lowered (scope_in l.context))
    (map view (drop l.x-index l.xs))

abbrev pub invariant-fill_texts-loop-x : goal.invariant-fill_texts-loop-x
invariant-fill_texts-loop-x l = map (code.view (names_in l.context)) l.initial.out
    ++ map (lowered_text (scope_in l.context) l.place) (map view l.xs) ≡ map (code.view (names_in l.context)) l.out
    ++ map (lowered_text (scope_in l.context) l.place) (map view (drop l.x-index l.xs))

abbrev pub invariant-fill_terms-loop-x : goal.invariant-fill_terms-loop-x
invariant-fill_terms-loop-x l = map (code.view_term (names_in l.context)) l.initial.out
    ++ map (lowered_term (scope_in l.context)) (map view_term l.xs) ≡ map (code.view_term (names_in l.context)) l.out
    ++ map (lowered_term (scope_in l.context)) (map view_term (drop l.x-index l.xs))

abbrev pub invariant-fill_joins-loop-x : goal.invariant-fill_joins-loop-x
invariant-fill_joins-loop-x l = map (code.view_joined (names_in l.context)) l.initial.out
    ++ map (lowered_join (scope_in l.context)) (map view l.xs) ≡ map (code.view_joined (names_in l.context)) l.out
    ++ map (lowered_join (scope_in l.context)) (map view (drop l.x-index l.xs))

abbrev pub invariant-fill_pipes-loop-x : goal.invariant-fill_pipes-loop-x
invariant-fill_pipes-loop-x l = then_pipes (code.view_pipes (names_in l.context) l.initial.out)
    (lowered_pipes (scope_in l.context) (pipes_of (map view_piped l.xs)))
    ≡ then_pipes (code.view_pipes (names_in l.context) l.out) (lowered_pipes (scope_in l.context)
    (pipes_of (map view_piped (drop l.x-index l.xs))))

abbrev pub invariant-fill_arguments-loop-x : goal.invariant-fill_arguments-loop-x
invariant-fill_arguments-loop-x l = then_arguments (code.view_arguments (names_in l.context) l.initial.out)
    (arguments (scope_in l.context) l.arrays (trees_of (map view l.xs))) ≡ then_arguments
    (code.view_arguments (names_in l.context) l.out) (arguments (scope_in l.context) l.rest
    (trees_of (map view (drop l.x-index l.xs))))
