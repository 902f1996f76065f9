use Rattle.std.proofs.Common.{◌≡◌, ◌-◌, map}
use Rattle.awk_tree.specs.Looks.{past}
use Rattle.awk_tree.specs.View.{view_item}
use Rattle.awk_tree.specs.Statements.{until_from, is_done, item, script}
use Rattle.awk_expressions.proofs.Loops.{with_front}
use Rattle.awk_statements.proofs.items.items.Given as goal

abbrev pub invariant-loop-turn : goal.invariant-loop-turn
invariant-loop-turn l = with_front (map view_item l.found) (until_from past is_done item (l._turn-end - l._turn)
    l.tokens) ≡ script l.fn.tokens
