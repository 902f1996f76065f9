use Rattle.std.proofs.Common.{◌≡◌, ◌-◌, map}
use Rattle.awk_tree.specs.View.{view}
use Rattle.awk_tokens.specs.declared.terminals.Terminal.TheVariants as w
use Rattle.awk_tree.specs.Terminals.{is}
use Rattle.awk_tree.specs.Input.{many_from}
use Rattle.awk_tree.specs.Expressions.{expr}
use Rattle.awk_tree.specs.Statements.{next_printed, more_printed}
use Rattle.awk_expressions.proofs.Loops.{with_front}
use Rattle.awk_statements.proofs.prints.more_printed.Given as goal

abbrev pub invariant-loop-turn : goal.invariant-loop-turn
invariant-loop-turn l = with_front (map view l.found)
    (many_from (is w.Comma) (next_printed l.level.depth (expr l.level.depth)) (l._turn-end - l._turn) l.tokens)
    ≡ more_printed l.level.depth (expr l.level.depth) l.fn.tokens
