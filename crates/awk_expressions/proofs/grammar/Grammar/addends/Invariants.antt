use Rattle.std.proofs.Common.{◌≡◌, ◌-◌, map}
use Rattle.awk_tree.specs.Looks.{is_term_sign}
use Rattle.awk_tree.specs.View.{view_term}
use Rattle.awk_tree.specs.Input.{many_from}
use Rattle.awk_tree.specs.Expressions.{addend, addends, expr}
use Rattle.awk_expressions.proofs.Loops.{with_front}
use Rattle.awk_expressions.proofs.grammar.Grammar.addends.Given as goal

abbrev pub invariant-loop-turn : goal.invariant-loop-turn
invariant-loop-turn g l = with_front (map view_term l.found)
    (many_from is_term_sign (addend l.self.depth (expr l.self.depth)) (l._turn-end - l._turn) l.tokens)
    ≡ addends l.self.depth (expr l.self.depth) l.fn.tokens
