use Rattle.std.proofs.Common.{◌≡◌, ◌-◌, map}
use Rattle.awk_tokens.specs.declared.terminals.Terminal.TheVariants as w
use Rattle.awk_tree.specs.Terminals.{is}
use Rattle.awk_tree.specs.View.{view}
use Rattle.awk_tree.specs.Input.{many_from}
use Rattle.awk_tree.specs.Expressions.{conjuncts, expr, next_conjunct}
use Rattle.awk_expressions.proofs.Loops.{with_front}
use Rattle.awk_expressions.proofs.grammar.Grammar.conjuncts.Given as goal

abbrev pub invariant-loop-turn : goal.invariant-loop-turn
invariant-loop-turn g l = with_front (map view l.found)
    (many_from (is w.And) (next_conjunct l.self.depth (expr l.self.depth) l.in_print) (l._turn-end - l._turn) l.tokens)
    ≡ conjuncts l.self.depth (expr l.self.depth) l.in_print l.fn.tokens
