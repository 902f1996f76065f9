use Rattle.std.proofs.Common.{◌≡◌, ◌-◌, map}
use Rattle.awk_tokens.specs.declared.terminals.Terminal.TheVariants as w
use Rattle.awk_tree.specs.Terminals.{is}
use Rattle.awk_tree.specs.View.{view}
use Rattle.awk_tree.specs.Input.{many_from}
use Rattle.awk_tree.specs.Expressions.{disjuncts, expr, next_disjunct}
use Rattle.awk_expressions.proofs.Loops.{with_front}
use Rattle.awk_expressions.proofs.grammar.Grammar.disjuncts.Given as goal

abbrev pub invariant-loop-turn : goal.invariant-loop-turn
invariant-loop-turn g l = with_front (map view l.found)
    (many_from (is w.Or) (next_disjunct l.self.depth (expr l.self.depth) l.in_print) (l._turn-end - l._turn) l.tokens)
    ≡ disjuncts l.self.depth (expr l.self.depth) l.in_print l.fn.tokens
