use Rattle.std.proofs.Common.{◌≡◌, ◌-◌, map}
use Rattle.awk_tokens.specs.declared.terminals.Terminal.TheVariants as w
use Rattle.awk_tree.specs.Terminals.{is}
use Rattle.awk_tree.specs.View.{view_piped}
use Rattle.awk_tree.specs.Input.{many_from}
use Rattle.awk_tree.specs.Expressions.{expr, one_pipe, pipes}
use Rattle.awk_expressions.proofs.Loops.{with_front}
use Rattle.awk_expressions.proofs.grammar.Grammar.pipes.Given as goal

abbrev pub invariant-loop-turn : goal.invariant-loop-turn
invariant-loop-turn g l = with_front (map view_piped l.found)
    (many_from (is w.BarGetline) (one_pipe l.self.depth (expr l.self.depth)) (l._turn-end - l._turn) l.tokens)
    ≡ pipes l.self.depth (expr l.self.depth) l.fn.tokens
