use Rattle.std.proofs.Common.{◌≡◌, ◌-◌, map}
use Rattle.awk_tree.specs.View.{view}
use Rattle.awk_tokens.specs.declared.terminals.Terminal.TheVariants as w
use Rattle.awk_tree.specs.Terminals.{is}
use Rattle.awk_tree.specs.Input.{many_from}
use Rattle.awk_tree.specs.Expressions.{expr, next_in_list, commas}
use Rattle.awk_expressions.proofs.Loops.{with_front}
use Rattle.awk_expressions.proofs.grammar.Grammar.commas.Given as goal

abbrev pub invariant-loop-turn : goal.invariant-loop-turn
invariant-loop-turn g l = with_front (map view l.found)
    (many_from (is w.Comma) (next_in_list l.self.depth (expr l.self.depth)) (l._turn-end - l._turn) l.tokens)
    ≡ commas l.self.depth (expr l.self.depth) l.fn.tokens
