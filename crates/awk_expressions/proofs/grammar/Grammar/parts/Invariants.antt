use Rattle.std.proofs.Common.{◌≡◌, ◌-◌, map}
use Rattle.awk_tree.specs.Looks.{begins_part}
use Rattle.awk_tree.specs.View.{view}
use Rattle.awk_tree.specs.Input.{many_from}
use Rattle.awk_tree.specs.Expressions.{expr, part, parts}
use Rattle.awk_expressions.proofs.Loops.{with_front}
use Rattle.awk_expressions.proofs.grammar.Grammar.parts.Given as goal

abbrev pub invariant-loop-turn : goal.invariant-loop-turn
invariant-loop-turn g l = with_front (map view l.found) (many_from begins_part (part l.self.depth (expr l.self.depth))
    (l._turn-end - l._turn) l.tokens) ≡ parts l.self.depth (expr l.self.depth) l.fn.tokens
