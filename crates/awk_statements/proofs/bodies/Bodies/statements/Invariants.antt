use Rattle.std.proofs.Common.{◌≡◌, ◌-◌, map}
use Rattle.awk_tree.specs.Looks.{skip}
use Rattle.awk_tree.specs.View.{view_statement}
use Rattle.awk_tokens.specs.declared.terminals.Terminal.TheVariants as w
use Rattle.awk_tree.specs.Terminals.{is, look}
use Rattle.awk_tree.specs.Expressions.{expr}
use Rattle.awk_tree.specs.Statements.{until_from, statement, statement_here, statements}
use Rattle.awk_expressions.proofs.Loops.{with_front}
use Rattle.awk_statements.proofs.bodies.Bodies.statements.Given as goal

abbrev pub invariant-loop-turn : goal.invariant-loop-turn
invariant-loop-turn g l = with_front (map view_statement l.found) (until_from skip (λ ts. is (look ts) w.CloseBrace)
    (statement_here l.self.level.depth (expr l.self.level.depth) (statement l.self.level.depth)) (l._turn-end - l._turn)
    l.tokens) ≡ statements l.self.level.depth (expr l.self.level.depth) (statement l.self.level.depth) l.fn.tokens
