use Rattle.awk_tree.specs.Expressions.{expr}
use Rattle.awk_tree.specs.Statements.{statement}
use Rattle.awk_statements.proofs.Others.{statement_by-other}
use Rattle.awk_statements.proofs.bodies.Bodies.statement_by.Goals as goal

pub returns-in_default : goal.returns-in_default
returns-in_default g c =
    let d = c.args.self.now.level.depth in
    let n = c.in_default in
    rw (statement_by-other d (expr d) (statement d) c.args.kind c.args.tokens.now n.not-Semicolon n.not-OpenBrace
    n.not-If n.not-While n.not-Do n.not-For) c.simple.ensures
