use Rattle.awk_tree.specs.Expressions.{expr}
use Rattle.awk_statements.proofs.Others.{simple_by-other}
use Rattle.awk_statements.proofs.simple.simple_by.Goals as goal

pub returns-in_default : goal.returns-in_default
returns-in_default c =
    let d = c.args.level.now.depth in
    let n = c.in_default in
    rw (simple_by-other d (expr d) c.args.kind c.args.tokens.now n.not-Print n.not-Printf n.not-Delete n.not-Jump
    n.not-Exit n.not-Return) c.plain.ensures
