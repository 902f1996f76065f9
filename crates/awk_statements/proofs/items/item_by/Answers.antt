use Rattle.awk_statements.proofs.Others.{item_by-other}
use Rattle.awk_statements.proofs.items.item_by.Goals as goal

pub returns-in_default : goal.returns-in_default
returns-in_default c =
    let n = c.in_default in
    rw (item_by-other c.args.kind c.args.tokens.now n.not-BeginWord n.not-EndWord n.not-Function n.not-OpenBrace)
    c.rule_of.ensures
