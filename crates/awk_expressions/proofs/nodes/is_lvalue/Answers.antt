use Rattle.std.proofs.Common.{sym}
use Rattle.awk_expressions.proofs.NoLvalue.{no_lvalue}
use Rattle.awk_expressions.proofs.nodes.is_lvalue.Goals as goal

pub returns-in_default : goal.returns-in_default
returns-in_default c = sym (no_lvalue c.args.x.now c.in_default.not-Name c.in_default.not-Element
    c.in_default.not-Field)
