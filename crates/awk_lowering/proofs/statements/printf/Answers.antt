use Rattle.awk_lowering.proofs.Carried.{first_and_rest}
use Rattle.awk_lowering.proofs.statements.printf.Goals as goal

pub returns-in-len1-up : goal.returns-in-len1-up
returns-in-len1-up c = rw (first_and_rest c.args.xs.now c.x-item.result c.in-len1-up.len_at_least c.x-item.is)
    (c.printf_of-in-len1-up.ensures _ _ _ _ c.text-x.ensures c.list.ensures c.redirected-to.ensures)
