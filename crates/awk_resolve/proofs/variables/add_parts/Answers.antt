use Rattle.std.proofs.Common.{arith}
use Rattle.awk_resolve.proofs.Growing.{parts_on}
use Rattle.awk_resolve.proofs.variables.add_parts.Goals as goal

pub loop-part-preserved : goal.loop-part-preserved
loop-part-preserved c = parts_on _ _ _ c.part-item.result c.args.parts.now c.loop-part.part-index
    (omega arith) c.part-item.is c.in_ok-add_part.ensures c.loop-part.invariant
