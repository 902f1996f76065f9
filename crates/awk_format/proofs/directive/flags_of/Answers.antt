use Rattle.std.proofs.Common.{arith}
use Rattle.awk_format.proofs.Flags.{flags_more}
use Rattle.awk_format.proofs.directive.flags_of.Goals as goal

pub loop-b-preserved : goal.loop-b-preserved
loop-b-preserved c = rw c.with-flags.ensures (flags_more c.loop-b.flags c.args.run.now c.loop-b.b-index
    (omega arith) c.loop-b.invariant)
