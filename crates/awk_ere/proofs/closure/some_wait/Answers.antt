use Rattle.std.proofs.Common.{arith}
use Rattle.awk_ere.proofs.Making.{waits_gathered}
use Rattle.awk_ere.proofs.closure.some_wait.Goals as goal

pub returns : goal.returns
returns c = λ off. waits_gathered _ _ _ (omega arith) c.loop-at.invariant
