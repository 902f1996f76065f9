use Rattle.std.proofs.Common.{arith}
use Rattle.box_os.proofs.OsRising.{below-is_new}
use Rattle.box_os.proofs.os_world.OsWorld.put.Goals as goal

-- the numbers that are open begin at 3, so 0 is none of them
pub returns-in_default-clause-input : goal.returns-in_default-clause-input
returns-in_default-clause-input c input =
    c.put_to.ensures.absent (below-is_new 3 _ _ _ (omega (arith, input)) c.self.invariant)
