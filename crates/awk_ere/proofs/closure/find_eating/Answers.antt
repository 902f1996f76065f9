use Rattle.std.proofs.Common.{arith}
use Rattle.awk_ere.proofs.Gathering.{gather_begins, gather_more}
use Rattle.awk_ere.proofs.Making.{Eating, eating_gained, eating_gathered}
use Rattle.awk_ere.proofs.closure.find_eating.Goals as goal

pub loop-at-init : goal.loop-at-init
loop-at-init c = rw c.clear.ensures.items (gather_begins _)

pub loop-at-preserved : goal.loop-at-preserved
loop-at-preserved c =
    gather_more (Eating c.args.program.now c.args.list.now) _ _ _
    (eating_gained c.args.program.now c.args.list.now _ _ _ c.loop-at-test.true c.in_ok-push_eating.ensures)
    c.loop-at.invariant

pub returns : goal.returns
returns c = eating_gathered _ _ _ _ (omega arith) c.loop-at.invariant
