use Rattle.std.proofs.Common.{arith}
use Rattle.awk_ere.proofs.Gathering.{Target, gather_begins, gather_more, target_gained, targets_gathered}
use Rattle.awk_ere.proofs.closure.find_targets.Goals as goal

pub loop-at-init : goal.loop-at-init
loop-at-init c = rw c.clear.ensures.items (gather_begins _)

pub loop-at-preserved : goal.loop-at-preserved
loop-at-preserved c =
    gather_more (Target c.args.sets.now c.args.program.now c.args.byte c.args.list.now) _ _ _
    (target_gained c.args.sets.now c.args.program.now c.args.byte c.args.list.now _ _ _ c.loop-at-test.true
    c.in_ok-push_target.ensures) c.loop-at.invariant

pub returns : goal.returns
returns c = targets_gathered _ _ _ _ _ _ (omega arith) c.loop-at.invariant
