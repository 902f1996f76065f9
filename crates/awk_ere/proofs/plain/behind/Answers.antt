use Rattle.std.proofs.Common.{arith}
use Rattle.awk_ere.specs.Program.{holds}
use Rattle.awk_ere.proofs.Images.{behind_begins, behind_more, behind_ends}
use Rattle.awk_ere.proofs.plain.behind.Goals as goal

pub loop-at-init : goal.loop-at-init
loop-at-init c = rw (c.in_ok-push.ensures.items, c.new-to.ensures.items)
    (behind_begins (holds c.args.sets.now c.args.class) c.args.text.now c.args.from.now)

pub loop-at-preserved : goal.loop-at-preserved
loop-at-preserved c = behind_more (holds c.args.sets.now c.args.class) c.args.text.now c.args.from.now _ _ _ _
    (omega arith) c.in_ok-push-2.ensures.items c.takes-taken.ensures c.loop-at.invariant

pub returns : goal.returns
returns c = behind_ends (holds c.args.sets.now c.args.class) c.args.text.now c.args.from.now _ _ c.requires
    (omega arith) c.loop-at.invariant
