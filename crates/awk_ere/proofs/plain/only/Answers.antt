use Rattle.std.proofs.Common.{arith}
use Rattle.awk_ere.proofs.Images.{only_begins, only_more, only_ends}
use Rattle.awk_ere.proofs.plain.only.Goals as goal

pub loop-at-init : goal.loop-at-init
loop-at-init c = rw c.new-to.ensures.items (only_begins c.args.place c.args.from.now)

pub loop-at-preserved : goal.loop-at-preserved
loop-at-preserved c = only_more c.args.place c.args.from.now _ _ _ c.in_ok-push.ensures.items c.loop-at.invariant

pub returns : goal.returns
returns c = only_ends c.args.place c.args.from.now _ _ (omega arith) c.loop-at.invariant
