use Rattle.std.proofs.Common.{arith}
use Rattle.awk_ere.proofs.Images.{union_begins, union_more, union_ends}
use Rattle.awk_ere.proofs.plain.union.Goals as goal

pub loop-at-init : goal.loop-at-init
loop-at-init c = rw c.new-all.ensures.items (union_begins c.args.some.now c.args.others.now)

pub loop-at-preserved : goal.loop-at-preserved
loop-at-preserved c = union_more c.args.some.now c.args.others.now _ _ _ c.in_ok-push.ensures.items c.loop-at.invariant

pub returns : goal.returns
returns c = union_ends c.args.some.now c.args.others.now _ _ c.requires (omega arith) c.loop-at.invariant
