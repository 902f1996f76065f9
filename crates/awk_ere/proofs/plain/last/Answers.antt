use Rattle.std.proofs.Common.{refl, arith}
use Rattle.awk_ere.proofs.Images.{last_begins, last_more, last_found, last_none}
use Rattle.awk_ere.proofs.plain.last.Goals as goal

pub loop-after-init : goal.loop-after-init
loop-after-init c = last_begins c.args.set.now

pub loop-after-preserved : goal.loop-after-preserved
loop-after-preserved c = last_more c.args.set.now _ _ (omega arith) refl c.if-set-at.false c.loop-after.invariant

pub returns-then-set-at : goal.returns-then-set-at
returns-then-set-at c = last_found c.args.set.now _ _ (omega arith) refl c.if-set-at.true c.loop-after.invariant

pub returns : goal.returns
returns c = last_none c.args.set.now _ (omega arith) c.loop-after.invariant
