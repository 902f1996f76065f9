use Rattle.std.proofs.Common.{arith}
use Rattle.awk_ere.specs.View.{pattern}
use Rattle.awk_ere.proofs.Images.{none_begins, none_more, best_found, best_none}
use Rattle.awk_ere.proofs.plain.leftmost.Goals as goal

pub loop-start-init : goal.loop-start-init
loop-start-init c = none_begins c.args.text.now (pattern c.args.sets.now c.args.node.now) c.args.from

pub loop-start-preserved : goal.loop-start-preserved
loop-start-preserved c = none_more c.args.text.now (pattern c.args.sets.now c.args.node.now) c.args.from
    c.loop-start.start (rw c.in_default.is at c.in_ok-end.ensures) c.loop-start.invariant

pub returns-in-Some : goal.returns-in-Some
returns-in-Some c = best_found c.args.text.now (pattern c.args.sets.now c.args.node.now) c.args.from c.loop-start.start
    c.in-Some.end (omega arith) (rw c.in-Some.is at c.in_ok-end.ensures) c.loop-start.invariant

pub returns : goal.returns
returns c = best_none c.args.text.now (pattern c.args.sets.now c.args.node.now) c.args.from c.loop-start.start
    (omega arith) c.loop-start.invariant
