use Rattle.std.proofs.Common.{◌-◌, arith}
use Rattle.awk_ere.proofs.Ending.{best_none, best_some, no_start_more, no_start_none}
use Rattle.awk_ere.proofs.ends.best_by.Goals as goal

pub loop-place-init : goal.loop-place-init
loop-place-init c = λ sets program e far. no_start_none sets program c.args.text.now e c.args.from

pub loop-place-preserved : goal.loop-place-preserved
loop-place-preserved c = λ sets program e far.
    no_start_more sets program c.args.text.now e c.args.ends.now c.args.from c.loop-place.place far
    (omega (arith, c.loop-place-test.true)) (omega (arith, c.if-end-gt0.false, c.row_at-end.ensures))
    (c.loop-place.invariant sets program e far)

pub returns-then-end-gt0 : goal.returns-then-end-gt0
returns-then-end-gt0 c = λ sets program e far.
    best_some sets program c.args.text.now e c.args.ends.now c.args.from c.loop-place.place (c.row_at-end.result - 1)
    far c.loop-place.auto.place (omega (arith, c.loop-place-test.true))
    (omega (arith, c.if-end-gt0.true, c.row_at-end.ensures)) (c.loop-place.invariant sets program e far)

pub returns : goal.returns
returns c = λ sets program e far.
    best_none sets program c.args.text.now e c.args.from (λ i j after lt. c.loop-place.invariant sets program e far i j
    after (omega (arith, lt, c.loop-place-test.false)))
