use Rattle.std.proofs.Common.{◌<◌, arith}
use Rattle.awk_numbers.proofs.SixDigits.{more_places, more_raised}
use Rattle.awk_numbers.proofs.short.zeros_to_fifteen.Goals as goal

pub loop-raised-smaller : goal.loop-raised-smaller
loop-raised-smaller c = omega (arith, c.loop-raised-test.true, c.loop-raised.invariant.3)

pub loop-raised-preserved : goal.loop-raised-preserved
loop-raised-preserved c =
    let raised = c.loop-raised.raised in
    let few : c.loop-raised.places < 9 = more_places c.args.number raised c.loop-raised.places
    c.loop-raised.invariant.0 (omega (arith, c.if-number-lt100000.false)) (omega (arith, c.loop-raised-test.true)) in (
      more_raised c.args.number raised c.loop-raised.places c.loop-raised.invariant.0,
      omega (arith, c.loop-raised-test.true),
      omega (arith, few),
      omega (arith, c.loop-raised.invariant.3),
    )
