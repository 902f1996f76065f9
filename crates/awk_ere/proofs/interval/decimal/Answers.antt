use Rattle.std.proofs.Common.{arith}
use Rattle.awk_ere.proofs.Intervals.{decimal_step}
use Rattle.awk_ere.proofs.interval.decimal.Goals as goal

pub loop-byte-preserved : goal.loop-byte-preserved
loop-byte-preserved c = record {
  small = omega (arith, c.min-value.ensures);
  rest = decimal_step _ _ _ _ _ c.loop-byte-test.true (omega (arith, c.min-value.ensures, c.saturating_sub.ensures))
      c.loop-byte.invariant.rest;
}
