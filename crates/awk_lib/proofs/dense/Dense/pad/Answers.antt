use Rattle.std.proofs.Common.{ap, ◌∙◌, arith}
use Rattle.awk_lib.specs.Dense.{dense_rows}
use Rattle.awk_lib.proofs.Seams.{dense_pad}
use Rattle.awk_lib.proofs.dense.Dense.pad.Goals as goal

pub loop-self-preserved : goal.loop-self-preserved
loop-self-preserved g c = record {
  rows = λ j. ap (dense_rows j) c.in_ok-push.ensures.items ∙ dense_pad j c.loop-self.self.places.items
      ∙ c.loop-self.invariant.rows j;
  low = omega (arith, c.in_ok-push.ensures.len, c.loop-self.invariant.low);
  high = omega (arith, c.in_ok-push.ensures.len, c.loop-self-test.true, c.len.ensures);
}
