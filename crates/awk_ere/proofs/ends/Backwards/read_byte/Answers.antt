use Rattle.std.proofs.Common.{arith}
use Rattle.std.proofs.Math.ListN.{length-set}
use Rattle.std.proofs.lemmas.Option.{slice_get-get_or}
use Rattle.awk_ere.proofs.Ending.{over_more, over_none}
use Rattle.awk_ere.proofs.ends.Backwards.read_byte.Goals as goal

pub loop-at-init : goal.loop-at-init
loop-at-init c = record { len = c.requires; over = over_none _ _ _ _ _ }

pub loop-at-preserved : goal.loop-at-preserved
loop-at-preserved c = record {
  len = omega (arith, c.loop-at.invariant.len, length-set c.loop-at.row c.loop-at.at c.over.result);
  over = over_more _ _ _ _ _ _ _ _ (omega (arith, c.loop-at.invariant.len, c.loop-at-test.true))
      (slice_get-get_or c.args.self.now.program.now c.loop-at.at _ c.loop-at-test.true) c.over.ensures
      c.loop-at.invariant.over;
}
