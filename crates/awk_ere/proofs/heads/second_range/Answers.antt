use Rattle.awk_ere.proofs.Beginnings.{second_more}
use Rattle.awk_ere.proofs.heads.second_range.Goals as goal

pub loop-byte-preserved : goal.loop-byte-preserved
loop-byte-preserved c = record {
  all' = second_more _ _ _ _ _ _ c.loop-byte.invariant.all' c.with_next-range.ensures.kept
      c.with_next-range.ensures.all;
  before' = c.with_next-range.ensures.all;
}
