use Rattle.std.proofs.lemmas.List.{take_more}
use Rattle.awk_store.proofs.Missing.{frame_more, made_more}
use Rattle.awk_store.proofs.calls.add_all_missing.Goals as goal

pub loop-is_array-preserved : goal.loop-is_array-preserved
loop-is_array-preserved c = record {
  frame_is = frame_more _ _ _ _ _ _ _ _ c.loop-is_array.invariant.frame_is c.loop-is_array.invariant.made_is
      c.in_ok-add_missing.ensures.frame (take_more c.args.others.now c.loop-is_array.is_array-index _
      c.loop-is_array-test.true);
  made_is = made_more _ _ _ _ _ _ c.loop-is_array.invariant.made_is c.in_ok-add_missing.ensures.made
      (take_more c.args.others.now c.loop-is_array.is_array-index _ c.loop-is_array-test.true);
}
