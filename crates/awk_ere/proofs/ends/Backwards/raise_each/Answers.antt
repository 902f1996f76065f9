use Rattle.std.proofs.Common.{sym, ◌∙◌, true≢false}
use Rattle.awk_ere.proofs.Ending.{above_then, settled_each, settled_more}
use Rattle.awk_ere.proofs.ends.Backwards.raise_each.Goals.{then-raise, else-raise}
use Rattle.awk_ere.proofs.ends.Backwards.raise_each.Goals as goal

pub loop-k-preserved : goal.loop-k-preserved
loop-k-preserved c = record {
  len = c.raise.ensures.len;
  above = above_then _ _ _ c.loop-k.invariant.above c.raise.ensures.above;
  ends = λ h. c.raise.ensures.ends (c.loop-k.invariant.ends h);
  settled = elim c.if-raise.branch [
    | then-raise w ↦ λ h. absurd (true≢false (sym w.any-is ∙ h))
    | else-raise w ↦ λ h. settled_more _ _ _ _ _ _ _ (c.raise.ensures.same w.if-raise.false)
        (c.loop-k.invariant.settled (sym w.any-is ∙ h)) (c.raise.ensures.settled w.if-raise.false)
  ];
}

pub returns-clause-settled : goal.returns-clause-settled
returns-clause-settled c = λ h. settled_each _ _ _ _ _ _ c.loop-k-test.false (c.loop-k.invariant.settled h)
