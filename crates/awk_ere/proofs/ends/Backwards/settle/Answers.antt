use Rattle.awk_ere.proofs.Ending.{above_then}
use Rattle.awk_ere.proofs.ends.Backwards.settle.Goals as goal

pub loop-init : goal.loop-init
loop-init c = record {
  len = c.raise_each.ensures.len;
  above = c.raise_each.ensures.above;
  ends =
      c.raise_each.ensures.ends;
}

pub loop-preserved : goal.loop-preserved
loop-preserved c = record {
  len = c.raise_each-in-loop.ensures.len;
  above = above_then _ _ _ c.loop.invariant.above c.raise_each-in-loop.ensures.above;
  ends = λ h. c.raise_each-in-loop.ensures.ends (c.loop.invariant.ends h);
}

pub returns-then-not-raise_each-clause-above : goal.returns-then-not-raise_each-clause-above
returns-then-not-raise_each-clause-above c = above_then _ _ _ c.loop.invariant.above c.raise_each-in-loop.ensures.above

pub returns-then-not-raise_each-clause-ends : goal.returns-then-not-raise_each-clause-ends
returns-then-not-raise_each-clause-ends c = λ h. c.raise_each-in-loop.ensures.ends (c.loop.invariant.ends h)

pub returns-then-not-raise_each-clause-settled : goal.returns-then-not-raise_each-clause-settled
returns-then-not-raise_each-clause-settled c = λ _ q r skip. c.raise_each-in-loop.ensures.settled
    c.if-not-raise_each.true q (c.requires.all _ _ q r skip) r skip

pub returns-clause-above : goal.returns-clause-above
returns-clause-above c = c.loop.invariant.above

pub returns-clause-ends : goal.returns-clause-ends
returns-clause-ends c = c.loop.invariant.ends
