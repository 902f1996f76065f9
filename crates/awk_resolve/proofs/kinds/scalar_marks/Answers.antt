use Rattle.awk_resolve.proofs.kinds.scalar_marks.Goals as goal

pub returns : goal.returns
returns c = rw (c.as_slice.ensures, c.in_ok-scalars.ensures) at c.reached.ensures
