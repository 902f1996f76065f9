use Rattle.awk_resolve.proofs.kinds.marks_in.Goals as goal

pub returns-clause-scalars : goal.returns-clause-scalars
returns-clause-scalars c = rw (c.as_slice.ensures, c.in_ok-uses.ensures) at c.marks_by.ensures.scalars

pub returns-clause-arrays : goal.returns-clause-arrays
returns-clause-arrays c = rw (c.as_slice.ensures, c.in_ok-uses.ensures) at c.marks_by.ensures.arrays
