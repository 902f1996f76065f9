use Rattle.awk_resolve.proofs.kinds.marks_by.Goals as goal

pub returns-clause-scalars : goal.returns-clause-scalars
returns-clause-scalars c = rw (c.as_slice.ensures.value, c.in_ok-links.ensures) at c.in_ok-scalars.ensures

pub returns-clause-arrays : goal.returns-clause-arrays
returns-clause-arrays c = rw c.in_ok-links.ensures at c.in_ok-arrays.ensures
