use Rattle.awk_resolve.proofs.faults.misnamed_role.Goals as goal

pub returns-in-Function : goal.returns-in-Function
returns-in-Function c = rw c.in-Function.is (rw c.as_slice.ensures at c.misnamed_in.ensures)
