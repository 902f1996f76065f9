use Rattle.awk_program.proofs.Views.{view-Assign, view-Change, view-Step}
use Rattle.awk_builtins.proofs.at_hand.assignments.done_at_once.Goals as goal

pub returns-in-Assign-clause-done : goal.returns-in-Assign-clause-done
returns-in-Assign-clause-done c = λ yes.
    let h = c.assigned.ensures.done yes c.in-Assign.field-0 in
    record { val = h.val; gives = λ g t. rw (c.in-Assign.is, view-Assign) (rw c.get.ensures at (h.gives g t)) }

pub returns-clause-done : goal.returns-clause-done
returns-clause-done c = λ yes.
    let h = c.changed.ensures.done yes c.in-Change.field-0 in
    record { val = h.val; gives = λ g t. rw (c.in-Change.is, view-Change) (rw c.get-2.ensures at (h.gives g t)) }

pub returns-in-Step-clause-done : goal.returns-in-Step-clause-done
returns-in-Step-clause-done c = λ yes.
    let h = c.stepped_target.ensures.done yes c.in-Step.field-0 c.in-Step.field-2 in
    record { val = h.val; gives = λ g t. rw (c.in-Step.is, view-Step) (h.gives g t) }
