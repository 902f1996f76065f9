use Rattle.awk_builtins.proofs.at_hand.assignments.assigned.Goals as goal

pub returns-in-Variable-clause-done : goal.returns-in-Variable-clause-done
returns-in-Variable-clause-done c = λ yes place. rw c.in-Variable.is (c.assigned_variable.ensures.done yes place)

pub returns-clause-done : goal.returns-clause-done
returns-clause-done c = λ yes place. rw c.in-Element.is
    (rw c.as_slice.ensures at (c.assigned_element.ensures.done yes place c.in-Element.field-0))
