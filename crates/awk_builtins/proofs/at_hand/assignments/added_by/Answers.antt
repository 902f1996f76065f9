use Rattle.awk_builtins.proofs.at_hand.assignments.added_by.Goals as goal

pub returns-in-Double-clause-done : goal.returns-in-Double-clause-done
returns-in-Double-clause-done c = λ yes place at_name. c.element_changed_by_any.ensures.done yes place at_name

pub returns-in-Add-clause-done : goal.returns-in-Add-clause-done
returns-in-Add-clause-done c = λ yes place at_name. rw c.in-Add.is (c.added_to_element.ensures.done yes place at_name)
