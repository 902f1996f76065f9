use Rattle.std.proofs.Common.{sym, ◌∙◌}
use Rattle.awk_machine.specs.Expressions.{either}
use Rattle.awk_lib.proofs.Rows.{some_of}
use Rattle.awk_builtins.proofs.at_hand.assignments.stepped_target.Goals as goal

pub returns-in-Variable-clause-done : goal.returns-in-Variable-clause-done
returns-in-Variable-clause-done c = λ yes place taken.
    let (steps, is) = some_of c.stepped_variable.result (sym c.is_some.ensures ∙ yes) in
    let gives = rw is at c.stepped_variable.ensures.done in
    rw c.in-Variable.is (record { val = either taken steps.0 steps.1; gives = λ g t. gives g t place taken })

pub returns-clause-done : goal.returns-clause-done
returns-clause-done c = λ yes place taken. rw c.in-Element.is
    (rw c.as_slice.ensures at (c.stepped_element.ensures.done yes place c.in-Element.field-0 taken))
