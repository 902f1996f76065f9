use Rattle.std.proofs.Common.{sym, ◌∙◌}
use Rattle.awk_program.specs.View.{view}
use Rattle.awk_text.specs.Lents.{lent_value}
use Rattle.awk_builtins.proofs.at_hand.assignments.element_changed_by_any.Goals as goal

pub returns-then-added_whole-clause-done : goal.returns-then-added_whole-clause-done
returns-then-added_whole-clause-done c = λ yes place at_name.
    c.added_whole.ensures.done c.if-added_whole.true (λ names. view names c.args.x.now) (lent_value c.in-Some.value)
    c.in-Some.ensures (rw c.numbers-numbers.ensures at (sym c.number.ensures ∙ c.in-Ok.is)) place at_name

pub returns-clause-done : goal.returns-clause-done
returns-clause-done c = λ yes place at_name.
    let same = c.added_whole.ensures.not_done c.if-added_whole.false in
    let done = rw same at (c.changed_at.ensures.done yes) in
    done (λ names. view names c.args.x.now) (lent_value c.in-Some.value) c.in-Some.ensures
    (rw c.numbers-numbers.ensures at (sym c.number.ensures ∙ c.in-Ok.is)) place at_name
