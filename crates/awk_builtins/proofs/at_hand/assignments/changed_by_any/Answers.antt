use Rattle.std.proofs.Common.{sym, ap, ◌∙◌}
use Rattle.awk_program.specs.View.{view}
use Rattle.awk_store.specs.Wholes.{names_in}
use Rattle.awk_text.specs.Lents.{lent_value}
use Rattle.awk_text.specs.Values.{number_of, of_number}
use Rattle.awk_builtins.proofs.Storing.{changes_variable, number_back}
use Rattle.awk_builtins.proofs.at_hand.assignments.changed_by_any.Goals as goal

pub returns-clause-done : goal.returns-clause-done
returns-clause-done c = λ yes place.
    let numbers = c.args.store.now.numbers in
    let val = lent_value c.in-Some.value in
    let wanted = rw c.numbers-numbers.ensures at (sym c.number.ensures ∙ c.in-Ok.is) in
    let made = rw c.numbers-numbers.ensures at (sym c.operation.ensures ∙ c.in-Ok-operation.is) in
    let held = ap (number_of numbers) c.in-Some-any_number_kept.ensures.number
    ∙ number_back numbers c.in-Some-any_number_kept.old in
    let same = rw c.of.ensures at c.set.ensures in
    record {
      val = of_number c.in-Ok-operation.new;
      gives = λ g t. changes_variable g (c.args.store.now, t) c.set.new.self place c.args.variable
          c.in-Some-any_number_kept.ensures.nf c.args.how (view (names_in g) c.args.x.now) val
          c.in-Some-any_number_kept.old c.in-Ok.operand c.in-Ok-operation.new
          (c.in-Some.ensures g t) held wanted made same;
    }
