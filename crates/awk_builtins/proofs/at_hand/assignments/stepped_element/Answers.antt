use Rattle.std.proofs.Common.{sym, ◌∙◌, map, rules, w64}
use Rattle.std.proofs.lemmas.Int.{to_z-of_z}
use Rattle.awk_numbers.specs.declared.number.Number.TheVariants as number
use Rattle.awk_program.specs.Program.{expressions_of}
use Rattle.awk_program.specs.View.{variable_of, view}
use Rattle.awk_store.specs.Wholes.{names_in}
use Rattle.awk_machine.specs.Expressions.{either}
use Rattle.awk_builtins.proofs.Storing.{steps_element}
use Rattle.awk_builtins.proofs.at_hand.assignments.stepped_element.Goals as goal

pub returns-clause-done : goal.returns-clause-done
returns-clause-done c = λ yes place at_name taken.
    let h = c.added_at.ensures.done yes in
    let a = rw (to_z-of_z w64 c.step_by.result (search rules)) at h.adds in
    record {
      val = either taken (number.Whole a.0) (number.Whole a.1);
      gives = λ g t. steps_element g (c.args.store.now, t) c.added_at.new.store place at_name c.args.array
          (expressions_of (map (view (names_in g)) c.args.keys.now)) h.key
          (h.is g t at_name (variable_of (names_in g) c.args.array)) a.4.0 a.0 a.1 a.2 a.4.1 a.4.2 c.args.how taken
          (sym (c.step_by.ensures c.args.store.now.numbers a.0) ∙ a.3);
    }
