use Rattle.std.proofs.Common.{ap, map, sym, ◌∙◌}
use Rattle.std.specs.Prelude.{Some}
use Rattle.awk_program.specs.Program.{expressions_of}
use Rattle.awk_program.specs.View.{variable_of, view}
use Rattle.awk_store.specs.Wholes.{names_in}
use Rattle.awk_text.specs.Values.{of_number}
use Rattle.awk_text.specs.declared.value.Value.{Value}
use Rattle.awk_builtins.proofs.Rests.{value_some}
use Rattle.awk_builtins.proofs.Storing.{changes_element}
use Rattle.awk_builtins.proofs.Subscripts.{is_key}
use Rattle.awk_builtins.proofs.at_hand.assignments.changed_at.Goals as goal

pub returns-in-Ok-put-clause-done : goal.returns-in-Ok-put-clause-done
returns-in-Ok-put-clause-done c = λ yes x val there is place at_name.
    let a = c.in-Ok-put.ensures.ok in
    let has = sym c.in-Some-element.ensures ∙ ap value_some c.in-Some-as_number.ensures in
    let made = rw c.numbers.ensures at (sym c.operation.ensures ∙ c.in-Ok.is) in
    record {
      val = of_number c.in-Ok.new;
      gives = λ g t. changes_element g (c.args.store.now, t) c.put.new.self place at_name c.args.array
          (expressions_of (map (view (names_in g)) c.args.keys.now)) c.in-Some.key.now
          (is_key c.in-Some.ensures g t at_name (variable_of (names_in g) c.args.array)) a.0
          c.in-Some-as_number.old c.in-Ok.new has (rw c.of.ensures at a.1) a.2 c.args.how (x (names_in g)) val
          c.args.operand (there g t) is made;
    }
