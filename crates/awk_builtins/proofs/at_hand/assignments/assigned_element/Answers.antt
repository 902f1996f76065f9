use Rattle.std.proofs.Common.{map, rules, w64}
use Rattle.std.proofs.lemmas.Int.{to_z-of_z}
use Rattle.awk_program.specs.Program.{expressions_of}
use Rattle.awk_program.specs.View.{variable_of, view}
use Rattle.awk_store.specs.Wholes.{names_in}
use Rattle.awk_text.specs.Values.{text_of}
use Rattle.awk_text.specs.declared.value.Value.TheVariants as v
use Rattle.awk_builtins.proofs.Storing.{assigns_element}
use Rattle.awk_builtins.proofs.Subscripts.{is_key}
use Rattle.awk_builtins.proofs.at_hand.assignments.assigned_element.Goals as goal

pub returns-in-Some-number_of_key-clause-done : goal.returns-in-Some-number_of_key-clause-done
returns-in-Some-number_of_key-clause-done c = λ yes place at_name.
    let a = rw (to_z-of_z w64 c.in-Some-number_of_key.number (search rules)) at (c.put_at_number.ensures.done yes) in
    record {
      val = c.in-Some.value;
      gives = λ g t. assigns_element g (c.args.store.now, t) c.put_at_number.new.store place at_name c.args.array
          (expressions_of (map (view (names_in g)) c.args.keys.now)) (text_of (v.Num c.in-Some-number_of_key.number))
          (c.in-Some-number_of_key.ensures a.0 g t at_name (variable_of (names_in g) c.args.array)) a.1.0
          c.in-Some.value a.1.1 a.1.2 (view (names_in g) c.args.x.now)
          (c.chosen.ensures c.in-Some.value c.in-Some.ensures g t);
    }

pub returns-in-Ok-clause-done : goal.returns-in-Ok-clause-done
returns-in-Ok-clause-done c = λ yes place at_name.
    let a = c.in-Ok.ensures.ok in
    record {
      val = c.in-Some.value;
      gives = λ g t. assigns_element g (c.args.store.now, t) c.put.new.self place at_name c.args.array
          (expressions_of (map (view (names_in g)) c.args.keys.now)) c.in-Some-key_at_hand.key.now
          (is_key c.in-Some-key_at_hand.ensures g t at_name (variable_of (names_in g) c.args.array)) a.0
          c.in-Some.value a.1
          a.2 (view (names_in g) c.args.x.now) (c.chosen.ensures c.in-Some.value c.in-Some.ensures g t);
    }
