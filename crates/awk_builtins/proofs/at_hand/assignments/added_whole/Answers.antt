use Rattle.std.proofs.Common.{map, rules, w64}
use Rattle.std.proofs.lemmas.Int.{to_z-of_z}
use Rattle.awk_numbers.specs.declared.number.Number.TheVariants as number
use Rattle.awk_program.specs.Program.{expressions_of}
use Rattle.awk_program.specs.View.{variable_of, view}
use Rattle.awk_program.specs.declared.operators.Operator.TheVariants as operator
use Rattle.awk_store.specs.Wholes.{names_in}
use Rattle.awk_text.specs.declared.value.Value.TheVariants as v
use Rattle.awk_builtins.proofs.Storing.{changes_element}
use Rattle.awk_builtins.proofs.at_hand.assignments.added_whole.Goals as goal

pub returns-clause-done : goal.returns-clause-done
returns-clause-done c = λ yes x val there is place at_name.
    let k = c.added_at.ensures.done yes in
    let a = rw (to_z-of_z w64 c.in-Whole.by (search rules)) at k.adds in
    rw c.in-Add.is (record {
      val = v.Num a.1;
      gives = λ g t. changes_element g (c.args.store.now, t) c.added_at.new.store place at_name c.args.array
          (expressions_of (map (view (names_in g)) c.args.keys.now)) k.key
          (k.is g t at_name (variable_of (names_in g) c.args.array)) a.4.0
          (number.Whole a.0) (number.Whole a.1) a.2 a.4.1 a.4.2 operator.Add (x (names_in g)) val
          (number.Whole c.in-Whole.by) (there g t) (rw c.in-Whole.is at is) a.3;
    })
