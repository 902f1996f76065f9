use Rattle.std.proofs.Common.{sym, ap, ◌∙◌, rules, w64}
use Rattle.std.proofs.lemmas.Int.{to_z-of_z}
use Rattle.awk_program.specs.View.{view}
use Rattle.awk_store.specs.Wholes.{names_in}
use Rattle.awk_numbers.specs.declared.number.Number.TheVariants as number
use Rattle.awk_text.specs.Values.{number_of, of_number}
use Rattle.awk_builtins.proofs.Storing.{changes_variable}
use Rattle.awk_builtins.proofs.at_hand.assignments.changed_variable.Goals as goal

pub returns-clause-done : goal.returns-clause-done
returns-clause-done c = λ yes place.
    let h = c.in-Some.ensures in
    let made = rw (
      to_z-of_z w64 c.in-Some-number_kept.old (search rules),
      to_z-of_z w64 c.in-Some.operand
          (search rules),
      c.numbers-numbers.ensures,
    ) at (sym c.operation.ensures ∙ c.in-Ok.is) in
    let same = rw c.of.ensures at c.set.ensures in
    record {
      val = of_number c.in-Ok.new;
      gives = λ g t. changes_variable g (c.args.store.now, t) c.set.new.self place c.args.variable
          c.in-Some-number_kept.ensures.nf c.args.how (view (names_in g) c.args.x.now) h.val
          (number.Whole c.in-Some-number_kept.old) (number.Whole c.in-Some.operand) c.in-Ok.new
          (h.there g t) (ap (number_of c.args.store.now.numbers) c.in-Some-number_kept.ensures.number) h.is made same;
    }
