use Rattle.std.proofs.Common.{rules, w64}
use Rattle.std.proofs.lemmas.Int.{to_z-of_z}
use Rattle.awk_text.specs.Values.{text_of}
use Rattle.awk_text.specs.declared.value.Value.TheVariants as v
use Rattle.awk_builtins.proofs.Subscripts.{is_key}
use Rattle.awk_builtins.proofs.at_hand.elements.added_at.Goals as goal

pub returns-in-Some-clause-done : goal.returns-in-Some-clause-done
returns-in-Some-clause-done c = λ yes.
    let a = rw (to_z-of_z w64 c.in-Some.number (search rules), to_z-of_z w64 c.args.by (search rules)) at
    (c.add_at_number.ensures.done yes) in
    record { key = text_of (v.Num c.in-Some.number); is = c.in-Some.ensures a.0; adds = a.1 }

pub returns-in-Some-field_of_key-clause-done : goal.returns-in-Some-field_of_key-clause-done
returns-in-Some-field_of_key-clause-done c = λ yes.
    let a = rw (to_z-of_z w64 c.args.by (search rules)) at (c.add_at_field.ensures.done yes) in
    record { key = text_of a.0; is = c.in-Some-field_of_key.ensures a.0 a.1 a.2; adds = a.3 }

pub returns-clause-done : goal.returns-clause-done
returns-clause-done c = λ yes.
    let a = rw (to_z-of_z w64 c.args.by (search rules)) at (c.add_to.ensures.done yes) in
    record { key = c.in-Some-key_at_hand.key.now; is = is_key c.in-Some-key_at_hand.ensures; adds = a }
