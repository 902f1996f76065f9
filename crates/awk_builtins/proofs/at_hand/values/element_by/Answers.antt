use Rattle.std.proofs.Common.{rules, sym, w64, arith}
use Rattle.std.proofs.lemmas.Int.{to_z-of_z}
use Rattle.awk_builtins.proofs.AtHand.{few_digits, place_is}
use Rattle.awk_builtins.proofs.Rests.{some_ever, some_told}
use Rattle.awk_builtins.proofs.at_hand.values.element_by.Goals as goal

pub returns-in-Ok-clause-fits : goal.returns-in-Ok-clause-fits
returns-in-Ok-clause-fits c =
    let e = rw (to_z-of_z w64 c.in-Num.number (search rules)) at c.in-Ok.ensures in
    let is = place_is 64 c.in-Num.number c.in-Ok.place e.0 e.1 in
    rw (c.in-Num.is, is) (some_ever c.element_of_number.result (few_digits c.in-Ok.place (omega arith)))

pub returns-in-Ok-clause-there : goal.returns-in-Ok-clause-there
returns-in-Ok-clause-there c =
    let e = rw (to_z-of_z w64 c.in-Num.number (search rules)) at c.in-Ok.ensures in
    let is = place_is 64 c.in-Num.number c.in-Ok.place e.0 e.1 in
    rw (c.in-Num.is, is) (some_told c.element_of_number.result _ c.element_of_number.ensures)

pub returns-clause-fits : goal.returns-clause-fits
returns-clause-fits c = rw (sym c.text-key.ensures) (some_ever c.element.result c.if-key-gt-MOST_BYTES.false)

pub returns-clause-there : goal.returns-clause-there
returns-clause-there c = rw (sym c.text-key.ensures) (some_told c.element.result _ c.element.ensures)
