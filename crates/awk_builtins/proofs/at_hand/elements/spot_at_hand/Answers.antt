use Rattle.std.proofs.Common.{refl, sym}
use Rattle.std.specs.Prelude.{pos}
use Rattle.awk_numbers.specs.declared.number.Number.TheVariants as number
use Rattle.awk_program.proofs.Views.{view-Number}
use Rattle.awk_program.specs.Program as p
use Rattle.awk_text.specs.declared.value.Value.TheVariants as v
use Rattle.awk_builtins.proofs.AtHand.{field_spot, number_there, variable_spot}
use Rattle.awk_builtins.proofs.at_hand.elements.spot_at_hand.Goals as goal

pub returns-in-Variable-clause-plays : goal.returns-in-Variable-clause-plays
returns-in-Variable-clause-plays c = λ g w. rw c.in-Variable.is (variable_spot g w c.in-Variable.variable)

pub returns-in_ok-place-in-Number-clause-plays : goal.returns-in_ok-place-in-Number-clause-plays
returns-in_ok-place-in-Number-clause-plays c = λ g w.
    let n = c.in_ok-place-in-Number.place in
    let is = c.in_ok-place-in-Number.ensures in
    rw (c.in-Field.is, sym c.get.ensures, c.in-Number.is, view-Number, is.0)
    (field_spot g w c.in-Field.field-0 (p.number (number.Whole (pos n))) (v.Num (pos n)) n
    (number_there g w (number.Whole (pos n))) refl is.1)
