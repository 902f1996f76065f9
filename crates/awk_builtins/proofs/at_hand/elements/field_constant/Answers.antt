use Rattle.std.proofs.Common.{ap, rules, w64, ◌∙◌}
use Rattle.std.proofs.lemmas.Int.{to_z-of_z}
use Rattle.awk_numbers.specs.declared.number.Number.TheVariants as number
use Rattle.awk_builtins.proofs.AtHand.{field_number_is}
use Rattle.awk_builtins.proofs.at_hand.elements.field_constant.Goals as goal

pub returns-in-Ok : goal.returns-in-Ok
returns-in-Ok c =
    let e = rw (to_z-of_z w64 c.in-Whole.whole (search rules)) at c.in-Ok.ensures in
    let is = field_number_is c.in-Whole.whole c.in-Ok.place e.0 e.1 in
    (c.in-Whole.is ∙ ap (λ z. number.Whole z) is.0, is.1)
