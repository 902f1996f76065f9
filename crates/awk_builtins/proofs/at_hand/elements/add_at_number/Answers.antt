use Rattle.std.proofs.Common.{rules, w64, arith}
use Rattle.std.proofs.lemmas.Int.{to_z-of_z}
use Rattle.awk_builtins.proofs.AtHand.{few_digits, place_is}
use Rattle.awk_builtins.proofs.at_hand.elements.add_at_number.Goals as goal

pub returns-in-Ok-clause-done : goal.returns-in-Ok-clause-done
returns-in-Ok-clause-done c =
    let e = rw (to_z-of_z w64 c.args.number (search rules)) at c.in-Ok.ensures in
    let is = place_is 64 c.args.number c.in-Ok.place e.0 e.1 in
    rw is (λ yes. (
      few_digits c.in-Ok.place (omega arith),
      rw (to_z-of_z w64 c.args.by (search rules)) at
          (c.add_to_number.ensures.done yes),
    ))
