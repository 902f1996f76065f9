use Rattle.std.proofs.Common.{rules, w64}
use Rattle.std.proofs.lemmas.Int.{to_z-of_z}
use Rattle.awk_builtins.proofs.AtHand.{place_is}
use Rattle.awk_builtins.proofs.at_hand.elements.put_at_number.Goals as goal

pub returns-in-Ok-clause-done : goal.returns-in-Ok-clause-done
returns-in-Ok-clause-done c =
    let e = rw (to_z-of_z w64 c.args.number (search rules)) at c.in-Ok.ensures in
    let is = place_is 64 c.args.number c.in-Ok.place e.0 e.1 in
    rw is c.put_at_place.ensures.done
