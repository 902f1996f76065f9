use Rattle.std.proofs.Common.{arith}
use Rattle.awk_fields.specs.declared.front.Searched.TheVariants.{Byte}
use Rattle.awk_fields.proofs.HeadLemmas.{last_inside}
use Rattle.awk_fields.proofs.front.line_front.Goals as goal

pub returns-else-place-unread-clause-inside : goal.returns-else-place-unread-clause-inside
returns-else-place-unread-clause-inside c =
    let place = c.mark_place-place.result in
    rw c.last_front.ensures
    (last_inside c.args.unread.now 0 place place (Byte c.args.mark place) c.args.ended
    (omega arith) c.mark_place-place.ensures.inside c.mark_place-place.ensures.inside
    (omega (arith, c.mark_place-place.ensures.place)))
