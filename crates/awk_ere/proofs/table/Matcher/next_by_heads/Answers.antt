use Rattle.std.proofs.Common.{arith}
use Rattle.awk_ere.specs.Matcher.{NoneTo, matcher_of}
use Rattle.awk_ere.proofs.Seeking.{none_heads, none_on, still_later}
use Rattle.awk_ere.proofs.table.Matcher.next_by_heads.Goals as goal

pub returns-then-place-text : goal.returns-then-place-text
returns-then-place-text c =
    let place = c.next_head-place.ensures in
    let later = rw (← c.self.view_is) at c.requires.later in
    rw (← c.self.view_is) (none_heads (matcher_of c.self.inside) _ c.self.invariant.1 _
    (λ k. omega (arith, c.type_inv.text k)) _ _ later place.inside.0 place.inside.1 place.none)

pub next_by_row-requires-clause-later : goal.next_by_row-requires-clause-later
next_by_row-requires-clause-later c = still_later c.args.self.now _ _ c.requires.later
    c.next_head-place.ensures.inside.0

pub returns-else-place-text : goal.returns-else-place-text
returns-else-place-text c =
    let place = c.next_head-place.ensures in
    let later = rw (← c.self.view_is) at c.requires.later in
    let here : NoneTo c.args.self.now c.args.text.now c.args.from c.next_head-place.result =
    rw (← c.self.view_is) (none_heads (matcher_of c.self.inside) _ c.self.invariant.1 _
    (λ k. omega (arith, c.type_inv.text k)) _ _ later place.inside.0 place.inside.1 place.none) in
    none_on _ _ _ _ _ here c.next_by_row.ensures
