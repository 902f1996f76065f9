use Rattle.std.proofs.Common.{refl, arith}
use Rattle.awk_ere.specs.Matcher.{matcher_of}
use Rattle.awk_ere.proofs.Seeking.{none_begin, none_dead}
use Rattle.awk_ere.proofs.table.Matcher.next_by_row.Goals as goal

pub returns : goal.returns
returns c =
    let open' = rw (c.as_slice-cells.ensures.value, c.as_slice-accepts.ensures.value) at c.is_open.ensures in
    let known = open' (rw c.if-not-is_open.false refl) in
    let stays = rw c.as_slice-cells.ensures.value at c.stays_to.ensures.all in
    let later = rw (← c.self.view_is) at c.requires.later in
    rw (← c.self.view_is)
    (none_dead (matcher_of c.self.inside) _ c.self.invariant.1 _ (λ k. omega (arith, c.type_inv.text k)) _ _ later
    c.stays_to.ensures.inside.0 c.stays_to.ensures.inside.1 known.0 known.1 stays)

pub returns-then-not-is_open : goal.returns-then-not-is_open
returns-then-not-is_open c = none_begin _ _ _ c.requires.from
