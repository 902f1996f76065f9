use Rattle.std.proofs.Common.{refl}
use Rattle.awk_ere.proofs.Beginnings.{heads_of}
use Rattle.awk_ere.proofs.heads.make_heads.Goals as goal

pub returns-clause-heads : goal.returns-clause-heads
returns-clause-heads c =
    let open' = c.is_open.ensures (rw c.if-not-is_open.false refl) in
    heads_of _ _ _ c.of_ranges.result open'.0 open'.1 (rw c.of_ranges.ensures.first c.with_row-first.ensures.all)
    (rw c.of_ranges.ensures.second c.second_range-second.ensures)
