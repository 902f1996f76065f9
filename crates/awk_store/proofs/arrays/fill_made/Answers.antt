use Rattle.std.proofs.Common.{refl}
use Rattle.awk_store.proofs.Cells.{found_here, found_nowhere, set_nowhere}
use Rattle.awk_store.proofs.Numbered.{none_filled}
use Rattle.awk_store.proofs.arrays.fill_made.Goals as goal

pub returns-in-Some-clause-filled : goal.returns-in-Some-clause-filled
returns-in-Some-clause-filled c =
    rw (found_here c.args.made.now.items c.args.place c.in-Some.array.now c.in-Some.ensures.item.3.0
    c.in-Some.ensures.value)
    (c.fill_with.new.array, c.fill_with.ensures.ok, c.fill_with.ensures.err, refl)

pub returns-in-None-clause-filled : goal.returns-in-None-clause-filled
returns-in-None-clause-filled c =
    let past = c.in-None.ensures.item.3 in
    rw (found_nowhere c.args.made.now.items c.args.place past)
    (none_filled c.counted.result c.args.parts.items _ (λ a. set_nowhere c.args.made.now.items c.args.place a past)
    (rw c.as_slice.ensures.value at c.counted.ensures.ok) (rw c.as_slice.ensures.value at c.counted.ensures.err))
