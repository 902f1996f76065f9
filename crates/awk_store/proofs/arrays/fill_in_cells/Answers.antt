use Rattle.awk_store.specs.Changes.{given_array}
use Rattle.awk_store.proofs.Cells.{change_here, change_nowhere, found_here, found_nowhere}
use Rattle.awk_store.proofs.Numbered.{none_filled}
use Rattle.awk_store.proofs.arrays.fill_in_cells.Goals as goal

pub returns-in-Some-clause-filled : goal.returns-in-Some-clause-filled
returns-in-Some-clause-filled c =
    let cells = c.args.cells.now.items in let cell = c.in-Some.cell.now in let h = c.fill.ensures.filled in
    rw (found_here cells c.args.slot cell c.in-Some.ensures.item.3.0 c.in-Some.ensures.value)
    (h.0, h.1, h.2, change_here (given_array h.0) cells c.args.slot cell c.fill.new.self c.in-Some.ensures.value h.3)

pub returns-in-None-clause-filled : goal.returns-in-None-clause-filled
returns-in-None-clause-filled c =
    let past = c.in-None.ensures.item.3 in
    rw (found_nowhere c.args.cells.now.items c.args.slot past)
    (none_filled c.counted.result c.args.parts.items _ (λ a. change_nowhere (given_array a) c.args.cells.now.items
    c.args.slot past) (rw c.as_slice.ensures.value at c.counted.ensures.ok)
    (rw c.as_slice.ensures.value at c.counted.ensures.err))
