use Rattle.std.specs.Prelude.{[], Some, slice_get, unwrap_or}
use Rattle.awk_lib.specs.Arrays.{without}
use Rattle.awk_store.specs.Changes.{given_array}
use Rattle.awk_store.specs.Kept.{listed}
use Rattle.awk_store.proofs.Cells.{change_here, change_nowhere, found_here}
use Rattle.awk_store.proofs.arrays.remove_in_cells.Goals as goal

pub returns-in-Some : goal.returns-in-Some
returns-in-Some c =
    let cells = c.args.cells.now.items in let cell = c.in-Some.cell.now in
    rw (found_here cells c.args.slot cell c.in-Some.ensures.item.3.0 c.in-Some.ensures.value)
    (change_here (given_array (without (unwrap_or (listed (Some cell)) []) c.args.key.now)) cells c.args.slot cell
    c.remove.new.self c.in-Some.ensures.value c.remove.ensures)

pub returns-in-None : goal.returns-in-None
returns-in-None c =
    let cells = c.args.cells.now.items in
    change_nowhere (given_array (without (unwrap_or (listed (slice_get cells c.args.slot)) []) c.args.key.now)) cells
    c.args.slot c.in-None.ensures.item.3
