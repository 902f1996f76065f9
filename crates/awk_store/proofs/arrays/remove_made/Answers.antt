use Rattle.std.specs.Prelude.{[], slice_get, slice_set, unwrap_or}
use Rattle.std.proofs.Common.{ap}
use Rattle.awk_lib.specs.Arrays.{without}
use Rattle.awk_store.proofs.Cells.{found_here, set_nowhere}
use Rattle.awk_store.proofs.arrays.remove_made.Goals as goal

pub returns-in-Some : goal.returns-in-Some
returns-in-Some c =
    rw (found_here c.args.made.now.items c.args.place c.in-Some.elements.now c.in-Some.ensures.item.3.0
    c.in-Some.ensures.value) (ap (slice_set c.args.made.now.items c.args.place) c.remove.ensures)

pub returns-in-None : goal.returns-in-None
returns-in-None c =
    let made = c.args.made.now.items in
    set_nowhere made c.args.place (without (unwrap_or (slice_get made c.args.place) []) c.args.key.now)
    c.in-None.ensures.item.3
