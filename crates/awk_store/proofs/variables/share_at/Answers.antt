use Rattle.std.specs.Prelude.{slice_set}
use Rattle.std.proofs.Common.{◌∙◌, ap}
use Rattle.awk_store.proofs.Cells.{found_here, set_here}
use Rattle.awk_store.proofs.variables.share_at.Goals as goal

pub returns-in-Some-clause-ok : goal.returns-in-Some-clause-ok
returns-in-Some-clause-ok c =
    rw (found_here c.args.cells.now.items c.args.slot c.in-Some.cell.now c.in-Some.ensures.item.3.0
    c.in-Some.ensures.value) c.share.ensures.ok

pub returns-in-Some-clause-same : goal.returns-in-Some-clause-same
returns-in-Some-clause-same c =
    ap (slice_set c.args.cells.now.items c.args.slot) c.share.ensures.same ∙ set_here c.args.cells.now.items c.args.slot
    c.in-Some.cell.now c.in-Some.ensures.value
