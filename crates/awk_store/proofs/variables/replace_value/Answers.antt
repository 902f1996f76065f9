use Rattle.std.proofs.Common.{refl}
use Rattle.awk_store.specs.Changes.{given_value}
use Rattle.awk_store.proofs.Cells.{change_here, change_nowhere, found_nowhere}
use Rattle.awk_store.proofs.variables.replace_value.Goals as goal

pub returns-in-Some-clause-after : goal.returns-in-Some-clause-after
returns-in-Some-clause-after c = change_here (given_value c.args.value) c.args.cells.now.items c.args.slot
    c.in-Some.cell.now c.replace_value.new.self c.in-Some.ensures.value c.replace_value.ensures.after

pub returns-in-None-clause-value : goal.returns-in-None-clause-value
returns-in-None-clause-value c = rw (found_nowhere c.args.cells.now.items c.args.slot c.in-None.ensures.item.3) refl

pub returns-in-None-clause-after : goal.returns-in-None-clause-after
returns-in-None-clause-after c = change_nowhere (given_value c.args.value) c.args.cells.now.items c.args.slot
    c.in-None.ensures.item.3
