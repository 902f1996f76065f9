use Rattle.awk_store.specs.Changes.{given_value}
use Rattle.awk_store.proofs.Cells.{change_here, change_nowhere}
use Rattle.awk_store.proofs.variables.set_value.Goals as goal

pub returns-in-Some : goal.returns-in-Some
returns-in-Some c = change_here (given_value c.args.value) c.args.cells.now.items c.args.slot c.in-Some.cell.now
    c.set_value.new.self c.in-Some.ensures.value c.set_value.ensures

pub returns-in-None : goal.returns-in-None
returns-in-None c = change_nowhere (given_value c.args.value) c.args.cells.now.items c.args.slot
    c.in-None.ensures.item.3
