use Rattle.std.proofs.Common.{◌≡◌, take, map}
use Rattle.awk_store.specs.Changes.{first_cell}
use Rattle.awk_store.proofs.store.first_cells.Given as goal

abbrev pub invariant-loop-name : goal.invariant-loop-name
invariant-loop-name l = l.cells.items ≡ map first_cell (take l.name-index l.names)
