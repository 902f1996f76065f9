use Rattle.std.specs.Prelude.{[], ◌∷◌, refl}
use Rattle.awk_store.proofs.Cells.{ok_so}
use Rattle.awk_store.proofs.cell.Cell.put.Goals as goal

pub returns-in-Value-clause-ok : goal.returns-in-Value-clause-ok
returns-in-Value-clause-ok c = rw c.in-Value.is ((c.args.key.now, c.args.value) ∷ [], refl, refl)

pub returns-in-Array-clause-ok : goal.returns-in-Array-clause-ok
returns-in-Array-clause-ok c = rw c.in-Array.is (ok_so c.set.result c.set.ensures.ok (λ h. (c.set.new.self, h, refl)))
