use Rattle.std.specs.Fmt.{decimal}
use Rattle.std.specs.Prelude.{[], ◌∷◌, refl}
use Rattle.awk_store.proofs.Cells.{ok_so}
use Rattle.awk_store.proofs.cell.Cell.put_number.Goals as goal

pub returns-in-Value-clause-ok : goal.returns-in-Value-clause-ok
returns-in-Value-clause-ok c = rw c.in-Value.is (((decimal c.args.number), c.args.value) ∷ [], refl, refl)

pub returns-in-Array-clause-ok : goal.returns-in-Array-clause-ok
returns-in-Array-clause-ok c = rw c.in-Array.is (ok_so c.set_number.result c.set_number.ensures.ok
    (λ h. (c.set_number.new.self, h, refl)))
