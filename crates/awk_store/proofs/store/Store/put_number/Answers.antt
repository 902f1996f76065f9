use Rattle.std.specs.Fmt.{decimal}
use Rattle.std.specs.Prelude.{[], ◌∷◌, refl}
use Rattle.std.proofs.Common.{sym}
use Rattle.awk_store.proofs.store.Store.put_number.Goals as goal

pub returns-in-Nothing-clause-ok : goal.returns-in-Nothing-clause-ok
returns-in-Nothing-clause-ok c = rw (sym c.reference.ensures, c.in-Nothing.is)
    (((decimal c.args.number), c.args.value) ∷ [], refl, refl)
