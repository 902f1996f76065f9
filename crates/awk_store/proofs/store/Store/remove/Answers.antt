use Rattle.std.proofs.Common.{refl, sym}
use Rattle.awk_store.proofs.store.Store.remove.Goals as goal

pub returns-in-Nothing : goal.returns-in-Nothing
returns-in-Nothing c = rw (sym c.reference.ensures, c.in-Nothing.is) refl
