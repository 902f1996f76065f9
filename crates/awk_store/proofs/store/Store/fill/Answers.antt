use Rattle.std.proofs.Common.{sym, refl}
use Rattle.awk_store.proofs.Numbered.{none_filled}
use Rattle.awk_store.proofs.store.Store.fill.Goals as goal

pub returns-in-Nothing-clause-filled : goal.returns-in-Nothing-clause-filled
returns-in-Nothing-clause-filled c =
    rw (sym c.reference.ensures, c.in-Nothing.is)
    (none_filled c.counted.result c.args.parts.items _ (λ a. refl) (rw c.as_slice.ensures.value at c.counted.ensures.ok)
    (rw c.as_slice.ensures.value at c.counted.ensures.err))
