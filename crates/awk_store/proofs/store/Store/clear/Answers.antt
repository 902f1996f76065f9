use Rattle.awk_store.proofs.store.Store.clear.Goals as goal

pub returns : goal.returns
returns c = rw (c.reference-at.ensures, c.with_seed.ensures) at c.replace-2.ensures.after
