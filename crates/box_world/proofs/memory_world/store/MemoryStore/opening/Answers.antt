use Rattle.box_world.proofs.NumberLemmas.{is_among-next}
use Rattle.box_world.proofs.memory_world.store.MemoryStore.opening.Goals as goal

pub returns-in-Ok-clause-fits : goal.returns-in-Ok-clause-fits
returns-in-Ok-clause-fits c =
    rw (c.in-Ok.ensures.1, ← c.self.view_is) (c.self.invariant.0.low, is_among-next _ _ c.self.invariant.0.below)
