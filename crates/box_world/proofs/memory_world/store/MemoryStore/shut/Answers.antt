use Rattle.box_world.proofs.NumberLemmas.{AllBelow-remove}
use Rattle.box_world.proofs.memory_world.store.MemoryStore.shut.Goals as goal

pub invariant_of-self : goal.invariant_of-self
invariant_of-self c = (
  record {
    low = c.self.invariant.0.low;
    high = c.self.invariant.0.high;
    below = rw c.remove.ensures.entries (AllBelow-remove _ _ _ c.self.invariant.0.below);
  },
  c.self.invariant.1,
)
