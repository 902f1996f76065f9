use Rattle.awk_ere.proofs.ere.Ere.longest_from.Goals as goal

pub ready-requires : goal.ready-requires
ready-requires c = rw c.deref.ensures.value (c.self.invariant.0, c.self.invariant.1, c.self.invariant.2)
