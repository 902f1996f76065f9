use Rattle.awk_ere.proofs.ere.Searches.new.Goals as goal

pub invariant_of-result : goal.invariant_of-result
invariant_of-result c = rw (← c.ere.view_is) (c.ere.invariant.0, c.ere.invariant.1, c.ere.invariant.2, tt)
