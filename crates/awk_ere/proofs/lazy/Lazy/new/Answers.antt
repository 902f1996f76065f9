use Rattle.awk_ere.proofs.lazy.Lazy.new.Goals as goal

pub invariant_of-result : goal.invariant_of-result
invariant_of-result c = (
  c.requires.0,
  c.requires.1,
  c.requires.2,
  c.requires.3,
  c.none_met.ensures _ _ _,
  c.none_met-2.ensures _ _ _,
)
