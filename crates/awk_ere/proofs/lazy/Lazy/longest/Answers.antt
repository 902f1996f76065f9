use Rattle.awk_ere.proofs.Meeting.{longest_from}
use Rattle.awk_ere.proofs.lazy.Lazy.longest.Goals as goal

pub longest-requires-clause-met : goal.longest-requires-clause-met
longest-requires-clause-met c = rw (c.deref.ensures.value, c.deref-2.ensures.value)
    (c.with_work-met.ensures _ _ _ (rw c.replace-met.ensures.value c.self.invariant.4))

pub invariant_of-self : goal.invariant_of-self
invariant_of-self c = (
  c.self.invariant.0,
  c.self.invariant.1,
  c.self.invariant.2,
  c.self.invariant.3,
  rw c.replace-met.ensures.after
      (c.none_met.ensures _ _ _),
  c.self.invariant.5,
)

pub returns-clause-longest : goal.returns-clause-longest
returns-clause-longest c =
    rw (← c.self.view_is) (longest_from _ _ _ _ _ _ _ _ c.self.invariant.1 c.self.invariant.2
    (rw (c.deref.ensures.value, c.deref-2.ensures.value) at c.in_ok-found.ensures.longest))
