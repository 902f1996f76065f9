use Rattle.awk_ere.proofs.Meeting.{match_from}
use Rattle.awk_ere.proofs.lazy.Lazy.has_match.Goals as goal

pub ends_somewhere-requires-clause-met : goal.ends_somewhere-requires-clause-met
ends_somewhere-requires-clause-met c = rw (c.deref.ensures.value, c.deref-2.ensures.value)
    (c.with_work-met.ensures _ _ _ (rw c.replace-met.ensures.value c.self.invariant.5))

pub invariant_of-self : goal.invariant_of-self
invariant_of-self c = (
  c.self.invariant.0,
  c.self.invariant.1,
  c.self.invariant.2,
  c.self.invariant.3,
  c.self.invariant.4,
  rw c.replace-met.ensures.after (c.none_met.ensures _ _ _),
)

pub returns-clause-found : goal.returns-clause-found
returns-clause-found c =
    rw (← c.self.view_is) (match_from _ _ _ _ _ _ _ _ c.self.invariant.1 c.self.invariant.3
    (rw (c.deref.ensures.value, c.deref-2.ensures.value) at c.in_ok-found.ensures.ends))
