use Rattle.awk_ere.proofs.Making.{ends_closed}
use Rattle.awk_ere.proofs.closure.state_ends.Goals as goal

pub returns-else-some_wait-clause-ends : goal.returns-else-some_wait-clause-ends
returns-else-some_wait-clause-ends c =
    ends_closed _ _ _ c.requires.closed (c.some_wait.ensures c.if-some_wait.false) c.has_done.ensures
