use Rattle.awk_ere.specs.Matcher.{matcher_of}
use Rattle.awk_ere.proofs.Seeking.{starts_ahead}
use Rattle.awk_ere.proofs.table.Matcher.has_start.Goals as goal

pub ends_somewhere-requires-clause-begin : goal.ends_somewhere-requires-clause-begin
ends_somewhere-requires-clause-begin c = rw (← c.self.view_is) (rw (← c.self.view_is) at c.in_ok-first.ensures)

pub returns : goal.returns
returns c = rw (← c.self.view_is) (starts_ahead (matcher_of c.self.inside) _ c.self.invariant.1 _ _ _
    (rw (← c.self.view_is) at c.ends_somewhere.ensures))
