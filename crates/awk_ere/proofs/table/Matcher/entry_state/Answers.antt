use Rattle.std.proofs.Common.{arith}
use Rattle.awk_ere.specs.Matcher.{matcher_of}
use Rattle.awk_ere.proofs.Seeking.{begins_entry}
use Rattle.awk_ere.proofs.table.Matcher.entry_state.Goals as goal

pub returns-then-state-len : goal.returns-then-state-len
returns-then-state-len c =
    rw (← c.self.view_is)
    (begins_entry (matcher_of c.self.inside) _ c.self.invariant.1 _ _ c.state_at-state.ensures
    (omega (arith, c.if-state-len.true, c.len.ensures, c.self.inside.table.cells.ok)))
