use Rattle.std.proofs.Common.{sym, ◌∙◌}
use Rattle.awk_run.proofs.Preparing.{prepares_last, ready, unprepared}
use Rattle.awk_run.proofs.Starting.{assigns_first, passes_first}
use Rattle.awk_run.proofs.start.assign_pair.Goals as goal

pub assign-requires : goal.assign-requires
assign-requires c = rw c.bytes-2.ensures (rw c.bytes.ensures at (sym c.can_assign.ensures ∙ c.if-not-can_assign.false))

pub returns-then-not-can_assign : goal.returns-then-not-can_assign
returns-then-not-can_assign c = λ m t k rest is.
    rw (passes_first m.can_assign c.args.pair.now rest (is.can_assign c.args.pair.now.0 ∙ rw c.bytes.ensures at
    (sym c.can_assign.ensures ∙ c.if-not-can_assign.true))) (ready (unprepared _ _))

pub returns : goal.returns
returns c = λ m t k rest is.
    rw (assigns_first m.can_assign c.args.pair.now rest (is.can_assign c.args.pair.now.0 ∙ rw c.bytes.ensures at
    (sym c.can_assign.ensures ∙ c.if-not-can_assign.false)))
    (prepares_last (unprepared _ _) (rw (c.bytes-2.ensures, c.bytes-3.ensures) at (c.assign.ensures m t is)))
