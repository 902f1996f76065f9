use Rattle.std.proofs.Common.{refl, []}
use Rattle.std.proofs.lemmas.Result.{err_from_is_err_and}
use Rattle.awk_run.proofs.PhaseSteps.{ending, flows_finish}
use Rattle.awk_run.proofs.Reaching.{then_halt, then_part}
use Rattle.awk_run.proofs.phases.end_actions.Goals as goal

pub returns-in_err-actions-clause-plays : goal.returns-in_err-actions-clause-plays
returns-in_err-actions-clause-plays g c =
    let e = err_from_is_err_and c.from_residual.result c.from_residual.ensures.1 in
    rw (e.1, e.2) (λ m is first y. then_halt _ refl (ending m c.args.cx.now is c.args.run.now.store c.set_phase.new.self
    c.args.run.now.streams c.set_phase.ensures y) (rw c.as_slice.ensures at (c.actions.ensures.plays m is))
    c.in_err-actions.was)

pub returns-in_err-actions-clause-owns : goal.returns-in_err-actions-clause-owns
returns-in_err-actions-clause-owns g c = c.actions.ensures.owns

pub returns-clause-plays : goal.returns-clause-plays
returns-clause-plays g c = λ m is first y.
    rw (flows_finish c.in_ok-actions.field-0 []) at
    (then_part _ (ending m c.args.cx.now is c.args.run.now.store c.set_phase.new.self c.args.run.now.streams
    c.set_phase.ensures y) (rw c.as_slice.ensures at (c.actions.ensures.plays m is)) c.in_ok-actions.was)

pub returns-clause-owns : goal.returns-clause-owns
returns-clause-owns g c = c.actions.ensures.owns
