use Rattle.std.proofs.Common.{refl}
use Rattle.awk_store.proofs.Lifting.{lifted}
use Rattle.awk_run.specs.View.{view_outcome}
use Rattle.awk_run.proofs.Ending.{reported_at_once, reported_over}
use Rattle.awk_run.proofs.Reaching.{then_halt, then_part}
use Rattle.awk_run.proofs.ends.shut.Goals as goal

pub returns-in-Ok : goal.returns-in-Ok
returns-in-Ok g c = λ m kept first y.
    rw c.own.ensures (reported_over g.W.World m first (kept, c.shut_all.new.streams) c.shut_all.new.world c.args.outcome
    _
    (then_part _ y (lifted m kept (λ s. c.shut_all.ensures.task m s (view_outcome c.args.outcome))) c.in-Ok.is)
    (c.in-Ok.ensures.none))

pub returns-in-Err : goal.returns-in-Err
returns-in-Err g c = λ m kept first y. rw c.at_once.ensures (reported_at_once g.W.World m first (
  kept,
  c.shut_all.new.streams,
) c.shut_all.new.world c.in-Err.halt
    (then_halt _ refl y (lifted m kept (λ s. c.shut_all.ensures.task m s (view_outcome c.args.outcome))) c.in-Err.is))
