use Rattle.awk_run.proofs.Ending.{finished_last}
use Rattle.awk_run.proofs.PhaseSteps.{finishes}
use Rattle.awk_run.proofs.phases.end.Goals as goal

pub returns-in-Ok-clause-plays : goal.returns-in-Ok-clause-plays
returns-in-Ok-clause-plays g c = λ m is first y. rw c.done.ensures
    (finishes (rw c.in-Ok.is at (c.end_actions.ensures.plays m is first y)))

pub returns-in-Ok-clause-owns : goal.returns-in-Ok-clause-owns
returns-in-Ok-clause-owns g c = c.end_actions.ensures.owns

pub returns-in-Err-clause-plays : goal.returns-in-Err-clause-plays
returns-in-Err-clause-plays g c = λ m is first y.
    rw c.last.ensures (finished_last g.W.World m first (c.end_actions.new.run.store, c.end_actions.new.run.streams)
    c.end_actions.new.world c.in-Err.halt (rw c.in-Err.is at (c.end_actions.ensures.plays m is first y)))

pub returns-in-Err-clause-owns : goal.returns-in-Err-clause-owns
returns-in-Err-clause-owns g c = c.end_actions.ensures.owns
