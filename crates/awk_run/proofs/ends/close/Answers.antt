use Rattle.awk_machine.specs.Pieces.{nowhere}
use Rattle.awk_run.proofs.Ending.{reported_lacking, reported_unlogged}
use Rattle.awk_run.proofs.ends.close.Goals as goal

pub returns-in-Open : goal.returns-in-Open
returns-in-Open g c = λ m kept first y. c.shut.ensures m kept first (rw c.in-Open.is at y)

pub returns-in-Memory : goal.returns-in-Memory
returns-in-Memory g c = λ m kept first y. rw c.at_once.ensures (reported_lacking nowhere (rw c.in-Memory.is at y))

pub returns-in-Log : goal.returns-in-Log
returns-in-Log g c = λ m kept first y. rw c.at_once-in-Log.ensures
    (reported_unlogged c.in-Log.place (rw c.in-Log.is at y))
