use Rattle.awk_run.proofs.Ending.{finished_last}
use Rattle.awk_run.proofs.program.work.Goals as goal

pub returns-in-Ok-clause-plays : goal.returns-in-Ok-clause-plays
returns-in-Ok-clause-plays g c = λ m is start first y. c.play.ensures.plays m is first
    (rw c.in-Ok.is at (c.begin.ensures.plays m is start first y))

pub returns-in-Ok-clause-owns : goal.returns-in-Ok-clause-owns
returns-in-Ok-clause-owns g c = c.play.ensures.owns

pub returns-in-Err-clause-plays : goal.returns-in-Err-clause-plays
returns-in-Err-clause-plays g c = λ m is start first y. rw c.last.ensures
    (finished_last g.W.World m first (c.begin.new.run.store, c.begin.new.run.streams) c.begin.new.world c.in-Err.halt
    (rw c.in-Err.is at (c.begin.ensures.plays m is start first y)))

pub returns-in-Err-clause-owns : goal.returns-in-Err-clause-owns
returns-in-Err-clause-owns g c = c.begin.ensures.owns
