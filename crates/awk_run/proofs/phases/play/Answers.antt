use Rattle.awk_run.proofs.phases.play.Goals as goal

pub returns-in-Ok-clause-plays : goal.returns-in-Ok-clause-plays
returns-in-Ok-clause-plays g c = λ m is first y. c.end.ensures.plays m is first
    (rw c.in-Ok.is at (c.before_end.ensures.plays m is first y))

pub returns-in-Ok-clause-owns : goal.returns-in-Ok-clause-owns
returns-in-Ok-clause-owns g c = c.end.ensures.owns

pub returns-in-Err-clause-plays : goal.returns-in-Err-clause-plays
returns-in-Err-clause-plays g c = λ m is first y. c.after.ensures.plays m is first
    (rw c.in-Err.is at (c.before_end.ensures.plays m is first y))

pub returns-in-Err-clause-owns : goal.returns-in-Err-clause-owns
returns-in-Err-clause-owns g c = c.after.ensures.owns
