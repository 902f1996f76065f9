use Rattle.std.proofs.Common.{sym, ◌∙◌, ap}
use Rattle.awk_run.specs.Outcomes.{goes_to_end}
use Rattle.awk_run.proofs.Ending.{exits_to_end, finished_last}
use Rattle.awk_run.proofs.phases.after.Goals as goal

pub returns-then-goes_to_end-clause-plays : goal.returns-then-goes_to_end-clause-plays
returns-then-goes_to_end-clause-plays g c = λ m is first y.
    c.end.ensures.plays m is first (exits_to_end g.W.World m first (c.args.run.now.store, c.args.run.now.streams)
    c.args.world.now c.args.halt (sym (ap (goes_to_end c.args.halt) c.phase.ensures) ∙ sym c.goes_to_end.ensures
    ∙ c.if-goes_to_end.true) y)

pub returns-then-goes_to_end-clause-owns : goal.returns-then-goes_to_end-clause-owns
returns-then-goes_to_end-clause-owns g c = c.end.ensures.owns

pub returns-clause-plays : goal.returns-clause-plays
returns-clause-plays g c = λ m is first y. rw c.last.ensures (finished_last g.W.World m first (
  c.args.run.now.store,
  c.args.run.now.streams,
) c.args.world.now c.args.halt y)

pub returns-clause-owns : goal.returns-clause-owns
returns-clause-owns g c = c.requires
