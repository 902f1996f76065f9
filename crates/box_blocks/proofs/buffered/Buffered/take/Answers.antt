use Rattle.box_blocks.proofs.Steps.{taken_of}
use Rattle.box_blocks.proofs.buffered.Buffered.take.Goals as goal
use Rattle.box_blocks.proofs.buffered.Buffered.take.Goals.{in-Some, in-None}

pub returns-clause-taken : goal.returns-clause-taken
returns-clause-taken g c =
    let s = c.self.inside in
    elim c.match-take.branch [
      | in-Some w ↦ rw w.result-is
          (taken_of g.W.World.open_numbers s.world s.untold s.stopped s.held c.take.new.self w.in-Some.held
          c.args.self.now _ c.self.view_is w.in-Some.ensures.value c.take.ensures.after c.self.invariant
          w.into_ask.ensures)
      | in-None w ↦ rw w.result-is tt
    ]
