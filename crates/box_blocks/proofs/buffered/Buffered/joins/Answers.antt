use Rattle.std.specs.Prelude.{ℕ, List}
use Rattle.std.proofs.Common.{ap, ◌∙◌, sym}
use Rattle.std.proofs.lemmas.Bool.{false≢true}
use Rattle.box_world.specs.declared.ask.Request.TheVariants.{Put}
use Rattle.box_blocks.proofs.Steps.{joined_of}
use Rattle.box_blocks.proofs.buffered.Buffered.joins.Goals as goal
use Rattle.box_blocks.proofs.buffered.Buffered.joins.Goals.{in-Some, in-None}

pub returns-clause-joined : goal.returns-clause-joined
returns-clause-joined g c =
    let s = c.self.inside in
    elim c.match-self.branch [
      | in-Some w ↦ rw (w.result-is, w.self-inside-is) (λ h.
          joined_of s.world s.untold s.stopped s.held w.in-Some.held w.join.new.self c.args.self.now c.args.ask.now
          c.in-Put.number w.bytes.result.now c.self.view_is w.in-Some.is
          (c.in-Put.is ∙ ap (λ (z : List ℕ). Put c.in-Put.number z) (sym w.bytes.ensures)) (w.join.ensures.number h)
          (w.join.ensures.joined h))
      | in-None w ↦ rw w.result-is (λ h. absurd (false≢true h))
    ]
