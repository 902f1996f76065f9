use Rattle.std.proofs.Common.{sym, subst}
use Rattle.box_blocks.specs.Written.{Ends}
use Rattle.box_blocks.proofs.Steps.{ends_so}
use Rattle.box_blocks.proofs.buffered.Buffered.finish.Goals as goal

pub returns : goal.returns
returns g c = λ first calls h.
    subst (λ z. Ends g.W.World.follows first calls c.empty-written.result z) (sym c.into_world.ensures)
    (ends_so g.W.World.follows g.W.World.has_stopped g.W.World.open_numbers g.W.World.stops g.W.World.lacks
    g.met.W.World.follows_append g.met.W.World.follows_open g.met.W.World.stops_later first calls c.args.self
    c.empty-written.new.self c.empty-written.result h c.empty-written.ensures)
