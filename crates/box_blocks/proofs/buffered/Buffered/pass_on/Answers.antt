use Rattle.box_blocks.proofs.Steps.{passed_owes, passes}
use Rattle.box_blocks.proofs.buffered.Buffered.pass_on.Goals as goal

pub returns : goal.returns
returns g c =
    let e = c.pass.ensures in
    passed_owes g.W.World.follows g.W.World.has_stopped g.W.World.open_numbers g.W.World.stops g.W.World.lacks _ _ _ _
    c.requires.nothing c.requires.no_put (c.ends.ensures.goes_on c.if-ends.false)
    (passes g.W.World.follows g.W.World.has_stopped g.W.World.open_numbers g.W.World.stops g.W.World.lacks
    c.args.self.now
    c.pass.new.self c.args.ask.now c.pass.result e.same e.ok e.fits e.err e.log e.goes e.lacks)
