use Rattle.box_blocks.proofs.Steps.{nothing_empties}
use Rattle.box_blocks.proofs.buffered.Buffered.put_held.Goals as goal

pub put_taken-requires : goal.put_taken-requires
put_taken-requires g c = record { taken = (c.args.self.now, c.in-Some.ensures.taken) }

pub returns-in-Some : goal.returns-in-Some
returns-in-Some g c = c.put_taken.ensures c.args.self.now c.in-Some.ensures.taken

pub returns-in-None : goal.returns-in-None
returns-in-None g c =
    let e = c.in-None.ensures.nothing in
    nothing_empties g.W.World.follows g.W.World.has_stopped g.W.World.open_numbers g.W.World.stops g.W.World.lacks
    g.met.W.World.follows_none _ _ e.0 e.1
