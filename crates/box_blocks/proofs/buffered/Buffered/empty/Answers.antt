use Rattle.box_blocks.specs.declared.buffered.NotWritten.TheVariants.{Lost}
use Rattle.box_blocks.proofs.Steps.{emptied_by_told, not_emptied}
use Rattle.box_blocks.proofs.buffered.Buffered.empty.Goals as goal

pub returns-in-Ok : goal.returns-in-Ok
returns-in-Ok g c =
    let e = c.told.ensures in
    emptied_by_told g.W.World.follows g.W.World.has_stopped g.W.World.open_numbers g.W.World.stops g.W.World.lacks
    g.met.W.World.follows_append g.met.W.World.follows_open g.met.W.World.stops_later _ _ _ c.in-Ok.ensures e.told
    e.untold

pub returns-in-Err : goal.returns-in-Err
returns-in-Err g c =
    not_emptied g.W.World.follows g.W.World.has_stopped g.W.World.open_numbers g.W.World.stops g.W.World.lacks _ _
    c.in-Err.field-0 Lost c.in-Err.ensures
