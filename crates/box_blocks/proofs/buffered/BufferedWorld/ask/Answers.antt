use Rattle.std.proofs.Common.{◌∙◌, sym}
use Rattle.box_blocks.proofs.Steps.{owes_err, owes_fits, owes_lacks, owes_log, owes_ok, owes_stopped}
use Rattle.box_blocks.proofs.buffered.BufferedWorld.ask.Goals as goal

pub returns-clause-ok : goal.returns-clause-ok
returns-clause-ok g c = owes_ok g.W.World.follows g.W.World.has_stopped g.W.World.open_numbers g.W.World.stops
    g.W.World.lacks _ _ _ _ c.answer.ensures

pub returns-clause-fits : goal.returns-clause-fits
returns-clause-fits g c = owes_fits g.W.World.follows g.W.World.has_stopped g.W.World.open_numbers g.W.World.stops
    g.W.World.lacks _ _ _ _ c.answer.ensures

pub returns-clause-err : goal.returns-clause-err
returns-clause-err g c = owes_err g.W.World.follows g.W.World.has_stopped g.W.World.open_numbers g.W.World.stops
    g.W.World.lacks _ _ _ _ c.answer.ensures

pub returns-clause-log : goal.returns-clause-log
returns-clause-log g c = owes_log g.W.World.follows g.W.World.has_stopped g.W.World.open_numbers g.W.World.stops
    g.W.World.lacks _ _ _ _ c.answer.ensures

pub returns-clause-stopped : goal.returns-clause-stopped
returns-clause-stopped g c =
    owes_stopped g.W.World.follows g.W.World.has_stopped g.W.World.open_numbers g.W.World.stops g.W.World.lacks _ _ _ _
    c.answer.ensures
    (sym c.has_stopped.ensures ∙ c.if-has_stopped.false)

pub returns-clause-memory : goal.returns-clause-memory
returns-clause-memory g c =
    owes_lacks g.W.World.follows g.W.World.has_stopped g.W.World.open_numbers g.W.World.stops g.W.World.lacks _ _ _ _
    c.answer.ensures
