use Rattle.std.specs.Prelude.{Err}
use Rattle.std.proofs.Common.{ap, ◌∙◌, subst, sym}
use Rattle.box_world.specs.Calls.{IsDuty}
use Rattle.box_blocks.specs.Blocks.{Blocks}
use Rattle.box_blocks.proofs.Steps.{emptied_owes, joined_owes, open_still, owes_same, unemptied_owes}
use Rattle.box_blocks.proofs.buffered.Buffered.answer.Goals as goal

pub returns-then-joins : goal.returns-then-joins
returns-then-joins g c =
    joined_owes g.W.World.follows g.W.World.has_stopped g.W.World.open_numbers g.W.World.stops g.W.World.lacks
    g.met.W.World.follows_none _ _ _ (c.joins.ensures.joined c.if-joins.true)

pub returns-in-Ok : goal.returns-in-Ok
returns-in-Ok g c =
    owes_same g.W.World.follows g.W.World.has_stopped g.W.World.open_numbers g.W.World.stops g.W.World.lacks _ _ _ _ _
    (c.joins.ensures.refused c.if-joins.false)
    (emptied_owes g.W.World.follows g.W.World.has_stopped g.W.World.open_numbers g.W.World.stops g.W.World.lacks
    g.met.W.World.follows_append g.met.W.World.follows_open g.met.W.World.stops_later _ _ _ _ _ c.in-Ok.ensures
    c.ask_empty.ensures)

pub returns-in-Err : goal.returns-in-Err
returns-in-Err g c =
    owes_same g.W.World.follows g.W.World.has_stopped g.W.World.open_numbers g.W.World.stops g.W.World.lacks
    c.joins.new.self
    c.args.self.now c.put_held.new.self c.args.ask.now (Err c.in-Err.stop)
    (c.joins.ensures.refused c.if-joins.false)
    (unemptied_owes g.W.World.follows g.W.World.has_stopped g.W.World.open_numbers g.W.World.stops g.W.World.lacks
    c.joins.new.self c.put_held.new.self c.args.ask.now c.in-Err.stop c.in-Err.ensures)

pub ask_empty-requires-clause-duty : goal.ask_empty-requires-clause-duty
ask_empty-requires-clause-duty g c =
    subst (λ z. IsDuty z c.args.ask.now.request) (sym (open_still g.W.World.follows g.W.World.has_stopped
    g.W.World.open_numbers g.W.World.stops g.W.World.lacks g.met.W.World.follows_append g.met.W.World.follows_open
    g.met.W.World.stops_later c.joins.new.self c.put_held.new.self c.in-Ok.ensures
    ∙ ap (λ (z : Blocks g.row.W.Denot). g.W.World.open_numbers z.world) (c.joins.ensures.refused c.if-joins.false)))
    c.requires
