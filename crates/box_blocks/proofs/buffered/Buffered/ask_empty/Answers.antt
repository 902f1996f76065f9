use Rattle.std.specs.Prelude.{Ok}
use Rattle.std.proofs.Common.{ap, ◌∙◌}
use Rattle.box_world.specs.declared.ask.Reply.TheVariants.{Failed}
use Rattle.box_blocks.specs.Blocks.{Blocks}
use Rattle.box_blocks.proofs.Steps.{begun_owes, owes_same, refused_owes}
use Rattle.box_blocks.proofs.buffered.Buffered.ask_empty.Goals as goal

pub returns-then-begins : goal.returns-then-begins
returns-then-begins g c =
    begun_owes g.W.World.follows g.W.World.has_stopped g.W.World.open_numbers g.W.World.stops g.W.World.lacks
    g.met.W.World.follows_none _ _ _ c.requires.nothing (c.begins.ensures.begun c.if-begins.true)

pub returns-then-refuses : goal.returns-then-refuses
returns-then-refuses g c =
    let same = c.begins.ensures.refused c.if-begins.false in
    let r = c.refuses.ensures.refused c.if-refuses.true in
    owes_same g.W.World.follows g.W.World.has_stopped g.W.World.open_numbers g.W.World.stops g.W.World.lacks
    c.begins.new.self
    c.args.self.now c.refuses.new.self c.args.ask.now (Ok Failed) same
    (refused_owes g.W.World.follows g.W.World.has_stopped g.W.World.open_numbers g.W.World.stops g.W.World.lacks
    g.met.W.World.follows_none c.begins.new.self c.refuses.new.self c.args.ask.now
    (ap (λ (z : Blocks g.row.W.Denot). z.held) same ∙ c.requires.nothing) r.0 r.1)

pub returns : goal.returns
returns g c =
    let same = c.begins.ensures.refused c.if-begins.false in
    let r = c.refuses.ensures.passed c.if-refuses.false in
    owes_same g.W.World.follows g.W.World.has_stopped g.W.World.open_numbers g.W.World.stops g.W.World.lacks _ _ _ _ _
    (r.0 ∙ same)
    c.pass_on.ensures
