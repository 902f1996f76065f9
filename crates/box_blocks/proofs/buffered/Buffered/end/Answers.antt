use Rattle.std.proofs.Common.{◌∙◌, sym}
use Rattle.box_blocks.proofs.Steps.{ended_if, passes, unanswered_if}
use Rattle.box_blocks.proofs.buffered.Buffered.end.Goals as goal

pub returns-then-is_err : goal.returns-then-is_err
returns-then-is_err g c =
    let e = c.pass-answer.ensures in
    unanswered_if g.W.World.follows g.W.World.has_stopped g.W.World.open_numbers g.W.World.stops g.W.World.lacks
    c.args.self.now
    c.pass-answer.new.self c.args.ask.now c.pass-answer.result (sym c.is_err.ensures.value ∙ c.if-is_err.true)
    c.requires.nothing (passes g.W.World.follows g.W.World.has_stopped g.W.World.open_numbers g.W.World.stops
    g.W.World.lacks
    c.args.self.now c.pass-answer.new.self c.args.ask.now c.pass-answer.result e.same e.ok e.fits e.err e.log e.goes
    e.lacks)

pub returns : goal.returns
returns g c =
    let e = c.pass-answer.ensures in
    ended_if g.W.World.follows g.W.World.has_stopped g.W.World.open_numbers g.W.World.stops g.W.World.lacks
    c.args.self.now
    c.pass-answer.new.self c.set_untold.new.self c.args.ask.now c.pass-answer.result
    (sym c.is_err.ensures.value ∙ c.if-is_err.false) c.requires.nothing c.requires.shut
    (passes g.W.World.follows g.W.World.has_stopped g.W.World.open_numbers g.W.World.stops g.W.World.lacks
    c.args.self.now
    c.pass-answer.new.self c.args.ask.now c.pass-answer.result e.same e.ok e.fits e.err e.log e.goes e.lacks)
    c.set_untold.ensures
