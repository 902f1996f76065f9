use Rattle.std.specs.Prelude.{Ok, Err}
use Rattle.box_blocks.proofs.Steps.{duty_taken, kept_empties, passes, put_empties, sound_again}
use Rattle.box_blocks.proofs.buffered.Buffered.put_taken.Goals as goal

pub pass-requires-clause-duty : goal.pass-requires-clause-duty
pass-requires-clause-duty g c =
    duty_taken g.W.World.follows g.W.World.has_stopped g.W.World.open_numbers g.W.World.stops g.W.World.lacks
    g.met.W.World.follows_append g.met.W.World.follows_open g.met.W.World.stops_later _ _ _ c.requires.taken.1

pub returns : goal.returns
returns g c = λ first t.
    let e = c.in-Ok.ensures in
    put_empties g.W.World.follows g.W.World.has_stopped g.W.World.open_numbers g.W.World.stops g.W.World.lacks first
    c.args.self.now c.pass.new.self c.set_untold.new.self c.args.ask c.in-Ok.reply c.untold_by.result t
    (passes g.W.World.follows g.W.World.has_stopped g.W.World.open_numbers g.W.World.stops g.W.World.lacks
    c.args.self.now
    c.pass.new.self c.args.ask (Ok c.in-Ok.reply) e.same e.ok e.fits e.err e.log e.goes e.lacks) c.untold_by.ensures
    c.set_untold.ensures

pub hold-requires-clause-sound : goal.hold-requires-clause-sound
hold-requires-clause-sound g c =
    let e = c.in-Err.ensures in
    sound_again g.W.World.follows g.W.World.has_stopped g.W.World.open_numbers g.W.World.stops g.W.World.lacks
    g.met.W.World.follows_append g.met.W.World.follows_open g.met.W.World.stops_later c.requires.taken.0
    c.args.self.now c.pass.new.self c.args.ask c.in-Err.stop _ c.requires.taken.1
    (passes g.W.World.follows g.W.World.has_stopped g.W.World.open_numbers g.W.World.stops g.W.World.lacks
    c.args.self.now
    c.pass.new.self c.args.ask (Err c.in-Err.stop) e.same e.ok e.fits e.err e.log e.goes e.lacks) c.again.ensures

pub returns-in-Err : goal.returns-in-Err
returns-in-Err g c = λ first t.
    let e = c.in-Err.ensures in
    kept_empties g.W.World.follows g.W.World.has_stopped g.W.World.open_numbers g.W.World.stops g.W.World.lacks first
    c.args.self.now c.pass.new.self c.hold.new.self c.args.ask c.in-Err.stop _ t
    (passes g.W.World.follows g.W.World.has_stopped g.W.World.open_numbers g.W.World.stops g.W.World.lacks
    c.args.self.now
    c.pass.new.self c.args.ask (Err c.in-Err.stop) e.same e.ok e.fits e.err e.log e.goes e.lacks) c.again.ensures
    c.hold.ensures
