use Rattle.awk_fields.specs.Heads.{head}
use Rattle.awk_streams.specs.Readings.{key_of}
use Rattle.awk_streams.proofs.Asking.{laws_of}
use Rattle.awk_streams.proofs.Lines.{line_at_once}
use Rattle.awk_streams.proofs.MoreSteps.{first_owns}
use Rattle.awk_streams.proofs.getline.fetch.Goals as goal

pub returns-in-Some-clause-task : goal.returns-in-Some-clause-task
returns-in-Some-clause-task g c = λ m s rs.
    line_at_once (laws_of g.met.W.World.follows_append g.met.W.World.stops_later g.met.W.World.follows_open) m s
    c.args.place c.args.source.now c.in-Some.text c.args.rs.now rs c.args.streams.now c.held_line.new.streams
    c.args.world.now (rw c.in-Some.is at c.held_line.ensures.some)

pub returns-in-Some-clause-owns : goal.returns-in-Some-clause-owns
returns-in-Some-clause-owns g c =
    let x = rw c.in-Some.is at c.held_line.ensures.some in
    first_owns _ (key_of c.args.source.now) c.args.streams.now c.held_line.new.streams x.before
    (head c.args.rs.now x.before.unread x.before.ended) _ x.first c.requires

pub returns-clause-task : goal.returns-clause-task
returns-clause-task g c = λ m s rs.
    rw (c.held_line.ensures.none c.in_default.is) at (c.fetch_any.ensures.task m s rs)
