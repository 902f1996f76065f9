use Rattle.std.proofs.lemmas.Result.{err_from_is_err_and}
use Rattle.awk_streams.specs.Readings.{key_of}
use Rattle.awk_streams.proofs.Asking.{laws_of}
use Rattle.awk_streams.proofs.Lives.{live_read, live_same, next_duty, owns_read}
use Rattle.awk_streams.proofs.Leading.{owns_same}
use Rattle.awk_streams.proofs.MoreSteps.{goes_on_received, read_lacks, read_received, read_refused, received_so}
use Rattle.awk_streams.proofs.getline.more.Goals as goal

pub request-requires : goal.request-requires
request-requires g c = next_duty (g.W.World.open_numbers c.args.world.now) c.args.source.now c.number-number.result
    c.args.streams.now c.number-number.ensures c.requires.owns

pub returns-in_err-reply-clause-task : goal.returns-in_err-reply-clause-task
returns-in_err-reply-clause-task g c =
    let p = err_from_is_err_and c.from_residual.result c.from_residual.ensures.1 in
    let live = c.requires.live in
    rw (p.1, p.2) (λ m s q to form waits. read_refused (laws_of g.met.W.World.follows_append g.met.W.World.stops_later
    g.met.W.World.follows_open) m s q c.args.place c.args.source.now to form c.number-number.result
    c.args.streams.now c.number-number.ensures live.0 live.1 (waits live.0 live.1)
    _ _ _ c.in_err-reply.ensures.answer)

pub returns-clause-task : goal.returns-clause-task
returns-clause-task g c = λ m s q to form waits.
    let live = c.requires.live in
    read_received (laws_of g.met.W.World.follows_append g.met.W.World.stops_later g.met.W.World.follows_open) m s q
    c.args.place c.args.source.now to form c.number-number.result c.args.streams.now c.number-number.ensures live.0
    live.1 (waits live.0 live.1)
    c.receive.new.streams c.in_ok-reply.reply c.in_ok-receive.field-0 _ _ (c.requires.open live.0 live.1)
    (c.in_ok-receive.ensures.ok live.0 live.1) c.in_ok-reply.ensures.answer

pub returns-clause-live : goal.returns-clause-live
returns-clause-live g c =
    let live = c.requires.live in
    let key = key_of c.args.source.now in
    received_so key c.args.streams.now c.receive.new.streams live.0 c.in_ok-reply.reply c.in_ok-receive.field-0
    (λ i r. live_read key i c.args.streams.now c.receive.new.streams r)
    (λ same. live_same key c.args.streams.now c.receive.new.streams same live)
    (c.in_ok-receive.ensures.ok live.0 live.1)

pub returns-clause-owns : goal.returns-clause-owns
returns-clause-owns g c =
    let live = c.requires.live in
    let key = key_of c.args.source.now in
    let numbers = g.W.World.open_numbers c.args.world.now in
    rw c.in_ok-reply.ensures.numbers (received_so key c.args.streams.now c.receive.new.streams live.0
    c.in_ok-reply.reply c.in_ok-receive.field-0 (λ i r. owns_read numbers key i c.args.streams.now
    c.receive.new.streams r c.requires.owns)
    (λ same. owns_same numbers c.args.streams.now c.receive.new.streams same c.requires.owns)
    (c.in_ok-receive.ensures.ok live.0 live.1))

pub returns-in_err-receive-clause-task : goal.returns-in_err-receive-clause-task
returns-in_err-receive-clause-task g c =
    let p = err_from_is_err_and c.from_residual-in_err-receive.result c.from_residual-in_err-receive.ensures.1 in
    rw (p.1, p.2) (λ m s q to form waits.
    let live = c.requires.live in
    read_lacks (laws_of g.met.W.World.follows_append g.met.W.World.stops_later g.met.W.World.follows_open) m s q
    c.args.place c.args.source.now to form c.number-number.result c.args.streams.now c.number-number.ensures live.0
    live.1 (waits live.0 live.1)
    c.receive.new.streams c.in_ok-reply.reply _ _ (c.requires.open live.0 live.1) c.in_err-receive.ensures.err
    c.in_ok-reply.ensures.answer)

pub returns-clause-failed : goal.returns-clause-failed
returns-clause-failed g c = λ e.
    let live = c.requires.live in
    goes_on_received (key_of c.args.source.now) c.args.streams.now c.receive.new.streams live.0 c.in_ok-reply.reply
    c.in_ok-receive.field-0 (c.in_ok-receive.ensures.ok live.0 live.1) e c.requires.open
