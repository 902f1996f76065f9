use Rattle.std.proofs.Common.{sym, ◌∙◌}
use Rattle.std.proofs.lemmas.Result.{err_from_is_err_and}
use Rattle.awk_streams.proofs.Asking.{laws_of, failed_ends, failed_goes, puts, put_refused}
use Rattle.awk_streams.proofs.Chain.{closed, done, turned}
use Rattle.awk_streams.proofs.requests.put.Goals as goal

pub returns-in_err-reply-clause-task : goal.returns-in_err-reply-clause-task
returns-in_err-reply-clause-task g c =
    let p = err_from_is_err_and c.from_residual.result c.from_residual.ensures.1 in
    rw (p.1, p.2) (λ m s table key is. put_refused (laws_of g.met.W.World.follows_append g.met.W.World.stops_later
    g.met.W.World.follows_open) m s c.args.place key c.args.text c.args.number table _ _ _ is
    c.in_err-reply.ensures.answer)

pub returns-then-is_failed-clause-task : goal.returns-then-is_failed-clause-task
returns-then-is_failed-clause-task g c =
    let yes = sym c.is_failed.ensures ∙ c.if-is_failed.true in
    λ m s table key is. closed
    (turned (puts (laws_of g.met.W.World.follows_append g.met.W.World.stops_later g.met.W.World.follows_open) m s
    c.args.place key c.args.text c.args.number table c.in_ok-reply.reply _ _ is c.in_ok-reply.ensures.answer)
    (λ k. failed_ends c.args.place k c.in_ok-reply.reply yes))

pub returns-clause-task : goal.returns-clause-task
returns-clause-task g c =
    let no = sym c.is_failed.ensures ∙ c.if-is_failed.false in
    λ m s table key is. done
    (turned (puts (laws_of g.met.W.World.follows_append g.met.W.World.stops_later g.met.W.World.follows_open) m s
    c.args.place key c.args.text c.args.number table c.in_ok-reply.reply _ _ is c.in_ok-reply.ensures.answer)
    (λ k. failed_goes c.args.place k c.in_ok-reply.reply no))
