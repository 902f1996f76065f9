use Rattle.std.proofs.Common.{ap, sym}
use Rattle.std.proofs.lemmas.Result.{err_from_is_err_and}
use Rattle.awk_machine.specs.Pieces.{give}
use Rattle.awk_streams.proofs.Asking.{laws_of, runs, run_refused}
use Rattle.awk_streams.proofs.Chain.{done, turned}
use Rattle.awk_streams.proofs.requests.system.Goals as goal

pub returns-in_err-reply-clause-task : goal.returns-in_err-reply-clause-task
returns-in_err-reply-clause-task g c =
    let p = err_from_is_err_and c.from_residual.result c.from_residual.ensures.1 in
    rw (p.1, p.2) (λ m s table. run_refused (laws_of g.met.W.World.follows_append g.met.W.World.stops_later
    g.met.W.World.follows_open) m s c.args.place c.args.command table _ _ _ c.in_err-reply.ensures.answer)

pub returns-clause-task : goal.returns-clause-task
returns-clause-task g c =
    λ m s table. done (turned
    (runs (laws_of g.met.W.World.follows_append g.met.W.World.stops_later g.met.W.World.follows_open) m s c.args.place
    c.args.command table c.in_ok-reply.reply _ _ c.in_ok-reply.ensures.answer)
    (λ k. ap (λ y. give y k) (sym c.status.ensures)))
