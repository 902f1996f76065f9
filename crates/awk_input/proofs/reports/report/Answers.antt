use Rattle.std.proofs.lemmas.Result.{err_from_is_err_and}
use Rattle.awk_streams.proofs.Asking.{laws_of}
use Rattle.awk_streams.proofs.Chain.{at_once, lacking}
use Rattle.awk_input.proofs.MainSteps.{report_refused, reports}
use Rattle.awk_input.proofs.reports.report.Goals as goal

pub returns-in_default-clause-task : goal.returns-in_default-clause-task
returns-in_default-clause-task g c = λ m t. lacking (at_once _ (c.args.store.now, t) c.args.world.now)

pub returns-in_err-request-clause-task : goal.returns-in_err-request-clause-task
returns-in_err-request-clause-task g c =
    let p = err_from_is_err_and c.from_residual.result c.from_residual.ensures.1 in
    rw (p.1, p.2) (λ m t. report_refused (laws_of g.met.W.World.follows_append g.met.W.World.stops_later
    g.met.W.World.follows_open) m c.args.what.now c.args.name.now c.in-Ok.text c.in-Ok.ensures c.args.store.now t
    _ _ _ c.in_err-request.ensures.answer)

pub returns-clause-task : goal.returns-clause-task
returns-clause-task g c =
    λ m t. reports (laws_of g.met.W.World.follows_append g.met.W.World.stops_later g.met.W.World.follows_open) m
    c.args.what.now c.args.name.now c.in-Ok.text c.in-Ok.ensures c.args.store.now t
    c.in_ok-request.field-0 _ _ c.fail.new.store c.fail.ensures c.in_ok-request.ensures.answer
