use Rattle.std.proofs.Common.{refl, sym, ◌∙◌}
use Rattle.std.proofs.lemmas.Result.{err_from_is_err_and}
use Rattle.box_world.specs.Events.{Named}
use Rattle.awk_streams.specs.Tables.{kind}
use Rattle.awk_streams.proofs.Chain.{at_once, done, part, stop, turned}
use Rattle.awk_streams.proofs.Lives.{live_if}
use Rattle.awk_streams.proofs.MoreSteps.{fetched_so}
use Rattle.awk_streams.proofs.getline.open_named.Goals as goal

pub returns-in_err-found-clause-task : goal.returns-in_err-found-clause-task
returns-in_err-found-clause-task g c =
    let p = err_from_is_err_and c.from_residual.result c.from_residual.ensures.1 in
    rw (p.1, p.2) (λ m s. stop _ (λ k. refl) (at_once _ c.args.streams.now c.args.world.now)
    (c.open_input.ensures.task m s) c.in_err-found.was)

pub returns-clause-task : goal.returns-clause-task
returns-clause-task g c = λ m s.
    let n = c.args.name.now in
    rw c.is_some.ensures (done (turned (part c.in_ok-found.found (at_once _ c.args.streams.now c.args.world.now)
    (c.open_input.ensures.task m s) c.in_ok-found.was)
    (λ k. fetched_so c.args.place (Named (kind n.class) n.text.now) c.in_ok-found.found k)))

pub returns-clause-live : goal.returns-clause-live
returns-clause-live g c = λ e.
    let n = c.args.name.now in
    live_if (kind n.class) n.text.now c.in_ok-found.found c.open_input.new.streams c.in_ok-found.ensures.found
    (sym c.is_some.ensures ∙ e)
