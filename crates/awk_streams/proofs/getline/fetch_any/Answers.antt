use Rattle.std.proofs.Common.{refl, ap, ◌∙◌, true, false}
use Rattle.std.specs.Prelude.{Ok}
use Rattle.std.proofs.lemmas.Result.{err_from_is_err_and}
use Rattle.awk_streams.proofs.Chain.{at_once, done, part, passes, stop}
use Rattle.awk_streams.proofs.getline.fetch_any.Goals as goal

pub returns-in_err-open_source-clause-task : goal.returns-in_err-open_source-clause-task
returns-in_err-open_source-clause-task g c =
    let p = err_from_is_err_and c.from_residual.result c.from_residual.ensures.1 in
    rw (p.1, p.2) (λ m s rs. stop _ (λ k. refl) (at_once _ c.args.streams.now c.args.world.now)
    (c.in_err-open_source.ensures.task m s) refl)

pub returns-then-not-branch-clause-task : goal.returns-then-not-branch-clause-task
returns-then-not-branch-clause-task g c = λ m s rs.
    done (part false (at_once _ c.args.streams.now c.args.world.now) (c.open_source.ensures.task m s)
    (c.in_ok-open_source.was ∙ ap (λ b. Ok b) c.if-not-branch.true))

pub read-requires-clause-live : goal.read-requires-clause-live
read-requires-clause-live g c = c.in_ok-open_source.ensures.live c.if-not-branch.false

pub returns-clause-task : goal.returns-clause-task
returns-clause-task g c = λ m s rs.
    passes (part true (at_once _ c.args.streams.now c.args.world.now) (c.open_source.ensures.task m s)
    (c.in_ok-open_source.was ∙ ap (λ b. Ok b) c.if-not-branch.false)) (c.read.ensures.task m s rs)
