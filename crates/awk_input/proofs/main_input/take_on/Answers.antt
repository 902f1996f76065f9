use Rattle.std.proofs.Common.{refl, ap, ◌∙◌}
use Rattle.std.specs.Prelude.{Ok}
use Rattle.std.proofs.lemmas.Result.{err_from_is_err_and}
use Rattle.awk_streams.proofs.Chain.{at_once, done, lacking, part, stop}
use Rattle.awk_input.proofs.main_input.take_on.Goals as goal

pub loop-init : goal.loop-init
loop-init g c = (λ m is. at_once _ (c.args.store.now, c.args.streams.now) c.args.world.now, c.requires)

pub returns-in_err-value-clause-task : goal.returns-in_err-value-clause-task
returns-in_err-value-clause-task g c =
    let p = err_from_is_err_and c.from_residual.result c.from_residual.ensures.1 in
    rw (p.1, p.2) (λ m is. stop _ (λ k. refl) (c.loop.invariant.0 m is) (c.in_err-value.ensures.task m is) refl)

pub returns-in-Some-clause-task : goal.returns-in-Some-clause-task
returns-in-Some-clause-task g c = λ m is. done (part _ (c.loop.invariant.0 m is) (c.turn.ensures.task m is)
    (c.in_ok-value.was ∙ ap (λ x. Ok x) c.in-Some.is))

pub loop-preserved : goal.loop-preserved
loop-preserved g c = (
  λ m is. part _ (c.loop.invariant.0 m is) (c.turn.ensures.task m is)
      (c.in_ok-value.was ∙ ap (λ x. Ok x) c.in_default.is),
  c.turn.ensures.owns,
)

pub returns-clause-task : goal.returns-clause-task
returns-clause-task g c = λ m is. lacking (c.loop.invariant.0 m is)
