use Rattle.std.proofs.Common.{refl, ap, ◌∙◌}
use Rattle.std.specs.Prelude.{Ok, Some, None}
use Rattle.std.proofs.lemmas.Result.{err_from_is_err_and}
use Rattle.awk_streams.proofs.Chain.{at_once, done, lacking, part, stop}
use Rattle.awk_forms.proofs.Leading.{hands_on}
use Rattle.awk_store.proofs.Acting.{acted}
use Rattle.awk_store.proofs.Lifting.{lifted}
use Rattle.awk_run.proofs.environ.look.Goals as goal

pub returns-in_err-sent : goal.returns-in_err-sent
returns-in_err-sent g c =
    let e = err_from_is_err_and c.from_residual.result c.from_residual.ensures.1 in
    rw (e.1, e.2) (λ names. record { plays = λ m is. lacking (at_once _ _ _); owns = c.requires })

pub returns-in_err-found : goal.returns-in_err-found
returns-in_err-found g c =
    let e = err_from_is_err_and c.from_residual-in_err-found.result c.from_residual-in_err-found.ensures.1 in
    rw (e.1, e.2) (λ names. record {
      plays = λ m is. stop _ (λ k. refl) (at_once _ _ _)
          (lifted m c.args.run.now.store
          (λ s. rw c.in_ok-sent.ensures at (c.environment.ensures.task m s c.args.run.now.streams names)))
          c.in_err-found.was;
      owns = rw c.environment.ensures.numbers c.requires;
    })

pub returns-in_default : goal.returns-in_default
returns-in_default g c = λ names. record {
  plays = λ m is. done (part None (at_once _ _ _)
      (lifted m c.args.run.now.store
      (λ s. rw c.in_ok-sent.ensures at (c.environment.ensures.task m s c.args.run.now.streams names)))
      (c.in_ok-found.was ∙ ap (λ o. Ok o) c.in_default.is));
  owns = rw c.environment.ensures.numbers c.requires;
}

pub returns : goal.returns
returns g c = λ names. record {
  plays = λ m is. hands_on (λ k. refl) (part (Some c.in-Some.text) (at_once _ _ _)
      (lifted m c.args.run.now.store
      (λ s. rw c.in_ok-sent.ensures at (c.environment.ensures.task m s c.args.run.now.streams names)))
      (c.in_ok-found.was ∙ ap (λ o. Ok o) c.in-Some.is))
      (acted (rw c.bytes.ensures at (c.set_environ.ensures m c.args.run.now.streams)));
  owns = rw c.environment.ensures.numbers c.requires;
}
