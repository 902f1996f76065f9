use Rattle.awk_streams.proofs.Chain.{at_once, done, part, stop, turned}
use Rattle.std.proofs.Common.{refl}
use Rattle.std.proofs.lemmas.Result.{err_from_is_err_and}
use Rattle.awk_forms.proofs.targets.increment.Goals as goal

pub returns-in_err-before : goal.returns-in_err-before
returns-in_err-before g c =
    let e = err_from_is_err_and c.from_residual.result c.from_residual.ensures.1 in
    rw (e.1, e.2) (record {
      plays = λ m is. stop _ (λ k. refl) (at_once _ _ _)
          ((c.step_target.ensures c.args.taken).plays m is) c.in_err-before.was;
      owns =
          (c.step_target.ensures c.args.taken).owns;
    })

pub returns-in-Before : goal.returns-in-Before
returns-in-Before g c =
    record {
      plays = λ m is. rw c.of.ensures
          (done (turned (part _ (at_once _ _ _) ((c.step_target.ensures c.args.taken).plays m is) c.in_ok-before.was)
          (λ k. rw c.in-Before.is refl)));
      owns = (c.step_target.ensures c.args.taken).owns;
    }

pub returns-in-Behind : goal.returns-in-Behind
returns-in-Behind g c =
    record {
      plays = λ m is. rw c.of-in-Behind.ensures
          (done (turned (part _ (at_once _ _ _) ((c.step_target.ensures c.args.taken).plays m is) c.in_ok-before.was)
          (λ k. rw c.in-Behind.is refl)));
      owns = (c.step_target.ensures c.args.taken).owns;
    }
