use Rattle.awk_forms.proofs.Leading.{quietly}
use Rattle.awk_streams.proofs.Chain.{at_once, done, part, stop}
use Rattle.std.proofs.Common.{refl}
use Rattle.std.proofs.lemmas.Result.{err_from_is_err_and}
use Rattle.awk_eval.proofs.statements.plain.Goals as goal

pub returns-in_err-effect : goal.returns-in_err-effect
returns-in_err-effect g c =
    let e = err_from_is_err_and c.from_residual.result c.from_residual.ensures.1 in
    rw (e.1, e.2) (record {
      plays = λ m is. stop _ (λ k. refl) (quietly (at_once _ _ _) (λ k hid d a. refl))
          (c.effect.ensures.does.plays m is) c.in_err-effect.was;
      owns = c.effect.ensures.does.owns;
    })

pub returns : goal.returns
returns g c =
    record {
      plays = λ m is. done
          (quietly (part _ (quietly (at_once _ _ _) (λ k hid d a. refl)) (c.effect.ensures.does.plays m is)
          c.in_ok-effect.was) (λ k hid d a. refl));
      owns = c.effect.ensures.does.owns;
    }
