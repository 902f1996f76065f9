use Rattle.awk_forms.proofs.Leading.{quietly}
use Rattle.awk_streams.proofs.Chain.{at_once, part, passes, stop}
use Rattle.awk_program.specs.View.{view, view_target}
use Rattle.awk_store.proofs.Acting.{acted}
use Rattle.awk_store.specs.Wholes.{names_in}
use Rattle.std.proofs.Common.{refl}
use Rattle.std.proofs.lemmas.Result.{err_from_is_err_and}
use Rattle.awk_forms.proofs.targets.assign.Goals as goal

pub returns-in_err-to : goal.returns-in_err-to
returns-in_err-to g c =
    let e = err_from_is_err_and c.from_residual.result c.from_residual.ensures.1 in rw (e.1, e.2) (record {
      plays = λ m is.
          (stop _ (λ k. refl) (quietly (at_once _ _ _) (λ k hid d a. refl)) (c.target_of.ensures.plays.plays m is)
          c.in_err-to.was);
      owns = c.target_of.ensures.plays.owns;
    })

pub returns-in_err-new : goal.returns-in_err-new
returns-in_err-new g c =
    let e = err_from_is_err_and c.from_residual-in_err-new.result c.from_residual-in_err-new.ensures.1 in
    rw (e.1, e.2) (record {
      plays = λ m is.
          (stop _ (λ k. refl) (quietly (part _ (quietly (at_once _ _ _) (λ k hid d a. refl))
          (c.target_of.ensures.plays.plays m is) c.in_ok-to.was) (λ k hid d a. refl)) (c.value.ensures.plays m is)
          c.in_err-new.was);
      owns = c.value.ensures.owns;
    })

pub returns : goal.returns
returns g c =
    record {
      plays = λ m is.
          passes (part _ (quietly (part _ (quietly (at_once _ _ _) (λ k hid d a. refl))
          (c.target_of.ensures.plays.plays m is) c.in_ok-to.was) (λ k hid d a. refl)) (c.value.ensures.plays m is)
          c.in_ok-new.was)
          (acted (c.assign.ensures m c.value.new.run.streams (view_target (names_in m) c.args.target.now)
          (view (names_in m) c.args.x.now) (c.in_ok-to.ensures.spot (names_in m))));
      owns = c.value.ensures.owns;
    }
