use Rattle.awk_forms.proofs.Leading.{quietly}
use Rattle.awk_streams.proofs.Chain.{at_once, part, passes, stop}
use Rattle.awk_program.specs.Program as p
use Rattle.awk_program.specs.View.{view}
use Rattle.awk_store.specs.Wholes.{names_in}
use Rattle.std.proofs.Common.{refl}
use Rattle.std.proofs.lemmas.Result.{err_from_is_err_and}
use Rattle.awk_forms.proofs.operands.ternary.Goals as goal

pub returns-in_err-first : goal.returns-in_err-first
returns-in_err-first g c =
    let e = err_from_is_err_and c.from_residual.result c.from_residual.ensures.1 in rw (e.1, e.2) (record {
      plays = λ m is.
          (stop _ (λ k. refl) (quietly (at_once _ _ _) (λ k hid d a. refl)) (c.value.ensures.plays m is)
          c.in_err-first.was);
      owns = c.value.ensures.owns;
    })

pub returns-in_err-second : goal.returns-in_err-second
returns-in_err-second g c =
    let e = err_from_is_err_and c.from_residual-in_err-second.result c.from_residual-in_err-second.ensures.1 in
    rw (e.1, e.2) (record {
      plays = λ m is.
          (stop _ (λ k. refl) (quietly (part _ (quietly (at_once _ _ _) (λ k hid d a. refl))
          (c.value.ensures.plays m is) c.in_ok-first.was) (λ k hid d a. refl)) (c.value-2.ensures.plays m is)
          c.in_err-second.was);
      owns = c.value-2.ensures.owns;
    })

pub returns-in_err-third : goal.returns-in_err-third
returns-in_err-third g c =
    let e = err_from_is_err_and c.from_residual-in_err-third.result c.from_residual-in_err-third.ensures.1 in
    rw (e.1, e.2) (record {
      plays = λ m is.
          (stop _ (λ k. refl) (quietly
          (part _ (quietly (part _ (quietly (at_once _ _ _) (λ k hid d a. refl)) (c.value.ensures.plays m is)
          c.in_ok-first.was) (λ k hid d a. refl)) (c.value-2.ensures.plays m is) c.in_ok-second.was)
          (λ k hid d a. refl)) (c.value-3.ensures.plays m is) c.in_err-third.was);
      owns = c.value-3.ensures.owns;
    })

pub returns : goal.returns
returns g c =
    record {
      plays = λ m is.
          passes (part _ (quietly
          (part _ (quietly (part _ (quietly (at_once _ _ _) (λ k hid d a. refl)) (c.value.ensures.plays m is)
          c.in_ok-first.was) (λ k hid d a. refl)) (c.value-2.ensures.plays m is) c.in_ok-second.was)
          (λ k hid d a. refl)) (c.value-3.ensures.plays m is) c.in_ok-third.was)
          (c.called.ensures.task m (p.more (view (names_in m) c.args.x.now)
          (p.more (view (names_in m) c.args.y.now) (p.more (view (names_in m) c.args.z.now) p.none))) refl);
      owns = c.called.ensures.owns;
    }
