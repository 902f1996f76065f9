use Rattle.awk_forms.proofs.Leading.{quietly}
use Rattle.awk_forms.proofs.Opens.{binary_first, binary_second}
use Rattle.awk_streams.proofs.Chain.{at_once, part, passes, stop}
use Rattle.awk_program.specs.View.{view}
use Rattle.awk_store.specs.Wholes.{names_in}
use Rattle.std.proofs.Common.{refl}
use Rattle.std.proofs.lemmas.Result.{err_from_is_err_and}
use Rattle.awk_forms.proofs.operands.binary.Goals as goal

pub returns-in_err-left : goal.returns-in_err-left
returns-in_err-left g c =
    let e = err_from_is_err_and c.from_residual.result c.from_residual.ensures.1 in rw (e.1, e.2) (record {
      plays = λ m is.
          (stop _ (λ k. refl) (quietly (at_once _ _ _) (λ k hid d a. binary_first c.args.form
          (view (names_in m) c.args.x.now) (view (names_in m) c.args.y.now) m k _)) (c.value.ensures.plays m is)
          c.in_err-left.was);
      owns = c.value.ensures.owns;
    })

pub returns-in_err-right : goal.returns-in_err-right
returns-in_err-right g c =
    let e = err_from_is_err_and c.from_residual-in_err-right.result c.from_residual-in_err-right.ensures.1 in
    rw (e.1, e.2) (record {
      plays = λ m is.
          (stop _ (λ k. refl) (quietly
          (part _ (quietly (at_once _ _ _) (λ k hid d a. binary_first c.args.form (view (names_in m) c.args.x.now)
          (view (names_in m) c.args.y.now) m k _)) (c.value.ensures.plays m is) c.in_ok-left.was)
          (λ k hid d a. binary_second c.args.form (view (names_in m) c.args.x.now) (view (names_in m) c.args.y.now)
          c.in_ok-left.left m k _)) (c.value-2.ensures.plays m is) c.in_err-right.was);
      owns = c.value-2.ensures.owns;
    })

pub returns : goal.returns
returns g c =
    record {
      plays = λ m is.
          passes (part _ (quietly
          (part _ (quietly (at_once _ _ _) (λ k hid d a. binary_first c.args.form (view (names_in m) c.args.x.now)
          (view (names_in m) c.args.y.now) m k _)) (c.value.ensures.plays m is) c.in_ok-left.was)
          (λ k hid d a. binary_second c.args.form (view (names_in m) c.args.x.now) (view (names_in m) c.args.y.now)
          c.in_ok-left.left m k _)) (c.value-2.ensures.plays m is) c.in_ok-right.was)
          (c.give.ensures.task m (view (names_in m) c.args.x.now) (view (names_in m) c.args.y.now));
      owns = c.give.ensures.owns;
    }
