use Rattle.awk_forms.proofs.Leading.{quietly}
use Rattle.awk_forms.proofs.Opens.{unary_first}
use Rattle.awk_streams.proofs.Chain.{at_once, part, passes, stop}
use Rattle.awk_program.specs.View.{view}
use Rattle.awk_store.specs.Wholes.{names_in}
use Rattle.std.proofs.Common.{refl}
use Rattle.std.proofs.lemmas.Result.{err_from_is_err_and}
use Rattle.awk_forms.proofs.operands.unary.Goals as goal

pub returns-in_err-operand : goal.returns-in_err-operand
returns-in_err-operand g c =
    let e = err_from_is_err_and c.from_residual.result c.from_residual.ensures.1 in rw (e.1, e.2) (record {
      plays = λ m is.
          (stop _ (λ k. refl) (quietly (at_once _ _ _) (λ k hid d a. unary_first c.args.form
          (view (names_in m) c.args.x.now) m k _)) (c.value.ensures.plays m is) c.in_err-operand.was);
      owns = c.value.ensures.owns;
    })

pub returns : goal.returns
returns g c =
    record {
      plays = λ m is.
          passes (part _ (quietly (at_once _ _ _) (λ k hid d a. unary_first c.args.form (view (names_in m) c.args.x.now)
          m k _)) (c.value.ensures.plays m is) c.in_ok-operand.was) (c.give.ensures.task m
          (view (names_in m) c.args.x.now));
      owns = c.give.ensures.owns;
    }
