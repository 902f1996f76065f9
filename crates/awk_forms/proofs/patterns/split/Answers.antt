use Rattle.awk_forms.proofs.Leading.{quietly}
use Rattle.awk_streams.proofs.Chain.{at_once, part, passes, stop}
use Rattle.awk_program.specs.View.{view, view_ere}
use Rattle.awk_store.proofs.Acting.{acted}
use Rattle.awk_store.specs.Wholes.{names_in}
use Rattle.std.proofs.Common.{refl}
use Rattle.std.proofs.lemmas.Result.{err_from_is_err_and}
use Rattle.awk_forms.proofs.patterns.split.Goals as goal

pub returns-in_err-text : goal.returns-in_err-text
returns-in_err-text g c =
    let e = err_from_is_err_and c.from_residual.result c.from_residual.ensures.1 in rw (e.1, e.2) (record {
      plays = λ m is.
          (stop _ (λ k. refl) (quietly (at_once _ _ _) (λ k hid d a. refl)) (c.value.ensures.plays m is)
          c.in_err-text.was);
      owns = c.value.ensures.owns;
    })

pub returns-in_err-by : goal.returns-in_err-by
returns-in_err-by g c =
    let e = err_from_is_err_and c.from_residual-in_err-by.result c.from_residual-in_err-by.ensures.1 in
    rw (e.1, e.2) (record {
      plays = λ m is.
          (stop _ (λ k. refl) (quietly (part _ (quietly (at_once _ _ _) (λ k hid d a. refl))
          (c.value.ensures.plays m is) c.in_ok-text.was) (λ k hid d a. refl)) (c.source_of.ensures.plays.plays m is)
          c.in_err-by.was);
      owns = c.source_of.ensures.plays.owns;
    })

pub returns : goal.returns
returns g c =
    record {
      plays = λ m is.
          passes (part _ (quietly (part _ (quietly (at_once _ _ _) (λ k hid d a. refl)) (c.value.ensures.plays m is)
          c.in_ok-text.was) (λ k hid d a. refl)) (c.source_of.ensures.plays.plays m is) c.in_ok-by.was)
          (acted (c.split.ensures m c.source_of.new.run.streams (view (names_in m) c.args.x.now)
          (view_ere (names_in m) c.args.separator.now) (c.in_ok-by.ensures.kind (names_in m))));
      owns = c.source_of.ensures.plays.owns;
    }
