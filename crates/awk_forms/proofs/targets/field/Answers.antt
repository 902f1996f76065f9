use Rattle.awk_forms.proofs.Leading.{quietly}
use Rattle.awk_streams.proofs.Chain.{at_once, done, part, stop}
use Rattle.awk_program.specs.View.{view}
use Rattle.awk_store.proofs.Acting.{acted}
use Rattle.awk_store.specs.Wholes.{names_in}
use Rattle.std.proofs.Common.{refl}
use Rattle.std.proofs.lemmas.Result.{err_from_is_err_and}
use Rattle.awk_forms.proofs.targets.field.Goals as goal

pub returns-in_err-operand : goal.returns-in_err-operand
returns-in_err-operand g c =
    let e = err_from_is_err_and c.from_residual.result c.from_residual.ensures.1 in rw (e.1, e.2) (record {
      plays = record {
        plays = λ m is.
            (stop _ (λ k. refl) (quietly (at_once _ _ _) (λ k hid d a. refl)) (c.value.ensures.plays m is)
            c.in_err-operand.was);
        owns = c.value.ensures.owns;
      };
      spot = tt;
    })

pub returns-in_err-field_number : goal.returns-in_err-field_number
returns-in_err-field_number g c =
    let e = err_from_is_err_and c.from_residual-in_err-field_number.result c.from_residual-in_err-field_number.ensures.1
    in
    rw (e.1, e.2) (record {
      plays = record {
        plays = λ m is.
            (stop _ (λ k. refl) (part _ (quietly (at_once _ _ _) (λ k hid d a. refl)) (c.value.ensures.plays m is)
            c.in_ok-operand.was) (acted (c.field_number.ensures m (c.value.new.run.store, c.value.new.run.streams)
            (view (names_in m) c.args.x.now) c.numbers.ensures)) c.in_err-field_number.was);
        owns = c.value.ensures.owns;
      };
      spot = tt;
    })

pub returns-clause-plays : goal.returns-clause-plays
returns-clause-plays g c =
    record {
      plays = λ m is.
          done (part _ (part _ (quietly (at_once _ _ _) (λ k hid d a. refl)) (c.value.ensures.plays m is)
          c.in_ok-operand.was) (acted (c.field_number.ensures m (c.value.new.run.store, c.value.new.run.streams)
          (view (names_in m) c.args.x.now) c.numbers.ensures)) c.in_ok-field_number.was);
      owns = c.value.ensures.owns;
    }

pub returns-clause-spot : goal.returns-clause-spot
returns-clause-spot g c =
    λ names. refl
