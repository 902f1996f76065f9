use Rattle.awk_forms.proofs.Leading.{quietly}
use Rattle.awk_streams.proofs.Chain.{at_once, part, passes, stop}
use Rattle.awk_machine.specs.Pieces.{Do, Get}
use Rattle.awk_store.proofs.Acting.{acted}
use Rattle.awk_store.specs.Spots.{meant}
use Rattle.awk_store.specs.Wholes.{names_in}
use Rattle.std.proofs.Common.{refl, ◌∷◌}
use Rattle.std.proofs.lemmas.Result.{err_from_is_err_and}
use Rattle.awk_forms.proofs.targets.general_read.Goals as goal

pub returns-in_err-from : goal.returns-in_err-from
returns-in_err-from g c =
    let e = err_from_is_err_and c.from_residual.result c.from_residual.ensures.1 in rw (e.1, e.2) (record {
      plays = λ m is.
          (stop _ (λ k. refl) (quietly (at_once _ _ _) (λ k hid d a. refl)) (c.target_of.ensures.plays.plays m is)
          c.in_err-from.was);
      owns = c.target_of.ensures.plays.owns;
    })

pub returns : goal.returns
returns g c =
    record {
      plays = λ m is.
          passes (quietly {then_ = λ k. Do (Get (meant (names_in m) c.in_ok-from.from)) ∷ k}
          (part _ (quietly (at_once _ _ _) (λ k hid d a. refl)) (c.target_of.ensures.plays.plays m is)
          c.in_ok-from.was) (λ k hid d a. rw (c.in_ok-from.ensures.spot (names_in m)) refl))
          (acted (c.read.ensures m c.target_of.new.run.streams));
      owns = c.target_of.ensures.plays.owns;
    }
