use Rattle.awk_forms.proofs.Leading.{hands_on, quietly, rests, unwanted}
use Rattle.awk_streams.proofs.Chain.{at_once, part, stop}
use Rattle.awk_machine.specs.Pieces.{Do, Give, Set}
use Rattle.awk_machine.specs.Targets.{stored}
use Rattle.awk_store.proofs.Acting.{acted}
use Rattle.awk_builtins.proofs.Stored.{stored_by}
use Rattle.awk_store.specs.Spots as spots
use Rattle.awk_store.specs.Spots.{meant}
use Rattle.awk_store.specs.Wholes.{names_in}
use Rattle.awk_store.specs.declared.spot.Spot.TheVariants as s
use Rattle.std.proofs.Common.{refl, ◌∷◌}
use Rattle.std.proofs.lemmas.Result.{err_from_is_err_and}
use Rattle.awk_forms.proofs.targets.put_variable.Goals as goal
use Rattle.awk_text.specs.declared.value.Value.TheVariants as v

pub returns-in_err-new : goal.returns-in_err-new
returns-in_err-new g c =
    let e = err_from_is_err_and c.from_residual.result c.from_residual.ensures.1 in
    rw (e.1, e.2) (record {
      val = v.Unset;
      is = tt;
      does =
          record {
            plays = λ m is. stop _ (λ k. refl)
                (quietly (quietly (quietly (at_once _ _ _) (λ k hid d a. refl)) (λ k hid d a. refl))
                (λ k hid d a. refl))
                (c.value.ensures.plays m is) c.in_err-new.was;
            owns = c.value.ensures.owns;
          };
    })

pub returns : goal.returns
returns g c =
    record {
      val = spots.stored c.value.new.run.store.numbers (s.Variable c.args.variable) c.in_ok-new.new;
      is = unwanted c.set_variable.result;
      does = record {
        plays =
            λ m is. rests (hands_on (λ k. refl)
            (quietly {then_ = λ k. Do (Set (meant (names_in m) (s.Variable c.args.variable)) c.args.place
            c.in_ok-new.new) ∷
            Do (Give (stored c.value.new.run.store.numbers (meant (names_in m)
            (s.Variable c.args.variable)) c.in_ok-new.new)) ∷ k}
            (part _ (quietly (quietly (quietly (at_once _ _ _) (λ k hid d a. refl)) (λ k hid d a. refl))
            (λ k hid d a. refl)) (c.value.ensures.plays m is) c.in_ok-new.was) (λ k hid d a. refl))
            (acted (c.set_variable.ensures m c.value.new.run.streams)))
            (λ x k hid d a. rw (stored_by c.value.new.run.store.numbers m _ hid d a
            (s.Variable c.args.variable) c.in_ok-new.new) refl);
        owns =
            c.value.ensures.owns;
      };
    }
