use Rattle.awk_forms.proofs.Leading.{hands_on, quietly, rests, unwanted}
use Rattle.awk_streams.proofs.Chain.{at_once, part, stop}
use Rattle.awk_machine.specs.Pieces.{Do, Give, Set, give}
use Rattle.awk_machine.specs.Targets.{stored}
use Rattle.awk_store.proofs.Acting.{acted, done as there, lacking as lacks_there}
use Rattle.awk_builtins.proofs.Stored.{stored_by}
use Rattle.awk_store.specs.Spots as spots
use Rattle.awk_store.specs.Spots.{meant}
use Rattle.awk_store.specs.Wholes.{names_in}
use Rattle.std.proofs.Common.{refl, ◌∷◌}
use Rattle.std.proofs.lemmas.Result.{err_from_is_err_and}
use Rattle.awk_forms.proofs.targets.put.Goals as goal
use Rattle.awk_text.specs.declared.value.Value.TheVariants as v

pub returns-in_err-is_done : goal.returns-in_err-is_done
returns-in_err-is_done g c =
    let e = err_from_is_err_and c.from_residual.result c.from_residual.ensures.1 in
    rw (e.1, e.2, c.in_err-is_done.ensures.err)
    (record {
      val = v.Unset;
      is = tt;
      does = record {
        plays = λ m is. acted (lacks_there c.assigned.ensures.used);
        owns = c.requires.owns;
      };
    })

pub returns-then-is_done : goal.returns-then-is_done
returns-then-is_done g c =
    let h = c.in_ok-is_done.ensures.done c.if-is_done.true in
    record {
      val = h.0;
      is = tt;
      does =
          record {
            plays = λ m is. acted (there {on = λ (u : Unit {0}). give h.0} {x = tt}
                (h.1 m c.args.run.now.streams c.args.place));
            owns = c.requires.owns;
          };
    }

pub returns-in-Variable : goal.returns-in-Variable
returns-in-Variable g c =
    record {
      val = c.put_longer.ensures.val;
      is = c.put_longer.ensures.is;
      does =
          record {
            plays = λ m is. rw c.in-Variable.is (rw (c.in_ok-is_done.ensures.not_done c.if-is_done.false) at
                (c.put_longer.ensures.does.plays m is));
            owns = c.put_longer.ensures.does.owns;
          };
    }

pub returns-in_err-to : goal.returns-in_err-to
returns-in_err-to g c =
    let e = err_from_is_err_and c.from_residual-in_err-to.result c.from_residual-in_err-to.ensures.1 in
    rw (e.1, e.2) (record {
      val = v.Unset;
      is = tt;
      does =
          record {
            plays = λ m is. stop _ (λ k. refl) (quietly (at_once _ _ _) (λ k hid d a. refl))
                (rw (c.in_ok-is_done.ensures.not_done c.if-is_done.false) at (c.target_of.ensures.plays.plays m is))
                c.in_err-to.was;
            owns = c.target_of.ensures.plays.owns;
          };
    })

pub returns-in_err-new : goal.returns-in_err-new
returns-in_err-new g c =
    let e = err_from_is_err_and c.from_residual-in_err-new.result c.from_residual-in_err-new.ensures.1 in
    rw (e.1, e.2) (record {
      val = v.Unset;
      is = tt;
      does =
          record {
            plays = λ m is. stop _ (λ k. refl)
                (quietly (part _ (quietly (at_once _ _ _) (λ k hid d a. refl))
                (rw (c.in_ok-is_done.ensures.not_done c.if-is_done.false) at (c.target_of.ensures.plays.plays m is))
                c.in_ok-to.was) (λ k hid d a. refl)) (c.value.ensures.plays m is) c.in_err-new.was;
            owns =
                c.value.ensures.owns;
          };
    })

pub returns : goal.returns
returns g c =
    record {
      val = spots.stored c.value.new.run.store.numbers c.in_ok-to.to c.in_ok-new.new;
      is = unwanted c.set.result;
      does =
          record {
            plays = λ m is. rests
                (hands_on (λ k. refl)
                (quietly {then_ = λ k. Do (Set (meant (names_in m) c.in_ok-to.to) c.args.place c.in_ok-new.new) ∷ Do
                (Give (stored c.value.new.run.store.numbers (meant (names_in m) c.in_ok-to.to) c.in_ok-new.new)) ∷ k}
                (part _ (quietly (part _ (quietly (at_once _ _ _) (λ k hid d a. refl))
                (rw (c.in_ok-is_done.ensures.not_done c.if-is_done.false) at (c.target_of.ensures.plays.plays m is))
                c.in_ok-to.was) (λ k hid d a. refl)) (c.value.ensures.plays m is) c.in_ok-new.was)
                (λ k hid d a. rw (c.in_ok-to.ensures.spot (names_in m)) refl))
                (acted (c.set.ensures m c.value.new.run.streams)))
                (λ x k hid d a. rw (stored_by c.value.new.run.store.numbers m _ hid d a c.in_ok-to.to c.in_ok-new.new)
                refl);
            owns = c.value.ensures.owns;
          };
    }
