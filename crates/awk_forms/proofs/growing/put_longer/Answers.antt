use Rattle.awk_forms.proofs.Leading.{hands_on, quietly, rests, unwanted}
use Rattle.awk_streams.proofs.Chain.{at_once, lacking, part, stop}
use Rattle.awk_builtins.proofs.Behind.{sets_behind}
use Rattle.awk_machine.specs.Pieces.{At, Do, Give, Set, Texts_of}
use Rattle.awk_machine.specs.Targets.{stored}
use Rattle.awk_program.specs.Program.{joins_of}
use Rattle.awk_program.specs.View.{view_joined}
use Rattle.awk_store.proofs.Acting.{acted, done as there}
use Rattle.awk_builtins.proofs.Stored.{stored_by}
use Rattle.awk_store.specs.Spots as spots
use Rattle.awk_store.specs.Spots.{meant}
use Rattle.awk_store.specs.Wholes.{names_in}
use Rattle.awk_store.specs.declared.spot.Spot.TheVariants as s
use Rattle.awk_text.specs.declared.value.Value.TheVariants as v
use Rattle.std.proofs.Common.{[], map, refl, ◌++◌, ◌∷◌}
use Rattle.std.proofs.lemmas.Result.{err_from_is_err_and}
use Rattle.awk_forms.proofs.growing.put_longer.Goals as goal

pub returns-in_default : goal.returns-in_default
returns-in_default g c =
    let h = c.put_variable.ensures in
    record {
      val = h.val;
      is = h.is;
      does =
          record { plays = λ m is. rw c.text_to_grow.ensures.same at (h.does.plays m is); owns = h.does.owns };
    }

pub returns-in_default-below : goal.returns-in_default-below
returns-in_default-below g c =
    record {
      val = v.Unset;
      is = tt;
      does =
          record { plays = λ m is. rw c.text_to_grow.ensures.same (lacking (at_once _ _ _)); owns = c.requires.owns };
    }

pub returns-in_err-more : goal.returns-in_err-more
returns-in_err-more g c =
    let e = err_from_is_err_and c.from_residual.result c.from_residual.ensures.1 in rw (e.1, e.2) (record {
      val = v.Unset;
      is = tt;
      does = record {
        plays = λ m is.
            stop _ (λ k. refl) (part (tt {0})
            (quietly (quietly (quietly (at_once _ _ _) (λ k hid d a. refl)) (λ k hid d a. refl))
            (λ k hid d a. refl)) (acted
            (there {on = λ (u : Unit {0}) k. At
            (Texts_of (joins_of (map (view_joined (names_in m)) c.in-Some.longer.rest.now)))
            (v.Text c.in-Some.longer.text ∷ []) ∷ k} {x = tt {0}}
            (c.in-Some.ensures.begins m c.args.run.now.streams))) refl)
            (rw c.text_to_grow.ensures.same at (c.operands.ensures.plays m is)) c.in_err-more.was;
        owns = c.operands.ensures.owns;
      };
    })

pub returns : goal.returns
returns g c =
    let new = v.Text (c.in-Some.longer.text ++ c.in_ok-more.more.items) in
    record {
      val = spots.stored c.operands.new.run.store.numbers (s.Variable c.args.variable) new;
      is = unwanted c.set_behind.result;
      does = record {
        plays = λ m is.
            rests (hands_on (λ k. refl)
            (quietly {then_ = λ k. Do (Set (meant (names_in m) (s.Variable c.args.variable)) c.args.place new) ∷ Do
            (Give (stored c.operands.new.run.store.numbers (meant (names_in m) (s.Variable c.args.variable)) new)) ∷ k}
            (part _ (part (tt {0}) (quietly (quietly (quietly (at_once _ _ _) (λ k hid d a. refl)) (λ k hid d a. refl))
            (λ k hid d a. refl)) (acted
            (there {on = λ (u : Unit {0}) k. At
            (Texts_of (joins_of (map (view_joined (names_in m)) c.in-Some.longer.rest.now)))
            (v.Text c.in-Some.longer.text ∷ []) ∷ k} {x = tt {0}}
            (c.in-Some.ensures.begins m c.args.run.now.streams))) refl)
            (rw c.text_to_grow.ensures.same at (c.operands.ensures.plays m is)) c.in_ok-more.was) (λ k hid d a. refl))
            (acted (sets_behind m (c.operands.new.run.store, c.operands.new.run.streams) c.args.variable c.args.place
            new c.set_behind.new.store c.set_behind.result c.in-Some.ensures.nf
            (rw c.as_slice.ensures.value at c.set_behind.ensures.ok) c.set_behind.ensures.err
            c.set_behind.ensures.used)))
            (λ x k hid d a. rw (stored_by c.operands.new.run.store.numbers m _ hid d a
            (s.Variable c.args.variable) new) refl);
        owns = c.operands.ensures.owns;
      };
    }
