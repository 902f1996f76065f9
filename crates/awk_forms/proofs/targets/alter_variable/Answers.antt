use Rattle.awk_forms.proofs.Leading.{hands_on, quietly, rests, unwanted}
use Rattle.awk_streams.proofs.Chain.{at_once, part, stop, turned}
use Rattle.awk_machine.specs.Pieces.{At, Do, Get, Give, Set, Value_of}
use Rattle.awk_machine.specs.Targets.{stored}
use Rattle.awk_program.specs.Program as p
use Rattle.awk_program.specs.View.{variable_of, view}
use Rattle.awk_store.proofs.Acting.{acted}
use Rattle.awk_builtins.proofs.Stored.{stored_by}
use Rattle.awk_store.specs.Spots as spots
use Rattle.awk_store.specs.Spots.{meant, value_of}
use Rattle.awk_store.specs.Wholes.{names_in}
use Rattle.awk_store.specs.declared.spot.Spot.TheVariants as s
use Rattle.awk_text.specs.Values.{of_number}
use Rattle.awk_text.specs.declared.value.Value.TheVariants as v
use Rattle.std.proofs.Common.{[], refl, ◌∷◌}
use Rattle.std.proofs.lemmas.Result.{err_from_is_err_and}
use Rattle.awk_forms.proofs.targets.alter_variable.Goals as goal

pub returns-in_err-operand : goal.returns-in_err-operand
returns-in_err-operand g c =
    let e = err_from_is_err_and c.from_residual.result c.from_residual.ensures.1 in
    rw (e.1, e.2) (record {
      val = v.Unset;
      is = tt;
      does =
          record {
            plays = λ m is. stop _ (λ k. refl)
                (quietly (quietly (quietly (at_once _ _ _) (λ k hid d a. refl)) (λ k hid d a. refl))
                (λ k hid d a. refl))
                (c.value.ensures.plays m is) c.in_err-operand.was;
            owns = c.value.ensures.owns;
          };
    })

pub returns-in_err-old : goal.returns-in_err-old
returns-in_err-old g c =
    let e = err_from_is_err_and c.from_residual-in_err-old.result c.from_residual-in_err-old.ensures.1 in
    rw (e.1, e.2) (record {
      val = v.Unset;
      is = tt;
      does =
          record {
            plays = λ m is. stop _ (λ k. refl)
                (quietly {then_ = λ k. Do (Get (meant (names_in m) (s.Variable c.args.variable))) ∷ At
                (Value_of (p.change c.args.place c.args.how (p.variable (variable_of (names_in m) c.args.variable))
                (view (names_in m) c.args.x.now))) (c.in_ok-operand.operand ∷ value_of
                (s.Variable c.args.variable) ∷ []) ∷ k}
                (part _ (quietly (quietly (quietly (at_once _ _ _) (λ k hid d a. refl)) (λ k hid d a. refl))
                (λ k hid d a. refl)) (c.value.ensures.plays m is) c.in_ok-operand.was) (λ k hid d a. refl))
                (acted (c.read_variable.ensures m c.value.new.run.streams)) c.in_err-old.was;
            owns = c.value.ensures.owns;
          };
    })

pub returns-in_err-number : goal.returns-in_err-number
returns-in_err-number g c =
    let e = err_from_is_err_and c.from_residual-in_err-number.result c.from_residual-in_err-number.ensures.1 in
    rw (e.1, e.2) (record {
      val = v.Unset;
      is = tt;
      does =
          record {
            plays = λ m is. stop _ (λ k. refl)
                (part _ (quietly {then_ = λ k. Do (Get (meant (names_in m) (s.Variable c.args.variable))) ∷ At
                (Value_of (p.change c.args.place c.args.how (p.variable (variable_of (names_in m) c.args.variable))
                (view (names_in m) c.args.x.now))) (c.in_ok-operand.operand ∷ value_of
                (s.Variable c.args.variable) ∷ []) ∷ k}
                (part _ (quietly (quietly (quietly (at_once _ _ _) (λ k hid d a. refl)) (λ k hid d a. refl))
                (λ k hid d a. refl)) (c.value.ensures.plays m is) c.in_ok-operand.was) (λ k hid d a. refl))
                (acted (c.read_variable.ensures m c.value.new.run.streams)) c.in_ok-old.was)
                (acted (c.computed_at.ensures m (c.read_variable.new.store, c.value.new.run.streams)
                (p.variable (variable_of (names_in m) c.args.variable)) (view (names_in m) c.args.x.now)
                (value_of (s.Variable c.args.variable)) c.numbers.ensures)) c.in_err-number.was;
            owns = c.value.ensures.owns;
          };
    })

pub returns : goal.returns
returns g c =
    record {
      val = spots.stored c.numbers.result (s.Variable c.args.variable) (of_number c.in_ok-number.number);
      is =
          unwanted c.set_variable.result;
      does =
          record {
            plays = λ m is. rests
                (hands_on (λ k. refl)
                (turned {then_ = λ k. Do (Set (meant (names_in m) (s.Variable c.args.variable)) c.args.place
                (of_number c.in_ok-number.number)) ∷ Do
                (Give (stored c.numbers.result (meant (names_in m) (s.Variable c.args.variable))
                (of_number c.in_ok-number.number))) ∷ k}
                (part _ (part _ (quietly {then_ = λ k. Do (Get (meant (names_in m) (s.Variable c.args.variable))) ∷ At
                (Value_of (p.change c.args.place c.args.how (p.variable (variable_of (names_in m) c.args.variable))
                (view (names_in m) c.args.x.now))) (c.in_ok-operand.operand ∷ value_of
                (s.Variable c.args.variable) ∷ []) ∷ k}
                (part _ (quietly (quietly (quietly (at_once _ _ _) (λ k hid d a. refl)) (λ k hid d a. refl))
                (λ k hid d a. refl)) (c.value.ensures.plays m is) c.in_ok-operand.was) (λ k hid d a. refl))
                (acted (c.read_variable.ensures m c.value.new.run.streams)) c.in_ok-old.was)
                (acted (c.computed_at.ensures m (c.read_variable.new.store, c.value.new.run.streams)
                (p.variable (variable_of (names_in m) c.args.variable)) (view (names_in m) c.args.x.now)
                (value_of (s.Variable c.args.variable)) c.numbers.ensures)) c.in_ok-number.was) (λ k. refl))
                (acted (rw c.of.ensures at
                (c.set_variable.ensures m c.value.new.run.streams))))
                (λ x k hid d a. rw (stored_by c.numbers.result m _ hid d a (s.Variable c.args.variable)
                (of_number c.in_ok-number.number)) refl);
            owns = c.value.ensures.owns;
          };
    }
