use Rattle.awk_forms.proofs.Leading.{quietly}
use Rattle.awk_forms.proofs.Turns.{count_listed, filled_from, waits_listed}
use Rattle.awk_streams.proofs.Chain.{at_once, done, part, stop}
use Rattle.awk_machine.specs.Forms.{answer, keyed}
use Rattle.awk_machine.specs.Pieces.{Target_of}
use Rattle.awk_program.specs.Program.{expressions_of}
use Rattle.awk_program.specs.View.{variable_of, view}
use Rattle.awk_store.proofs.Acting.{acted}
use Rattle.awk_store.specs.Wholes.{names_in}
use Rattle.std.proofs.Common.{map, refl}
use Rattle.std.proofs.lemmas.Result.{err_from_is_err_and}
use Rattle.awk_forms.proofs.lists.element.Goals as goal
use Rattle.awk_program.specs.Program as p
use Rattle.awk_text.specs.declared.value.Value.TheVariants as v

pub returns-in_err-key : goal.returns-in_err-key
returns-in_err-key g c =
    let e = err_from_is_err_and c.from_residual-in_err-key.result c.from_residual-in_err-key.ensures.1 in
    rw (e.1, e.2) (record {
      plays = record {
        plays = λ m is.
            (stop _ (λ k. refl) (part _ (at_once _ _ _) (filled_from _ _ c.new-values.ensures.items c.fill.ensures.plays
            m is (Target_of (p.element c.args.place (variable_of (names_in m) c.args.array)
            (expressions_of (map (view (names_in m)) c.args.keys.now))))
            (waits_listed m (Target_of (p.element c.args.place (variable_of (names_in m) c.args.array)
            (expressions_of (map (view (names_in m)) c.args.keys.now)))) (map (view (names_in m)) c.args.keys.now)
            (λ vs. keyed c.args.place vs (λ text. answer (v.Text text))) (λ vs k s. refl) (λ vs k. refl)))
            c.in_ok-fill.was) (acted (rw c.as_slice.ensures.value at (c.element_key.ensures m c.fill.new.run.streams
            (variable_of (names_in m) c.args.array) (expressions_of (map (view (names_in m)) c.args.keys.now))
            (rw c.as_slice.ensures.value (count_listed (view (names_in m)) c.args.keys.now _ _
            c.new-values.ensures.items c.in_ok-fill.ensures.count))))) c.in_err-key.was);
        owns = c.fill.ensures.plays.owns;
      };
      spot = tt;
    })

pub returns-clause-spot : goal.returns-clause-spot
returns-clause-spot g c =
    λ names. refl

pub returns-in_err-fill : goal.returns-in_err-fill
returns-in_err-fill g c =
    let e = err_from_is_err_and c.from_residual-in_err-fill.result c.from_residual-in_err-fill.ensures.1 in
    rw (e.1, e.2) (record {
      plays = record {
        plays = λ m is.
            (stop _ (λ k. refl) (at_once _ _ _) (filled_from _ _ c.new-values.ensures.items c.fill.ensures.plays m is
            (Target_of (p.element c.args.place (variable_of (names_in m) c.args.array)
            (expressions_of (map (view (names_in m)) c.args.keys.now))))
            (waits_listed m (Target_of (p.element c.args.place (variable_of (names_in m) c.args.array)
            (expressions_of (map (view (names_in m)) c.args.keys.now)))) (map (view (names_in m)) c.args.keys.now)
            (λ vs. keyed c.args.place vs (λ text. answer (v.Text text))) (λ vs k s. refl) (λ vs k. refl)))
            c.in_err-fill.was);
        owns = c.fill.ensures.plays.owns;
      };
      spot = tt;
    })

pub returns-clause-plays : goal.returns-clause-plays
returns-clause-plays g c =
    record {
      plays = λ m is.
          rw c.new.ensures (done
          (part _ (part _ (at_once _ _ _) (filled_from _ _ c.new-values.ensures.items c.fill.ensures.plays m is
          (Target_of (p.element c.args.place (variable_of (names_in m) c.args.array)
          (expressions_of (map (view (names_in m)) c.args.keys.now))))
          (waits_listed m (Target_of (p.element c.args.place (variable_of (names_in m) c.args.array)
          (expressions_of (map (view (names_in m)) c.args.keys.now)))) (map (view (names_in m)) c.args.keys.now)
          (λ vs. keyed c.args.place vs (λ text. answer (v.Text text))) (λ vs k s. refl) (λ vs k. refl)))
          c.in_ok-fill.was) (acted (rw c.as_slice.ensures.value at (c.element_key.ensures m c.fill.new.run.streams
          (variable_of (names_in m) c.args.array) (expressions_of (map (view (names_in m)) c.args.keys.now))
          (rw c.as_slice.ensures.value (count_listed (view (names_in m)) c.args.keys.now _ _
          c.new-values.ensures.items c.in_ok-fill.ensures.count))))) c.in_ok-key.was));
      owns = c.fill.ensures.plays.owns;
    }

pub returns-in_err-subscript-clause-plays : goal.returns-in_err-subscript-clause-plays
returns-in_err-subscript-clause-plays g c =
    let e = err_from_is_err_and c.from_residual.result c.from_residual.ensures.1 in
    rw (e.1, e.2) (record {
      plays =
          λ m is. rw c.in-Some.ensures (stop _ (λ k. refl) (quietly (at_once _ _ _) (λ k hid d a. refl))
          (c.value.ensures.plays m is) c.in_err-subscript.was);
      owns = c.value.ensures.owns;
    })

pub returns-in_err-found-clause-plays : goal.returns-in_err-found-clause-plays
returns-in_err-found-clause-plays g c =
    let e = err_from_is_err_and c.from_residual-in_err-found.result c.from_residual-in_err-found.ensures.1 in
    rw (e.1, e.2) (record {
      plays =
          λ m is. rw c.in-Some.ensures (stop _ (λ k. refl) (part _ (quietly (at_once _ _ _) (λ k hid d a. refl))
          (c.value.ensures.plays m is) c.in_ok-subscript.was)
          (acted (c.one_key.ensures m (c.value.new.run.store, c.value.new.run.streams)
          (variable_of (names_in m) c.args.array) (view (names_in m) c.in-Some.one.now))) c.in_err-found.was);
      owns =
          c.value.ensures.owns;
    })

pub returns-in-Some-clause-plays : goal.returns-in-Some-clause-plays
returns-in-Some-clause-plays g c =
    record {
      plays = λ m is. rw c.in-Some.ensures
          (done (part _ (part _ (quietly (at_once _ _ _) (λ k hid d a. refl)) (c.value.ensures.plays m is)
          c.in_ok-subscript.was) (acted (c.one_key.ensures m (c.value.new.run.store, c.value.new.run.streams)
          (variable_of (names_in m) c.args.array) (view (names_in m) c.in-Some.one.now))) c.in_ok-found.was));
      owns =
          c.value.ensures.owns;
    }
