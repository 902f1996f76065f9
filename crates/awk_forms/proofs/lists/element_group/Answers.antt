use Rattle.awk_forms.proofs.Turns.{count_listed, filled_from, waits_listed}
use Rattle.awk_streams.proofs.Chain.{at_once, part, passes, stop}
use Rattle.awk_machine.specs.Forms.{keyed}
use Rattle.awk_machine.specs.Pieces.{At, Goes, Members_of, Value_of}
use Rattle.awk_program.specs.Program.{expressions_of}
use Rattle.awk_program.specs.View.{variable_of, view}
use Rattle.awk_store.proofs.Acting.{acted}
use Rattle.awk_store.specs.Wholes.{names_in}
use Rattle.std.proofs.Common.{[], map, refl, ◌∷◌}
use Rattle.std.proofs.lemmas.Result.{err_from_is_err_and}
use Rattle.awk_forms.proofs.lists.element_group.Goals as goal
use Rattle.awk_program.specs.Program as p
use Rattle.awk_text.specs.declared.value.Value.TheVariants as v

pub returns-in_err-fill : goal.returns-in_err-fill
returns-in_err-fill g c =
    let e = err_from_is_err_and c.from_residual.result c.from_residual.ensures.1 in rw (e.1, e.2) (record {
      plays = λ m is.
          (stop _ (λ k. refl) (at_once _ _ _) (filled_from _ _ c.new-values.ensures.items c.fill.ensures.plays m is
          (Value_of (p.group c.args.place (expressions_of (map (view (names_in m)) c.args.xs.now))
          (map (variable_of (names_in m)) c.args.arrays.now)))
          (waits_listed m (Value_of (p.group c.args.place (expressions_of (map (view (names_in m)) c.args.xs.now))
          (map (variable_of (names_in m)) c.args.arrays.now))) (map (view (names_in m)) c.args.xs.now)
          (λ vs. keyed c.args.place vs
          (λ key k s. Goes (At (Members_of (map (variable_of (names_in m)) c.args.arrays.now)) (v.Text key ∷ []) ∷
          k) s)) (λ vs k s. refl) (λ vs k. refl))) c.in_err-fill.was);
      owns = c.fill.ensures.plays.owns;
    })

pub returns-in_err-key : goal.returns-in_err-key
returns-in_err-key g c =
    let e = err_from_is_err_and c.from_residual-in_err-key.result c.from_residual-in_err-key.ensures.1 in
    rw (e.1, e.2) (record {
      plays = λ m is.
          (stop _ (λ k. refl) (part _ (at_once _ _ _) (filled_from _ _ c.new-values.ensures.items c.fill.ensures.plays m
          is (Value_of (p.group c.args.place (expressions_of (map (view (names_in m)) c.args.xs.now))
          (map (variable_of (names_in m)) c.args.arrays.now)))
          (waits_listed m (Value_of (p.group c.args.place (expressions_of (map (view (names_in m)) c.args.xs.now))
          (map (variable_of (names_in m)) c.args.arrays.now))) (map (view (names_in m)) c.args.xs.now)
          (λ vs. keyed c.args.place vs
          (λ key k s. Goes (At (Members_of (map (variable_of (names_in m)) c.args.arrays.now)) (v.Text key ∷ []) ∷
          k) s)) (λ vs k s. refl) (λ vs k. refl))) c.in_ok-fill.was)
          (acted (rw c.as_slice.ensures.value at (c.group_key.ensures m c.fill.new.run.streams
          (expressions_of (map (view (names_in m)) c.args.xs.now))
          (map (variable_of (names_in m)) c.args.arrays.now)
          (rw c.as_slice.ensures.value (count_listed (view (names_in m)) c.args.xs.now _ _
          c.new-values.ensures.items c.in_ok-fill.ensures.count))))) c.in_err-key.was);
      owns = c.fill.ensures.plays.owns;
    })

pub returns : goal.returns
returns g c =
    record {
      plays = λ m is.
          passes (part _ (part _ (at_once _ _ _) (filled_from _ _ c.new-values.ensures.items c.fill.ensures.plays m is
          (Value_of (p.group c.args.place (expressions_of (map (view (names_in m)) c.args.xs.now))
          (map (variable_of (names_in m)) c.args.arrays.now)))
          (waits_listed m (Value_of (p.group c.args.place (expressions_of (map (view (names_in m)) c.args.xs.now))
          (map (variable_of (names_in m)) c.args.arrays.now))) (map (view (names_in m)) c.args.xs.now)
          (λ vs. keyed c.args.place vs
          (λ key k s. Goes (At (Members_of (map (variable_of (names_in m)) c.args.arrays.now)) (v.Text key ∷ []) ∷
          k) s)) (λ vs k s. refl) (λ vs k. refl))) c.in_ok-fill.was)
          (acted (rw c.as_slice.ensures.value at (c.group_key.ensures m c.fill.new.run.streams
          (expressions_of (map (view (names_in m)) c.args.xs.now))
          (map (variable_of (names_in m)) c.args.arrays.now)
          (rw c.as_slice.ensures.value (count_listed (view (names_in m)) c.args.xs.now _ _
          c.new-values.ensures.items c.in_ok-fill.ensures.count))))) c.in_ok-key.was)
          (acted (c.members.ensures m c.fill.new.run.streams));
      owns = c.fill.ensures.plays.owns;
    }
