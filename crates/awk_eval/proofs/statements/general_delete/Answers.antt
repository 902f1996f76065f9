use Rattle.awk_eval.proofs.Printing.{count_items, waits_deleted}
use Rattle.awk_forms.proofs.Turns.{filled_from}
use Rattle.awk_streams.proofs.Chain.{at_once, done, part, stop}
use Rattle.awk_machine.specs.Forms.{value}
use Rattle.awk_machine.specs.Pieces.{Doing}
use Rattle.awk_program.specs.View.{variable_of, view}
use Rattle.awk_store.proofs.Acting.{acted}
use Rattle.awk_store.specs.Wholes.{names_in}
use Rattle.std.proofs.Common.{map, refl}
use Rattle.std.proofs.lemmas.Result.{err_from_is_err_and}
use Rattle.awk_eval.proofs.statements.general_delete.Goals as goal
use Rattle.awk_program.specs.Program as p

pub returns-in_err-fill : goal.returns-in_err-fill
returns-in_err-fill g c =
    let e = err_from_is_err_and c.from_residual.result c.from_residual.ensures.1 in
    rw (e.1, e.2) (record {
      plays = λ m is. stop _ (λ k. refl) (at_once _ _ _)
          (filled_from _ _ c.new-values.ensures.items c.fill.ensures.plays m is
          (Doing (p.delete c.args.place (variable_of (names_in m) c.args.array)
          (map (view (names_in m)) c.args.keys.now)))
          (waits_deleted m c.args.place (variable_of (names_in m) c.args.array)
          (map (view (names_in m)) c.args.keys.now))) c.in_err-fill.was;
      owns = c.fill.ensures.plays.owns;
    })

pub returns-in_err-remove : goal.returns-in_err-remove
returns-in_err-remove g c =
    let e = err_from_is_err_and c.from_residual-in_err-remove.result c.from_residual-in_err-remove.ensures.1 in
    rw (e.1, e.2) (record {
      plays =
          λ m is. stop _ (λ k. refl)
          (part _ (at_once _ _ _) (filled_from _ _ c.new-values.ensures.items c.fill.ensures.plays m is
          (Doing (p.delete c.args.place (variable_of (names_in m) c.args.array)
          (map (view (names_in m)) c.args.keys.now)))
          (waits_deleted m c.args.place (variable_of (names_in m) c.args.array)
          (map (view (names_in m)) c.args.keys.now))) c.in_ok-fill.was)
          (acted (rw c.as_slice.ensures.value at (c.remove.ensures m c.fill.new.run.streams
          (map (view (names_in m)) c.args.keys.now)
          (rw c.as_slice.ensures.value (count_items (view (names_in m)) c.args.keys.now _ _ c.new-values.ensures.items
          c.in_ok-fill.ensures.count))))) c.in_err-remove.was;
      owns = c.fill.ensures.plays.owns;
    })

pub returns : goal.returns
returns g c =
    record {
      plays = λ m is. done
          (part _ (part _ (at_once _ _ _) (filled_from _ _ c.new-values.ensures.items c.fill.ensures.plays m is
          (Doing (p.delete c.args.place (variable_of (names_in m) c.args.array)
          (map (view (names_in m)) c.args.keys.now)))
          (waits_deleted m c.args.place (variable_of (names_in m) c.args.array)
          (map (view (names_in m)) c.args.keys.now))) c.in_ok-fill.was)
          (acted (rw c.as_slice.ensures.value at (c.remove.ensures m c.fill.new.run.streams
          (map (view (names_in m)) c.args.keys.now)
          (rw c.as_slice.ensures.value (count_items (view (names_in m)) c.args.keys.now _ _ c.new-values.ensures.items
          c.in_ok-fill.ensures.count))))) c.in_ok-remove.was);
      owns = c.fill.ensures.plays.owns;
    }
