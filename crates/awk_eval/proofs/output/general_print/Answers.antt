use Rattle.awk_eval.proofs.Printing.{count_items, waits_printed}
use Rattle.awk_forms.proofs.Turns.{filled_from}
use Rattle.awk_streams.proofs.Chain.{at_once, done, part, stop}
use Rattle.awk_machine.specs.Forms.{value}
use Rattle.awk_machine.specs.Pieces.{Doing}
use Rattle.awk_program.specs.View.{view}
use Rattle.awk_store.proofs.Acting.{acted}
use Rattle.awk_store.proofs.Lifting.{lifted}
use Rattle.awk_store.specs.Wholes.{names_in}
use Rattle.box_world.specs.Events.{Standard}
use Rattle.std.proofs.Common.{map, refl}
use Rattle.std.proofs.lemmas.Result.{err_from_is_err_and}
use Rattle.std.specs.Prelude.{None}
use Rattle.awk_eval.proofs.output.general_print.Goals as goal
use Rattle.awk_program.specs.Program as p

pub returns-in_err-fill : goal.returns-in_err-fill
returns-in_err-fill g c =
    let e = err_from_is_err_and c.from_residual.result c.from_residual.ensures.1 in
    rw (e.1, e.2) (record {
      plays = λ m is. stop _ (λ k. refl) (at_once _ _ _)
          (filled_from _ _ c.new-values.ensures.items c.fill.ensures.plays m is
          (Doing (p.print c.args.place (map (view (names_in m)) c.args.xs.now) None))
          (waits_printed m c.args.place (map (view (names_in m)) c.args.xs.now) None)) c.in_err-fill.was;
      owns =
          c.fill.ensures.plays.owns;
    })

pub returns-in_err-text : goal.returns-in_err-text
returns-in_err-text g c =
    let e = err_from_is_err_and c.from_residual-in_err-text.result c.from_residual-in_err-text.ensures.1 in
    rw (e.1, e.2) (record {
      plays =
          λ m is. stop _ (λ k. refl)
          (part _ (at_once _ _ _) (filled_from _ _ c.new-values.ensures.items c.fill.ensures.plays m is
          (Doing (p.print c.args.place (map (view (names_in m)) c.args.xs.now) None))
          (waits_printed m c.args.place (map (view (names_in m)) c.args.xs.now) None)) c.in_ok-fill.was)
          (acted (rw c.as_slice.ensures.value at (c.printed_line.ensures m c.fill.new.run.streams
          (map (view (names_in m)) c.args.xs.now)
          (rw c.as_slice.ensures.value (count_items (view (names_in m)) c.args.xs.now _ _ c.new-values.ensures.items
          c.in_ok-fill.ensures.count))))) c.in_err-text.was;
      owns = c.fill.ensures.plays.owns;
    })

pub returns-in_err-room : goal.returns-in_err-room
returns-in_err-room g c =
    let e = err_from_is_err_and c.from_residual-in_err-room.result c.from_residual-in_err-room.ensures.1 in
    rw (e.1, e.2) (record {
      plays =
          λ m is. stop _ (λ k. refl)
          (part _ (part _ (at_once _ _ _) (filled_from _ _ c.new-values.ensures.items c.fill.ensures.plays m is
          (Doing (p.print c.args.place (map (view (names_in m)) c.args.xs.now) None))
          (waits_printed m c.args.place (map (view (names_in m)) c.args.xs.now) None)) c.in_ok-fill.was)
          (acted (rw c.as_slice.ensures.value at (c.printed_line.ensures m c.fill.new.run.streams
          (map (view (names_in m)) c.args.xs.now)
          (rw c.as_slice.ensures.value (count_items (view (names_in m)) c.args.xs.now _ _ c.new-values.ensures.items
          c.in_ok-fill.ensures.count))))) c.in_ok-text.was)
          (lifted m c.printed_line.new.store (λ s. c.put.ensures.task m s c.fill.new.run.streams (Standard 1) refl))
          c.in_err-room.was;
      owns = rw c.put.ensures.numbers c.fill.ensures.plays.owns;
    })

pub returns : goal.returns
returns g c =
    record {
      plays = λ m is. done
          (part _ (part _ (part _ (at_once _ _ _) (filled_from _ _ c.new-values.ensures.items c.fill.ensures.plays m is
          (Doing (p.print c.args.place (map (view (names_in m)) c.args.xs.now) None))
          (waits_printed m c.args.place (map (view (names_in m)) c.args.xs.now) None)) c.in_ok-fill.was)
          (acted (rw c.as_slice.ensures.value at (c.printed_line.ensures m c.fill.new.run.streams
          (map (view (names_in m)) c.args.xs.now)
          (rw c.as_slice.ensures.value (count_items (view (names_in m)) c.args.xs.now _ _ c.new-values.ensures.items
          c.in_ok-fill.ensures.count))))) c.in_ok-text.was)
          (lifted m c.printed_line.new.store (λ s. c.put.ensures.task m s c.fill.new.run.streams (Standard 1) refl))
          c.in_ok-room.was);
      owns = rw c.put.ensures.numbers c.fill.ensures.plays.owns;
    }
