use Rattle.awk_forms.proofs.Leading.{quietly}
use Rattle.awk_eval.proofs.Printing.{count_items, halts, print_target, streamed, waits_printed}
use Rattle.awk_forms.proofs.Turns.{filled_from}
use Rattle.awk_streams.proofs.Chain.{at_once, done, part, stop, turned}
use Rattle.awk_text.specs.Lents.{lent_value}
use Rattle.awk_text.specs.Values.{text_of}
use Rattle.awk_machine.specs.Forms.{value}
use Rattle.awk_machine.specs.Pieces.{At, Doing}
use Rattle.awk_program.specs.View.{view, view_redirection}
use Rattle.awk_store.proofs.Acting.{acted}
use Rattle.awk_store.specs.Wholes.{names_in}
use Rattle.std.proofs.Common.{[], ap, map, refl, sym}
use Rattle.std.proofs.lemmas.Result.{err_from_is_err_and}
use Rattle.std.specs.Prelude.{Some}
use Rattle.awk_eval.proofs.output.general_redirect.Goals as goal
use Rattle.awk_program.specs.Program as p

pub returns-in_err-fill : goal.returns-in_err-fill
returns-in_err-fill g c =
    let e = err_from_is_err_and c.from_residual.result c.from_residual.ensures.1 in
    rw (e.1, e.2) (record {
      plays = λ m is. stop _ (λ k. refl) (at_once _ _ _)
          (filled_from _ _ c.new-values.ensures.items c.fill.ensures.plays m is
          (Doing (p.print c.args.place (map (view (names_in m)) c.args.xs.now)
          (Some (view_redirection (names_in m) c.args.to.now))))
          (waits_printed m c.args.place (map (view (names_in m)) c.args.xs.now)
          (Some (view_redirection (names_in m) c.args.to.now)))) c.in_err-fill.was;
      owns = c.fill.ensures.plays.owns;
    })

pub returns-in_err-target : goal.returns-in_err-target
returns-in_err-target g c =
    let e = err_from_is_err_and c.from_residual-in_err-target.result c.from_residual-in_err-target.ensures.1 in
    rw (e.1, e.2) (record {
      plays =
          λ m is. stop _ (λ k. refl)
          (quietly (part _ (at_once _ _ _) (filled_from _ _ c.new-values.ensures.items c.fill.ensures.plays m is
          (Doing (p.print c.args.place (map (view (names_in m)) c.args.xs.now)
          (Some (view_redirection (names_in m) c.args.to.now))))
          (waits_printed m c.args.place (map (view (names_in m)) c.args.xs.now)
          (Some (view_redirection (names_in m) c.args.to.now)))) c.in_ok-fill.was)
          (λ k hid d a. print_target m c.args.place (map (view (names_in m)) c.args.xs.now)
          (view_redirection (names_in m) c.args.to.now) _ (count_items (view (names_in m)) c.args.xs.now _ _
          c.new-values.ensures.items c.in_ok-fill.ensures.count) k _)) (c.value.ensures.plays m is) c.in_err-target.was;
      owns = c.value.ensures.owns;
    })

pub returns-in_err-text : goal.returns-in_err-text
returns-in_err-text g c =
    let e = err_from_is_err_and c.from_residual-in_err-text.result c.from_residual-in_err-text.ensures.1 in
    rw (e.1, e.2) (record {
      plays =
          λ m is. stop _ (λ k. refl)
          (part _ (quietly (part _ (at_once _ _ _) (filled_from _ _ c.new-values.ensures.items c.fill.ensures.plays m is
          (Doing (p.print c.args.place (map (view (names_in m)) c.args.xs.now)
          (Some (view_redirection (names_in m) c.args.to.now))))
          (waits_printed m c.args.place (map (view (names_in m)) c.args.xs.now)
          (Some (view_redirection (names_in m) c.args.to.now)))) c.in_ok-fill.was)
          (λ k hid d a. print_target m c.args.place (map (view (names_in m)) c.args.xs.now)
          (view_redirection (names_in m) c.args.to.now) _ (count_items (view (names_in m)) c.args.xs.now _ _
          c.new-values.ensures.items c.in_ok-fill.ensures.count) k _)) (c.value.ensures.plays m is) c.in_ok-target.was)
          (acted (rw c.as_slice.ensures.value at (c.printed_for.ensures m c.value.new.run.streams
          (map (view (names_in m)) c.args.xs.now) (view_redirection (names_in m) c.args.to.now)
          (rw c.as_slice.ensures.value (count_items (view (names_in m)) c.args.xs.now _ _ c.new-values.ensures.items
          c.in_ok-fill.ensures.count))))) c.in_err-text.was;
      owns = c.value.ensures.owns;
    })

pub returns-in_err-room : goal.returns-in_err-room
returns-in_err-room g c =
    let e = err_from_is_err_and c.from_residual-in_err-room.result c.from_residual-in_err-room.ensures.1 in
    rw (e.1, e.2) (record {
      plays =
          λ m is. halts _ (rw c.in_err-room.was at (c.put_to.ensures.task m c.printed_for.new.store
          (At (Doing (p.print c.args.place (map (view (names_in m)) c.args.xs.now)
          (Some (view_redirection (names_in m) c.args.to.now)))) []) (c.args.run.now.store, c.args.run.now.streams)
          c.args.world.now (turned {then_ = streamed (view_redirection (names_in m) c.args.to.now)
          (text_of (lent_value c.of.result)) c.in_ok-text.text}
          (part _ (part _ (quietly
          (part _ (at_once _ _ _) (filled_from _ _ c.new-values.ensures.items c.fill.ensures.plays m is
          (Doing (p.print c.args.place (map (view (names_in m)) c.args.xs.now)
          (Some (view_redirection (names_in m) c.args.to.now))))
          (waits_printed m c.args.place (map (view (names_in m)) c.args.xs.now)
          (Some (view_redirection (names_in m) c.args.to.now)))) c.in_ok-fill.was)
          (λ k hid d a. print_target m c.args.place (map (view (names_in m)) c.args.xs.now)
          (view_redirection (names_in m) c.args.to.now) _ (count_items (view (names_in m)) c.args.xs.now _ _
          c.new-values.ensures.items c.in_ok-fill.ensures.count) k _)) (c.value.ensures.plays m is) c.in_ok-target.was)
          (acted (rw c.as_slice.ensures.value at (c.printed_for.ensures m c.value.new.run.streams
          (map (view (names_in m)) c.args.xs.now) (view_redirection (names_in m) c.args.to.now)
          (rw c.as_slice.ensures.value (count_items (view (names_in m)) c.args.xs.now _ _ c.new-values.ensures.items
          c.in_ok-fill.ensures.count))))) c.in_ok-text.was)
          (λ k. ap (λ n. streamed (view_redirection (names_in m) c.args.to.now) n c.in_ok-text.text k)
          (ap text_of (sym c.of.ensures))))));
      owns = c.put_to.ensures.owns;
    })

pub returns : goal.returns
returns g c =
    record {
      plays = λ m is. done (rw c.in_ok-room.was at (c.put_to.ensures.task m c.printed_for.new.store
          (At (Doing (p.print c.args.place (map (view (names_in m)) c.args.xs.now)
          (Some (view_redirection (names_in m) c.args.to.now)))) []) (c.args.run.now.store, c.args.run.now.streams)
          c.args.world.now (turned {then_ = streamed (view_redirection (names_in m) c.args.to.now)
          (text_of (lent_value c.of.result)) c.in_ok-text.text}
          (part _ (part _ (quietly
          (part _ (at_once _ _ _) (filled_from _ _ c.new-values.ensures.items c.fill.ensures.plays m is
          (Doing (p.print c.args.place (map (view (names_in m)) c.args.xs.now)
          (Some (view_redirection (names_in m) c.args.to.now))))
          (waits_printed m c.args.place (map (view (names_in m)) c.args.xs.now)
          (Some (view_redirection (names_in m) c.args.to.now)))) c.in_ok-fill.was)
          (λ k hid d a. print_target m c.args.place (map (view (names_in m)) c.args.xs.now)
          (view_redirection (names_in m) c.args.to.now) _ (count_items (view (names_in m)) c.args.xs.now _ _
          c.new-values.ensures.items c.in_ok-fill.ensures.count) k _)) (c.value.ensures.plays m is) c.in_ok-target.was)
          (acted (rw c.as_slice.ensures.value at (c.printed_for.ensures m c.value.new.run.streams
          (map (view (names_in m)) c.args.xs.now) (view_redirection (names_in m) c.args.to.now)
          (rw c.as_slice.ensures.value (count_items (view (names_in m)) c.args.xs.now _ _ c.new-values.ensures.items
          c.in_ok-fill.ensures.count))))) c.in_ok-text.was)
          (λ k. ap (λ n. streamed (view_redirection (names_in m) c.args.to.now) n c.in_ok-text.text k)
          (ap text_of (sym c.of.ensures))))));
      owns = c.put_to.ensures.owns;
    }
