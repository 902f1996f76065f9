use Rattle.awk_forms.proofs.Leading.{quietly}
use Rattle.awk_eval.proofs.Printing.{count_formatted, halts, printf_target, streamed, waits_formatted}
use Rattle.awk_forms.proofs.Turns.{filled_from}
use Rattle.awk_streams.proofs.Chain.{at_once, done, lacking, part, stop, turned}
use Rattle.awk_text.specs.Lents.{lent_value}
use Rattle.awk_text.specs.Values.{text_of}
use Rattle.awk_machine.specs.Forms.{value}
use Rattle.awk_machine.specs.Pieces.{At, Doing}
use Rattle.awk_program.specs.View.{view, view_redirection}
use Rattle.awk_store.proofs.Acting.{acted}
use Rattle.awk_store.proofs.Lifting.{lifted}
use Rattle.awk_store.specs.Wholes.{names_in}
use Rattle.box_world.specs.Events.{Standard}
use Rattle.std.proofs.Common.{[], ap, map, refl, sym, ◌++◌, ◌+◌, ◌∙◌, ◌∷◌}
use Rattle.std.proofs.lemmas.Result.{err_from_is_err_and}
use Rattle.std.specs.Prelude.{None, Some, option_map}
use Rattle.awk_eval.proofs.output.printf.Goals as goal
use Rattle.awk_program.specs.Program as p

pub returns-in_err-format : goal.returns-in_err-format
returns-in_err-format g c =
    let e = err_from_is_err_and c.from_residual.result c.from_residual.ensures.1 in
    rw (e.1, e.2) (record {
      plays = λ m is. stop _ (λ k. refl) (quietly (at_once _ _ _) (λ k hid d a. refl))
          (c.value.ensures.plays m is) c.in_err-format.was;
      owns = c.value.ensures.owns;
    })

pub returns-in_err-append : goal.returns-in_err-append
returns-in_err-append g c =
    let e = err_from_is_err_and c.from_residual-in_err-append.result c.from_residual-in_err-append.ensures.1 in
    rw (e.1, e.2, c.in_err-append.ensures.err)
    (record {
      plays = λ m is. lacking (part _ (quietly (at_once _ _ _) (λ k hid d a. refl))
          (c.value.ensures.plays m is) c.in_ok-format.was);
      owns = c.value.ensures.owns;
    })

pub returns-in_err-fill : goal.returns-in_err-fill
returns-in_err-fill g c =
    let e = err_from_is_err_and c.from_residual-in_err-fill.result c.from_residual-in_err-fill.ensures.1 in
    rw (e.1, e.2) (record {
      plays = λ m is. stop _ (λ k. refl) (part _ (quietly (at_once _ _ _) (λ k hid d a. refl))
          (c.value.ensures.plays m is) c.in_ok-format.was) (filled_from _ (c.in_ok-format.format ∷ [])
          (c.in_ok-append.ensures.ok ∙ ap (λ vs. vs ++ c.in_ok-format.format ∷ []) c.new-values.ensures.items)
          c.fill.ensures.plays m is
          (Doing (p.printf c.args.place (view (names_in m) c.args.x.now) (map (view (names_in m)) c.args.xs.now)
          (option_map (view_redirection (names_in m)) c.args.to.now)))
          (waits_formatted m c.args.place (view (names_in m) c.args.x.now) (map (view (names_in m)) c.args.xs.now)
          (option_map (view_redirection (names_in m)) c.args.to.now))) c.in_err-fill.was;
      owns =
          c.fill.ensures.plays.owns;
    })

pub returns-in_err-text : goal.returns-in_err-text
returns-in_err-text g c =
    let e = err_from_is_err_and c.from_residual-in_err-text.result c.from_residual-in_err-text.ensures.1 in
    rw (e.1, e.2, c.in_default.is)
    (record {
      plays = λ m is. stop _ (λ k. refl)
          (part _ (part _ (quietly (at_once _ _ _) (λ k hid d a. refl)) (c.value.ensures.plays m is) c.in_ok-format.was)
          (filled_from _ (c.in_ok-format.format ∷ []) (c.in_ok-append.ensures.ok
          ∙ ap (λ vs. vs ++ c.in_ok-format.format ∷ []) c.new-values.ensures.items) c.fill.ensures.plays m is
          (Doing (p.printf c.args.place (view (names_in m) c.args.x.now) (map (view (names_in m)) c.args.xs.now) None))
          (waits_formatted m c.args.place (view (names_in m) c.args.x.now) (map (view (names_in m)) c.args.xs.now)
          None))
          c.in_ok-fill.was) (acted (rw c.as_slice.ensures.value at (c.formatted_line.ensures m c.fill.new.run.streams
          (view (names_in m) c.args.x.now) (map (view (names_in m)) c.args.xs.now)
          (rw c.as_slice.ensures.value (count_formatted (view (names_in m)) (view (names_in m) c.args.x.now)
          c.args.xs.now
          _ _ _ (c.in_ok-append.ensures.ok ∙ ap (λ vs. vs ++ c.in_ok-format.format ∷ []) c.new-values.ensures.items)
          c.in_ok-fill.ensures.count))))) c.in_err-text.was;
      owns = c.fill.ensures.plays.owns;
    })

pub returns-in_err-put : goal.returns-in_err-put
returns-in_err-put g c =
    let e = err_from_is_err_and c.from_residual-in_err-put.result c.from_residual-in_err-put.ensures.1 in
    rw (e.1, e.2, c.in_default.is)
    (record {
      plays = λ m is. stop _ (λ k. refl)
          (part _ (part _ (part _ (quietly (at_once _ _ _) (λ k hid d a. refl)) (c.value.ensures.plays m is)
          c.in_ok-format.was) (filled_from _ (c.in_ok-format.format ∷ []) (c.in_ok-append.ensures.ok
          ∙ ap (λ vs. vs ++ c.in_ok-format.format ∷ []) c.new-values.ensures.items) c.fill.ensures.plays m is
          (Doing (p.printf c.args.place (view (names_in m) c.args.x.now) (map (view (names_in m)) c.args.xs.now) None))
          (waits_formatted m c.args.place (view (names_in m) c.args.x.now) (map (view (names_in m)) c.args.xs.now)
          None))
          c.in_ok-fill.was) (acted (rw c.as_slice.ensures.value at (c.formatted_line.ensures m c.fill.new.run.streams
          (view (names_in m) c.args.x.now) (map (view (names_in m)) c.args.xs.now)
          (rw c.as_slice.ensures.value (count_formatted (view (names_in m)) (view (names_in m) c.args.x.now)
          c.args.xs.now
          _ _ _ (c.in_ok-append.ensures.ok ∙ ap (λ vs. vs ++ c.in_ok-format.format ∷ []) c.new-values.ensures.items)
          c.in_ok-fill.ensures.count))))) c.in_ok-text.was)
          (lifted m c.fill.new.run.store (λ s. c.put.ensures.task m s c.fill.new.run.streams (Standard 1) refl))
          c.in_err-put.was;
      owns = rw c.put.ensures.numbers c.fill.ensures.plays.owns;
    })

pub returns-in_default : goal.returns-in_default
returns-in_default g c =
    rw c.in_default.is (record {
      plays =
          λ m is. done (part _ (part _
          (part _ (part _ (quietly (at_once _ _ _) (λ k hid d a. refl)) (c.value.ensures.plays m is) c.in_ok-format.was)
          (filled_from _ (c.in_ok-format.format ∷ []) (c.in_ok-append.ensures.ok
          ∙ ap (λ vs. vs ++ c.in_ok-format.format ∷ []) c.new-values.ensures.items) c.fill.ensures.plays m is
          (Doing (p.printf c.args.place (view (names_in m) c.args.x.now) (map (view (names_in m)) c.args.xs.now) None))
          (waits_formatted m c.args.place (view (names_in m) c.args.x.now) (map (view (names_in m)) c.args.xs.now)
          None))
          c.in_ok-fill.was) (acted (rw c.as_slice.ensures.value at (c.formatted_line.ensures m c.fill.new.run.streams
          (view (names_in m) c.args.x.now) (map (view (names_in m)) c.args.xs.now)
          (rw c.as_slice.ensures.value (count_formatted (view (names_in m)) (view (names_in m) c.args.x.now)
          c.args.xs.now
          _ _ _ (c.in_ok-append.ensures.ok ∙ ap (λ vs. vs ++ c.in_ok-format.format ∷ []) c.new-values.ensures.items)
          c.in_ok-fill.ensures.count))))) c.in_ok-text.was)
          (lifted m c.fill.new.run.store (λ s. c.put.ensures.task m s c.fill.new.run.streams (Standard 1) refl))
          c.in_ok-put.was);
      owns = rw c.put.ensures.numbers c.fill.ensures.plays.owns;
    })

pub returns-in_err-target : goal.returns-in_err-target
returns-in_err-target g c =
    let e = err_from_is_err_and c.from_residual-in_err-target.result c.from_residual-in_err-target.ensures.1 in
    rw (e.1, e.2, c.in-Some.is)
    (record {
      plays = λ m is. stop _ (λ k. refl)
          (quietly (part _ (part _ (quietly (at_once _ _ _) (λ k hid d a. refl)) (c.value.ensures.plays m is)
          c.in_ok-format.was) (filled_from _ (c.in_ok-format.format ∷ []) (c.in_ok-append.ensures.ok
          ∙ ap (λ vs. vs ++ c.in_ok-format.format ∷ []) c.new-values.ensures.items) c.fill.ensures.plays m is
          (Doing (p.printf c.args.place (view (names_in m) c.args.x.now) (map (view (names_in m)) c.args.xs.now)
          (Some (view_redirection (names_in m) c.in-Some.to))))
          (waits_formatted m c.args.place (view (names_in m) c.args.x.now) (map (view (names_in m)) c.args.xs.now)
          (Some (view_redirection (names_in m) c.in-Some.to)))) c.in_ok-fill.was)
          (λ k hid d a. printf_target m c.args.place (view (names_in m) c.args.x.now)
          (map (view (names_in m)) c.args.xs.now) (view_redirection (names_in m) c.in-Some.to) _
          (count_formatted (view (names_in m)) (view (names_in m) c.args.x.now) c.args.xs.now _ _ _
          (c.in_ok-append.ensures.ok ∙ ap (λ vs. vs ++ c.in_ok-format.format ∷ []) c.new-values.ensures.items)
          c.in_ok-fill.ensures.count) k _)) (c.value-2.ensures.plays m is) c.in_err-target.was;
      owns =
          c.value-2.ensures.owns;
    })

pub returns-in_err-text-2 : goal.returns-in_err-text-2
returns-in_err-text-2 g c =
    let e = err_from_is_err_and c.from_residual-in_err-text-2.result c.from_residual-in_err-text-2.ensures.1 in
    rw (e.1, e.2, c.in-Some.is)
    (record {
      plays = λ m is. stop _ (λ k. refl)
          (part _ (quietly (part _ (part _ (quietly (at_once _ _ _) (λ k hid d a. refl)) (c.value.ensures.plays m is)
          c.in_ok-format.was) (filled_from _ (c.in_ok-format.format ∷ []) (c.in_ok-append.ensures.ok
          ∙ ap (λ vs. vs ++ c.in_ok-format.format ∷ []) c.new-values.ensures.items) c.fill.ensures.plays m is
          (Doing (p.printf c.args.place (view (names_in m) c.args.x.now) (map (view (names_in m)) c.args.xs.now)
          (Some (view_redirection (names_in m) c.in-Some.to))))
          (waits_formatted m c.args.place (view (names_in m) c.args.x.now) (map (view (names_in m)) c.args.xs.now)
          (Some (view_redirection (names_in m) c.in-Some.to)))) c.in_ok-fill.was)
          (λ k hid d a. printf_target m c.args.place (view (names_in m) c.args.x.now)
          (map (view (names_in m)) c.args.xs.now) (view_redirection (names_in m) c.in-Some.to) _
          (count_formatted (view (names_in m)) (view (names_in m) c.args.x.now) c.args.xs.now _ _ _
          (c.in_ok-append.ensures.ok ∙ ap (λ vs. vs ++ c.in_ok-format.format ∷ []) c.new-values.ensures.items)
          c.in_ok-fill.ensures.count) k _)) (c.value-2.ensures.plays m is) c.in_ok-target.was)
          (acted (rw c.as_slice-2.ensures.value at (c.formatted_for.ensures m c.value-2.new.run.streams
          (view (names_in m) c.args.x.now) (map (view (names_in m)) c.args.xs.now)
          (view_redirection (names_in m) c.in-Some.to)
          (rw c.as_slice-2.ensures.value (count_formatted (view (names_in m)) (view (names_in m) c.args.x.now)
          c.args.xs.now _ _ _ (c.in_ok-append.ensures.ok ∙ ap (λ vs. vs ++ c.in_ok-format.format ∷ [])
          c.new-values.ensures.items) c.in_ok-fill.ensures.count))))) c.in_err-text-2.was;
      owns =
          c.value-2.ensures.owns;
    })

pub returns-in_err-put_to : goal.returns-in_err-put_to
returns-in_err-put_to g c =
    let e = err_from_is_err_and c.from_residual-in_err-put_to.result c.from_residual-in_err-put_to.ensures.1 in
    rw (e.1, e.2, c.in-Some.is)
    (record {
      plays = λ m is. halts _ (rw c.in_err-put_to.was at (c.put_to.ensures.task m c.value-2.new.run.store
          (At (Doing (p.printf c.args.place (view (names_in m) c.args.x.now) (map (view (names_in m)) c.args.xs.now)
          (Some (view_redirection (names_in m) c.in-Some.to)))) []) (c.args.run.now.store, c.args.run.now.streams)
          c.args.world.now (turned {then_ = streamed (view_redirection (names_in m) c.in-Some.to)
          (text_of (lent_value c.of.result)) c.in_ok-text-2.text}
          (part _ (part _ (quietly
          (part _ (part _ (quietly (at_once _ _ _) (λ k hid d a. refl)) (c.value.ensures.plays m is) c.in_ok-format.was)
          (filled_from _ (c.in_ok-format.format ∷ []) (c.in_ok-append.ensures.ok
          ∙ ap (λ vs. vs ++ c.in_ok-format.format ∷ []) c.new-values.ensures.items) c.fill.ensures.plays m is
          (Doing (p.printf c.args.place (view (names_in m) c.args.x.now) (map (view (names_in m)) c.args.xs.now)
          (Some (view_redirection (names_in m) c.in-Some.to))))
          (waits_formatted m c.args.place (view (names_in m) c.args.x.now) (map (view (names_in m)) c.args.xs.now)
          (Some (view_redirection (names_in m) c.in-Some.to)))) c.in_ok-fill.was)
          (λ k hid d a. printf_target m c.args.place (view (names_in m) c.args.x.now)
          (map (view (names_in m)) c.args.xs.now) (view_redirection (names_in m) c.in-Some.to) _
          (count_formatted (view (names_in m)) (view (names_in m) c.args.x.now) c.args.xs.now _ _ _
          (c.in_ok-append.ensures.ok ∙ ap (λ vs. vs ++ c.in_ok-format.format ∷ []) c.new-values.ensures.items)
          c.in_ok-fill.ensures.count) k _)) (c.value-2.ensures.plays m is) c.in_ok-target.was)
          (acted (rw c.as_slice-2.ensures.value at (c.formatted_for.ensures m c.value-2.new.run.streams
          (view (names_in m) c.args.x.now) (map (view (names_in m)) c.args.xs.now)
          (view_redirection (names_in m) c.in-Some.to)
          (rw c.as_slice-2.ensures.value (count_formatted (view (names_in m)) (view (names_in m) c.args.x.now)
          c.args.xs.now _ _ _ (c.in_ok-append.ensures.ok ∙ ap (λ vs. vs ++ c.in_ok-format.format ∷ [])
          c.new-values.ensures.items) c.in_ok-fill.ensures.count))))) c.in_ok-text-2.was)
          (λ k. ap (λ n. streamed (view_redirection (names_in m) c.in-Some.to) n c.in_ok-text-2.text k)
          (ap text_of (sym c.of.ensures))))));
      owns = c.put_to.ensures.owns;
    })

pub returns : goal.returns
returns g c =
    rw c.in-Some.is (record {
      plays =
          λ m is. done (rw c.in_ok-put_to.was at (c.put_to.ensures.task m c.value-2.new.run.store
          (At (Doing (p.printf c.args.place (view (names_in m) c.args.x.now) (map (view (names_in m)) c.args.xs.now)
          (Some (view_redirection (names_in m) c.in-Some.to)))) []) (c.args.run.now.store, c.args.run.now.streams)
          c.args.world.now (turned {then_ = streamed (view_redirection (names_in m) c.in-Some.to)
          (text_of (lent_value c.of.result)) c.in_ok-text-2.text}
          (part _ (part _ (quietly
          (part _ (part _ (quietly (at_once _ _ _) (λ k hid d a. refl)) (c.value.ensures.plays m is) c.in_ok-format.was)
          (filled_from _ (c.in_ok-format.format ∷ []) (c.in_ok-append.ensures.ok
          ∙ ap (λ vs. vs ++ c.in_ok-format.format ∷ []) c.new-values.ensures.items) c.fill.ensures.plays m is
          (Doing (p.printf c.args.place (view (names_in m) c.args.x.now) (map (view (names_in m)) c.args.xs.now)
          (Some (view_redirection (names_in m) c.in-Some.to))))
          (waits_formatted m c.args.place (view (names_in m) c.args.x.now) (map (view (names_in m)) c.args.xs.now)
          (Some (view_redirection (names_in m) c.in-Some.to)))) c.in_ok-fill.was)
          (λ k hid d a. printf_target m c.args.place (view (names_in m) c.args.x.now)
          (map (view (names_in m)) c.args.xs.now) (view_redirection (names_in m) c.in-Some.to) _
          (count_formatted (view (names_in m)) (view (names_in m) c.args.x.now) c.args.xs.now _ _ _
          (c.in_ok-append.ensures.ok ∙ ap (λ vs. vs ++ c.in_ok-format.format ∷ []) c.new-values.ensures.items)
          c.in_ok-fill.ensures.count) k _)) (c.value-2.ensures.plays m is) c.in_ok-target.was)
          (acted (rw c.as_slice-2.ensures.value at (c.formatted_for.ensures m c.value-2.new.run.streams
          (view (names_in m) c.args.x.now) (map (view (names_in m)) c.args.xs.now)
          (view_redirection (names_in m) c.in-Some.to)
          (rw c.as_slice-2.ensures.value (count_formatted (view (names_in m)) (view (names_in m) c.args.x.now)
          c.args.xs.now _ _ _ (c.in_ok-append.ensures.ok ∙ ap (λ vs. vs ++ c.in_ok-format.format ∷ [])
          c.new-values.ensures.items) c.in_ok-fill.ensures.count))))) c.in_ok-text-2.was)
          (λ k. ap (λ n. streamed (view_redirection (names_in m) c.in-Some.to) n c.in_ok-text-2.text k)
          (ap text_of (sym c.of.ensures))))));
      owns = c.put_to.ensures.owns;
    })
