use Rattle.awk_streams.proofs.Chain.{at_once, done, part, passes, stop}
use Rattle.awk_builtins.specs.Outputs.{to_standard}
use Rattle.awk_machine.specs.Pieces.{At, Doing}
use Rattle.awk_program.specs.View.{view, view_redirection}
use Rattle.awk_store.proofs.Acting.{acted, done as there}
use Rattle.awk_store.proofs.Lifting.{lifted}
use Rattle.awk_store.specs.Wholes.{names_in}
use Rattle.box_world.specs.Events.{Standard}
use Rattle.std.proofs.Common.{[], map, refl}
use Rattle.std.proofs.lemmas.Result.{err_from_is_err_and}
use Rattle.std.specs.Prelude.{None, Some, option_map}
use Rattle.awk_eval.proofs.output.print.Goals as goal
use Rattle.awk_program.specs.Program as p

pub returns-in_err-split_for_items : goal.returns-in_err-split_for_items
returns-in_err-split_for_items g c =
    let e = err_from_is_err_and c.from_residual.result c.from_residual.ensures.1 in
    rw (e.1, e.2) (record {
      plays = λ m is. stop _ (λ k. refl) (at_once _ _ _)
          (acted (c.split_for_items.ensures m c.args.run.now.streams
          (At (Doing (p.print c.args.place (map (view (names_in m)) c.args.xs.now)
          (option_map (view_redirection (names_in m)) c.args.to.now))) []))) c.in_err-split_for_items.was;
      owns =
          c.requires.owns;
    })

pub returns-in_err-room : goal.returns-in_err-room
returns-in_err-room g c =
    let e = err_from_is_err_and c.from_residual-in_err-room.result c.from_residual-in_err-room.ensures.1 in
    rw (e.1, e.2, c.in_default.is)
    (record {
      plays = λ m is. stop _ (λ k. refl)
          (part c.in-Some-known.text
          (part _ (at_once _ _ _)
          (acted (c.split_for_items.ensures m c.args.run.now.streams
          (At (Doing (p.print c.args.place (map (view (names_in m)) c.args.xs.now) None)) [])))
          c.in_ok-split_for_items.was) (acted (there {on = to_standard c.args.place} {x = c.in-Some-known.text}
          (c.in-Some-known.ensures m c.args.run.now.streams c.args.place))) refl) (lifted m c.split_for_items.new.store
          (λ s. c.put.ensures.task m s c.args.run.now.streams (Standard 1) refl)) c.in_err-room.was;
      owns =
          rw c.put.ensures.numbers c.requires.owns;
    })

pub returns-in-Some-known : goal.returns-in-Some-known
returns-in-Some-known g c =
    rw c.in_default.is (record {
      plays =
          λ m is. done (part _ (part c.in-Some-known.text
          (part _ (at_once _ _ _)
          (acted (c.split_for_items.ensures m c.args.run.now.streams
          (At (Doing (p.print c.args.place (map (view (names_in m)) c.args.xs.now) None)) [])))
          c.in_ok-split_for_items.was) (acted (there {on = to_standard c.args.place} {x = c.in-Some-known.text}
          (c.in-Some-known.ensures m c.args.run.now.streams c.args.place))) refl) (lifted m c.split_for_items.new.store
          (λ s. c.put.ensures.task m s c.args.run.now.streams (Standard 1) refl)) c.in_ok-room.was);
      owns =
          rw c.put.ensures.numbers c.requires.owns;
    })

pub returns-in-Some : goal.returns-in-Some
returns-in-Some g c =
    rw c.in-Some.is (record {
      plays =
          λ m is. passes (part _ (at_once _ _ _)
          (acted (c.split_for_items.ensures m c.args.run.now.streams
          (At (Doing (p.print c.args.place (map (view (names_in m)) c.args.xs.now)
          (Some (view_redirection (names_in m) c.in-Some.to)))) []))) c.in_ok-split_for_items.was)
          (c.redirect.ensures.plays m is);
      owns = c.redirect.ensures.owns;
    })

pub returns : goal.returns
returns g c =
    rw c.in_default.is (record {
      plays =
          λ m is. passes (part _ (at_once _ _ _)
          (acted (c.split_for_items.ensures m c.args.run.now.streams
          (At (Doing (p.print c.args.place (map (view (names_in m)) c.args.xs.now) None)) [])))
          c.in_ok-split_for_items.was) (c.general_print.ensures.plays m is);
      owns = c.general_print.ensures.owns;
    })
