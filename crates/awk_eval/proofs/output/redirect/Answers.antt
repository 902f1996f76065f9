use Rattle.awk_eval.proofs.Printing.{halts, streamed}
use Rattle.awk_streams.proofs.Chain.{at_once, done, part, passes, stop, turned}
use Rattle.awk_builtins.specs.Outputs.{to_stream}
use Rattle.awk_text.specs.Lents.{lent_value}
use Rattle.awk_text.specs.Values.{text_of}
use Rattle.awk_machine.specs.Pieces.{At, Doing}
use Rattle.awk_program.specs.View.{view, view_redirection}
use Rattle.awk_store.proofs.Acting.{acted, done as there}
use Rattle.awk_store.specs.Wholes.{names_in}
use Rattle.std.proofs.Common.{[], map, refl}
use Rattle.std.proofs.lemmas.Result.{err_from_is_err_and}
use Rattle.std.specs.Prelude.{Some}
use Rattle.awk_eval.proofs.output.redirect.Goals as goal
use Rattle.awk_program.specs.Program as p

pub returns-in_err-split_for : goal.returns-in_err-split_for
returns-in_err-split_for g c =
    let e = err_from_is_err_and c.from_residual.result c.from_residual.ensures.1 in
    rw (e.1, e.2) (record {
      plays = λ m is. stop _ (λ k. refl) (at_once _ _ _)
          (acted (c.split_for.ensures m c.args.run.now.streams
          (At (Doing (p.print c.args.place (map (view (names_in m)) c.args.xs.now)
          (Some (view_redirection (names_in m) c.args.to.now)))) []))) c.in_err-split_for.was;
      owns = c.requires.owns;
    })

pub returns-in_err-room : goal.returns-in_err-room
returns-in_err-room g c =
    let e = err_from_is_err_and c.from_residual-in_err-room.result c.from_residual-in_err-room.ensures.1 in
    rw (e.1, e.2) (record {
      plays =
          λ m is. halts _ (rw c.in_err-room.was at (c.put_to.ensures.task m c.split_for.new.store
          (At (Doing (p.print c.args.place (map (view (names_in m)) c.args.xs.now)
          (Some (view_redirection (names_in m) c.args.to.now)))) []) (c.args.run.now.store, c.args.run.now.streams)
          c.args.world.now (turned {then_ = streamed (view_redirection (names_in m) c.args.to.now)
          (text_of (lent_value c.in-Some.name)) c.in-Some.text}
          (part c.in-Some.text (part _ (at_once _ _ _)
          (acted (c.split_for.ensures m c.args.run.now.streams
          (At (Doing (p.print c.args.place (map (view (names_in m)) c.args.xs.now)
          (Some (view_redirection (names_in m) c.args.to.now)))) []))) c.in_ok-split_for.was)
          (acted (there {on = to_stream (view_redirection (names_in m) c.args.to.now) (lent_value c.in-Some.name)} {x =
          c.in-Some.text} (c.in-Some.ensures m c.args.run.now.streams c.args.place))) refl) (λ k. refl))));
      owns =
          c.put_to.ensures.owns;
    })

pub returns-in-Some : goal.returns-in-Some
returns-in-Some g c =
    record {
      plays = λ m is. done
          (rw c.in_ok-room.was at (c.put_to.ensures.task m c.split_for.new.store
          (At (Doing (p.print c.args.place (map (view (names_in m)) c.args.xs.now)
          (Some (view_redirection (names_in m) c.args.to.now)))) []) (c.args.run.now.store, c.args.run.now.streams)
          c.args.world.now (turned {then_ = streamed (view_redirection (names_in m) c.args.to.now)
          (text_of (lent_value c.in-Some.name)) c.in-Some.text}
          (part c.in-Some.text (part _ (at_once _ _ _)
          (acted (c.split_for.ensures m c.args.run.now.streams
          (At (Doing (p.print c.args.place (map (view (names_in m)) c.args.xs.now)
          (Some (view_redirection (names_in m) c.args.to.now)))) []))) c.in_ok-split_for.was)
          (acted (there {on = to_stream (view_redirection (names_in m) c.args.to.now) (lent_value c.in-Some.name)} {x =
          c.in-Some.text} (c.in-Some.ensures m c.args.run.now.streams c.args.place))) refl) (λ k. refl))));
      owns =
          c.put_to.ensures.owns;
    }

pub returns : goal.returns
returns g c =
    record {
      plays = λ m is. passes
          (part _ (at_once _ _ _)
          (acted (c.split_for.ensures m c.args.run.now.streams
          (At (Doing (p.print c.args.place (map (view (names_in m)) c.args.xs.now)
          (Some (view_redirection (names_in m) c.args.to.now)))) []))) c.in_ok-split_for.was)
          (c.general_redirect.ensures.plays m is);
      owns = c.general_redirect.ensures.owns;
    }
