use Rattle.awk_streams.proofs.Chain.{at_once, done, part, passes, stop}
use Rattle.awk_machine.specs.Pieces.{At, Doing}
use Rattle.awk_program.specs.Program as p
use Rattle.awk_program.specs.View.{variable_of, view}
use Rattle.awk_store.proofs.Acting.{acted, done as there}
use Rattle.awk_store.specs.Wholes.{names_in}
use Rattle.awk_streams.specs.Tasks.{goes_on}
use Rattle.std.proofs.Common.{[], map, refl}
use Rattle.std.proofs.lemmas.Result.{err_from_is_err_and}
use Rattle.awk_eval.proofs.statements.delete.Goals as goal

pub returns-in_err-split_for_items : goal.returns-in_err-split_for_items
returns-in_err-split_for_items g c =
    let e = err_from_is_err_and c.from_residual.result c.from_residual.ensures.1 in
    rw (e.1, e.2) (record {
      plays = λ m is. stop _ (λ k. refl) (at_once _ _ _)
          (acted (c.split_for_items.ensures m c.args.run.now.streams
          (At (Doing (p.delete c.args.place (variable_of (names_in m) c.args.array)
          (map (view (names_in m)) c.args.keys.now))) []))) c.in_err-split_for_items.was;
      owns =
          c.requires.owns;
    })

pub returns-then-is_removed : goal.returns-then-is_removed
returns-then-is_removed g c =
    record {
      plays = λ m is. done (part _
          (part _ (at_once _ _ _)
          (acted (c.split_for_items.ensures m c.args.run.now.streams
          (At (Doing (p.delete c.args.place (variable_of (names_in m) c.args.array)
          (map (view (names_in m)) c.args.keys.now))) [])))
          c.in_ok-split_for_items.was) (acted (there {on = goes_on} {x = tt {0}}
          (c.removed_at_hand-is_removed.ensures.done c.if-is_removed.true m c.args.run.now.streams c.args.place)))
          refl);
      owns = c.requires.owns;
    }

pub returns : goal.returns
returns g c =
    record {
      plays = λ m is.
          passes (part _ (at_once _ _ _)
          (acted (c.split_for_items.ensures m c.args.run.now.streams
          (At (Doing (p.delete c.args.place (variable_of (names_in m) c.args.array)
          (map (view (names_in m)) c.args.keys.now))) [])))
          c.in_ok-split_for_items.was)
          (rw (c.removed_at_hand-is_removed.ensures.not_done c.if-is_removed.false) at
          (c.general_delete.ensures.plays m is));
      owns = c.general_delete.ensures.owns;
    }
