use Rattle.awk_forms.proofs.Leading.{quietly}
use Rattle.awk_streams.proofs.Chain.{at_once, done, part, passes, stop}
use Rattle.awk_machine.specs.Operators.{of_truth}
use Rattle.awk_machine.specs.Forms.{value}
use Rattle.awk_machine.specs.Pieces.{give}
use Rattle.awk_program.specs.View.{view, view_ere}
use Rattle.awk_store.proofs.Acting.{acted, done as there}
use Rattle.awk_store.specs.Wholes.{names_in}
use Rattle.std.proofs.Common.{refl}
use Rattle.std.proofs.lemmas.Result.{err_from_is_err_and}
use Rattle.awk_forms.proofs.sources.matches.Goals as goal
use Rattle.awk_program.specs.Program as p

pub returns-in_err-split_for : goal.returns-in_err-split_for
returns-in_err-split_for g c =
    let e = err_from_is_err_and c.from_residual.result c.from_residual.ensures.1 in
    rw (e.1, e.2) (record {
      plays = λ m is. stop _ (λ k. refl) (at_once _ _ _)
          (acted (c.split_for.ensures m c.args.run.now.streams
          (value (p.matched c.args.place (view (names_in m) c.args.x.now) (view_ere (names_in m) c.args.pattern.now)))))
          c.in_err-split_for.was;
      owns = c.requires.owns;
    })

pub returns-in-Some : goal.returns-in-Some
returns-in-Some g c =
    record {
      plays = λ m is. done
          (part (tt {0}) (part _ (at_once _ _ _)
          (acted (c.split_for.ensures m c.args.run.now.streams
          (value (p.matched c.args.place (view (names_in m) c.args.x.now) (view_ere (names_in m) c.args.pattern.now)))))
          c.in_ok-split_for.was) (acted (there {on = λ (u : Unit {0}). give (of_truth c.in-Some.found)} {x = tt}
          (c.in-Some.ensures c.args.place m c.args.run.now.streams))) refl);
      owns = c.requires.owns;
    }

pub returns-in_err-text : goal.returns-in_err-text
returns-in_err-text g c =
    let e = err_from_is_err_and c.from_residual-in_err-text.result c.from_residual-in_err-text.ensures.1 in
    rw (e.1, e.2) (record {
      plays =
          λ m is. stop _ (λ k. refl)
          (quietly (part _ (at_once _ _ _)
          (acted (c.split_for.ensures m c.args.run.now.streams
          (value (p.matched c.args.place (view (names_in m) c.args.x.now) (view_ere (names_in m) c.args.pattern.now)))))
          c.in_ok-split_for.was) (λ k hid d a. refl)) (c.value.ensures.plays m is) c.in_err-text.was;
      owns =
          c.value.ensures.owns;
    })

pub returns-in_err-from : goal.returns-in_err-from
returns-in_err-from g c =
    let e = err_from_is_err_and c.from_residual-in_err-from.result c.from_residual-in_err-from.ensures.1 in
    rw (e.1, e.2) (record {
      plays =
          λ m is. stop _ (λ k. refl)
          (quietly (part _ (quietly
          (part _ (at_once _ _ _)
          (acted (c.split_for.ensures m c.args.run.now.streams
          (value (p.matched c.args.place (view (names_in m) c.args.x.now) (view_ere (names_in m) c.args.pattern.now)))))
          c.in_ok-split_for.was) (λ k hid d a. refl)) (c.value.ensures.plays m is) c.in_ok-text.was) (λ k hid d a. refl))
          (c.source_of.ensures.plays.plays m is) c.in_err-from.was;
      owns = c.source_of.ensures.plays.owns;
    })

pub returns : goal.returns
returns g c =
    record {
      plays = λ m is. passes
          (part _ (quietly (part _
          (quietly (part _ (at_once _ _ _)
          (acted (c.split_for.ensures m c.args.run.now.streams
          (value (p.matched c.args.place (view (names_in m) c.args.x.now) (view_ere (names_in m) c.args.pattern.now)))))
          c.in_ok-split_for.was) (λ k hid d a. refl)) (c.value.ensures.plays m is) c.in_ok-text.was) (λ k hid d a. refl))
          (c.source_of.ensures.plays.plays m is) c.in_ok-from.was)
          (acted (c.matched.ensures m (c.source_of.new.run.store, c.source_of.new.run.streams)
          (view (names_in m) c.args.x.now) (view_ere (names_in m) c.args.pattern.now)
          (c.in_ok-from.ensures.kind (names_in m))));
      owns = c.source_of.ensures.plays.owns;
    }
