use Rattle.awk_forms.proofs.Leading.{quietly}
use Rattle.awk_streams.proofs.Chain.{at_once, part, passes, stop}
use Rattle.awk_text.specs.Lents.{lent_value}
use Rattle.awk_machine.specs.Pieces.{give}
use Rattle.awk_program.specs.View.{view, view_target}
use Rattle.awk_store.proofs.Acting.{acted, done as there}
use Rattle.awk_store.specs.Spots.{value_of}
use Rattle.awk_store.specs.Wholes.{names_in}
use Rattle.std.proofs.Common.{refl}
use Rattle.std.proofs.lemmas.Result.{err_from_is_err_and}
use Rattle.awk_forms.proofs.inputs.from_file.Goals as goal

pub returns-in_err-answer : goal.returns-in_err-answer
returns-in_err-answer g c =
    let e = err_from_is_err_and c.from_residual.result c.from_residual.ensures.1 in
    rw (e.1, e.2) (record {
      plays =
          λ m is. stop _ (λ k. refl)
          (part _ (quietly (part _ (quietly (at_once _ _ _) (λ k hid d a. refl))
          (acted (there {on = give} {x = value_of c.in-Some.to} (c.in-Some.ensures.plays m (
            c.args.run.now.store,
            c.args.run.now.streams,
          )))) refl) (λ k hid d a. refl))
          (acted (there {on = give} {x = lent_value c.in-Some-at_hand.name}
          (c.in-Some-at_hand.ensures m c.args.run.now.streams))) refl)
          (c.in_err-answer.ensures.task m (view_target (names_in m) c.args.target.now) (view (names_in m) c.args.x.now)
          (value_of c.in-Some.to)) refl;
      owns = c.in_err-answer.ensures.owns;
    })

pub returns-in-Some-at_hand : goal.returns-in-Some-at_hand
returns-in-Some-at_hand g c =
    record {
      plays = λ m is.
          let r = view_target (names_in m) c.args.target.now in
          let x = view (names_in m) c.args.x.now in
          let answer = c.in_ok-answer.answer in
          passes (part answer (part _
          (quietly (part _ (quietly (at_once _ _ _) (λ k hid d a. refl))
          (acted (there {on = give} {x = value_of c.in-Some.to} (c.in-Some.ensures.plays m (
            c.args.run.now.store,
            c.args.run.now.streams,
          )))) refl) (λ k hid d a. refl))
          (acted (there {on = give} {x = lent_value c.in-Some-at_hand.name}
          (c.in-Some-at_hand.ensures m c.args.run.now.streams))) refl)
          (c.in_ok-answer.ensures.task m r x (value_of c.in-Some.to)) refl)
          (acted (c.set_from_file.ensures.task m r x (lent_value c.in-Some-at_hand.name)
          (c.in-Some.ensures.spot (names_in m))));
      owns = rw c.set_from_file.ensures.same c.in_ok-answer.ensures.owns;
    }

pub returns-in_err-to : goal.returns-in_err-to
returns-in_err-to g c =
    let e = err_from_is_err_and c.from_residual-in_err-to.result c.from_residual-in_err-to.ensures.1 in
    rw (e.1, e.2) (record {
      plays = λ m is. stop _ (λ k. refl) (quietly (at_once _ _ _) (λ k hid d a. refl))
          (c.target_of.ensures.plays.plays m is) c.in_err-to.was;
      owns = c.target_of.ensures.plays.owns;
    })

pub returns-in_err-name : goal.returns-in_err-name
returns-in_err-name g c =
    let e = err_from_is_err_and c.from_residual-in_err-name.result c.from_residual-in_err-name.ensures.1 in
    rw (e.1, e.2) (record {
      plays =
          λ m is. stop _ (λ k. refl)
          (quietly (part _ (quietly (at_once _ _ _) (λ k hid d a. refl)) (c.target_of.ensures.plays.plays m is)
          c.in_ok-to.was) (λ k hid d a. refl)) (c.value.ensures.plays m is) c.in_err-name.was;
      owns =
          c.value.ensures.owns;
    })

pub returns-in_err-answer-2 : goal.returns-in_err-answer-2
returns-in_err-answer-2 g c =
    let e = err_from_is_err_and c.from_residual-in_err-answer-2.result c.from_residual-in_err-answer-2.ensures.1 in
    rw (e.1, e.2) (record {
      plays =
          λ m is. stop _ (λ k. refl)
          (part _ (quietly (part _ (quietly (at_once _ _ _) (λ k hid d a. refl)) (c.target_of.ensures.plays.plays m is)
          c.in_ok-to.was) (λ k hid d a. refl)) (c.value.ensures.plays m is) c.in_ok-name.was)
          (rw c.of.ensures at (c.in_err-answer-2.ensures.task m (view_target (names_in m) c.args.target.now)
          (view (names_in m) c.args.x.now) (value_of c.in_ok-to.to))) refl;
      owns = c.in_err-answer-2.ensures.owns;
    })

pub returns : goal.returns
returns g c =
    record {
      plays = λ m is.
          let r = view_target (names_in m) c.args.target.now in
          let x = view (names_in m) c.args.x.now in
          let answer = c.in_ok-answer-2.answer in
          passes (part answer (part _
          (quietly (part _ (quietly (at_once _ _ _) (λ k hid d a. refl)) (c.target_of.ensures.plays.plays m is)
          c.in_ok-to.was) (λ k hid d a. refl)) (c.value.ensures.plays m is) c.in_ok-name.was)
          (rw c.of.ensures at (c.in_ok-answer-2.ensures.task m r x (value_of c.in_ok-to.to))) refl)
          (acted (c.set_from_file-2.ensures.task m r x c.in_ok-name.name (c.in_ok-to.ensures.spot (names_in m))));
      owns = rw c.set_from_file-2.ensures.same c.in_ok-answer-2.ensures.owns;
    }
