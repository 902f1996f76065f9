use Rattle.awk_forms.proofs.Leading.{quietly, rests}
use Rattle.awk_forms.proofs.Turns.{next_of}
use Rattle.awk_streams.proofs.Chain.{at_once, done, part, passes, stop, turned}
use Rattle.awk_builtins.proofs.Rests.{drop_all, just_one}
use Rattle.awk_text.specs.Lents.{lent_value}
use Rattle.awk_machine.specs.Pieces.{At, Pipes_of, give}
use Rattle.awk_program.specs.View.{view_pipes, view_target}
use Rattle.awk_store.proofs.Acting.{acted, done as there}
use Rattle.awk_store.specs.Spots.{value_of}
use Rattle.awk_store.specs.Wholes.{names_in}
use Rattle.std.proofs.Common.{[], ap, drop, refl, ◌+◌, ◌∷◌}
use Rattle.std.proofs.lemmas.Result.{err_from_is_err_and}
use Rattle.awk_forms.proofs.inputs.from_commands.Goals as goal
use Rattle.awk_program.specs.Program as p

pub returns-in_err-answer : goal.returns-in_err-answer
returns-in_err-answer g c =
    let e = err_from_is_err_and c.from_residual.result c.from_residual.ensures.1 in rw (e.1, e.2) (record {
      plays = λ m is.
          rw (just_one c.args.xs.now c.only-item.result c.in-len1.len_at_least c.in-len1.len_below c.only-item.is)
          (stop _ (λ k. refl) (part _
          (quietly (part _ (quietly (at_once _ _ _) (λ k hid d a. refl))
          (acted (there {on = give} {x = lent_value c.in-Some-at_hand.command}
          (c.in-Some-at_hand.ensures m c.args.run.now.streams))) refl) (λ k hid d a. refl))
          (acted (there {on = give} {x = value_of c.in-Some.to} (c.in-Some.ensures.plays m (
            c.args.run.now.store,
            c.args.run.now.streams,
          )))) refl)
          (c.in_err-answer.ensures.task m (view_target (names_in m) c.only-item.result.target) p.no_pipes
          (value_of c.in-Some.to)) refl);
      owns = c.in_err-answer.ensures.owns;
    })

pub returns-in-Some-at_hand : goal.returns-in-Some-at_hand
returns-in-Some-at_hand g c =
    record {
      plays = λ m is.
          let r = view_target (names_in m) c.only-item.result.target in
          rw (just_one c.args.xs.now c.only-item.result c.in-len1.len_at_least c.in-len1.len_below c.only-item.is)
          (rests (passes (part c.in_ok-answer.answer
          (part _ (quietly (part _ (quietly (at_once _ _ _) (λ k hid d a. refl))
          (acted (there {on = give} {x = lent_value c.in-Some-at_hand.command}
          (c.in-Some-at_hand.ensures m c.args.run.now.streams))) refl) (λ k hid d a. refl))
          (acted (there {on = give} {x = value_of c.in-Some.to} (c.in-Some.ensures.plays m (
            c.args.run.now.store,
            c.args.run.now.streams,
          )))) refl) (c.in_ok-answer.ensures.task m r p.no_pipes (value_of c.in-Some.to))
          refl)
          (acted (c.set_from_command.ensures.task m r p.no_pipes (lent_value c.in-Some-at_hand.command)
          (c.in-Some.ensures.spot (names_in m))))) (λ x k hid d a. refl));
      owns = rw c.set_from_command.ensures.same c.in_ok-answer.ensures.owns;
    }

pub returns-in_err-so_far : goal.returns-in_err-so_far
returns-in_err-so_far g c =
    let e = err_from_is_err_and c.from_residual-in_err-so_far.result c.from_residual-in_err-so_far.ensures.1 in
    rw (e.1, e.2) (record {
      plays = λ m is. stop _ (λ k. refl) (quietly (at_once _ _ _) (λ k hid d a. refl))
          (c.value.ensures.plays m is) c.in_err-so_far.was;
      owns = c.value.ensures.owns;
    })

pub loop-next-init : goal.loop-next-init
loop-next-init g c =
    record {
      leads = λ m is. (part _ (quietly (at_once _ _ _) (λ k hid d a. refl)) (c.value.ensures.plays m is)
          c.in_ok-so_far.was);
      owns = c.value.ensures.owns;
    }

pub returns-in_err-to : goal.returns-in_err-to
returns-in_err-to g c =
    let e = err_from_is_err_and c.from_residual-in_err-to.result c.from_residual-in_err-to.ensures.1 in
    rw (e.1, e.2) (record {
      plays =
          λ m is. stop _ (λ k. refl)
          (quietly (turned (c.loop-next.invariant.leads m is)
          (λ k. ap (λ ys. At (Pipes_of (view_pipes (names_in m) ys)) (c.loop-next.so_far ∷ []) ∷ k)
          (next_of c.args.xs.now c.loop-next.next-index c.next-item.result c.next-item.is c.loop-next-test.true)))
          (λ k hid d a. refl)) (c.target_of.ensures.plays.plays m is) c.in_err-to.was;
      owns =
          c.target_of.ensures.plays.owns;
    })

pub returns-in_err-so_far-2 : goal.returns-in_err-so_far-2
returns-in_err-so_far-2 g c =
    let e = err_from_is_err_and c.from_residual-in_err-so_far-2.result c.from_residual-in_err-so_far-2.ensures.1 in
    rw (e.1, e.2) (record {
      plays =
          λ m is. stop _ (λ k. refl)
          (part _ (quietly (turned (c.loop-next.invariant.leads m is)
          (λ k. ap (λ ys. At (Pipes_of (view_pipes (names_in m) ys)) (c.loop-next.so_far ∷ []) ∷ k)
          (next_of c.args.xs.now c.loop-next.next-index c.next-item.result c.next-item.is c.loop-next-test.true)))
          (λ k hid d a. refl)) (c.target_of.ensures.plays.plays m is) c.in_ok-to.was)
          (rw c.of.ensures at (c.getline_pipe.ensures.task m (view_target (names_in m) c.next-item.result.target)
          (view_pipes (names_in m) (drop (c.loop-next.next-index + 1) c.args.xs.now))
          (c.in_ok-to.ensures.spot (names_in m)))) c.in_err-so_far-2.was;
      owns = c.getline_pipe.ensures.owns;
    })

pub loop-next-preserved : goal.loop-next-preserved
loop-next-preserved g c =
    record {
      leads = λ m is.
          (part _ (part _ (quietly (turned (c.loop-next.invariant.leads m is)
          (λ k. ap (λ ys. At (Pipes_of (view_pipes (names_in m) ys)) (c.loop-next.so_far ∷ []) ∷ k)
          (next_of c.args.xs.now c.loop-next.next-index c.next-item.result c.next-item.is c.loop-next-test.true)))
          (λ k hid d a. refl)) (c.target_of.ensures.plays.plays m is) c.in_ok-to.was)
          (rw c.of.ensures at (c.getline_pipe.ensures.task m (view_target (names_in m) c.next-item.result.target)
          (view_pipes (names_in m) (drop (c.loop-next.next-index + 1) c.args.xs.now))
          (c.in_ok-to.ensures.spot (names_in m)))) c.in_ok-so_far-2.was);
      owns = c.getline_pipe.ensures.owns;
    }

pub returns : goal.returns
returns g c =
    record {
      plays = λ m is. done
          (quietly (turned (c.loop-next.invariant.leads m is)
          (λ k. ap (λ ys. At (Pipes_of (view_pipes (names_in m) ys)) (c.loop-next.so_far ∷ []) ∷ k)
          (drop_all c.args.xs.now c.loop-next.next-index c.loop-next-test.false))) (λ k hid d a. refl));
      owns =
          c.loop-next.invariant.owns;
    }
