use Rattle.awk_forms.proofs.Leading.{quietly}
use Rattle.awk_streams.proofs.Chain.{at_once, part, passes, stop}
use Rattle.awk_store.proofs.Leading.{jumped}
use Rattle.awk_machine.specs.Forms.{value}
use Rattle.awk_program.specs.View.{view}
use Rattle.awk_store.specs.Wholes.{names_in}
use Rattle.std.proofs.Common.{refl}
use Rattle.std.proofs.lemmas.Result.{err_from_is_err_and}
use Rattle.awk_eval.proofs.statements.leave_by.Goals as goal

pub returns-in-None : goal.returns-in-None
returns-in-None g c =
    record {
      plays = λ m is. rw c.in-None.is (jumped _ (c.exit.ensures m c.args.run.now.streams c.args.place));
      owns =
          c.requires.owns;
    }

pub returns-in_err-status-in-Some : goal.returns-in_err-status-in-Some
returns-in_err-status-in-Some g c =
    let e = err_from_is_err_and c.from_residual.result c.from_residual.ensures.1 in
    rw (e.1, e.2, c.in-Some.is)
    (record {
      plays = λ m is. stop _ (λ k. refl) (quietly (at_once _ _ _) (λ k hid d a. refl))
          (c.value.ensures.plays m is) c.in_err-status-in-Some.was;
      owns = c.value.ensures.owns;
    })

pub returns-in_ok-status-in-Some : goal.returns-in_ok-status-in-Some
returns-in_ok-status-in-Some g c =
    record {
      plays = λ m is. rw c.in-Some.is
          (passes (part _ (quietly (at_once _ _ _) (λ k hid d a. refl)) (c.value.ensures.plays m is)
          c.in_ok-status-in-Some.was)
          (jumped _ (c.exit_with.ensures m c.value.new.run.streams (view (names_in m) c.in-Some.x))));
      owns =
          c.value.ensures.owns;
    }
