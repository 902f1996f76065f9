use Rattle.awk_forms.proofs.Leading.{quietly}
use Rattle.awk_streams.proofs.Chain.{at_once, done, lacking, part, stop}
use Rattle.awk_machine.specs.Forms.{value}
use Rattle.std.proofs.Common.{refl}
use Rattle.std.proofs.lemmas.Result.{err_from_is_err_and}
use Rattle.awk_eval.proofs.statements.give_back.Goals as goal

pub returns-in-None : goal.returns-in-None
returns-in-None g c =
    record {
      plays = λ m is. rw c.in-None.is (done (quietly (at_once _ _ _) (λ k hid d a. refl)));
      owns =
          c.requires.owns;
    }

pub returns-in_err-answer-in-Some : goal.returns-in_err-answer-in-Some
returns-in_err-answer-in-Some g c =
    let e = err_from_is_err_and c.from_residual.result c.from_residual.ensures.1 in
    rw (e.1, e.2, c.in-Some.is)
    (record {
      plays = λ m is. stop _ (λ k. refl) (quietly (at_once _ _ _) (λ k hid d a. refl))
          (c.value.ensures.plays m is) c.in_err-answer-in-Some.was;
      owns = c.value.ensures.owns;
    })

pub returns-in_default : goal.returns-in_default
returns-in_default g c =
    record {
      plays = λ m is. rw c.in-Some.is
          (lacking (part _ (quietly (at_once _ _ _) (λ k hid d a. refl)) (c.value.ensures.plays m is)
          c.in_ok-answer-in-Some.was));
      owns = c.value.ensures.owns;
    }

pub returns-in-Ok : goal.returns-in-Ok
returns-in-Ok g c =
    record {
      plays = λ m is. rw c.in-Some.is
          (done (quietly (part _ (quietly (at_once _ _ _) (λ k hid d a. refl)) (c.value.ensures.plays m is)
          c.in_ok-answer-in-Some.was) (λ k hid d a. rw (c.in-Ok.ensures k) refl)));
      owns = c.value.ensures.owns;
    }
