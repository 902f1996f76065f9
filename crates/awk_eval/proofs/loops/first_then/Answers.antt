use Rattle.awk_forms.proofs.Leading.{quietly}
use Rattle.awk_streams.proofs.Chain.{at_once, part, passes, stop}
use Rattle.awk_machine.specs.Forms.{value}
use Rattle.std.proofs.Common.{refl}
use Rattle.std.proofs.lemmas.Result.{err_from_is_err_and}
use Rattle.awk_eval.proofs.loops.first_then.Goals as goal

pub returns-in_default : goal.returns-in_default
returns-in_default g c =
    record {
      plays = λ m is. rw (c.in_default.is) (passes (quietly (at_once _ _ _) (λ k hid d a. refl))
          (rw (c.as_ref-test.ensures.value, c.as_ref-after.ensures.value) at (c.turns.ensures.plays m is)));
      owns =
          c.turns.ensures.owns;
    }

pub returns-in_err-effect : goal.returns-in_err-effect
returns-in_err-effect g c =
    let e = err_from_is_err_and c.from_residual.result c.from_residual.ensures.1 in
    rw (e.1, e.2, c.in-Some.is)
    (record {
      plays = λ m is. stop _ (λ k. refl) (quietly (at_once _ _ _) (λ k hid d a. refl))
          (c.effect.ensures.does.plays m is) c.in_err-effect.was;
      owns = c.effect.ensures.does.owns;
    })

pub returns : goal.returns
returns g c =
    record {
      plays = λ m is. rw (c.in-Some.is)
          (passes (quietly (part _ (quietly (at_once _ _ _) (λ k hid d a. refl)) (c.effect.ensures.does.plays m is)
          c.in_ok-effect.was) (λ k hid d a. refl)) (rw (c.as_ref-test.ensures.value, c.as_ref-after.ensures.value) at
          (c.turns-2.ensures.plays m is)));
      owns = c.turns-2.ensures.owns;
    }
