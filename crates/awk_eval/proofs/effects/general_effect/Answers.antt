use Rattle.awk_streams.proofs.Chain.{at_once, done, lacking, part, stop}
use Rattle.awk_machine.specs.Expressions.{either}
use Rattle.awk_program.proofs.Views.{view-Assign, view-Change, view-Step}
use Rattle.std.proofs.Common.{refl}
use Rattle.std.proofs.lemmas.Result.{err_from_is_err_and}
use Rattle.awk_eval.proofs.effects.general_effect.Goals as goal
use Rattle.awk_text.specs.declared.value.Value.TheVariants as v

pub returns-in_default : goal.returns-in_default
returns-in_default g c =
    record { val = v.Unset; is = tt; does = record { plays = λ m is. lacking (at_once _ _ _); owns = c.requires.owns } }

pub returns-in-Assign : goal.returns-in-Assign
returns-in-Assign g c =
    record {
      val = c.put.ensures.val;
      is = c.put.ensures.is;
      does =
          record {
            plays = λ m is. rw (c.in-Assign.is, view-Assign) (rw c.get.ensures at (c.put.ensures.does.plays m is));
            owns = c.put.ensures.does.owns;
          };
    }

pub returns-in-Change : goal.returns-in-Change
returns-in-Change g c =
    record {
      val = c.alter.ensures.val;
      is = c.alter.ensures.is;
      does =
          record {
            plays = λ m is. rw (c.in-Change.is, view-Change)
                (rw c.get-in-Change.ensures at (c.alter.ensures.does.plays m is));
            owns = c.alter.ensures.does.owns;
          };
    }

pub returns-in_err-step_target-in-Step : goal.returns-in_err-step_target-in-Step
returns-in_err-step_target-in-Step g c =
    let e = err_from_is_err_and c.from_residual.result c.from_residual.ensures.1 in
    rw (e.1, e.2) (record {
      val = v.Unset;
      is = tt;
      does =
          record {
            plays = λ m is. rw (c.in-Step.is, view-Step) (stop _ (λ k. refl) (at_once _ _ _)
                ((c.step_target.ensures c.in-Step.field-2).plays m is) c.in_err-step_target-in-Step.was);
            owns =
                (c.step_target.ensures c.in-Step.field-2).owns;
          };
    })

pub returns-in_ok-step_target-in-Step : goal.returns-in_ok-step_target-in-Step
returns-in_ok-step_target-in-Step g c =
    record {
      val = either c.in-Step.field-2 c.in_ok-step_target-in-Step.field-0.0 c.in_ok-step_target-in-Step.field-0.1;
      is = tt;
      does = record {
        plays = λ m is. rw (c.in-Step.is, view-Step)
            (done (part _ (at_once _ _ _) ((c.step_target.ensures c.in-Step.field-2).plays m is)
            c.in_ok-step_target-in-Step.was));
        owns = (c.step_target.ensures c.in-Step.field-2).owns;
      };
    }

pub returns-in_err-value-in_default-e : goal.returns-in_err-value-in_default-e
returns-in_err-value-in_default-e g c =
    let e = err_from_is_err_and c.from_residual-in_err-value-in_default-e.result
    c.from_residual-in_err-value-in_default-e.ensures.1 in
    rw (e.1, e.2) (record {
      val = v.Unset;
      is = tt;
      does =
          record {
            plays = λ m is. stop _ (λ k. refl) (at_once _ _ _) (c.value.ensures.plays m is)
                c.in_err-value-in_default-e.was;
            owns = c.value.ensures.owns;
          };
    })

pub returns-in_ok-value-in_default-e : goal.returns-in_ok-value-in_default-e
returns-in_ok-value-in_default-e g c =
    record {
      val = c.in_ok-value-in_default-e.field-0;
      is = tt;
      does =
          record {
            plays = λ m is. done (part _ (at_once _ _ _) (c.value.ensures.plays m is)
                c.in_ok-value-in_default-e.was);
            owns = c.value.ensures.owns;
          };
    }
