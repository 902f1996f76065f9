use Rattle.awk_program.proofs.Views.{view-Step}
use Rattle.awk_forms.proofs.tests.operand.Goals as goal

pub returns-in-Step : goal.returns-in-Step
returns-in-Step g c =
    record {
      plays = λ m is. rw (c.in-Step.is, view-Step) (c.increment.ensures.plays m is);
      owns =
          c.increment.ensures.owns;
    }
