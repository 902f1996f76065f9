use Rattle.awk_store.proofs.Acting.{acted}
use Rattle.awk_forms.proofs.targets.step_element_target.Goals as goal

pub returns-in-Some : goal.returns-in-Some
returns-in-Some g c =
    λ which. record {
      plays = λ m is. acted (c.step_at_key.ensures m c.args.run.now.streams c.args.target.now which
          c.in-Some.ensures);
      owns = c.requires.owns;
    }

pub returns : goal.returns
returns g c =
    λ which. record { plays = (c.general_step.ensures which).plays; owns = (c.general_step.ensures which).owns }
