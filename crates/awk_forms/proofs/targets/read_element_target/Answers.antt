use Rattle.awk_store.proofs.Acting.{acted}
use Rattle.awk_forms.proofs.targets.read_element_target.Goals as goal

pub returns-in-Some : goal.returns-in-Some
returns-in-Some g c =
    record {
      plays = λ m is. acted (c.read_at_key.ensures m c.args.run.now.streams c.args.target.now c.in-Some.ensures);
      owns = c.requires.owns;
    }

pub returns : goal.returns
returns g c =
    record { plays = c.general_read.ensures.plays; owns = c.general_read.ensures.owns }
