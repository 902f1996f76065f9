use Rattle.awk_forms.proofs.targets.read_target.Goals as goal

pub returns-in-Variable : goal.returns-in-Variable
returns-in-Variable g c =
    record {
      plays = λ m is. rw c.in-Variable.is (c.value_of_variable.ensures.plays m is);
      owns =
          c.value_of_variable.ensures.owns;
    }

pub returns-in-Element : goal.returns-in-Element
returns-in-Element g c =
    c.read_element_target.ensures

pub returns : goal.returns
returns g c =
    c.general_read.ensures
