use Rattle.awk_machine.specs.Expressions.{either}
use Rattle.awk_machine.specs.Pieces.{give}
use Rattle.awk_store.proofs.Acting.{acted, done as there}
use Rattle.awk_forms.proofs.targets.step_target.Goals as goal

pub returns-in-Some : goal.returns-in-Some
returns-in-Some g c = λ which.
    record {
      plays = λ m is. acted (there {on = λ n. give (either which n.0 n.1)} {x = c.in-Some.steps}
          (c.in-Some.ensures.done m c.args.run.now.streams c.args.place which));
      owns = c.requires.owns;
    }

pub returns-in-Element : goal.returns-in-Element
returns-in-Element g c = λ which.
    let h = c.step_element_target.ensures which in
    record { plays = λ m is. rw (c.stepped_at_once.ensures.not_done c.in_default.is) at (h.plays m is); owns = h.owns }

pub returns : goal.returns
returns g c = λ which.
    let h = c.general_step.ensures which in
    record { plays = λ m is. rw (c.stepped_at_once.ensures.not_done c.in_default.is) at (h.plays m is); owns = h.owns }
