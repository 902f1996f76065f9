use Rattle.std.proofs.Common.{refl, [], ◌∷◌}
use Rattle.std.proofs.lemmas.Result.{err_from_is_err_and}
use Rattle.awk_machine.specs.Pieces.{Do, Enter}
use Rattle.awk_machine.specs.State.{Ending, Ruling}
use Rattle.awk_run.proofs.PhaseSteps.{flows_task}
use Rattle.awk_run.proofs.Reaching.{then_goes, then_halt, then_part}
use Rattle.awk_run.proofs.phases.before_end.Goals as goal

pub returns-in_err-begin-clause-plays : goal.returns-in_err-begin-clause-plays
returns-in_err-begin-clause-plays g c =
    let e = err_from_is_err_and c.from_residual.result c.from_residual.ensures.1 in
    rw (e.1, e.2) (λ m is first y. then_halt _ refl y (c.begin.ensures.plays m is) c.in_err-begin.was)

pub returns-in_err-begin-clause-owns : goal.returns-in_err-begin-clause-owns
returns-in_err-begin-clause-owns g c = c.begin.ensures.owns

pub returns-clause-plays : goal.returns-clause-plays
returns-clause-plays g c = λ m is first y.
    then_goes refl (rw (flows_task c.in_ok-begin.field-0 Ruling (Do (Enter Ending) ∷ [])) at
    (then_part _ y (c.begin.ensures.plays m is) c.in_ok-begin.was)) (c.read.ensures.plays m is)

pub returns-clause-owns : goal.returns-clause-owns
returns-clause-owns g c = c.read.ensures.owns
