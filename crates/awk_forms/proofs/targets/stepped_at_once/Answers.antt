use Rattle.awk_builtins.proofs.Rests.{some_for}
use Rattle.awk_forms.proofs.targets.stepped_at_once.Goals as goal

pub returns-in-Variable-clause-done : goal.returns-in-Variable-clause-done
returns-in-Variable-clause-done c = some_for c.stepped_variable.result (λ n gives g t place taken. rw c.in-Variable.is
    (gives g t place taken)) c.stepped_variable.ensures.done
