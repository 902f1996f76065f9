use Rattle.std.proofs.lemmas.Result.{err_from_is_err_and}
use Rattle.awk_streams.proofs.Chain.{at_once, lacking}
use Rattle.awk_store.proofs.Lifting.{lifted}
use Rattle.awk_builtins.proofs.functions.run.Goals as goal

pub returns-in_err-text-clause-task : goal.returns-in_err-text-clause-task
returns-in_err-text-clause-task g c =
    let e = err_from_is_err_and c.from_residual.result c.from_residual.ensures.1 in
    rw (e.1, e.2) (λ m k t. lacking (at_once _ _ _))

pub returns-clause-task : goal.returns-clause-task
returns-clause-task g c = λ m k t. lifted m k (λ s. rw (c.new.ensures, c.in_ok-text.ensures.items, c.text.ensures) at
    (c.system.ensures.task m s t))
