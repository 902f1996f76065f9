use Rattle.awk_store.proofs.Lifting.{lifted}
use Rattle.awk_builtins.proofs.functions.close.Goals as goal

pub returns-clause-task : goal.returns-clause-task
returns-clause-task g c = λ m k. lifted m k (λ s. rw c.text.ensures at (c.close.ensures.task m s))
