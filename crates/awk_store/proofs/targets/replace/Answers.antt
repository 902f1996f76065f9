use Rattle.std.proofs.lemmas.Result.{err_from_is_err_and}
use Rattle.awk_store.proofs.Acting.{answers, at_rest, stop}
use Rattle.awk_store.proofs.targets.replace.Goals as goal

pub returns-in-Variable : goal.returns-in-Variable
returns-in-Variable c = λ g t. rw c.in-Variable.is (c.replace_variable.ensures g t)

pub returns-in_err-set : goal.returns-in_err-set
returns-in_err-set c =
    let e = err_from_is_err_and c.from_residual.result c.from_residual.ensures.1 in
    rw (e.1, e.2) (λ g t. stop _ (at_rest _ _) (c.set.ensures g t) c.in_err-set.was)

pub returns : goal.returns
returns c = λ g t. rw c.take_room.ensures (answers _ (rw c.in_ok-set.was at (c.set.ensures g t)))
