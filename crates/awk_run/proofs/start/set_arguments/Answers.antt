use Rattle.std.proofs.Common.{rules, w64}
use Rattle.std.proofs.lemmas.Int.{to_z-of_z}
use Rattle.std.proofs.lemmas.Result.{err_from_is_err_and}
use Rattle.awk_run.proofs.Preparing.{prepared, prepared_all, prepares_last, prepares_none, prepares_not, unprepared}
use Rattle.awk_run.proofs.start.set_arguments.Goals as goal

pub returns-in_err-set_argument : goal.returns-in_err-set_argument
returns-in_err-set_argument c =
    let e = err_from_is_err_and c.from_residual.result c.from_residual.ensures.1 in
    rw (e.1, e.2) (λ m t k. prepares_not _ (unprepared _ _) (rw c.as_slice.ensures at (c.set_argument.ensures m t))
    c.in_err-set_argument.was)

pub returns-in_err-set_operands : goal.returns-in_err-set_operands
returns-in_err-set_operands c =
    let e = err_from_is_err_and c.from_residual-in_err-set_operands.result c.from_residual-in_err-set_operands.ensures.1
    in
    rw (e.1, e.2) (λ m t k. prepares_none _
    (prepared (unprepared _ _) (rw c.as_slice.ensures at (c.set_argument.ensures m t)) c.in_ok-set_argument.was)
    (c.set_operands.ensures m t k) c.in_err-set_operands.was)

pub returns : goal.returns
returns c = λ m t k. prepares_last
    (prepared_all (prepared (unprepared _ _) (rw c.as_slice.ensures at (c.set_argument.ensures m t))
    c.in_ok-set_argument.was) (c.set_operands.ensures m t k) c.in_ok-set_operands.was)
    (rw (to_z-of_z w64 c.argument_count.result (search rules), c.argument_count.ensures) at (c.set_own.ensures m t))
