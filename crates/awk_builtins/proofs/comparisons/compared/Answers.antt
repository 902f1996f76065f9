use Rattle.std.proofs.Common.{ap, sym, ◌∙◌}
use Rattle.std.proofs.lemmas.Result.{err_from_is_err_and}
use Rattle.awk_builtins.proofs.Convfmt.{compared_made, left_faults, right_faults, value_ok}
use Rattle.awk_builtins.proofs.comparisons.compared.Goals as goal

pub returns-in_err-left-clause-err : goal.returns-in_err-left-clause-err
returns-in_err-left-clause-err c =
    let e = err_from_is_err_and c.from_residual.result c.from_residual.ensures.1 in
    rw (e.1, e.2) (left_faults c.args.store.now c.args.how c.args.left c.args.right c.in_err-left.field-0.0
    c.in_err-left.ensures.err)

pub returns-in_err-right-clause-err : goal.returns-in_err-right-clause-err
returns-in_err-right-clause-err c =
    let e = err_from_is_err_and c.from_residual-in_err-right.result c.from_residual-in_err-right.ensures.1 in
    rw (e.1, e.2) (right_faults c.args.store.now c.args.how c.args.left c.args.right c.in_ok-left.left
    c.in_err-right.field-0.0 c.in_ok-left.ensures.ok c.in_err-right.ensures.err)

pub returns-clause-ok : goal.returns-clause-ok
returns-clause-ok c =
    compared_made c.args.store.now c.args.how c.args.left c.args.right c.in_ok-left.left c.in_ok-right.right
    c.in_ok-left.ensures.ok c.in_ok-right.ensures.ok
    ∙ ap value_ok (sym (rw c.numbers.ensures at c.compared_values.ensures))
