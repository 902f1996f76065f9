use Rattle.std.proofs.Common.{◌++◌}
use Rattle.std.specs.Prelude.{option_copied}
use Rattle.std.proofs.lemmas.Result.{err_from_is_err_and}
use Rattle.awk_machine.specs.Begins.{separators}
use Rattle.awk_run.specs.Starts.{assigning}
use Rattle.awk_run.proofs.Preparing.{prepared_all, prepares_none, prepares_rest, unprepared}
use Rattle.awk_run.proofs.Starting.{prepares_so}
use Rattle.awk_run.proofs.start.prepare.Goals as goal

pub returns-in_err-set_arguments : goal.returns-in_err-set_arguments
returns-in_err-set_arguments c =
    let e = err_from_is_err_and c.from_residual.result c.from_residual.ensures.1 in
    rw (e.1, e.2) (λ m t k host is. prepares_so c.args.start.now.operands.now (option_copied c.args.start.now.separator)
    c.args.start.now.assigns.now is.operands is.separator is.assigns
    (prepares_none _ (unprepared _ _)
    (c.set_arguments.ensures m t (separators (option_copied c.args.start.now.separator)
    ++ (assigning m.can_assign c.args.start.now.assigns.now ++ k))) c.in_err-set_arguments.was))

pub returns-in_err-set_separator : goal.returns-in_err-set_separator
returns-in_err-set_separator c =
    let e = err_from_is_err_and c.from_residual-in_err-set_separator.result
    c.from_residual-in_err-set_separator.ensures.1 in
    rw (e.1, e.2) (λ m t k host is. prepares_so c.args.start.now.operands.now (option_copied c.args.start.now.separator)
    c.args.start.now.assigns.now is.operands is.separator is.assigns
    (prepares_none _ (prepared_all (unprepared _ _)
    (c.set_arguments.ensures m t (separators (option_copied c.args.start.now.separator)
    ++ (assigning m.can_assign c.args.start.now.assigns.now ++ k))) c.in_ok-set_arguments.was)
    (c.set_separator.ensures m t (assigning m.can_assign c.args.start.now.assigns.now ++ k))
    c.in_err-set_separator.was))

pub returns : goal.returns
returns c = λ m t k host is. prepares_so c.args.start.now.operands.now (option_copied c.args.start.now.separator)
    c.args.start.now.assigns.now is.operands is.separator is.assigns
    (prepares_rest (prepared_all
    (prepared_all (unprepared _ _)
    (c.set_arguments.ensures m t (separators (option_copied c.args.start.now.separator)
    ++ (assigning m.can_assign c.args.start.now.assigns.now ++ k))) c.in_ok-set_arguments.was)
    (c.set_separator.ensures m t (assigning m.can_assign c.args.start.now.assigns.now ++ k)) c.in_ok-set_separator.was)
    (c.assign_all.ensures m t k host))
