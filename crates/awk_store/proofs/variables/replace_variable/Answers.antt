use Rattle.std.proofs.Common.{sym, ◌∙◌}
use Rattle.std.proofs.lemmas.Result.{err_from_is_err_and}
use Rattle.awk_store.proofs.Acting.{answers, at_rest, stop}
use Rattle.awk_store.proofs.VariableSteps.{sets_variable}
use Rattle.awk_store.proofs.variables.replace_variable.Goals as goal

pub returns-in_err-set_count : goal.returns-in_err-set_count
returns-in_err-set_count c =
    let e = err_from_is_err_and c.from_residual.result c.from_residual.ensures.1 in
    rw (e.1, e.2) (λ g t. stop _ (at_rest _ _) (c.set_count.ensures g t c.args.variable (sym c.is_nf.ensures
    ∙ c.if-is_nf.true)) c.in_err-set_count.was)

pub returns-then-is_nf : goal.returns-then-is_nf
returns-then-is_nf c =
    λ g t. answers _ (rw c.in_ok-set_count.was at (c.set_count.ensures g t c.args.variable (sym c.is_nf.ensures
    ∙ c.if-is_nf.true)))

pub returns : goal.returns
returns c = λ g t. answers _ (sets_variable g (c.args.store.now, t) c.args.variable c.args.place c.args.value
    c.replace_value-before.new.self (sym c.is_nf.ensures ∙ c.if-is_nf.false) c.replace_value-before.ensures.after)
