use Rattle.std.proofs.Common.{sym, ap}
use Rattle.std.proofs.lemmas.Result.{err_from_is_err_and}
use Rattle.awk_machine.specs.Pieces.{give}
use Rattle.awk_text.specs.declared.value.Value.TheVariants as v
use Rattle.awk_store.proofs.Acting.{done, reworded}
use Rattle.awk_builtins.proofs.Matches.{then_so, else_so}
use Rattle.awk_builtins.proofs.patterns.constant.Goals as goal

pub returns-in_err-ere-clause-plays : goal.returns-in_err-ere-clause-plays
returns-in_err-ere-clause-plays c = λ g w.
    let e = err_from_is_err_and c.from_residual.result c.from_residual.ensures.1 in
    rw (e.1, e.2) (else_so _ (c.check.ensures.constant g w) c.in_err-ere.was)

pub returns-clause-plays : goal.returns-clause-plays
returns-clause-plays c = λ g w. done (reworded (then_so c.in_ok-ere.ere (c.check.ensures.constant g w) c.in_ok-ere.was)
    (λ k. ap (λ x. give (v.Text x) k) (sym c.in_ok-ere.ensures.ere.0)))
