use Rattle.std.proofs.Common.{refl}
use Rattle.std.proofs.lemmas.Result.{err_from_is_err_and}
use Rattle.awk_store.proofs.Acting.{lacking}
use Rattle.awk_builtins.proofs.SearchSteps.{matches_so}
use Rattle.awk_builtins.proofs.patterns.matches.Goals as goal

pub returns-in_err-is_match : goal.returns-in_err-is_match
returns-in_err-is_match c = λ g w.
    let e = err_from_is_err_and c.from_residual.result c.from_residual.ensures.1 in
    rw (e.1, e.2) (lacking refl)

pub returns : goal.returns
returns c = λ g w. matches_so g w c.args.ere.now c.args.text.now c.in_ok-is_match.field-0 c.in_ok-is_match.ensures
