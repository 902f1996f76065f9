use Rattle.std.proofs.lemmas.Result.{err_from_is_err_and}
use Rattle.awk_store.proofs.Acting.{done}
use Rattle.awk_builtins.proofs.Matches.{then_so, else_so}
use Rattle.awk_builtins.proofs.patterns.matched_record.Goals as goal

pub returns-in_err-found : goal.returns-in_err-found
returns-in_err-found c = λ g t.
    let e = err_from_is_err_and c.from_residual.result c.from_residual.ensures.1 in
    rw (e.1, e.2) (else_so _ (c.matches_record.ensures g t) c.in_err-found.was)

pub returns : goal.returns
returns c = λ g t. rw c.truth_value.ensures
    (done (then_so c.in_ok-found.found (c.matches_record.ensures g t) c.in_ok-found.was))
