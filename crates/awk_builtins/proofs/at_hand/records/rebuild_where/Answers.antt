use Rattle.std.proofs.Common.{refl}
use Rattle.std.proofs.lemmas.Result.{err_from_is_err_and}
use Rattle.awk_store.proofs.Acting.{at_rest, done, lacking}
use Rattle.awk_builtins.proofs.at_hand.records.rebuild_where.Goals as goal

pub returns-then-not-wanted-clause-plays : goal.returns-then-not-wanted-clause-plays
returns-then-not-wanted-clause-plays c = λ g t q. done (at_rest q _)

pub returns-in_err-rebuild-clause-plays : goal.returns-in_err-rebuild-clause-plays
returns-in_err-rebuild-clause-plays c = λ g t q.
    let e = err_from_is_err_and c.from_residual.result c.from_residual.ensures.1 in
    rw (e.1, e.2, c.rebuild.ensures) (lacking refl)

pub returns-clause-plays : goal.returns-clause-plays
returns-clause-plays c = λ g t q. rw c.rebuild.ensures (done (at_rest q _))
