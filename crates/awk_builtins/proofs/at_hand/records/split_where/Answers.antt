use Rattle.std.proofs.lemmas.Result.{err_from_is_err_and}
use Rattle.awk_store.proofs.Acting.{at_rest, done}
use Rattle.awk_builtins.proofs.AtHand.{splits}
use Rattle.awk_builtins.proofs.Matches.{else_so}
use Rattle.awk_builtins.proofs.at_hand.records.split_where.Goals as goal

pub returns-in_err-rebuild_where : goal.returns-in_err-rebuild_where
returns-in_err-rebuild_where c = λ g t q.
    let e = err_from_is_err_and c.from_residual.result c.from_residual.ensures.1 in
    rw (e.1, e.2) (else_so _ (c.rebuild_where.ensures.plays g t q) c.in_err-rebuild_where.was)

pub returns-then-not-split : goal.returns-then-not-split
returns-then-not-split c = λ g t q. rw c.rebuild_where.ensures.same (done (at_rest q _))

pub returns : goal.returns
returns c = λ g t q.
    done (splits g t c.args.store.now c.field_count.new.self q
    (rw c.rebuild_where.ensures.same at c.field_count.ensures.others)
    (rw c.rebuild_where.ensures.same at c.field_count.ensures.kept))
