use Rattle.std.proofs.Common.{◌+◌, drop}
use Rattle.std.proofs.lemmas.Result.{err_from_is_err_and}
use Rattle.awk_forms.proofs.Turns.{next_of}
use Rattle.awk_builtins.proofs.Rests.{drop_all}
use Rattle.awk_run.proofs.Preparing.{prepared_all, prepares_none, ready, unprepared}
use Rattle.awk_run.proofs.start.assign_all.Goals as goal

pub loop-pair-init : goal.loop-pair-init
loop-pair-init c = λ m t k is. unprepared _ _

pub returns-in_err-assign_pair : goal.returns-in_err-assign_pair
returns-in_err-assign_pair c =
    let e = err_from_is_err_and c.from_residual.result c.from_residual.ensures.1 in
    rw (e.1, e.2) (λ m t k is. prepares_none _
    (rw (next_of c.args.pairs.now c.loop-pair.pair-index c.pair-item.result c.pair-item.is c.loop-pair-test.true) at
    (c.loop-pair.invariant m t k is))
    (c.assign_pair.ensures m t k (drop (c.loop-pair.pair-index + 1) c.args.pairs.now) is) c.in_err-assign_pair.was)

pub loop-pair-preserved : goal.loop-pair-preserved
loop-pair-preserved c =
    λ m t k is. prepared_all (rw (next_of c.args.pairs.now c.loop-pair.pair-index c.pair-item.result c.pair-item.is
    c.loop-pair-test.true) at (c.loop-pair.invariant m t k is))
    (c.assign_pair.ensures m t k (drop (c.loop-pair.pair-index + 1) c.args.pairs.now) is) c.in_ok-assign_pair.was

pub returns : goal.returns
returns c = λ m t k is. ready (rw (drop_all c.args.pairs.now c.loop-pair.pair-index c.loop-pair-test.false) at
    (c.loop-pair.invariant m t k is))
