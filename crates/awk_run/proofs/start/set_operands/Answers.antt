use Rattle.std.proofs.Common.{◌≡◌, length, arith}
use Rattle.std.proofs.lemmas.Result.{err_from_is_err_and}
use Rattle.awk_forms.proofs.Turns.{next_of}
use Rattle.awk_builtins.proofs.Rests.{drop_all}
use Rattle.awk_run.proofs.Preparing.{prepared, prepares_not, ready, unprepared}
use Rattle.awk_run.proofs.start.set_operands.Goals as goal

pub loop-n-init : goal.loop-n-init
loop-n-init c = (λ m t k. unprepared _ _, omega arith)

pub returns-in_err-set_argument : goal.returns-in_err-set_argument
returns-in_err-set_argument c =
    let e = err_from_is_err_and c.from_residual.result c.from_residual.ensures.1 in
    rw (e.1, e.2) (λ m t k. prepares_not _
    (rw (next_of c.args.operands.now c.loop-n.n c.index-operands-n.result c.index-operands-n.is c.loop-n-test.true) at
    (c.loop-n.invariant.0 m t k))
    (rw c.bytes.ensures at (c.set_argument.ensures m t)) c.in_err-set_argument.was)

pub loop-n-preserved : goal.loop-n-preserved
loop-n-preserved c = (
  λ m t k. prepared (rw (next_of c.args.operands.now c.loop-n.n c.index-operands-n.result c.index-operands-n.is
      c.loop-n-test.true) at (c.loop-n.invariant.0 m t k)) (rw c.bytes.ensures at (c.set_argument.ensures m t))
      c.in_ok-set_argument.was,
  let below = c.loop-n-test.true in omega (arith, below),
)

pub returns : goal.returns
returns c =
    let within = c.loop-n.invariant.1 in
    let past = c.loop-n-test.false in
    let all : c.loop-n.n ≡ length c.args.operands.now = omega (arith, within, past) in
    λ m t k. ready (rw all at (rw (drop_all c.args.operands.now c.loop-n.n past) at (c.loop-n.invariant.0 m t k)))
