use Rattle.std.proofs.Common.{refl, ap}
use Rattle.std.specs.Prelude.{Some}
use Rattle.std.proofs.lemmas.Result.{err_from_is_err_and}
use Rattle.box_world.specs.Events.{OperandFile, Named}
use Rattle.awk_streams.proofs.Chain.{at_once, part, passes, stop, turned}
use Rattle.awk_store.proofs.Acting.{acted}
use Rattle.awk_input.specs.Operands.{begun_or}
use Rattle.awk_input.proofs.Restored.{lacks_at}
use Rattle.awk_input.proofs.files.begin_named.Goals as goal

pub returns-in_err-copy-clause-task : goal.returns-in_err-copy-clause-task
returns-in_err-copy-clause-task g c =
    let e = err_from_is_err_and c.from_residual.result c.from_residual.ensures.1 in
    rw (e.1, e.2) (λ m is p old mv. lacks_at mv)

pub returns-in_err-is_open-clause-task : goal.returns-in_err-is_open-clause-task
returns-in_err-is_open-clause-task g c =
    let e = err_from_is_err_and c.from_residual-in_err-is_open.result c.from_residual-in_err-is_open.ensures.1 in
    rw (e.1, e.2) (λ m is p old mv. stop _ (λ k. refl) (at_once p old c.args.world.now)
    ((rw c.bytes.ensures at (c.in_err-is_open.ensures.task m is c.args.store.now p old)) mv) refl)

pub returns-then-is_open-clause-task : goal.returns-then-is_open-clause-task
returns-then-is_open-clause-task g c = λ m is p old mv.
    passes (turned (part _ (at_once p old c.args.world.now)
    ((rw c.bytes.ensures at (c.open_file.ensures.task m is c.args.store.now p old)) mv) c.in_ok-is_open.was)
    (λ k. ap (λ b. begun_or c.args.text b k) c.if-is_open.true))
    (acted (c.begin.ensures m c.open_file.new.streams (Named OperandFile c.args.text)
    (ap (λ t. Some (Named OperandFile t)) c.in_ok-copy.ensures)))

pub returns-clause-task : goal.returns-clause-task
returns-clause-task g c = λ m is p old mv.
    passes (turned (part _ (at_once p old c.args.world.now)
    ((rw c.bytes.ensures at (c.open_file.ensures.task m is c.args.store.now p old)) mv) c.in_ok-is_open.was)
    (λ k. ap (λ b. begun_or c.args.text b k) c.if-is_open.false))
    (rw (c.as_slice.ensures, c.bytes-2.ensures) at (c.report.ensures.task m c.open_file.new.streams))

pub returns-clause-owns : goal.returns-clause-owns
returns-clause-owns g c = rw c.report.ensures.numbers c.open_file.ensures.owns
