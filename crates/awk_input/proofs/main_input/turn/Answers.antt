use Rattle.std.proofs.Common.{refl, sym, ap, ◌∙◌}
use Rattle.std.proofs.lemmas.Result.{err_from_is_err_and}
use Rattle.awk_machine.specs.State.{Main}
use Rattle.awk_streams.proofs.Chain.{done, part, stop}
use Rattle.awk_store.proofs.Leading.{led}
use Rattle.awk_store.proofs.Acting.{acted}
use Rattle.awk_input.proofs.MainSteps.{has_ended, to_operand}
use Rattle.awk_input.proofs.main_input.turn.Goals as goal

pub returns-then-main-clause-task : goal.returns-then-main-clause-task
returns-then-main-clause-task g c =
    λ m is. acted (has_ended m (c.args.store.now, c.args.streams.now) (sym (ap (λ (x : Main). x.ended) c.main.ensures)
    ∙ c.if-main.true))

pub returns-in_err-operand-clause-task : goal.returns-in_err-operand-clause-task
returns-in_err-operand-clause-task g c =
    let e = err_from_is_err_and c.from_residual.result c.from_residual.ensures.1 in
    let on = sym (ap (λ (x : Main). x.ended) c.main.ensures) ∙ c.if-main.false in
    let none = sym (ap (λ (x : Main). x.current) c.main-2.ensures) ∙ c.is_nothing.ensures c.if-is_nothing.true in
    rw (e.1, e.2) (λ m is. stop _ (λ k. refl) (led (to_operand m (c.args.store.now, c.args.streams.now) on none))
    (c.in_err-operand.ensures.task m is) refl)

pub returns-then-is_nothing-clause-task : goal.returns-then-is_nothing-clause-task
returns-then-is_nothing-clause-task g c =
    let on = sym (ap (λ (x : Main). x.ended) c.main.ensures) ∙ c.if-main.false in
    let none = sym (ap (λ (x : Main). x.current) c.main-2.ensures) ∙ c.is_nothing.ensures c.if-is_nothing.true in
    λ m is. done (part tt (led (to_operand m (c.args.store.now, c.args.streams.now) on none))
    (c.operand.ensures.task m is) c.in_ok-operand.was)

pub take_standard-requires-clause-ended : goal.take_standard-requires-clause-ended
take_standard-requires-clause-ended g c = sym (ap (λ (x : Main). x.ended) c.main.ensures) ∙ c.if-main.false

pub take_standard-requires-clause-current : goal.take_standard-requires-clause-current
take_standard-requires-clause-current g c = sym (ap (λ (x : Main). x.current) c.main-3.ensures)
    ∙ c.is_standard.ensures c.if-is_standard.true

pub returns-then-is_standard-clause-task : goal.returns-then-is_standard-clause-task
returns-then-is_standard-clause-task g c = λ m is. c.take_standard.ensures.task m

pub returns-clause-task : goal.returns-clause-task
returns-clause-task g c = λ m is. c.take_file.ensures.task m (sym (ap (λ (x : Main). x.ended) c.main.ensures)
    ∙ c.if-main.false)
