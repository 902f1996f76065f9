use Rattle.std.proofs.Common.{refl, rules, sym, ap, w64, ◌∙◌}
use Rattle.std.specs.Prelude.{pos, int_lt}
use Rattle.std.proofs.lemmas.Int.{to_z-of_z}
use Rattle.std.proofs.lemmas.Result.{err_from_is_err_and}
use Rattle.awk_machine.specs.Pieces.{nowhere}
use Rattle.awk_machine.specs.State.{Main}
use Rattle.awk_streams.proofs.Chain.{part, passes, stop}
use Rattle.awk_store.proofs.Leading.{led, takes}
use Rattle.awk_store.proofs.Acting.{acted}
use Rattle.awk_store.proofs.VariableSteps.{ok_at}
use Rattle.awk_input.proofs.MainSteps.{no_count, passes_operands}
use Rattle.awk_input.proofs.OperandSteps.{stays_at, to_next}
use Rattle.awk_input.proofs.operands.operand.Goals as goal

pub returns-in_err-count-clause-task : goal.returns-in_err-count-clause-task
returns-in_err-count-clause-task g c =
    let e = err_from_is_err_and c.from_residual.result c.from_residual.ensures.1 in
    rw (e.1, e.2) (λ m is. acted (no_count m (c.args.store.now, c.args.streams.now) c.argument_count.result _
    c.argument_count.ensures (sym c.at.ensures ∙ c.in_err-count.was)))

pub returns-in_default-clause-task : goal.returns-in_default-clause-task
returns-in_default-clause-task g c = λ m is.
    let less = sym (ap (λ (x : Main). int_lt (pos x.position) c.in_ok-count.count) c.main.ensures)
    ∙ (rw (c.in_default.is, to_z-of_z w64 c.in_ok-count.count (search rules)) at c.place_behind.ensures) in
    acted (passes_operands m (c.args.store.now, c.args.streams.now) c.in_ok-count.count c.pass_operands.new.store
    (sym c.argument_count.ensures ∙ ok_at nowhere c.argument_count.result c.in_ok-count.count
    (sym c.at.ensures ∙ c.in_ok-count.was)) less c.pass_operands.ensures)

pub returns-in_err-step-clause-task : goal.returns-in_err-step-clause-task
returns-in_err-step-clause-task g c =
    let e = err_from_is_err_and c.from_residual-in_err-step.result c.from_residual-in_err-step.ensures.1 in
    rw (e.1, e.2) (λ m is.
    let left = sym (ap (λ (x : Main). int_lt (pos x.position) c.in_ok-count.count) c.main.ensures)
    ∙ (rw (c.in-Some.is, to_z-of_z w64 c.in_ok-count.count (search rules)) at c.place_behind.ensures).0 in
    stop _ (λ k. refl) (led (to_next m (c.args.store.now, c.args.streams.now) c.in_ok-count.count
    (sym c.argument_count.ensures ∙ ok_at nowhere c.argument_count.result c.in_ok-count.count
    (sym c.at.ensures ∙ c.in_ok-count.was)) left))
    (takes (is.bound ∙ sym c.bound.ensures) (c.step.ensures c.args.streams.now)) c.in_err-step.was)

pub look-requires-clause-next : goal.look-requires-clause-next
look-requires-clause-next g c =
    (rw c.in-Some.is at c.place_behind.ensures).1 ∙ stays_at c.bound.result (c.args.store.now, c.args.streams.now)
    c.step.result (c.step.new.store, c.args.streams.now) _ (ap (λ (x : Main). x.position) c.main.ensures)
    (c.step.ensures c.args.streams.now)

pub returns-clause-task : goal.returns-clause-task
returns-clause-task g c = λ m is.
    let left = sym (ap (λ (x : Main). int_lt (pos x.position) c.in_ok-count.count) c.main.ensures)
    ∙ (rw (c.in-Some.is, to_z-of_z w64 c.in_ok-count.count (search rules)) at c.place_behind.ensures).0 in
    passes (part tt (led (to_next m (c.args.store.now, c.args.streams.now) c.in_ok-count.count
    (sym c.argument_count.ensures ∙ ok_at nowhere c.argument_count.result c.in_ok-count.count
    (sym c.at.ensures ∙ c.in_ok-count.was)) left))
    (takes (is.bound ∙ sym c.bound.ensures) (c.step.ensures c.args.streams.now)) c.in_ok-step.was)
    (c.look.ensures.task m is)
