use Rattle.std.proofs.Common.{sym, ap, ◌∙◌}
use Rattle.awk_machine.specs.MainInput.{operand_of}
use Rattle.awk_streams.proofs.Chain.{done}
use Rattle.awk_input.specs.Operands.{is_assigning}
use Rattle.awk_input.proofs.OperandSteps.{assigns_so, empty_is, free_name, full_as, full_is, names_input, operand_empty}
use Rattle.awk_input.proofs.OperandSteps.{operand_sign}
use Rattle.awk_input.proofs.Restored.{goes_by, moved}
use Rattle.awk_input.proofs.operands.begin_operand.Goals as goal

pub returns-then-is_empty-clause-task : goal.returns-then-is_empty-clause-task
returns-then-is_empty-clause-task g c = λ m is p old mv.
    let e = empty_is c.bytes-bytes.result.now (sym c.is_empty.ensures ∙ c.if-is_empty.true) in
    done (goes_by mv (λ k s. operand_empty m c.args.text k s (sym c.bytes-bytes.ensures ∙ e)))

pub assign-requires : goal.assign-requires
assign-requires g c =
    let x = rw c.in-Some.is at c.assignment_sign.ensures in
    free_name c.args.host.now c.bytes-bytes.result.now c.in-Some.sign x.1 x.0

pub returns-in-Some-clause-task : goal.returns-in-Some-clause-task
returns-in-Some-clause-task g c = λ m is p old mv.
    let x = rw c.in-Some.is at c.assignment_sign.ensures in
    c.assign.ensures.task m is c.args.streams.now p old (moved mv (λ k s.
    ap (λ t. operand_of m t k s) (sym c.bytes-bytes.ensures)
    ∙ operand_sign m c.bytes-bytes.result.now c.in-Some.sign k s
    (full_is c.bytes-bytes.result.now (sym c.is_empty.ensures ∙ c.if-is_empty.false)) x.1
    (assigns_so c.args.host.now m is c.bytes-bytes.result.now ∙ x.0)))

pub returns-clause-task : goal.returns-clause-task
returns-clause-task g c = λ m is p old mv.
    let not = rw c.in_default.is at c.assignment_sign.ensures in
    c.begin_input.ensures.task m is p old
    (names_input m c.args.text p old (c.args.store.now, c.args.streams.now) c.name_input.new.store mv
    (full_as c.bytes-bytes.result.now c.args.text c.bytes-bytes.ensures
    (full_is c.bytes-bytes.result.now (sym c.is_empty.ensures ∙ c.if-is_empty.false)))
    (assigns_so c.args.host.now m is c.args.text ∙ ap (is_assigning c.args.host.now) (sym c.bytes-bytes.ensures) ∙ not)
    c.name_input.ensures)
