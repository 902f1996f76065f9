use Rattle.std.proofs.Common.{sym, ◌∙◌}
use Rattle.awk_input.proofs.OperandSteps.{assigning, no_sign, not_assigning}
use Rattle.awk_input.proofs.operands.assignment_sign.Goals as goal
use Rattle.awk_input.proofs.operands.assignment_sign.Goals.{else-sign-text-via-then-sign-text+else-can_assign}
use Rattle.awk_input.proofs.operands.assignment_sign.Goals.{else-sign-text-via-else-sign-text}

pub returns-then-can_assign : goal.returns-then-can_assign
returns-then-can_assign c =
    let is = c.name_length-sign.ensures.length in (
      assigning c.args.host.now c.args.text.now c.name_length-sign.result is c.if-sign-text.true
          (sym c.can_assign.ensures ∙ c.if-can_assign.true),
      is,
      c.if-sign-text.true,
    )

pub returns : goal.returns
returns c = elim c.else-sign-text.branch [
  | else-sign-text-via-then-sign-text+else-can_assign w ↦ not_assigning c.args.host.now c.args.text.now
      c.name_length-sign.result c.name_length-sign.ensures.length (sym w.can_assign.ensures ∙ w.if-can_assign.false)
  | else-sign-text-via-else-sign-text w ↦ no_sign c.args.host.now c.args.text.now c.name_length-sign.result
      c.name_length-sign.ensures.length w.if-sign-text.false
]
