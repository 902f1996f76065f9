use Rattle.std.proofs.Common.{arith}
use Rattle.awk_program.specs.View.{variable_of}
use Rattle.awk_lowering.specs.Lowered.{array_in}
use Rattle.awk_lowering.specs.Made.{names_in, scope_in}
use Rattle.awk_lowering.proofs.Carried.{turned_plain}
use Rattle.awk_lowering.proofs.names.arrays_in.Goals as goal

pub loop-member-preserved : goal.loop-member-preserved
loop-member-preserved c =
    let v = rw c.bytes.ensures at c.variable.ensures in
    turned_plain (variable_of (names_in c.args.context.now)) (array_in (scope_in c.args.context.now)) _ _ _ _
    c.member-item.result c.args.members.now c.loop-member.member-index (omega arith) c.member-item.is v
    c.in_ok-push.ensures c.loop-member.invariant
