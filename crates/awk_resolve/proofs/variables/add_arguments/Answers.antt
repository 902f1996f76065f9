use Rattle.std.proofs.Common.{arith}
use Rattle.awk_resolve.proofs.Growing.{arguments_on}
use Rattle.awk_resolve.proofs.variables.add_arguments.Goals as goal

pub loop-arg-preserved : goal.loop-arg-preserved
loop-arg-preserved c = arguments_on c.args.parameters.now _ _ _ c.arg-item.result c.args.args.now c.loop-arg.arg-index
    (omega arith) c.arg-item.is c.in_ok-add_argument.ensures c.loop-arg.invariant
