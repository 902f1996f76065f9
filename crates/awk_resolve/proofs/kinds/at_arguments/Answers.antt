use Rattle.awk_resolve.specs.Clash.{ArgumentAt}
use Rattle.awk_resolve.proofs.Clashing.{more_first, all_first}
use Rattle.awk_resolve.proofs.kinds.at_arguments.Goals as goal

pub loop-arg-preserved : goal.loop-arg-preserved
loop-arg-preserved c =
    more_first (ArgumentAt c.args.sought.now.kinds.now c.args.role.now) c.args.args.now c.loop-arg.arg-index
    c.arg-item.result c.loop-arg-test.true c.arg-item.is
    c.loop-arg.first c.at_argument.result c.earlier-first.result c.loop-arg.invariant c.at_argument.ensures
    c.earlier-first.ensures

pub returns : goal.returns
returns c = all_first (ArgumentAt c.args.sought.now.kinds.now c.args.role.now) c.args.args.now c.loop-arg.arg-index
    c.loop-arg.first c.loop-arg-test.false c.loop-arg.invariant
