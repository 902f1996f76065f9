use Rattle.awk_resolve.specs.Clash.{NameAt}
use Rattle.awk_resolve.proofs.Clashing.{more_first, all_first}
use Rattle.awk_resolve.proofs.kinds.at_names.Goals as goal

pub loop-name-preserved : goal.loop-name-preserved
loop-name-preserved c =
    more_first (NameAt c.args.sought.now.kinds.now c.args.role.now) c.args.names.now c.loop-name.name-index
    c.name-item.result c.loop-name-test.true c.name-item.is
    c.loop-name.first c.at_name.result c.earlier-first.result c.loop-name.invariant c.at_name.ensures
    c.earlier-first.ensures

pub returns : goal.returns
returns c = all_first (NameAt c.args.sought.now.kinds.now c.args.role.now) c.args.names.now c.loop-name.name-index
    c.loop-name.first c.loop-name-test.false c.loop-name.invariant
