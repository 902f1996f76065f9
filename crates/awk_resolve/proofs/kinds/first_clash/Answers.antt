use Rattle.awk_resolve.specs.Clash.{PartAt}
use Rattle.awk_resolve.proofs.Agreeing.{none_agree, clashes}
use Rattle.awk_resolve.proofs.Clashing.{more_first, all_first}
use Rattle.awk_resolve.proofs.kinds.first_clash.Goals as goal

pub loop-part-preserved : goal.loop-part-preserved
loop-part-preserved c =
    let at = rw c.look-sought.ensures at c.at_part.ensures in
    more_first (PartAt c.args.kinds.now) c.args.parts.now c.loop-part.part-index c.part-item.result
    c.loop-part-test.true c.part-item.is
    c.loop-part.first c.at_part.result c.earlier-first.result c.loop-part.invariant at c.earlier-first.ensures

pub returns-clause-first : goal.returns-clause-first
returns-clause-first c =
    clashes c.args.parts.now c.requires.defined c.args.kinds.now c.requires.numbers c.requires.kinds c.loop-part.first
    (all_first (PartAt c.args.kinds.now) c.args.parts.now c.loop-part.part-index c.loop-part.first
    c.loop-part-test.false c.loop-part.invariant)

pub returns-clause-agree : goal.returns-clause-agree
returns-clause-agree c =
    none_agree c.args.parts.now c.requires.defined c.args.kinds.now c.requires.numbers c.requires.kinds
    c.loop-part.first
    (all_first (PartAt c.args.kinds.now) c.args.parts.now c.loop-part.part-index c.loop-part.first
    c.loop-part-test.false c.loop-part.invariant)
