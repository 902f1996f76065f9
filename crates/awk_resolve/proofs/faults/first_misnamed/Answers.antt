use Rattle.std.proofs.Common.{sym}
use Rattle.awk_resolve.specs.Search.{MisnamedAt}
use Rattle.awk_resolve.proofs.Searches.{none_more, none_of}
use Rattle.awk_resolve.proofs.Naming.{misnamed_here, none_misnamed}
use Rattle.awk_resolve.proofs.faults.first_misnamed.Goals as goal

pub returns-in-Some : goal.returns-in-Some
returns-in-Some c =
    let found = rw c.in-Some.is at c.in_ok-place.ensures in
    misnamed_here c.args.parts.now c.args.known.now c.requires c.part-item.result c.in-Some.place
    (c.loop-part.part-index, c.loop-part-test.true, sym c.part-item.is) found

pub loop-part-preserved : goal.loop-part-preserved
loop-part-preserved c =
    let none = rw c.in_default.is at c.in_ok-place.ensures in
    none_more (λ p. MisnamedAt c.args.known.now p.role) c.args.parts.now c.loop-part.part-index c.part-item.result
    c.loop-part-test.true c.part-item.is c.loop-part.invariant none

pub returns : goal.returns
returns c =
    none_misnamed c.args.parts.now c.args.known.now c.requires
    (none_of (λ p. MisnamedAt c.args.known.now p.role) c.args.parts.now c.loop-part.part-index c.loop-part-test.false
    c.loop-part.invariant)
