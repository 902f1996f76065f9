use Rattle.std.proofs.Common.{sym}
use Rattle.awk_resolve.specs.Clash.{OneOf}
use Rattle.awk_resolve.specs.Search.{MiscallAt}
use Rattle.awk_resolve.proofs.Calling.{miscalled_here, none_miscalled}
use Rattle.awk_resolve.proofs.Searches.{none_more, none_of}
use Rattle.awk_resolve.proofs.faults.first_miscalled.Goals as goal

pub returns-in-Some : goal.returns-in-Some
returns-in-Some c =
    let found = rw c.as_slice.ensures at c.in-Some.ensures in
    miscalled_here c.args.parts.now c.args.known.now c.requires c.part-item.result c.in-Some.place
    (c.loop-part.part-index, c.loop-part-test.true, sym c.part-item.is) found

pub loop-part-preserved : goal.loop-part-preserved
loop-part-preserved c =
    let none = rw c.as_slice.ensures at c.in_default.ensures in
    none_more (λ p. OneOf (MiscallAt c.args.known.now) p.mentions) c.args.parts.now c.loop-part.part-index
    c.part-item.result c.loop-part-test.true c.part-item.is c.loop-part.invariant none

pub returns : goal.returns
returns c =
    none_miscalled c.args.parts.now c.args.known.now c.requires
    (none_of (λ p. OneOf (MiscallAt c.args.known.now) p.mentions) c.args.parts.now c.loop-part.part-index
    c.loop-part-test.false c.loop-part.invariant)
