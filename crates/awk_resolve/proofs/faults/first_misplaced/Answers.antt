use Rattle.std.proofs.Common.{sym}
use Rattle.awk_resolve.specs.Clash.{OneOf}
use Rattle.awk_resolve.specs.Search.{WordAt}
use Rattle.awk_resolve.proofs.Misplacing.{misplaced_here, none_misplaced}
use Rattle.awk_resolve.proofs.Searches.{none_more, none_of}
use Rattle.awk_resolve.proofs.faults.first_misplaced.Goals as goal

pub returns-in-Some-clause-stands : goal.returns-in-Some-clause-stands
returns-in-Some-clause-stands c =
    let found = rw c.as_slice.ensures at c.in-Some.ensures in
    misplaced_here c.args.parts.now c.part-item.result c.in-Some.place (
      c.loop-part.part-index,
      c.loop-part-test.true,
      sym c.part-item.is,
    ) found

pub loop-part-preserved : goal.loop-part-preserved
loop-part-preserved c =
    let none = rw c.as_slice.ensures at c.in_default.ensures in
    none_more (λ p. OneOf (WordAt p.role) p.mentions) c.args.parts.now c.loop-part.part-index c.part-item.result
    c.loop-part-test.true c.part-item.is c.loop-part.invariant none

pub returns-clause-none : goal.returns-clause-none
returns-clause-none c =
    none_misplaced c.args.parts.now
    (none_of (λ p. OneOf (WordAt p.role) p.mentions) c.args.parts.now c.loop-part.part-index c.loop-part-test.false
    c.loop-part.invariant)
