use Rattle.std.proofs.lemmas.List.{take_all}
use Rattle.awk_resolve.specs.Search.{TwiceAt}
use Rattle.awk_resolve.proofs.Counting.{is_redefined, knows_nothing, knows_on, none_redefined, once_here, twice_here}
use Rattle.awk_resolve.proofs.Searches.{all_none, here_after, more_none, nothing_none}
use Rattle.awk_resolve.proofs.faults.add_all.Goals as goal

pub loop-part-init : goal.loop-part-init
loop-part-init c = record { knows = rw c.requires knows_nothing; none = nothing_none TwiceAt }

pub returns-in-Some-clause-place : goal.returns-in-Some-clause-place
returns-in-Some-clause-place c =
    is_redefined c.args.parts.now c.in-Some.place
    (here_after TwiceAt c.args.parts.now c.loop-part.part-index c.part-item.result c.in-Some.place c.loop-part-test.true
    c.part-item.is
    (twice_here _ c.part-item.result c.loop-part.known c.loop-part.invariant.knows c.in-Some.place c.in-Some.ensures))

pub loop-part-preserved : goal.loop-part-preserved
loop-part-preserved c = record {
  knows = knows_on c.args.parts.now c.loop-part.part-index c.part-item.result c.loop-part.known _ c.loop-part-test.true
      c.part-item.is c.loop-part.invariant.knows c.in_default.ensures c.in_ok-add.ensures;
  none = more_none TwiceAt c.args.parts.now c.loop-part.part-index c.part-item.result c.loop-part-test.true
      c.part-item.is c.loop-part.invariant.none
      (once_here _ c.part-item.result c.loop-part.known c.loop-part.invariant.knows c.in_default.ensures);
}

pub returns-clause-place : goal.returns-clause-place
returns-clause-place c = none_redefined c.args.parts.now (all_none TwiceAt c.args.parts.now c.loop-part.part-index
    c.loop-part-test.false c.loop-part.invariant.none)

pub returns-clause-whole : goal.returns-clause-whole
returns-clause-whole c = rw (take_all c.loop-part.part-index c.args.parts.now c.loop-part-test.false) at
    c.loop-part.invariant.knows
