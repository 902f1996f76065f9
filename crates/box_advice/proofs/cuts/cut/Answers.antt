use Rattle.std.proofs.Common.{arith}
use Rattle.box_advice.proofs.LogLinesLemmas.{back_is, first_here, front_is, has_no_from, none_here}
use Rattle.box_advice.proofs.cuts.cut.Goals as goal

pub returns-then-line-at-clause-found : goal.returns-then-line-at-clause-found
returns-then-line-at-clause-found c front back lacks e =
    let same = first_here c.args.byte c.loop-at.at c.args.line.now front back c.loop-at.invariant c.if-line-at.true
    lacks e in (
      front_is c.args.line.now front back c.args.byte c.loop-at.at e same,
      back_is c.args.line.now front back c.args.byte
          c.loop-at.at e same,
    )

pub returns-clause-none : goal.returns-clause-none
returns-clause-none c = has_no_from c.args.byte c.args.line.now
    (λ k l. c.loop-at.invariant k (omega (arith, l, c.loop-at-test.false)))

pub returns-clause-found : goal.returns-clause-found
returns-clause-found c front back lacks e =
    none_here c.args.byte c.args.line.now front back
    (λ k l. c.loop-at.invariant k (omega (arith, l, c.loop-at-test.false))) e
