use Rattle.awk_resolve.proofs.Doubles.{more_double, all_double}
use Rattle.awk_resolve.proofs.kinds.any_double.Goals as goal

pub loop-part-preserved : goal.loop-part-preserved
loop-part-preserved c =
    more_double c.args.kinds.now c.args.parts.now c.loop-part.part-index c.part-item.result c.loop-part-test.true
    c.part-item.is c.loop-part.invariant
    (λ d. let e = c.is_double.ensures.1 d in let f = c.if-is_double.false in cc)

pub returns : goal.returns
returns c = (
  (λ e. absurd (cc)),
  (λ d. absurd (all_double c.args.kinds.now c.args.parts.now c.loop-part.part-index c.loop-part-test.false
      c.loop-part.invariant d)),
)
