use Rattle.std.proofs.Common.{refl, subst, arith}
use Rattle.awk_ere.specs.Matcher.{NoneTo}
use Rattle.awk_ere.proofs.Seeking.{none_begin, none_on, none_start, starts_on}
use Rattle.awk_ere.proofs.table.Matcher.has_match.Goals as goal

pub loop-tried-init : goal.loop-tried-init
loop-tried-init c = none_begin _ _ _ (omega arith)

pub loop-tried-preserved : goal.loop-tried-preserved
loop-tried-preserved c =
    let here = none_on _ _ _ _ _ c.loop-tried.invariant c.first_start-start.ensures in
    none_start _ _ _ _ (omega (arith, here.within, c.if-start-text.false)) here _ c.in-Some-false.field-0-test
    c.in-Some-false.ensures

pub returns-in-Some-true : goal.returns-in-Some-true
returns-in-Some-true c = (
  (λ t. (c.first_start-start.result, omega arith, c.in-Some-true.ensures.0 (rw c.in-Some-true.field-0-test refl))),
  λ run. refl,
)

pub returns-then-start-text : goal.returns-then-start-text
returns-then-start-text c =
    let here = none_on _ _ _ _ _ c.loop-tried.invariant c.first_start-start.ensures in
    starts_on _ _ _ _ (subst (NoneTo c.args.self.now c.args.text.now 0) c.if-start-text.true here) _
    c.has_at_end.ensures

pub returns : goal.returns
returns c = starts_on _ _ _ _ c.loop-tried.invariant _ c.has_start.ensures
