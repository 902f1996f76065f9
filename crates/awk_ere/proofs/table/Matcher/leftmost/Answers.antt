use Rattle.std.proofs.Common.{◌≡◌, length, subst, arith}
use Rattle.awk_ere.specs.Matcher.{NoneTo}
use Rattle.awk_ere.proofs.Seeking.{none_begin, none_more, none_on, found_at, sought_later}
use Rattle.awk_ere.proofs.table.Matcher.leftmost.Goals as goal

pub loop-at-init : goal.loop-at-init
loop-at-init c = none_begin _ _ _ c.requires

pub loop-at-preserved : goal.loop-at-preserved
loop-at-preserved c =
    let here = none_on _ _ _ _ _ c.loop-at.invariant c.first_start-start.ensures in
    none_more _ _ _ _ (omega (arith, here.within, c.if-start-text.false))
    (rw c.in-Some-None.field-0-is at c.in-Some-None.ensures) here

pub returns-in-Some-Some : goal.returns-in-Some-Some
returns-in-Some-Some c = found_at _ _ _ _ _ (rw c.in-Some-Some.field-0-is at c.in-Some-Some.ensures)
    (none_on _ _ _ _ _ c.loop-at.invariant c.first_start-start.ensures)

pub returns-in-None : goal.returns-in-None
returns-in-None c = none_on _ _ _ _ _ c.loop-at.invariant c.first_start-start.ensures

pub returns-then-budget-left : goal.returns-then-budget-left
returns-then-budget-left c = none_on _ _ _ _ _ c.loop-at.invariant c.first_start-start.ensures

pub returns-then-start-text : goal.returns-then-start-text
returns-then-start-text c =
    let here = none_on _ _ _ _ _ c.loop-at.invariant c.first_start-start.ensures in
    sought_later _ _ _ _ _ (subst (NoneTo c.args.self.now c.args.text.now c.args.from) c.if-start-text.true here)
    c.find_at_end.ensures

pub returns : goal.returns
returns c =
    let e : c.loop-at.at ≡ length c.args.text.now = omega (arith, c.loop-at.invariant.within) in
    sought_later _ _ _ _ _ (subst (NoneTo c.args.self.now c.args.text.now c.args.from) e c.loop-at.invariant)
    c.find_at_end-2.ensures
