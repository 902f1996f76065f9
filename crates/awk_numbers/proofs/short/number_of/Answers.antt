use Rattle.std.proofs.Common.{◌+◌, ◌^◌, ◌<◌, ◌≤◌, refl, sym, subst, arith, ℕ}
use Rattle.awk_numbers.proofs.Figures.{below-zero}
use Rattle.awk_numbers.proofs.SixDigits.{below_six, sum_more, unit_more}
use Rattle.awk_numbers.proofs.short.number_of.Goals as goal

pub loop-i-init : goal.loop-i-init
loop-i-init c = (sym (below-zero c.args.digits.now), refl)

pub overflow_add-sum : goal.overflow_add-sum
overflow_add-sum c =
    let xs = c.args.digits.now in
    let more = sum_more xs c.loop-i.i c.loop-i.sum c.from.result c.loop-i.unit c.loop-i.invariant.0
    c.loop-i.invariant.1 c.from.ensures in
    let small = below_six xs (c.loop-i.i + 1) c.requires.figures
    (omega (arith, c.loop-i-test.true, c.requires.few)) in
    record { fits = omega (arith, more, small) }

pub loop-i-preserved : goal.loop-i-preserved
loop-i-preserved c = (
  sum_more c.args.digits.now c.loop-i.i c.loop-i.sum c.from.result c.loop-i.unit c.loop-i.invariant.0
      c.loop-i.invariant.1 c.from.ensures,
  unit_more c.loop-i.i c.loop-i.unit c.loop-i.invariant.1,
)

pub returns-clause-six : goal.returns-clause-six
returns-clause-six c =
    let xs = c.args.digits.now in
    let all' : c.loop-i.i ≤ 6 = omega (arith, c.requires.few) in
    subst (λ (k : ℕ). k < 10 ^ 6) (sym c.loop-i.invariant.0) (below_six xs c.loop-i.i c.requires.figures all')
