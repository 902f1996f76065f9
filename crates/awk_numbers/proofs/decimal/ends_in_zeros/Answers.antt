use Rattle.std.proofs.Common.{arith}
use Rattle.awk_numbers.proofs.Figures.{below-zero, above_zero, zeros_more}
use Rattle.awk_numbers.proofs.decimal.ends_in_zeros.Goals as goal

pub loop-place-init : goal.loop-place-init
loop-place-init c = below-zero c.args.digits.now

pub returns-then-digit-gt0-clause-no : goal.returns-then-digit-gt0-clause-no
returns-then-digit-gt0-clause-no c = λ t. above_zero c.args.digits.now c.loop-place.place c.args.count
    c.loop-place-test.true (λ e. omega (arith, e, c.digit_at-digit.ensures, c.if-digit-gt0.true))

pub loop-place-preserved : goal.loop-place-preserved
loop-place-preserved c = zeros_more c.args.digits.now c.loop-place.place c.loop-place.invariant
    (omega (arith, c.digit_at-digit.ensures, c.if-digit-gt0.false))
