use Rattle.std.proofs.Common.{◌∙◌, sym}
use Rattle.awk_numbers.proofs.Remainders.{no_quotient, no_dividend, no_divisor, by_infinite}
use Rattle.awk_numbers.proofs.remainder.remainder.Goals as goal

pub returns-then-not-is_finite : goal.returns-then-not-is_finite
returns-then-not-is_finite c =
    sym no_quotient ∙ no_dividend c.args.x c.args.y (sym c.is_finite.ensures.value ∙ c.if-not-is_finite.true)

pub returns-then-is_nan : goal.returns-then-is_nan
returns-then-is_nan c = sym no_quotient ∙ no_divisor c.args.x c.args.y (sym c.is_nan.ensures.value ∙ c.if-is_nan.true)

pub returns-then-not-is_finite-2 : goal.returns-then-not-is_finite-2
returns-then-not-is_finite-2 c =
    by_infinite c.args.x c.args.y (sym c.is_finite.ensures.value ∙ c.if-not-is_finite.false)
    (sym c.is_nan.ensures.value ∙ c.if-is_nan.false)
    (sym c.is_finite-else-is_nan.ensures.value ∙ c.if-not-is_finite-2.true)
