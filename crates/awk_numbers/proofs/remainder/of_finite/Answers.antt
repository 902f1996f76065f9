use Rattle.std.proofs.Common.{◌*◌, ◌^◌, ◌∙◌, ◌<◌, sym, subst, ℕ, arith}
use Rattle.awk_numbers.specs.Digits.{Splits}
use Rattle.awk_numbers.proofs.Patterns.{not_nan}
use Rattle.awk_numbers.proofs.Remainders.{no_quotient, by_zero, by_sizes, left_whole, left_over, positive_divisor}
use Rattle.awk_numbers.proofs.remainder.of_finite.Goals as goal

pub returns-then-divisor-eq0 : goal.returns-then-divisor-eq0
returns-then-divisor-eq0 c =
    sym no_quotient ∙ by_zero c.args.x c.args.y (2 ^ c.split-divisor.result.1) c.requires.dividend
    (subst (λ (n : ℕ). Splits c.args.y (n * 2 ^ c.split-divisor.result.1)) c.if-divisor-eq0.true
    c.split-divisor.ensures.value)

pub is_sign_negative-is_negative-requires : goal.is_sign_negative-is_negative-requires
is_sign_negative-is_negative-requires c = not_nan c.args.x c.requires.dividend

pub returns-then-power-least : goal.returns-then-power-least
returns-then-power-least c =
    let n = c.split-n.result.0 in
    let i = c.split-n.result.1 in
    let d = c.split-divisor.result.0 in
    let j = c.split-divisor.result.1 in
    let some : 0 < d = omega (arith, c.if-divisor-eq0.false) in
    c.from_units.ensures ∙ by_sizes c.args.x c.args.y c.is_sign_negative-is_negative.result (n * 2 ^ i) (d * 2 ^ j)
    (n * 2 ^ i) c.split-n.ensures.value c.split-divisor.ensures.value (positive_divisor d j some)
    (sym c.is_sign_negative-is_negative.ensures) (left_whole n d i j c.split-n.ensures.digits
    (c.split-divisor.ensures.leading (omega (arith, c.if-power-least.true))) c.if-power-least.true)

pub returns-else-power-least : goal.returns-else-power-least
returns-else-power-least c =
    let n = c.split-n.result.0 in
    let i = c.split-n.result.1 in
    let d = c.split-divisor.result.0 in
    let j = c.split-divisor.result.1 in
    let some : 0 < d = omega (arith, c.if-divisor-eq0.false) in
    c.from_units-else-power-least.ensures ∙ by_sizes c.args.x c.args.y c.is_sign_negative-is_negative.result (n * 2 ^ i)
    (d * 2 ^ j) (c.shifted_rem.result * 2 ^ j) c.split-n.ensures.value c.split-divisor.ensures.value
    (positive_divisor d j some) (sym c.is_sign_negative-is_negative.ensures)
    (left_over n d i j c.shifted_rem.result some c.if-power-least.false c.shifted_rem.ensures)
