use Rattle.std.proofs.Common.{◌≡◌, ◌<◌, ◌*◌, ◌^◌, ◌%◌, ap, arith, ℕ}
use Rattle.std.proofs.lemmas.Nat.{one_shl, pow_below}
use Rattle.std.proofs.lemmas.Float.{not_nan_f64_bits}
use Rattle.awk_numbers.proofs.Remainders.{low_unit, high_unit}
use Rattle.awk_numbers.proofs.remainder.unit.Goals as goal

pub float_from_bits-result : goal.float_from_bits-result
float_from_bits-result c =
    let k = c.args.power in
    let b = 1 * 2 ^ k % 18446744073709551616 in
    let small : 2 ^ k < 2 ^ 52 = pow_below k 52 c.if-power-lt52.true in
    let is : b ≡ 2 ^ k = one_shl k 64 (omega (arith, c.if-power-lt52.true)) in
    not_nan_f64_bits b (omega (arith, is, small))

pub float_from_bits-result-else-power-lt52 : goal.float_from_bits-result-else-power-lt52
float_from_bits-result-else-power-lt52 c =
    not_nan_f64_bits (c.from.result * 4503599627370496) (omega (
      arith,
      c.from.ensures,
      c.requires,
      c.if-power-lt52.false,
    ))

pub returns-then-power-lt52 : goal.returns-then-power-lt52
returns-then-power-lt52 c =
    low_unit c.args.power _ c.if-power-lt52.true (one_shl c.args.power 64 (omega (arith, c.if-power-lt52.true)))

pub returns-else-power-lt52 : goal.returns-else-power-lt52
returns-else-power-lt52 c =
    high_unit c.args.power _ c.if-power-lt52.false c.requires
    (ap (λ (n : ℕ). n * 4503599627370496) c.from.ensures)
