use Rattle.std.proofs.Common.{◌≡◌, ℕ, ◌%◌, w64, pos, arith}
use lib.IntN.{negsuc}
use Rattle.std.proofs.lemmas.Int.{ints, to_z-of_z}
use Rattle.awk_numbers.proofs.WholePowers.{pow_far, pow_minus_one_even, pow_minus_one_odd, pow_one_base, pow_reciprocal}
use Rattle.awk_numbers.proofs.WholePowers.{pow_zero_base}
use Rattle.awk_numbers.proofs.powers.whole_pow.Goals as goal

odd : (n : ℕ) → (n % 2 ≡ 0 → ⊥) → n % 2 ≡ 1
odd n h = omega arith

pub returns-in-0-2 : goal.returns-in-0-2
returns-in-0-2 c = let e : c.args.a ≡ pos 0 = omega (arith, ints) in rw e (pow_zero_base c.args.b (omega (arith, ints)))

pub returns-in-1 : goal.returns-in-1
returns-in-1 c = let e : c.args.a ≡ pos 1 = omega (arith, ints) in rw e (pow_one_base c.args.b)

pub returns-then-unsigned_abs-eq0 : goal.returns-then-unsigned_abs-eq0
returns-then-unsigned_abs-eq0 c =
    let e : c.args.a ≡ negsuc 0 = omega (arith, ints) in
    let size = rw (to_z-of_z w64 c.args.b c.ranges.b) at c.unsigned_abs.ensures.value in
    rw e (pow_minus_one_even c.args.b (rw size at c.if-unsigned_abs-eq0.true))

pub returns-else-unsigned_abs-eq0 : goal.returns-else-unsigned_abs-eq0
returns-else-unsigned_abs-eq0 c =
    let e : c.args.a ≡ negsuc 0 = omega (arith, ints) in
    let size = rw (to_z-of_z w64 c.args.b c.ranges.b) at c.unsigned_abs.ensures.value in
    rw e (pow_minus_one_odd c.args.b (rw size at (odd c.unsigned_abs.result c.if-unsigned_abs-eq0.false)))

pub returns-in_default-2 : goal.returns-in_default-2
returns-in_default-2 c = pow_reciprocal c.args.a c.args.b (omega (arith, ints)) (omega (arith, ints))

pub returns-in_default-3 : goal.returns-in_default-3
returns-in_default-3 c = pow_far c.args.a c.args.b (omega (arith, ints)) (omega (arith, ints))
