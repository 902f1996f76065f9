-- Powers of zero, one and minus one, and of the rest.
use Rattle.std.proofs.Common.{◌≡◌, ℕ, suc, zero, ◌/◌, ◌%◌, ◌^◌, ◌<◌, ◌≤◌, ◌==◌, Bool, true, false, cond, ℤ, pos, neg_ℤ}
use Rattle.std.proofs.Common.{◌<ℤ◌, ◌≤ℤ◌, Ok, Err, refl, ap, ◌∙◌, arith}
use lib.IntN.{negsuc}
use Rattle.std.proofs.Math.Nat.{pow-zero, pow-suc, div-eq_of_lt}
use Rattle.std.proofs.Math.Pow.{pow_mono}
use Rattle.std.proofs.lemmas.Nat.{mul-le, pow_pos}
use Rattle.std.proofs.lemmas.Bool.{le-ltb, ne_eqb}
use Rattle.std.proofs.lemmas.Int.{ints}
use Rattle.std.specs.Prelude.{int_div, unsigned_abs}
use Rattle.awk_numbers.specs.declared.number.Number.TheVariants.{Whole}
use Rattle.awk_numbers.specs.declared.number.NumberFault.TheVariants.{OutOfRange}
use Rattle.awk_numbers.specs.Operators.{ranged}
use Rattle.awk_numbers.specs.Powers.{whole_pow}

pub one-pow : (n : ℕ) → 1 ^ n ≡ 1
one-pow zero = pow-zero 1
one-pow (suc n) = pow-suc 1 n ∙ omega (arith, one-pow n)

pub zero-pow : (n : ℕ) → 0 < n → 0 ^ n ≡ 0
zero-pow zero h = absurd (omega arith)
zero-pow (suc n) h = pow-suc 0 n ∙ omega arith

pub two-pow-le : (a n : ℕ) → 2 ≤ a → 2 ^ n ≤ a ^ n
two-pow-le a zero h = omega (arith, pow-zero 2, pow-zero a)
two-pow-le a (suc n) h = omega (arith, pow-suc 2 n, pow-suc a n, mul-le (2 ^ n) 2 (a ^ n) a (two-pow-le a n h) h)

pub two_from_suc : (a n : ℕ) → 2 ≤ a → 2 ≤ a ^ suc n
two_from_suc a n h = omega (
  arith,
  pow-suc a n,
  two-pow-le a n h,
  pow_pos n,
  mul-le 1 2 (a ^ n) a (omega (arith, two-pow-le a n h, pow_pos n)) h,
)

-- a power that is not negative
pub pow_zero_base : (b : ℤ) → pos 0 <ℤ b → Ok (Whole (pos 0)) ≡ whole_pow (pos 0) b
pow_zero_base (negsuc n) h = absurd (omega (arith, ints))
pow_zero_base (pos n) h = rw (zero-pow n (omega (arith, ints))) refl

pub pow_one_base : (b : ℤ) → Ok (Whole (pos 1)) ≡ whole_pow (pos 1) b
pow_one_base (pos n) = rw (one-pow n) refl
pow_one_base (negsuc n) = rw (one-pow (suc n)) refl

pub pow_minus_one_even : (b : ℤ) → unsigned_abs b % 2 ≡ 0 → Ok (Whole (pos 1)) ≡ whole_pow (negsuc 0) b
pow_minus_one_even (pos n) h = rw h (rw (one-pow n) refl)
pow_minus_one_even (negsuc n) h = rw h (rw (one-pow (suc n)) refl)

pub pow_minus_one_odd : (b : ℤ) → unsigned_abs b % 2 ≡ 1 → Ok (Whole (negsuc 0)) ≡ whole_pow (negsuc 0) b
pow_minus_one_odd (pos n) h = rw h (rw (one-pow n) refl)
pow_minus_one_odd (negsuc n) h = rw h (rw (one-pow (suc n)) refl)

-- a base of two or more, or minus two or less
abbrev pub IsLarge : ℤ → Type 0
IsLarge a = 2 ≤ unsigned_abs a

one_over : (k : ℕ) → 2 ≤ k → 1 / k ≡ 0
one_over k h = div-eq_of_lt (omega arith)

-- one over a power, by the sign of the power
one_over_signed : (even : Bool) (k : ℕ) → 2 ≤ k → pos 0 ≡ int_div (pos 1) (cond even (pos k) (neg_ℤ (pos k)))
one_over_signed true k h = rw (one_over k h) refl
one_over_signed false zero h = absurd (omega arith)
one_over_signed false (suc k) h = rw (one_over (suc k) h) refl

pub pow_reciprocal : (a b : ℤ) → IsLarge a → b <ℤ pos 0 → Ok (Whole (pos 0)) ≡ whole_pow a b
pow_reciprocal a (pos n) h low = absurd (omega (arith, ints))
pow_reciprocal (pos m) (negsuc n) h low = rw (ne_eqb m 0 (λ e. omega arith))
    (rw (one_over (m ^ suc n) (two_from_suc m n h)) refl)
pow_reciprocal (negsuc m) (negsuc n) h low =
    ap (λ (z : ℤ). Ok (Whole z)) (one_over_signed (suc n % 2 == 0) (suc m ^ suc n) (two_from_suc (suc m) n h))

-- out of range, by the sign of the power
far_signed : (even : Bool) (k : ℕ) → 2 ^ 64 ≤ k → Err OutOfRange ≡ ranged (cond even (pos k) (neg_ℤ (pos k)))
far_signed true k h = rw (le-ltb k (2 ^ 63) (omega arith)) refl
far_signed false zero h = absurd (omega arith)
far_signed false (suc k) h = rw (le-ltb k (2 ^ 63) (omega arith)) refl

two_far : (m n : ℕ) → 2 ≤ m → 64 ≤ n → 2 ^ 64 ≤ m ^ n
two_far m n h far = omega (arith, two-pow-le m n h, pow_mono {i = 64} {j = n} far)

pub pow_far : (a b : ℤ) → IsLarge a → pos 64 ≤ℤ b → Err OutOfRange ≡ whole_pow a b
pow_far a (negsuc n) h far = absurd (omega (arith, ints))
pow_far (pos m) (pos n) h far = far_signed true (m ^ n) (two_far m n h (omega (arith, ints)))
pow_far (negsuc m) (pos n) h far = far_signed (n % 2 == 0) (suc m ^ n) (two_far (suc m) n h (omega (arith, ints)))
