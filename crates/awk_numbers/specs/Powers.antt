-- Powers. POSIX.1-2017, XCU awk, "Expressions in awk", has `^` as the `pow()` of ISO C's doubles. In profile whole a
-- power is exact, or it is F1, and one over a power is truncated. In profile double it is exact where both numbers are
-- whole, the second is not below 0 and the power is of a size up to 2 ^ 53; else it is the formula's.
use Rattle.std.specs.Prelude.{suc, ◌^◌, ◌%◌, Bool, true, false, ◌&&◌, ◌==◌, nat_le, ℤ, pos, negsuc, unsigned_abs}
use Rattle.std.specs.Prelude.{int_div, Option, Some, None, Result, Ok, Err, if◌then◌else◌}
use Rattle.std.specs.Int.{int_pow}
use Rattle.std.specs.Float.{Float, binary64, float_zero, float_with_sign, trunc}
use Rattle.std.specs.Float.Ieee
use lib.Ieee.{of_bits}
use Rattle.awk_numbers.specs.declared.number.Number.{Number}
use Rattle.awk_numbers.specs.declared.number.Number.TheVariants.{Whole, Real}
use Rattle.awk_numbers.specs.declared.number.Numbers.{Numbers}
use Rattle.awk_numbers.specs.declared.number.Numbers.TheVariants as profile
use Rattle.awk_numbers.specs.declared.number.NumberFault.{NumberFault}
use Rattle.awk_numbers.specs.declared.number.NumberFault.TheVariants.{OutOfRange, ZeroDivisor}
use Rattle.awk_numbers.specs.Formula.{power}
use Rattle.awk_numbers.specs.Numbers.{double_of, settled}
use Rattle.awk_numbers.specs.Operators.{is_int_zero, is_zero, neg, ranged}

-- ---- profile whole
-- a to the power b. Where b is negative it is 1 / a^(-b), truncated, and F2 where a is zero.
abbrev pub whole_pow : ℤ → ℤ → Result Number NumberFault
whole_pow a (pos n) = ranged (int_pow a n)
whole_pow a (negsuc n) =
    if is_int_zero a then Err ZeroDivisor else Ok (Whole (int_div (pos 1) (int_pow a (suc n))))

-- ---- profile double
abbrev pub is_exact : ℤ → Bool
is_exact n = nat_le (unsigned_abs n) (2 ^ 53)

-- the power, where it is exact
abbrev pub exact_power : ℤ → ℤ → Option ℤ
exact_power m (pos n) = if is_exact (int_pow m n) then Some (int_pow m n) else None
exact_power m (negsuc n) = None

abbrev pub is_odd : Number → Bool
is_odd (Whole n) = unsigned_abs n % 2 == 1
is_odd (Real x) = false

abbrev pub is_below_zero : Number → Bool
is_below_zero x = Ieee.lt (double_of x) float_zero

abbrev pub is_whole : Number → Bool
is_whole (Whole n) = true
is_whole (Real x) = Ieee.eq (trunc binary64 x) x

-- by the formula: a power of the size, with a sign where x is below 0 and y odd
abbrev pub by_formula : Number → Number → Float
by_formula x y =
    if is_below_zero x && is_odd y then Ieee.neg (power (float_with_sign false (double_of x)) (double_of y))
    else power (float_with_sign false (double_of x)) (double_of y)

abbrev pub kept_or : Option ℤ → Float → Result Number NumberFault
kept_or (Some n) x = Ok (Whole n)
kept_or None x = settled x

-- y being whole, and not below 0
unfoldable pub raised : Number → Number → Result Number NumberFault
raised (Whole m) (Whole n) = kept_or (exact_power m n) (by_formula (Whole m) (Whole n))
raised x y = settled (by_formula x y)

-- 0 where the power is beyond the largest number
abbrev pub one_over : Result Number NumberFault → Result Number NumberFault
one_over (Err e) = Ok (Whole (pos 0))
one_over (Ok p) = settled (Ieee.div binary64 (of_bits binary64 0x3ff0_0000_0000_0000) (double_of p))

abbrev pub one_over_raised : Number → Result Number NumberFault → Result Number NumberFault
one_over_raised x (Err e) = Err e
one_over_raised x (Ok y) = one_over (raised x y)

-- x and y being no zeros
unfoldable pub some_power : Number → Number → Result Number NumberFault
some_power x y =
    if is_whole y then (if is_below_zero y then one_over_raised x (neg profile.Double y) else raised x y)
    else (if is_below_zero x then Err OutOfRange else settled (by_formula x y))

unfoldable pub double_pow : Number → Number → Result Number NumberFault
double_pow x y =
    if is_zero y then Ok (Whole (pos 1))
    else (if is_zero x then (if is_below_zero y then Err ZeroDivisor else Ok (Whole (pos 0))) else some_power x y)

abbrev pub pow : Numbers → Number → Number → Result Number NumberFault
pow profile.Whole (Whole m) (Whole n) = whole_pow m n
pow numbers x y = double_pow x y
