-- The operators. POSIX.1-2017, XCU awk, "Expressions in awk", has them on the numbers of ISO C's `double`; IEEE 754
-- says what these give: the exact result, rounded once, to the nearest, a tie to the even one. In profile whole a
-- result is exact or F1, and a quotient is truncated.
use Rattle.std.specs.Prelude.{◌^◌, Bool, false, not, ◌&&◌, ◌==◌, nat_lt, ℤ, pos, negsuc, ◌+ℤ◌, ◌-ℤ◌, ◌*ℤ◌}
use Rattle.std.specs.Prelude.{neg_ℤ, int_div, int_rem, Result, Ok, Err, if◌then◌else◌, cond}
use Rattle.std.specs.Ordering.{int_cmp}
use Rattle.std.specs.declared.cmp.Ordering.{Ordering}
use Rattle.std.specs.declared.cmp.Ordering.TheVariants.{Less, Equal, Greater}
use Rattle.std.specs.Float.{Float, binary64, float_zero, trunc, two_to, minus_two_to, float_to_signed}
use Rattle.std.specs.Int.{w64}
use Rattle.std.specs.Float.Ieee
use Rattle.awk_numbers.specs.declared.number.Number.{Number}
use Rattle.awk_numbers.specs.declared.number.Number.TheVariants.{Whole, Real}
use Rattle.awk_numbers.specs.declared.number.Numbers.{Numbers}
use Rattle.awk_numbers.specs.declared.number.Numbers.TheVariants as profile
use Rattle.awk_numbers.specs.declared.number.NumberFault.{NumberFault}
use Rattle.awk_numbers.specs.declared.number.NumberFault.TheVariants.{OutOfRange, ZeroDivisor}
use Rattle.awk_numbers.specs.Numbers.{double_of, settled}

-- from -2 ^ 63 to 2 ^ 63 - 1: `negsuc n` is -(n + 1)
abbrev pub is_in_range : ℤ → Bool
is_in_range (pos n) = nat_lt n (2 ^ 63)
is_in_range (negsuc n) = nat_lt n (2 ^ 63)

-- a whole number of 64 bits, or F1
abbrev pub ranged : ℤ → Result Number NumberFault
ranged z = if is_in_range z then Ok (Whole z) else Err OutOfRange

abbrev pub is_int_zero : ℤ → Bool
is_int_zero (pos n) = n == 0
is_int_zero (negsuc n) = false

abbrev pub is_zero : Number → Bool
is_zero (Whole n) = is_int_zero n
is_zero (Real x) = Ieee.eq x float_zero

abbrev pub add : Numbers → Number → Number → Result Number NumberFault
add profile.Whole (Whole m) (Whole n) = ranged (m +ℤ n)
add numbers x y = settled (Ieee.add binary64 (double_of x) (double_of y))

abbrev pub sub : Numbers → Number → Number → Result Number NumberFault
sub profile.Whole (Whole m) (Whole n) = ranged (m -ℤ n)
sub numbers x y = settled (Ieee.sub binary64 (double_of x) (double_of y))

abbrev pub mul : Numbers → Number → Number → Result Number NumberFault
mul profile.Whole (Whole m) (Whole n) = ranged (m *ℤ n)
mul numbers x y = settled (Ieee.mul binary64 (double_of x) (double_of y))

-- a divisor of zero is F2
abbrev pub div : Numbers → Number → Number → Result Number NumberFault
div profile.Whole (Whole m) (Whole n) = if is_int_zero n then Err ZeroDivisor else ranged (int_div m n)
div numbers x y =
    if is_zero y then Err ZeroDivisor else settled (Ieee.div binary64 (double_of x) (double_of y))

-- what the truncated quotient leaves, with the sign of the dividend: exact
abbrev pub rem : Numbers → Number → Number → Result Number NumberFault
rem profile.Whole (Whole m) (Whole n) = if is_int_zero n then Err ZeroDivisor else Ok (Whole (int_rem m n))
rem numbers x y =
    if is_zero y then Err ZeroDivisor else settled (Ieee.rem binary64 (double_of x) (double_of y))

-- the remainder of whole numbers: `rem` of profile whole, and in profile double for operands of a size up to 2 ^ 53
abbrev pub whole_rem : ℤ → ℤ → Result ℤ NumberFault
whole_rem m n = if is_int_zero n then Err ZeroDivisor else Ok (int_rem m n)

abbrev pub neg : Numbers → Number → Result Number NumberFault
neg profile.Whole (Whole n) = ranged (neg_ℤ n)
neg numbers x = settled (Ieee.neg (double_of x))

abbrev pub truth : Number → Bool
truth x = not (is_zero x)

abbrev pub double_order : Float → Float → Ordering
double_order x y = cond (Ieee.lt x y) Less (cond (Ieee.eq x y) Equal Greater)

abbrev pub order : Number → Number → Ordering
order (Whole m) (Whole n) = int_cmp m n
order x y = double_order (double_of x) (double_of y)

-- without the fraction
abbrev pub truncated : Number → Result Number NumberFault
truncated (Whole n) = Ok (Whole n)
truncated (Real x) = settled (trunc binary64 x)

-- from -2 ^ 63 to below 2 ^ 63
abbrev pub is_bounded : Float → Bool
is_bounded x = Ieee.le (minus_two_to 63) x && Ieee.lt x (two_to 63)

-- without the fraction, F1 where 64 bits can't hold it
abbrev pub whole_of : Number → Result ℤ NumberFault
whole_of (Whole n) = Ok n
whole_of (Real x) = if is_bounded x then Ok (float_to_signed w64 x) else Err OutOfRange
