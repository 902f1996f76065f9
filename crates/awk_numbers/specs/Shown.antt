-- What a conversion specification shows of a number: POSIX.1-2017, XBD 5, "File Format Notation". These are the texts
-- of the size, without a sign. The flag `#` keeps the point where no digit follows it, and the zeros at the end of
-- `%g`.
use Rattle.std.specs.Prelude.{ℕ, ◌+◌, ◌-◌, ◌*◌, ◌/◌, ◌==◌, Bool, true, ◌&&◌, ℤ, pos, List, [], ◌∷◌, ◌++◌, take, drop}
use Rattle.std.specs.Prelude.{Result, Ok, Err, if◌then◌else◌}
use Rattle.std.specs.Float.{Float, nan, inf, fin, two_to, float_to_unsigned}
use Rattle.std.specs.Float.Ieee
use Rattle.std.specs.Int.{w64, cast_unsigned}
use lib.Ieee.{up, down}
use Rattle.awk_numbers.specs.declared.number.Number.{Number}
use Rattle.awk_numbers.specs.declared.number.Number.TheVariants.{Whole, Real}
use Rattle.awk_numbers.specs.declared.number.NumberFault.{NumberFault}
use Rattle.awk_numbers.specs.Decimal.{fixed}
use Rattle.awk_numbers.specs.Exponents.{exponential, place}
use Rattle.awk_numbers.specs.General.{at_least_one, general, is_plain}
use Rattle.awk_numbers.specs.Numbers.{double_of, signed}
use Rattle.awk_numbers.specs.Operators.{whole_of}

-- by `%f`, with so many places
abbrev pub fixed_size : Bool → Float → ℕ → List ℕ
fixed_size sharp x places = if sharp && places == 0 then fixed x places ++ (46 ∷ []) else fixed x places

-- with a point behind the first byte
abbrev pub with_point : List ℕ → List ℕ
with_point text = take 1 text ++ (46 ∷ drop 1 text)

-- by `%e`, with so many places: one digit stands before them
abbrev pub exponential_size : Bool → ℕ → Float → ℕ → List ℕ
exponential_size sharp letter x places =
    if sharp && places == 0 then with_point (exponential letter x places) else exponential letter x places

-- of so many significant digits, with the zeros at the end: as `%e` has them where its exponent would be less than -4
-- or the count or more, and else as `%f` has them
abbrev pub full : ℕ → Float → ℕ → List ℕ
full letter x count =
    if is_plain count (place x count) then fixed_size true x (count + 1073 - place x count)
    else exponential_size true letter x (count - 1)

-- by `%g`, with this precision
abbrev pub general_size : Bool → ℕ → Float → ℕ → List ℕ
general_size sharp letter x precision =
    if sharp then full letter x (at_least_one precision) else general letter x (at_least_one precision)

-- the number without its fraction, of any size: 0 where it is none
abbrev pub integral_of : Float → ℤ
integral_of nan = pos 0
integral_of (inf s) = pos 0
integral_of (fin s m e) = signed s (m * up e / down e)

abbrev pub integral : Number → ℤ
integral (Whole n) = n
integral (Real x) = integral_of x

-- from 2 ^ 63 to below 2 ^ 64
abbrev pub is_wide : Float → Bool
is_wide x = Ieee.le (two_to 63) x && Ieee.lt x (two_to 64)

abbrev pub or_wide : Float → Result ℤ NumberFault → Result ℕ NumberFault
or_wide x (Ok n) = Ok (cast_unsigned w64 n)
or_wide x (Err e) = if is_wide x then Ok (float_to_unsigned w64 x) else Err e

-- the number without its fraction as 64 bits, which have a sign where it is below 2 ^ 63; F1 where it is outside of
-- -2 ^ 63 to 2 ^ 64 - 1
abbrev pub bits_of : Number → Result ℕ NumberFault
bits_of x = or_wide (double_of x) (whole_of x)
