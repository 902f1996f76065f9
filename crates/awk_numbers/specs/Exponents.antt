-- The significant digits of a double, and its text by the conversion specification `%.Ne`: POSIX.1-2017, XBD 5. The
-- exact number is rounded once, to the nearest with so many digits, a tie to the even digit.
use Rattle.std.specs.Prelude.{ℕ, ◌+◌, ◌-◌, ◌*◌, ◌^◌, ◌==◌, nat_lt, List, ◌∷◌, ◌++◌, length, if◌then◌else◌}
use Rattle.std.specs.Int.Digits.{digits_of}
use Rattle.std.specs.Float.{Float, is_sign_negative}
use lib.Ieee.Nearest.{closest}
use Rattle.awk_numbers.specs.Digits.{units_of}
use Rattle.awk_numbers.specs.Decimal.{padded, pointed}

-- how many digits the size has from the first to the place of 10 ^ -1074: none for 0
abbrev pub figures : Float → ℕ
figures x = length (digits_of 10 (units_of x))

-- the size as so many digits, or 10 ^ count where it is rounded up to that
unfoldable pub rounded_figures : Float → ℕ → ℕ
rounded_figures x count = closest (units_of x * 10 ^ count) (10 ^ figures x)

-- the digits: 0 of 0
unfoldable pub mantissa : Float → ℕ → ℕ
mantissa x count = if rounded_figures x count == 10 ^ count then 10 ^ (count - 1) else rounded_figures x count

-- where the first of them stands, counted from the place of 10 ^ -1074: that of 0 stands at 10 ^ 0
unfoldable pub place : Float → ℕ → ℕ
place x count =
    if units_of x == 0 then 1074
    else (if rounded_figures x count == 10 ^ count then figures x else figures x - 1)

-- a letter, a sign and at least two digits
abbrev pub exponent_text : ℕ → ℕ → List ℕ
exponent_text letter place =
    letter ∷ (if nat_lt place 1074 then 45 ∷ padded 2 (1074 - place) else 43 ∷ padded 2 (place - 1074))

-- without the sign
unfoldable pub exponential : ℕ → Float → ℕ → List ℕ
exponential letter x places =
    pointed places (padded (places + 1) (mantissa x (places + 1))) ++ exponent_text letter (place x (places + 1))

-- with the sign, which is the number's
abbrev pub exponential_text : ℕ → Float → ℕ → List ℕ
exponential_text letter x places =
    if is_sign_negative x then 45 ∷ exponential letter x places else exponential letter x places
