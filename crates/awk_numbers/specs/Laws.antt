-- The laws of the two profiles.
use Rattle.std.specs.Prelude.{ℕ, ◌≡◌, ◌≢◌, ◌^◌, ◌≤◌, ℤ, pos, int_rem, unsigned_abs, Result, Ok}
use Rattle.std.specs.declared.cmp.Ordering.TheVariants.{Less, Equal}
use Rattle.awk_numbers.specs.declared.number.Number.{Number}
use Rattle.awk_numbers.specs.declared.number.Number.TheVariants.{Whole}
use Rattle.awk_numbers.specs.declared.number.Numbers.{Numbers}
use Rattle.awk_numbers.specs.declared.number.Numbers.TheVariants as profile
use Rattle.awk_numbers.specs.declared.number.NumberFault.{NumberFault}
use Rattle.awk_numbers.specs.Functions.{arc_tangent, cosine, sine}
use Rattle.awk_numbers.specs.Numbers.{IsNumber}
use Rattle.awk_numbers.specs.Operators.{order, neg, div}
use Rattle.awk_numbers.specs.Powers.{pow}

abbrev pub IsExact : ℤ → Type 0
IsExact z = unsigned_abs z ≤ 2 ^ 53

-- where the operator of profile whole gives a whole number up to that size, that of profile double gives the same
abbrev pub Restricts : (Numbers → Number → Number → Result Number NumberFault) → Type 0
Restricts operator = (m n z : ℤ) → IsExact m → IsExact n → IsExact z
    → operator profile.Whole (Whole m) (Whole n) ≡ Ok (Whole z)
    → operator profile.Double (Whole m) (Whole n) ≡ Ok (Whole z)

abbrev pub DivRestricts : Type 0
DivRestricts = (m n z : ℤ) → IsExact m → IsExact n → IsExact z → int_rem m n ≡ pos 0
    → div profile.Whole (Whole m) (Whole n) ≡ Ok (Whole z) → div profile.Double (Whole m) (Whole n) ≡ Ok (Whole z)

abbrev pub PowRestricts : Type 0
PowRestricts = (m z : ℤ) (n : ℕ) → IsExact m → IsExact (pos n) → IsExact z
    → pow profile.Whole (Whole m) (Whole (pos n)) ≡ Ok (Whole z)
    → pow profile.Double (Whole m) (Whole (pos n)) ≡ Ok (Whole z)

abbrev pub NegRestricts : Type 0
NegRestricts = (n z : ℤ) → IsExact n → IsExact z
    → neg profile.Whole (Whole n) ≡ Ok (Whole z) → neg profile.Double (Whole n) ≡ Ok (Whole z)

-- what an operator gives of numbers of a profile is one
abbrev pub Closed : (Numbers → Number → Number → Result Number NumberFault) → Type 0
Closed operator = (numbers : Numbers) (x y z : Number) → IsNumber numbers x → IsNumber numbers y
    → operator numbers x y ≡ Ok z → IsNumber numbers z

abbrev pub NegClosed : Type 0
NegClosed = (numbers : Numbers) (x z : Number) → IsNumber numbers x → neg numbers x ≡ Ok z → IsNumber numbers z

-- equal numbers are one value
abbrev pub OneValue : Numbers → Type 0
OneValue numbers = (x y : Number) → IsNumber numbers x → IsNumber numbers y → order x y ≡ Equal → x ≡ y

-- there is a result, a number of profile double
abbrev pub Gives : Result Number NumberFault → Type 0
Gives result = (z : Number) × (result ≡ Ok z) × IsNumber profile.Double z

-- each number has a sine and a cosine, and each point an angle
abbrev pub Waves : Type 0
Waves = (x : Number) → IsNumber profile.Double x → Gives (sine x) × Gives (cosine x)

abbrev pub Directions : Type 0
Directions = (y x : Number) → IsNumber profile.Double y → IsNumber profile.Double x → Gives (arc_tangent y x)

-- a number from 0 to below 1
abbrev pub IsFraction : Number → Type 0
IsFraction x =
    IsNumber profile.Double x × (order x (Whole (pos 0)) ≢ Less) × (order x (Whole (pos 1)) ≡ Less)
