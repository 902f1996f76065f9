-- Numbers as IEEE 754 has them: a finite binary64 is m * 2 ^ e with a sign, and m * up e / down e is its size as a
-- fraction. A number is one value: it is `Whole` where it is whole and of a size up to 2 ^ 53, and -0 is 0.
use Rattle.std.specs.Prelude.{ℕ, ◌≡◌, ◌*◌, ◌/◌, ◌%◌, ◌^◌, ◌≤◌, ◌==◌, Bool, ◌&&◌, nat_le, T}
use Rattle.std.specs.Prelude.{ℤ, pos, neg_ℤ, Result, Ok, Err, if◌then◌else◌, unsigned_abs}
use Rattle.std.specs.Float.{Float, binary64, nan, inf, fin, two_to, minus_two_to}
use lib.Ieee.{fits, le, of_int, up, down}
use Rattle.awk_numbers.specs.declared.number.Number.{Number}
use Rattle.awk_numbers.specs.declared.number.Number.TheVariants.{Whole, Real}
use Rattle.awk_numbers.specs.declared.number.Numbers.{Numbers}
use Rattle.awk_numbers.specs.declared.number.Numbers.TheVariants as profile
use Rattle.awk_numbers.specs.declared.number.NumberFault.{NumberFault}
use Rattle.awk_numbers.specs.declared.number.NumberFault.TheVariants.{OutOfRange}

-- the whole number of this sign and size
abbrev pub signed : Bool → ℕ → ℤ
signed minus size = if minus then neg_ℤ (pos size) else pos size

-- the double nearest to a number: a whole one up to 2 ^ 53 is that double
abbrev pub double_of : Number → Float
double_of (Whole n) = of_int binary64 n
double_of (Real x) = x

-- the size is whole, and at most 2 ^ 53
abbrev pub is_counted : ℕ → ℕ → Bool
is_counted above below = above % below == 0 && nat_le (above / below) (2 ^ 53)

-- the number that a double is: neither an infinity nor what is no number is one
abbrev pub settled : Float → Result Number NumberFault
settled nan = Err OutOfRange
settled (inf s) = Err OutOfRange
settled (fin s m e) =
    if is_counted (m * up e) (down e) then Ok (Whole (signed s (m * up e / down e))) else Ok (Real (fin s m e))

-- a number of the profile: `fits` says that binary64 has the double
abbrev pub IsNumber : Numbers → Number → Type 0
IsNumber profile.Whole (Whole n) = unsigned_abs n ≤ 2 ^ 63
IsNumber profile.Whole (Real x) = ⊥
IsNumber profile.Double (Whole n) = unsigned_abs n ≤ 2 ^ 53
IsNumber profile.Double (Real x) = T (fits binary64 x) × (settled x ≡ Ok (Real x))

-- of a size up to 2 ^ 53
abbrev pub is_small : Float → Bool
is_small x = le (minus_two_to 53) x && le x (two_to 53)
