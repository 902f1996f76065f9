-- The digits of a double.
use Rattle.std.specs.Prelude.{ℕ, ◌≡◌, ◌*◌, ◌/◌, ◌^◌, ◌≤◌, ⊤}
use Rattle.std.specs.Float.{Float, nan, inf, fin}
use lib.Ieee.{up, down}
use lib.Ieee.Nearest.{closest}

-- the size times a power of ten, to the nearest whole number, a tie to the even one
unfoldable pub rounded : Float → ℕ → ℕ
rounded nan places = 0
rounded (inf s) places = 0
rounded (fin s m e) places = closest (m * up e * 10 ^ places) (down e)

-- the size is n times 2 ^ -1074
abbrev pub Splits : Float → ℕ → Type 0
Splits nan n = ⊥
Splits (inf s) n = ⊥
Splits (fin s m e) n = m * up e * 2 ^ 1074 ≡ n * down e

-- the size is 2 ^ 63 or more, or there is none
abbrev pub IsLarge : Float → Type 0
IsLarge nan = ⊤
IsLarge (inf s) = ⊤
IsLarge (fin s m e) = 2 ^ 63 * down e ≤ m * up e

-- how many units of 10 ^ -1074 the size is: each double is a whole number of them
unfoldable pub units_of : Float → ℕ
units_of nan = 0
units_of (inf s) = 0
units_of (fin s m e) = m * up e * 10 ^ 1074 / down e
