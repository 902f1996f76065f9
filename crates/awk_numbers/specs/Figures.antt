-- Whole numbers of any size by their decimal digits, the last one first.
use Rattle.std.specs.Prelude.{ℕ, zero, suc, ◌≡◌, ◌+◌, ◌*◌, ◌^◌, ◌<◌, ◌≤◌, List, length, slice_index}
use Rattle.std.specs.Float.{Float, nan, inf, fin}
use lib.Ieee.{up, down}

-- what the first so many of them stand for
unfoldable pub below : List ℕ → ℕ → ℕ
below digits zero = 0
below digits (suc i) = below digits i + slice_index digits i * 10 ^ i

abbrev pub AllFigures : List ℕ → Type 0
AllFigures digits = (i : ℕ) → slice_index digits i < 10

-- they are n's, and no zero stands at its front
pub record AreFigures (digits : List ℕ) (n : ℕ) : Type 0 where
  pub value : below digits (length digits) ≡ n
  pub each : AllFigures digits
  pub front : (k : ℕ) → length digits ≡ suc k → 10 ^ k ≤ n

-- the size of a double is n * 10 ^ -places
abbrev pub IsSize : Float → ℕ → ℕ → Type 0
IsSize nan n places = ⊥
IsSize (inf s) n places = ⊥
IsSize (fin s m e) n places = m * up e * 10 ^ places ≡ n * down e
