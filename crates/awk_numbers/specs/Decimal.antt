-- The texts of a double by the conversion specification `%.Nf`: POSIX.1-2017, XBD 5. The exact number is rounded once,
-- to the nearest with so many digits behind the point, a tie to the even digit.
use Rattle.std.specs.Prelude.{ℕ, ◌+◌, ◌-◌, ◌==◌, List, ◌∷◌, ◌++◌, length, map, take, drop, replicate, if◌then◌else◌}
use Rattle.std.specs.Int.Digits.{digits_of}
use Rattle.std.specs.Float.{Float, is_sign_negative}
use Rattle.awk_numbers.specs.Digits.{rounded}

-- decimal digits, with zeros before them where they are fewer; 0 has none of its own
abbrev pub padded : ℕ → ℕ → List ℕ
padded least n = replicate (least - length (digits_of 10 n)) 48 ++ map (λ d. 48 + d) (digits_of 10 n)

-- digits with a point before so many of them, and no point before none
abbrev pub pointed : ℕ → List ℕ → List ℕ
pointed places digits =
    if places == 0 then digits else take (length digits - places) digits ++ (46 ∷ drop (length digits - places) digits)

-- without the sign
unfoldable pub fixed : Float → ℕ → List ℕ
fixed x places = pointed places (padded (places + 1) (rounded x places))

-- with the sign, which is the number's: -0.04 with one place is `-0.0`
abbrev pub fixed_text : Float → ℕ → List ℕ
fixed_text x places = if is_sign_negative x then 45 ∷ fixed x places else fixed x places
