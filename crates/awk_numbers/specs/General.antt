-- The text of a double by the conversion specification `%.Ng`: POSIX.1-2017, XBD 5. Of N significant digits (1 where N
-- is 0), as `%e` has it where its exponent would be less than -4 or N or more, and else as `%f` has it; zeros at the
-- end of what stands behind the point are left out, and the point where nothing stands behind it.
use Rattle.std.specs.Prelude.{ℕ, ◌≡◌, ◌<◌, ◌≤◌, ◌^◌, ◌+◌, ◌-◌, ◌==◌, ◌&&◌, Bool, nat_le, nat_lt}
use Rattle.std.specs.Prelude.{List, [], ◌∷◌, ◌++◌, length, if◌then◌else◌}
use Rattle.std.specs.Float.{Float, is_sign_negative}
use Rattle.awk_numbers.specs.Decimal.{fixed, padded, pointed}
use Rattle.awk_numbers.specs.Digits.{rounded}
use Rattle.awk_numbers.specs.Exponents.{exponent_text, mantissa, place}

-- without such bytes at the end
abbrev pub stripped : ℕ → List ℕ → List ℕ
stripped last [] = []
stripped last (b ∷ bs) = if b == last && length (stripped last bs) == 0 then [] else b ∷ stripped last bs

-- with a point before so many digits: without the zeros at the end, and without the point where it is last then
abbrev pub shortened : ℕ → List ℕ → List ℕ
shortened places text = if places == 0 then text else stripped 46 (stripped 48 text)

-- the exponent, which is counted from -1074, is -4 or more and less than the count of digits
abbrev pub is_plain : ℕ → ℕ → Bool
is_plain count exponent = nat_le 1070 exponent && nat_lt exponent (count + 1074)

abbrev pub plain : Float → ℕ → List ℕ
plain x places = shortened places (fixed x places)

abbrev pub scientific : ℕ → Float → ℕ → List ℕ
scientific letter x count =
    shortened (count - 1) (pointed (count - 1) (padded count (mantissa x count)))
    ++ exponent_text letter (place x count)

-- without the sign, of so many significant digits
unfoldable pub general : ℕ → Float → ℕ → List ℕ
general letter x count =
    if is_plain count (place x count) then plain x (count + 1073 - place x count) else scientific letter x count

abbrev pub at_least_one : ℕ → ℕ
at_least_one n = if n == 0 then 1 else n

-- q is the size as six significant digits, the first of which stands at k, counted from the place of 10 ^ -1074; where
-- they are written without an exponent it is also the size with so many places behind the point
abbrev pub AreSix : Float → ℕ → ℕ → Type 0
AreSix x q k = (q ≡ mantissa x 6) × (k ≡ place x 6) × (q < 10 ^ 6) × (k ≤ 2000)
    × (1070 ≤ k → k < 1080 → rounded x (1079 - k) ≡ q)

-- with the sign, which is the number's
abbrev pub general_text : ℕ → Float → ℕ → List ℕ
general_text letter x precision =
    if is_sign_negative x then 45 ∷ general letter x (at_least_one precision)
    else general letter x (at_least_one precision)
