-- So many significant digits of a double.
use Rattle.std.proofs.Common.{ℕ, zero, suc, ◌≡◌, ◌+◌, ◌-◌, ◌*◌, ◌/◌, ◌^◌, ◌<◌, ◌≤◌, List, [], ◌∷◌, ◌++◌, length, map}
use Rattle.std.proofs.Common.{replicate, reverse, take, Bool, true, false, ◌==◌, ◌⊎◌, inl, inr, true≢false}
use Rattle.std.proofs.Common.{refl, sym, ap, subst, ◌∙◌, arith, mul-pos}
use Rattle.std.specs.Bool.{if◌then◌else◌}
use Rattle.std.proofs.lemmas.Nat.{pow-add}
use Rattle.std.proofs.lemmas.Bool.{eq-eqb, ne_eqb}
use Rattle.std.proofs.lemmas.List.{length-append, length-map, length-replicate, length-reverse}
use Rattle.std.proofs.lemmas.Int.Digits.{length-digits_of-le}
use Rattle.std.specs.Float.{Float, nan, inf, fin, binary64, float_is_finite}
use Rattle.std.specs.Int.Digits.{digits_of}
use native.Mathlib.Nat.{mul-div_cancel}
use lib.Ieee.{up, down, of_bits}
use lib.Ieee.Nearest.{closest, closest_same, closest_mono}
use lib.Ieee.Fits.{down_pos}
use Rattle.awk_numbers.specs.Digits.{units_of}
use Rattle.awk_numbers.specs.Decimal.{padded, pointed}
use Rattle.awk_numbers.specs.Exponents.{figures, rounded_figures, mantissa, place, exponent_text, exponential}
use Rattle.awk_numbers.specs.Figures.{AreFigures, IsSize}
use Rattle.awk_numbers.proofs.Figures.{are_digits, below-lt, below-zero, ten_pos}
use Rattle.awk_numbers.proofs.Sizes.{text, with_zeros, closest_whole, zero_closest}

-- ---- of whole numbers
pub cut_part : (n c l : ℕ) → c ≤ l → closest n (10 ^ (l - c)) ≡ closest (n * 10 ^ c) (10 ^ l)
cut_part n c l h =
    let whole : 10 ^ l ≡ 10 ^ c * 10 ^ (l - c) = ap (λ (k : ℕ). 10 ^ k) (omega arith) ∙ pow-add 10 c (l - c) in
    closest_same n (10 ^ (l - c)) (n * 10 ^ c) (10 ^ l) (ten_pos (l - c)) (ten_pos l)
    (omega (arith, ap (λ (k : ℕ). n * k) whole))

pub raised_part : (n c l : ℕ) → l ≤ c → n * 10 ^ (c - l) ≡ closest (n * 10 ^ c) (10 ^ l)
raised_part n c l h =
    let whole : 10 ^ c ≡ 10 ^ l * 10 ^ (c - l) = ap (λ (k : ℕ). 10 ^ k) (omega arith) ∙ pow-add 10 l (c - l) in
    sym (closest_whole (n * 10 ^ (c - l)))
    ∙ closest_same (n * 10 ^ (c - l)) 1 (n * 10 ^ c) (10 ^ l) (omega arith) (ten_pos l)
    (omega (arith, ap (λ (k : ℕ). n * k) whole))

-- ---- of doubles
units_at : (x : Float) (n s : ℕ) → IsSize x n s → s ≤ 1074 → units_of x ≡ n * 10 ^ (1074 - s)
unfolding units_of
units_at nan n s h l = absurd h
units_at (inf t) n s h l = absurd h
units_at (fin t m e) n s h l =
    let all' : 1074 ≡ s + (1074 - s) = omega arith in
    let whole : 10 ^ 1074 ≡ 10 ^ s * 10 ^ (1074 - s) = ap (λ (k : ℕ). 10 ^ k) all' ∙ pow-add 10 s (1074 - s) in
    let parts : m * up e * 10 ^ 1074 ≡ n * 10 ^ (1074 - s) * down e =
    ap (λ (k : ℕ). m * up e * k) whole ∙ rearranged (m * up e) (10 ^ s) (10 ^ (1074 - s)) n (down e) h in
    ap (λ (k : ℕ). k / down e) parts ∙ mul-div_cancel (n * 10 ^ (1074 - s)) (down_pos e)
  where
    rearranged : (M p w n D : ℕ) → M * p ≡ n * D → M * (p * w) ≡ n * w * D
    rearranged M p w n D e = omega (arith, ap (λ (k : ℕ). k * w) e)

pub length_of : (n : ℕ) → length (text n) ≡ length (digits_of 10 n)
length_of n = length-map (digits_of 10 n) (λ d. 48 + d)

longer : (n z : ℕ) → 0 < n → length (digits_of 10 (n * 10 ^ z)) ≡ length (digits_of 10 n) + z
longer n z h =
    sym (length_of (n * 10 ^ z)) ∙ ap length (with_zeros n z h) ∙ length-append (text n) (replicate z 48)
    ∙ (λ i. length_of n i + length-replicate {A = ℕ} z 48 i)

module _ (x : Float) (digits : List ℕ) (n s : ℕ) (are : AreFigures digits n) (size : IsSize x n s) (few : s ≤ 1074)
  where
    own_length : length (digits_of 10 n) ≡ length digits
    own_length = ap length (are_digits digits n are) ∙ length-reverse digits

    pub figures_at : 0 < n → figures x ≡ length digits + (1074 - s)
    figures_at h =
        ap (λ (u : ℕ). length (digits_of 10 u)) (units_at x n s size few) ∙ longer n (1074 - s) h
        ∙ ap (λ (l : ℕ). l + (1074 - s)) own_length

    pub rounded_at : (count : ℕ) → 0 < n → closest (n * 10 ^ count) (10 ^ length digits) ≡ rounded_figures x count
    unfolding rounded_figures
    rounded_at count h =
        let z = 1074 - s in
        let wide : 10 ^ (length digits + z) ≡ 10 ^ length digits * 10 ^ z = pow-add 10 (length digits) z in
        closest_same (n * 10 ^ count) (10 ^ length digits) (n * 10 ^ z * 10 ^ count) (10 ^ (length digits + z))
        (ten_pos (length digits)) (ten_pos (length digits + z))
        (omega (arith, ap (λ (k : ℕ). n * 10 ^ count * k) wide))
        ∙ sym (λ i. closest (units_at x n s size few i * 10 ^ count) (10 ^ figures_at h i))

    pub at_most : (count : ℕ) → 0 < n → rounded_figures x count ≤ 10 ^ count
    at_most count h =
        let small : n < 10 ^ length digits = subst (λ (k : ℕ). k < 10 ^ length digits) are.value
        (below-lt digits (length digits) are.each) in
        let most : closest (n * 10 ^ count) (10 ^ length digits) ≤ closest (10 ^ count) 1 =
        closest_mono (n * 10 ^ count) (10 ^ length digits) (10 ^ count) 1 (ten_pos (length digits)) (omega arith)
        (omega (
          arith,
          Rattle.std.proofs.Common.mul-le-mul_right (10 ^ count) (below_is n (10 ^ length digits)
              small),
        )) in
        subst (λ (k : ℕ). k ≤ 10 ^ count) (rounded_at count h) (subst (λ (k : ℕ). closest (n * 10 ^ count)
        (10 ^ length digits) ≤ k) (closest_whole (10 ^ count)) most)
      where
        below_is : (a b : ℕ) → a < b → a ≤ b
        below_is a b h = omega arith

    pub some_units : 0 < n → 0 < units_of x
    some_units h = subst (λ (k : ℕ). 0 < k) (sym (units_at x n s size few)) (mul-pos h (ten_pos (1074 - s)))

    pub no_units : n ≡ 0 → units_of x ≡ 0
    no_units e = units_at x n s size few ∙ ap (λ (k : ℕ). k * 10 ^ (1074 - s)) e ∙ omega arith

-- ---- by whether they are rounded up to a power of ten
by_units : ℕ → ℕ → ℕ
by_units count u = closest (u * 10 ^ count) (10 ^ length (digits_of 10 u))

rounded_by : (x : Float) (count : ℕ) → rounded_figures x count ≡ by_units count (units_of x)
unfolding rounded_figures by_units
rounded_by x count = refl

none_by : (count : ℕ) → by_units count 0 ≡ 0
unfolding by_units
none_by count = zero_closest count

abbrev chosen : ℕ → ℕ → ℕ
chosen count q = if q == 10 ^ count then 10 ^ (count - 1) else q

abbrev stands : ℕ → ℕ → ℕ → ℕ → ℕ
stands count units f q = if units == 0 then 1074 else (if q == 10 ^ count then f else f - 1)

chosen_is : (x : Float) (count : ℕ) → mantissa x count ≡ chosen count (rounded_figures x count)
unfolding mantissa
chosen_is x count = refl

stands_is : (x : Float) (count : ℕ) → place x count ≡ stands count (units_of x) (figures x) (rounded_figures x count)
unfolding place
stands_is x count = refl

pub zero_digits : (x : Float) (count : ℕ) → units_of x ≡ 0 → 0 ≡ mantissa x count
zero_digits x count e =
    let none : rounded_figures x count ≡ 0 = rounded_by x count ∙ ap (by_units count) e ∙ none_by count in
    let other : (0 == 10 ^ count) ≡ false = ne_eqb 0 (10 ^ count) (λ h. omega (arith, h, ten_pos count)) in
    sym (chosen_is x count ∙ ap (chosen count) none ∙ rw other refl)

pub zero_place : (x : Float) (count : ℕ) → units_of x ≡ 0 → 1074 ≡ place x count
zero_place x count e =
    sym (stands_is x count ∙ ap (λ (u : ℕ). stands count u (figures x) (rounded_figures x count)) e)

some_other : (u : ℕ) → 0 < u → (u == 0) ≡ false
some_other u h = ne_eqb u 0 (λ e. omega (arith, e, h))

pub raised_digits : (x : Float) (count : ℕ) → rounded_figures x count ≡ 10 ^ count → mantissa x count ≡ 10 ^ (count - 1)
raised_digits x count e =
    let same : (rounded_figures x count == 10 ^ count) ≡ true = eq-eqb _ _ e in
    chosen_is x count ∙ rw same refl

pub raised_place : (x : Float) (count : ℕ) → 0 < units_of x → rounded_figures x count ≡ 10 ^ count
    → figures x ≡ place x count
raised_place x count h e =
    let same : (rounded_figures x count == 10 ^ count) ≡ true = eq-eqb _ _ e in
    let some : (units_of x == 0) ≡ false = some_other (units_of x) h in
    sym (stands_is x count ∙ rw (some, same) refl)

pub kept_digits : (x : Float) (count : ℕ) → (rounded_figures x count ≡ 10 ^ count → ⊥)
    → rounded_figures x count ≡ mantissa x count
kept_digits x count e =
    let other : (rounded_figures x count == 10 ^ count) ≡ false = ne_eqb _ _ e in
    sym (chosen_is x count ∙ rw other refl)

pub kept_place : (x : Float) (count : ℕ) → 0 < units_of x → (rounded_figures x count ≡ 10 ^ count → ⊥)
    → figures x - 1 ≡ place x count
kept_place x count h e =
    let other : (rounded_figures x count == 10 ^ count) ≡ false = ne_eqb _ _ e in
    let some : (units_of x == 0) ≡ false = some_other (units_of x) h in
    sym (stands_is x count ∙ rw (some, other) refl)

-- ---- by how long their text is
power_text : (count : ℕ) → text (10 ^ count) ≡ 49 ∷ replicate count 48
power_text count = let one : 10 ^ count ≡ 1 * 10 ^ count = omega arith in
    ap text one ∙ with_zeros 1 count (omega arith)

taken : (b count : ℕ) → take count (replicate (suc count) b) ≡ replicate count b
taken b zero = refl
taken b (suc count) = ap (λ (t : List ℕ). b ∷ t) (taken b count)

pub without_last : (count : ℕ) → 0 < count → take count (text (10 ^ count)) ≡ text (10 ^ (count - 1))
without_last zero h = absurd (omega arith)
without_last (suc count) h =
    let less : count ≡ suc count - 1 = omega arith in
    ap (take (suc count)) (power_text (suc count)) ∙ ap (λ (t : List ℕ). 49 ∷ t) (taken 48 count)
    ∙ sym (power_text count) ∙ ap (λ (k : ℕ). text (10 ^ k)) less

pub is_raised : (q count : ℕ) → q ≤ 10 ^ count → count < length (text q) → q ≡ 10 ^ count
is_raised q count h l = go (Rattle.std.proofs.Common.eq-or-lt_of_le h)
  where
    go : (q ≡ 10 ^ count) ⊎ (q < 10 ^ count) → q ≡ 10 ^ count
    go (inl e) = e
    go (inr s) = absurd (omega (arith, length-digits_of-le 10 count q (omega arith) s, length_of q, l))

pub not_raised : (q count : ℕ) → length (text q) ≤ count → q ≡ 10 ^ count → ⊥
not_raised q count h e = omega (
  arith,
  h,
  ap (λ (k : ℕ). length (text k)) e,
  ap length (power_text count),
  length-replicate {A = ℕ} count 48,
)

pub no_figures : (digits : List ℕ) (n : ℕ) → AreFigures digits n → length digits ≡ 0 → n ≡ 0
no_figures [] n are e = sym are.value ∙ below-zero []
no_figures (d ∷ ds) n are e = absurd (omega (arith, e))

pub some_figures : (digits : List ℕ) (n : ℕ) → AreFigures digits n → (length digits ≡ 0 → ⊥) → 0 < n
some_figures [] n are h = absurd (h refl)
some_figures (d ∷ ds) n are h =
    let most : 10 ^ length ds ≤ n = are.front (length ds) refl in
    omega (arith, most, ten_pos (length ds))

-- ---- both ways out
module _ (x : Float) (digits : List ℕ) (n s : ℕ) (are : AreFigures digits n) (size : IsSize x n s) (few : s ≤ 1074)
    (count : ℕ) (some' : 0 < n) where
  pub raised_all : 0 < count → count < length (text (rounded_figures x count))
      → (take count (text (rounded_figures x count)) ≡ text (mantissa x count))
      × (length digits + (1074 - s) ≡ place x count)
  raised_all h l =
      let e : rounded_figures x count ≡ 10 ^ count =
      is_raised (rounded_figures x count) count (at_most x digits n s are size few count some') l in (
        ap (λ (q : ℕ). take count (text q)) e ∙ without_last count h ∙ ap text (sym (raised_digits x count e)),
        sym (figures_at x digits n s are size few some')
            ∙ raised_place x count (some_units x digits n s are size few some') e,
      )

  pub kept_all : length (text (rounded_figures x count)) ≤ count
      → (text (rounded_figures x count) ≡ text (mantissa x count)) × (length digits + (1074 - s) - 1 ≡ place x count)
  kept_all l =
      let e = not_raised (rounded_figures x count) count l in (
        ap text (kept_digits x count e),
        ap (λ (k : ℕ). k - 1) (sym (figures_at x digits n s are size few some'))
            ∙ kept_place x count (some_units x digits n s are size few some') e,
      )

-- ---- what is no number has the texts of 0
pub by_mantissa : (x y : Float) (count : ℕ) → units_of x ≡ units_of y → mantissa x count ≡ mantissa y count
by_mantissa x y count e =
    chosen_is x count ∙ ap (chosen count) (rounded_by x count ∙ ap (by_units count) e ∙ sym (rounded_by y count))
    ∙ sym (chosen_is y count)

pub by_place : (x y : Float) (count : ℕ) → units_of x ≡ units_of y → place x count ≡ place y count
by_place x y count e =
    let same : rounded_figures x count ≡ rounded_figures y count =
    rounded_by x count ∙ ap (by_units count) e ∙ sym (rounded_by y count) in
    stands_is x count ∙ (λ i. stands count (e i) (length (digits_of 10 (e i))) (same i)) ∙ sym (stands_is y count)

pub no_units_of : (x : Float) → float_is_finite x ≡ false → units_of (of_bits binary64 0) ≡ units_of x
unfolding units_of float_is_finite of_bits
no_units_of nan h = refl
no_units_of (inf s) h = refl
no_units_of (fin s m e) h = absurd (true≢false h)

pub no_exponential : (letter : ℕ) (x : Float) (p : ℕ) → float_is_finite x ≡ false
    → exponential letter (of_bits binary64 0) p ≡ exponential letter x p
unfolding exponential
no_exponential letter x p h =
    let e = no_units_of x h in
    λ i. pointed p (padded (p + 1) (by_mantissa (of_bits binary64 0) x (p + 1) e i))
    ++ exponent_text letter (by_place (of_bits binary64 0) x (p + 1) e i)

-- ---- texts
pub as_padded : (least n : ℕ) (own : List ℕ) → own ≡ text n
    → replicate (least - length own) 48 ++ own ≡ padded least n
as_padded least n own e =
    (λ i. replicate (least - length (e i)) 48 ++ e i)
    ∙ ap (λ (l : ℕ). replicate (least - l) 48 ++ text n) (length_of n)

pub as_exponential : (letter : ℕ) (x : Float) (p : ℕ) (head tail : List ℕ)
    → head ≡ pointed p (padded (p + 1) (mantissa x (p + 1))) → tail ≡ exponent_text letter (place x (p + 1))
    → head ++ tail ≡ exponential letter x p
unfolding exponential
as_exponential letter x p head tail h t i = h i ++ t i
