-- Numbers over powers of two, to the nearest whole one.
use Rattle.std.specs.Prelude.{ℕ, ◌≡◌, ◌-◌, ◌*◌, ◌^◌, ◌<◌, ◌≤◌, ◌+◌}
use Rattle.std.proofs.Common.{rules, List, [], take, ap, sym, arith, refl, ◌∙◌}
use Rattle.std.specs.Float.{Float, nan, inf, fin}
use lib.Ieee.{up, down}
use lib.Ieee.Nearest.{closest, closest_same, closest_mono}
use lib.Ieee.Fits.{down_pos}
use lib.Ieee.Digits.{back}
use native.Mathlib.Nat.{eq_of_mul-eq-mul_right, div-one, mod-one, mul-le-mul}
use lib.Pow.{pow_pos, pow_mono, pow-add}
use Rattle.std.proofs.Common.{Fits, w64}
use Rattle.std.proofs.Math.Nat.{pow-le-pow_right}
use Rattle.std.specs.Prelude.{false, length, map, replicate, ◌++◌}
use Rattle.std.specs.Int.Digits.{digits_of}
use Rattle.std.proofs.lemmas.List.{length-append, length-map, length-replicate}
use Rattle.std.specs.Float.{binary64, is_sign_negative}
use lib.Ieee.{of_bits, is_nan}
use Rattle.std.proofs.Common.{subst, T, true, true≢false}
use Rattle.awk_numbers.proofs.Sizes.{no_size}
use Rattle.std.specs.Float.{float_is_finite}
use Rattle.awk_numbers.specs.Decimal.{fixed, padded, pointed}
use Rattle.awk_numbers.specs.Digits.{Splits, rounded, IsLarge}

-- what is below half of the power is nothing
small : (n u : ℕ) → n * 2 < u → 0 ≡ closest n u
small n u h =
    let most : closest n u ≤ 0 = closest_mono n u 1 2 (omega arith) (omega arith) (omega arith) in
    omega (arith, most)

pub vanishes : (n shift : ℕ) → n < 2 ^ 117 → 118 < shift → 0 ≡ closest n (2 ^ shift)
vanishes n shift h k =
    let most : 2 ^ 118 ≤ 2 ^ shift = pow_mono {i = 118} {j = shift} (omega arith) in
    small n (2 ^ shift) (omega (arith, most))

pub small_power : (power turn : ℕ) → power ≡ 10 ^ turn → turn < 19 → Fits w64 (power * 10)
small_power power turn e h =
    let most : 10 ^ turn ≤ 10 ^ 18 = pow-le-pow_right {n = 10} (omega arith) {i = turn} {j = 18} (omega arith) in
    record { fits = omega (arith, most, e) }

-- a fraction with the factor w taken off
off : (M d u w P D t : ℕ) → 0 < w → u * w ≡ t → M * t ≡ d * w * D → d * P * D ≡ M * P * u
off M d u w P D t W E V = eq_of_mul-eq-mul_right w W (d * P * D) (M * P * u) (omega (
  arith,
  ap (λ (k : ℕ). M * P * k) E,
  ap (λ (k : ℕ). k * P) V,
))

up_to : (M d u w P D t : ℕ) → 0 < t → u * t ≡ w → M * t ≡ d * w * D → d * P * u * D ≡ M * P * 1
up_to M d u w P D t W E V = eq_of_mul-eq-mul_right t W (d * P * u * D) (M * P * 1)
    (omega (arith, ap (λ (k : ℕ). d * P * D * k) E, ap (λ (k : ℕ). k * P) V))

pub over : (x : Float) (d k p : ℕ) → Splits x (d * 2 ^ k) → k ≤ 1074 → closest (d * 10 ^ p) (2 ^ (1074 - k))
    ≡ rounded x p
unfolding rounded
over nan d k p v h = absurd v
over (inf s) d k p v h = absurd v
over (fin s m e) d k p v h =
    closest_same (d * 10 ^ p) (2 ^ (1074 - k)) (m * up e * 10 ^ p) (down e) (pow_pos (1074 - k)) (down_pos e)
    (off (m * up e) d (2 ^ (1074 - k)) (2 ^ k) (10 ^ p) (down e) (2 ^ 1074) (pow_pos k) (sym (pow-add 2 (1074 - k) k)
    ∙ ap (λ (n : ℕ). 2 ^ n) (back 1074 k h)) v)

whole : (q : ℕ) → closest q 1 ≡ q
whole q = rw (div-one q, mod-one q) refl

pub above : (x : Float) (d k p : ℕ) → Splits x (d * 2 ^ k) → 1074 ≤ k → d * 10 ^ p * 2 ^ (k - 1074) ≡ rounded x p
unfolding rounded
above nan d k p v h = absurd v
above (inf s) d k p v h = absurd v
above (fin s m e) d k p v h =
    sym (whole (d * 10 ^ p * 2 ^ (k - 1074)))
    ∙ closest_same (d * 10 ^ p * 2 ^ (k - 1074)) 1 (m * up e * 10 ^ p) (down e) (omega arith) (down_pos e)
    (up_to (m * up e) d (2 ^ (k - 1074)) (2 ^ k) (10 ^ p) (down e) (2 ^ 1074) (pow_pos 1074)
    (sym (pow-add 2 (k - 1074) 1074) ∙ ap (λ (n : ℕ). 2 ^ n) (back k 1074 h)) v)

-- what 128 bits hold
pub number_small : (d p n : ℕ) → d < 2 ^ 53 → p ≤ 19 → n ≡ d * 10 ^ p → n < 2 ^ 117
number_small d p n h k e =
    let most : 10 ^ p ≤ 10 ^ 19 = pow-le-pow_right {n = 10} (omega arith) {i = p} {j = 19} (omega arith) in
    let both : d * 10 ^ p ≤ 2 ^ 53 * 10 ^ 19 = mul-le-mul {n₁ = d} {m₁ = 10 ^ p} {n₂ = 2 ^ 53} {m₂ = 10 ^ 19}
    (omega arith) most in
    omega (arith, both, e)

pub shifted_small : (n s : ℕ) → n < 2 ^ 117 → s ≤ 10 → n * 2 ^ s < 2 ^ 128
shifted_small n s h k =
    let most : 2 ^ s ≤ 2 ^ 10 = pow_mono {i = s} {j = 10} k in
    let both : n * 2 ^ s ≤ 2 ^ 117 * 2 ^ 10 = mul-le-mul {n₁ = n} {m₁ = 2 ^ s} {n₂ = 2 ^ 117} {m₂ = 2 ^ 10}
    (omega arith) most in
    omega (arith, both)

pub as_fixed : (x : Float) (p : ℕ) (own : List ℕ) → own ≡ map (λ d. 48 + d) (digits_of 10 (rounded x p))
    → pointed p (replicate (p + 1 - length own) 48 ++ own) ≡ fixed x p
unfolding fixed
as_fixed x p own e =
    let ds = digits_of 10 (rounded x p) in
    ap (pointed p) ((λ i. replicate (p + 1 - length (e i)) 48 ++ e i)
    ∙ ap (λ (l : ℕ). replicate (p + 1 - l) 48 ++ map (λ d. 48 + d) ds) (length-map ds (λ d. 48 + d)))

pub no_fixed : (x : Float) (p : ℕ) → float_is_finite x ≡ false → fixed (of_bits binary64 0) p ≡ fixed x p
unfolding fixed
no_fixed x p h = ap (λ (n : ℕ). pointed p (padded (p + 1) n)) (no_size x p h)

pub long_enough : (xs own : List ℕ) (least : ℕ) → xs ≡ replicate (least - length own) 48 ++ own → least ≤ length xs
long_enough xs own least e =
    subst (λ (t : List ℕ). least ≤ length t) (sym e) (simp (length-append, length-replicate) (omega arith))

pub zero_finite : T (float_is_finite (of_bits binary64 0))
unfolding of_bits float_is_finite
zero_finite = tt

pub nan_sign : (x : Float) → is_nan x ≡ true → false ≡ is_sign_negative x
unfolding is_nan is_sign_negative
nan_sign nan h = refl
nan_sign (inf s) h = absurd (true≢false (sym h))
nan_sign (fin s m e) h = absurd (true≢false (sym h))

pub zeros_of : (old : List ℕ) (n l : ℕ) → old ≡ [] → l ≡ 0 → take n old ++ replicate (n - l) 48 ≡ replicate n 48
zeros_of old n l e z = rw (e, z) (search rules)

-- what is beyond 128 bits
beyond : (M d k D : ℕ) → M * 2 ^ 1074 ≡ d * 2 ^ k * D → 2 ^ 52 ≤ d → 1085 ≤ k → 2 ^ 63 * D ≤ M
beyond M d k D e h p =
    let power : 2 ^ 1085 ≤ 2 ^ k = pow_mono {i = 1085} {j = k} p in
    let both : 2 ^ 52 * 2 ^ 1085 ≤ d * 2 ^ k = mul-le-mul {n₁ = 2 ^ 52} {m₁ = 2 ^ 1085} {n₂ = d} {m₂ = 2 ^ k} h power in
    scaled_down M D (d * 2 ^ k) (2 ^ 1074) (pow_pos 1074) e both
  where
    scaled_down : (M D n t : ℕ) → 0 < t → M * t ≡ n * D → 2 ^ 63 * t ≤ n → 2 ^ 63 * D ≤ M
    scaled_down M D n t p e h =
        let most : 2 ^ 63 * t * D ≤ n * D = native.Mathlib.Nat.mul-le-mul_right D h in
        native.Mathlib.Nat.le_of_mul-le-mul_right {k = t} (omega (arith, most, e)) p

pub large : (x : Float) (d k : ℕ) → Splits x (d * 2 ^ k) → (0 < k → 2 ^ 52 ≤ d) → 1084 < k → IsLarge x
large nan d k v h p = absurd v
large (inf s) d k v h p = absurd v
large (fin s m e) d k v h p = beyond (m * up e) d k (down e) v (h (omega (arith, p))) (omega (arith, p))
