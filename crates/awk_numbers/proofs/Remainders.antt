-- The remainder of doubles by their bits.
use Rattle.std.proofs.Common.{ℕ, zero, suc, ◌≡◌, ◌+◌, ◌-◌, ◌*◌, ◌/◌, ◌%◌, ◌^◌, ◌<◌, ◌≤◌, Bool, true, false, not}
use Rattle.std.proofs.Common.{Ok, Err, Result, ℤ, int_rem, unsigned_abs, T, eqb}
use Rattle.std.proofs.Common.{refl, sym, ap, subst, ◌∙◌, arith, true≢false, mul-pos}
use Rattle.std.proofs.lemmas.Nat.{mul-mod_first, pow-add, pow_pos}
use Rattle.std.specs.Float.{Float, binary64, nan, inf, fin, float_is_finite, is_sign_negative}
use Rattle.std.specs.Bool.{if◌then◌else◌}
use Rattle.std.proofs.lemmas.Bool.{lt-leb, ne_eqb}
use native.Mathlib.Nat.{mod-eq_of_lt, mul-le-mul}
use Rattle.std.proofs.Common.{pos, is_ok, mul-lt-mul_of_pos_right}
use Rattle.std.proofs.Math.Nat.{pow-le-pow_right}
use lib.Ieee.{up, down, round, rem, div, mul, neg, of_int, of_bits, of_fields, unlike, is_nan}
use lib.Ieee.Exact.{HasValue, odd_sign}
use lib.Ieee.Scale.{round_same}
use lib.Ieee.Fits.{down_pos, up_pos}
use Rattle.awk_numbers.specs.declared.number.Number.{Number}
use Rattle.awk_numbers.specs.declared.number.Number.TheVariants.{Whole}
use Rattle.awk_numbers.specs.declared.number.Numbers.TheVariants.{Double}
use Rattle.awk_numbers.specs.declared.number.NumberFault.{NumberFault}
use Rattle.awk_numbers.specs.declared.number.NumberFault.TheVariants.{ZeroDivisor}
use Rattle.awk_numbers.specs.Digits.{Splits}
use Rattle.awk_numbers.specs.Numbers.{settled}
use Rattle.awk_numbers.specs.Operators as operator
use Rattle.awk_numbers.specs.Operators.{is_int_zero, whole_rem}
use Rattle.awk_numbers.proofs.Wholes.{mod_scaled}
use Rattle.awk_numbers.proofs.Exact.{positive_value, rem_exact, not_zero}
use Rattle.awk_numbers.proofs.Shortcuts.{IsSmall, held, held_is}

-- ---- the division
pub first : (n d left : ℕ) → left ≡ n % d → left ≡ n * 2 ^ (11 * 0) % d
first n d left e = e ∙ ap (λ (k : ℕ). k % d) (omega arith)

pub step : (n d turn left : ℕ) → left ≡ n * 2 ^ (11 * turn) % d → left * 2048 % d ≡ n * 2 ^ (11 * (turn + 1)) % d
step n d turn left e =
    let power : 2 ^ (11 * (turn + 1)) ≡ 2 ^ (11 * turn) * 2048 =
    ap (λ (k : ℕ). 2 ^ k) (omega arith) ∙ pow-add 2 (11 * turn) 11 in
    ap (λ (k : ℕ). k * 2048 % d) e ∙ mul-mod_first (n * 2 ^ (11 * turn)) 2048 d
    ∙ ap (λ (k : ℕ). k % d) (omega (arith, ap (λ (k : ℕ). n * k) power))

pub last : (n d shift left : ℕ) → left ≡ n * 2 ^ (11 * (shift / 11)) % d → left * 2 ^ (shift % 11) % d
    ≡ n * 2 ^ shift % d
last n d shift left e =
    let power : 2 ^ shift ≡ 2 ^ (11 * (shift / 11)) * 2 ^ (shift % 11) =
    ap (λ (k : ℕ). 2 ^ k) (omega arith) ∙ pow-add 2 (11 * (shift / 11)) (shift % 11) in
    ap (λ (k : ℕ). k * 2 ^ (shift % 11) % d) e ∙ mul-mod_first (n * 2 ^ (11 * (shift / 11))) (2 ^ (shift % 11)) d
    ∙ ap (λ (k : ℕ). k % d) (omega (arith, ap (λ (k : ℕ). n * k) power))

pub holds : (left k : ℕ) → left < 2 ^ 53 → k < 11 → left * 2 ^ k < 2 ^ 64
holds left k h l =
    let most : 2 ^ k ≤ 2 ^ 11 = pow-le-pow_right {n = 2} (omega arith) {i = k} {j = 11}
    (omega arith) in
    let both : left * 2 ^ k ≤ left * 2 ^ 11 = native.Mathlib.Nat.mul-le-mul_left left most in
    omega (arith, both)

-- ---- powers of two
fields : (b field rest : ℕ) → b < 2 ^ 63 → b / 2 ^ 52 ≡ field → b % 2 ^ 52 ≡ rest
    → of_bits binary64 b ≡ of_fields binary64 false field rest
unfolding of_bits
fields b field rest h e f =
    let whole : b % 2 ^ 63 / 2 ^ 52 ≡ field = omega (arith, e) in
    ap (λ (s : Bool). of_fields binary64 s (b % 2 ^ 63 / 2 ^ 52) (b % 2 ^ 52)) (lt-leb (2 ^ 63) b h)
    ∙ ap (λ (n : ℕ). of_fields binary64 false n (b % 2 ^ 52)) whole ∙ ap (of_fields binary64 false field) f

one_bit : (k : ℕ) → HasValue (of_fields binary64 false 0 (2 ^ k)) false (2 ^ k) (2 ^ 1074)
unfolding of_fields
one_bit k = subst (λ (n : ℕ). HasValue (of_fields binary64 false 0 (2 ^ k)) false n (2 ^ 1074)) (omega arith)
    (odd_sign 53 false (2 ^ k) 0 1074)

pub low_unit : (k b : ℕ) → k < 52 → b ≡ 2 ^ k → HasValue (of_bits binary64 b) false (2 ^ k) (2 ^ 1074)
low_unit k b h e =
    let small : 2 ^ k ≤ 2 ^ 51 = pow-le-pow_right {n = 2} (omega arith) {i = k} {j = 51} (omega arith) in
    subst (λ (x : Float). HasValue x false (2 ^ k) (2 ^ 1074))
    (sym (ap (of_bits binary64) e
    ∙ fields (2 ^ k) 0 (2 ^ k) (omega (arith, small)) (omega (arith, small)) (omega (arith, small)))) (one_bit k)

first_bit : (j : ℕ) → suc j < 2047 → HasValue (of_fields binary64 false (suc j) 0) false (2 ^ 52 * 2 ^ j) (2 ^ 1074)
unfolding of_fields
first_bit j h = rw (ne_eqb (suc j) 2047 (λ e. omega (arith, e))) (odd_sign 53 false (2 ^ 52) j 1074)

pub high_unit : (k b : ℕ) → 52 ≤ k → k ≤ 2045 → b ≡ (k - 51) * 2 ^ 52
    → HasValue (of_bits binary64 b) false (2 ^ k) (2 ^ 1074)
high_unit k b h l e =
    let j = k - 52 in
    let power : 2 ^ 52 * 2 ^ j ≡ 2 ^ k = sym (pow-add 2 52 j) ∙ ap (λ (n : ℕ). 2 ^ n) (omega arith) in
    subst (λ (x : Float). HasValue x false (2 ^ k) (2 ^ 1074))
    (sym (fields b (suc j) 0 (omega (arith, e)) (omega (arith, e)) (omega (arith, e))))
    (subst (λ (n : ℕ). HasValue (of_fields binary64 false (suc j) 0) false n (2 ^ 1074)) power
    (first_bit j (omega arith)))

pub negative : (u : Float) (p c : ℕ) → HasValue u false p c → HasValue (neg u) true p c
unfolding neg
negative nan p c v = absurd v
negative (inf t) p c v = absurd v
negative (fin t m e) p c v = (ap not v.0, v.1)

plain : (s : Bool) → unlike false s ≡ s
plain true = refl
plain false = refl

product : (P Q n p c d W : ℕ) → P * 1 ≡ n * c → Q * W ≡ p * d → P * Q * W ≡ n * p * (c * d)
product P Q n p c d W e f =
    let first : P ≡ n * c = omega (arith, e) in
    rw first (omega (arith, ap (λ (k : ℕ). n * c * k) f))

mul_units : (x u : Float) (s : Bool) (n p : ℕ) → HasValue x false n 1 → HasValue u s p (2 ^ 1074)
    → mul binary64 x u ≡ round binary64 s (n * p) (2 ^ 1074)
unfolding mul
mul_units nan u s n p v w = absurd v
mul_units (inf t) u s n p v w = absurd v
mul_units (fin t m e) nan s n p v w = absurd w
mul_units (fin t m e) (inf k) s n p v w = absurd w
mul_units (fin t m e) (fin k q g) s n p v w =
    rw (v.0, w.0) (ap (λ (b : Bool). round binary64 b (m * up e * (q * up g)) (down e * down g)) (plain s)
    ∙ round_same binary64 s (m * up e * (q * up g)) (down e * down g) (n * p) (2 ^ 1074)
    (mul-pos (down_pos e) (down_pos g)) (pow_pos 1074)
    (product (m * up e) (q * up g) n p (down e) (down g) (2 ^ 1074) v.1 w.1))

pub times_unit : (n p : ℕ) (u : Float) (s : Bool) → n ≤ 2 ^ 53 → HasValue u s p (2 ^ 1074)
    → mul binary64 (of_int binary64 (pos n)) u ≡ round binary64 s (n * p) (2 ^ 1074)
times_unit n p u s h v = mul_units (of_int binary64 (pos n)) u s n p (positive_value n h) v

-- ---- the remainder by sizes
scaled : (M N A B D W : ℕ) → 0 < B → 0 < D → 0 < W → M * W ≡ A * D → N * W ≡ B * D → M % N * W ≡ A % B * D
scaled M N A B D W b d w e f =
    sym (mod_scaled M N W (above N W (B * D) f (mul-pos b d)) w) ∙ (λ i. e i % f i) ∙ mod_scaled A B D b d
  where
    above : (N W c : ℕ) → N * W ≡ c → 0 < c → 0 < N
    above zero W c e h = absurd (omega (arith, e, h))
    above (suc n) W c e h = omega arith

no_zero : (n u W b d : ℕ) → n * u * W ≡ b * d → 0 < b → 0 < d → eqb n 0 ≡ false
no_zero zero u W b d e p q = absurd (omega (arith, e, mul-pos p q))
no_zero (suc n) u W b d e p q = ne_eqb (suc n) 0 (λ h. omega (arith, h))

pub by_sizes : (x y : Float) (s : Bool) (A B r : ℕ) → Splits x A → Splits y B → 0 < B → is_sign_negative x ≡ s
    → r ≡ A % B → round binary64 s r (2 ^ 1074) ≡ rem binary64 x y
unfolding rem is_sign_negative
by_sizes nan y s A B r v w b z e = absurd v
by_sizes (inf t) y s A B r v w b z e = absurd v
by_sizes (fin u m k) nan s A B r v w b z e = absurd w
by_sizes (fin u m k) (inf t) s A B r v w b z e = absurd w
by_sizes (fin u m k) (fin t n d) s A B r v w b z e =
    let M = m * up k * down d in
    let N = n * up d * down k in
    let D = down k * down d in
    let same : M % N * 2 ^ 1074 ≡ A % B * D =
    scaled M N A B D (2 ^ 1074) b (mul-pos (down_pos k) (down_pos d)) (pow_pos 1074)
    (omega (arith, ap (λ (i : ℕ). i * down d) v)) (omega (arith, ap (λ (i : ℕ). i * down k) w)) in
    rw (no_zero n (up d) (2 ^ 1074) B (down d) w b (down_pos d), z)
    (ap (λ (i : ℕ). round binary64 s i (2 ^ 1074)) e
    ∙ sym (round_same binary64 s (M % N) D (A % B) (2 ^ 1074) (mul-pos (down_pos k) (down_pos d)) (pow_pos 1074) same))

-- a dividend that is less than the divisor is left whole
less : (n d i j : ℕ) → n < 2 ^ 53 → 2 ^ 52 ≤ d → i < j → n * 2 ^ i < d * 2 ^ j
less n d i j h l k =
    let above : n * 2 ^ i < 2 ^ 53 * 2 ^ i = mul-lt-mul_of_pos_right h (pow_pos i) in
    let power : 2 ^ (i + 1) ≤ 2 ^ j = pow-le-pow_right {n = 2} (omega arith) {i = i + 1} {j = j} (omega arith) in
    let both : 2 ^ 52 * 2 ^ (i + 1) ≤ d * 2 ^ j =
    mul-le-mul {n₁ = 2 ^ 52} {m₁ = 2 ^ (i + 1)} {n₂ = d} {m₂ = 2 ^ j} l power in
    omega (arith, above, both, pow-add 2 i 1)

pub left_whole : (n d i j : ℕ) → n < 2 ^ 53 → 2 ^ 52 ≤ d → i < j → n * 2 ^ i ≡ n * 2 ^ i % (d * 2 ^ j)
left_whole n d i j h l k = sym (mod-eq_of_lt (less n d i j h l k))

pub left_over : (n d i j r : ℕ) → 0 < d → j ≤ i → r ≡ n * 2 ^ (i - j) % d → r * 2 ^ j ≡ n * 2 ^ i % (d * 2 ^ j)
left_over n d i j r h l e =
    let power : 2 ^ i ≡ 2 ^ (i - j) * 2 ^ j = ap (λ (k : ℕ). 2 ^ k) (omega arith) ∙ pow-add 2 (i - j) j in
    ap (λ (k : ℕ). k * 2 ^ j) e ∙ sym (mod_scaled (n * 2 ^ (i - j)) d (2 ^ j) h (pow_pos j))
    ∙ ap (λ (k : ℕ). k % (d * 2 ^ j)) (omega (arith, ap (λ (k : ℕ). n * k) power))

pub positive_divisor : (d j : ℕ) → 0 < d → 0 < d * 2 ^ j
positive_divisor d j h = mul-pos h (pow_pos j)

-- ---- where there is no number
pub no_dividend : (x y : Float) → float_is_finite x ≡ false → nan ≡ rem binary64 x y
unfolding rem float_is_finite
no_dividend nan y h = refl
no_dividend (inf s) y h = refl
no_dividend (fin s m e) y h = absurd (true≢false h)

pub no_divisor : (x y : Float) → is_nan y ≡ true → nan ≡ rem binary64 x y
unfolding rem is_nan
no_divisor nan y h = refl
no_divisor (inf s) y h = refl
no_divisor (fin s m e) nan h = refl
no_divisor (fin s m e) (inf t) h = absurd (true≢false (sym h))
no_divisor (fin s m e) (fin t n d) h = absurd (true≢false (sym h))

pub by_infinite : (x y : Float) → float_is_finite x ≡ true → is_nan y ≡ false → float_is_finite y ≡ false
    → x ≡ rem binary64 x y
unfolding rem float_is_finite is_nan
by_infinite nan y h k l = absurd (true≢false (sym h))
by_infinite (inf s) y h k l = absurd (true≢false (sym h))
by_infinite (fin s m e) nan h k l = absurd (true≢false k)
by_infinite (fin s m e) (inf t) h k l = refl
by_infinite (fin s m e) (fin t n d) h k l = absurd (true≢false l)

nothing : (n u W j d : ℕ) → n * u * W ≡ 0 * j * d → 0 < u → 0 < W → n ≡ 0
nothing zero u W j d e p q = refl
nothing (suc n) u W j d e p q =
    let some : 0 < suc n * u * W = mul-pos (mul-pos (omega arith) p) q in
    absurd (omega (arith, e, some))

pub by_zero : (x y : Float) (j : ℕ) → T (float_is_finite x) → Splits y (0 * j) → nan ≡ rem binary64 x y
unfolding rem float_is_finite
by_zero nan y j h w = absurd h
by_zero (inf s) y j h w = absurd h
by_zero (fin s m e) nan j h w = absurd w
by_zero (fin s m e) (inf t) j h w = absurd w
by_zero (fin s m e) (fin t n d) j h w =
    rw (nothing n (up d) (2 ^ 1074) j (down d) w (up_pos d) (pow_pos 1074)) refl

pub no_quotient : nan ≡ div binary64 (of_bits binary64 0) (of_bits binary64 0)
unfolding div of_bits
no_quotient = refl

-- ---- whole numbers
abbrev given : Result ℤ NumberFault → ℤ
given (Ok z) = z
given (Err e) = pos 0

abbrev by_whole : Bool → ℤ → ℤ → Result ℤ NumberFault
by_whole b m n = if b then Err ZeroDivisor else Ok (int_rem m n)

abbrev by_double : Bool → ℤ → ℤ → Result Number NumberFault
by_double b m n = if b then Err ZeroDivisor else settled (rem binary64 (of_int binary64 m) (of_int binary64 n))

wholes : (m n r : ℤ) → IsSmall m → IsSmall n → (b : Bool) → (b ≡ false → 0 < unsigned_abs n) → Ok r ≡ by_whole b m n
    → Ok (Whole r) ≡ by_double b m n
wholes m n r p q true f e = absurd (true≢false (ap is_ok e))
wholes m n r p q false f e = ap (λ (z : ℤ). Ok (Whole z)) (ap given e) ∙ sym (rem_exact m n p q (f refl))

-- the operands are read back from 64 bits
read_back : (m n : ℤ) → IsSmall m → IsSmall n → whole_rem (held m) (held n) ≡ whole_rem m n
read_back m n p q i = whole_rem (held_is m p i) (held_is n q i)

pub whole_left : (x y : Number) (m n r : ℤ) → (x ≡ Whole m) × IsSmall m → (y ≡ Whole n) × IsSmall n
    → Ok r ≡ whole_rem (held m) (held n) → Ok (Whole r) ≡ operator.rem Double x y
whole_left x y m n r p q e =
    rw (p.0, q.0) (wholes m n r p.1 q.1 (is_int_zero n) (not_zero n) (e ∙ read_back m n p.1 q.1))

faults : (m n : ℤ) (f : NumberFault) → (b : Bool) → Err f ≡ by_whole b m n → Err f ≡ by_double b m n
faults m n f true e = let same : f ≡ ZeroDivisor = cc in ap Err same
faults m n f false e = absurd (true≢false (sym (ap is_ok e)))

pub whole_fault : (x y : Number) (m n : ℤ) (f : NumberFault) → (x ≡ Whole m) × IsSmall m → (y ≡ Whole n) × IsSmall n
    → Err f ≡ whole_rem (held m) (held n) → Err f ≡ operator.rem Double x y
whole_fault x y m n f p q e = rw (p.0, q.0) (faults m n f (is_int_zero n) (e ∙ read_back m n p.1 q.1))
