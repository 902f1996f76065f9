-- The size of a double by its digits, and how it is rounded.
use Rattle.std.proofs.Common.{ℕ, zero, suc, ◌≡◌, ◌+◌, ◌-◌, ◌*◌, ◌/◌, ◌%◌, ◌^◌, ◌<◌, ◌≤◌, List, [], ◌∷◌, ◌++◌, length}
use Rattle.std.proofs.Common.{map, replicate, reverse, length-append}
use Rattle.std.proofs.Common.{refl, sym, ap, ◌∙◌, arith, mul-pos, true≢false, false}
use Rattle.std.proofs.lemmas.Nat.{pow_pos, pow-add, mul-pow}
use Rattle.std.specs.Float.{Float, nan, inf, fin, binary64, float_is_finite}
use Rattle.std.specs.Fmt.{decimal}
use Rattle.std.specs.Int.Digits.{digits_of}
use Rattle.std.proofs.lemmas.Fmt.{decimal_by_steps_wide}
use Rattle.std.proofs.lemmas.Int.Digits.{digits_of_step}
use Rattle.std.proofs.lemmas.List.{map-append, append-nil, append_assoc}
use native.Mathlib.Nat.{pow-suc, pow-zero, eq_of_mul-eq-mul_right, div-one, mod-one, mul-div_cancel, mul-mod_left}
use lib.Ieee.{up, down, of_bits}
use lib.Ieee.Nearest.{closest, closest_same}
use lib.Ieee.Fits.{down_pos}
use Rattle.awk_numbers.specs.Digits.{Splits, rounded}
use Rattle.awk_numbers.specs.Figures.{AreFigures, IsSize}
use Rattle.awk_numbers.proofs.Figures.{are_digits, ten_pos}

-- ---- many factors at once
pow_pow : (b k : ℕ) → (b ^ 16) ^ k ≡ b ^ (16 * k)
pow_pow b zero = pow-zero (b ^ 16) ∙ sym (pow-zero b)
pow_pow b (suc k) =
    pow-suc (b ^ 16) k ∙ ap (λ (t : ℕ). t * b ^ 16) (pow_pow b k) ∙ sym (pow-add b (16 * k) 16)
    ∙ ap (λ (t : ℕ). b ^ t) (omega arith)

pub chunks : (n b c t : ℕ) → c ≡ b ^ 16 → n * c ^ (t / 16) * b ^ (t % 16) ≡ n * b ^ t
chunks n b c t e =
    let many : c ^ (t / 16) ≡ b ^ (16 * (t / 16)) = ap (λ (k : ℕ). k ^ (t / 16)) e ∙ pow_pow b (t / 16) in
    let all' : b ^ t ≡ b ^ (16 * (t / 16)) * b ^ (t % 16) = ap (λ (k : ℕ). b ^ k) (omega arith)
    ∙ pow-add b (16 * (t / 16)) (t % 16) in
    omega (arith, ap (λ (k : ℕ). n * k * b ^ (t % 16)) many, ap (λ (k : ℕ). n * k) all')

-- ---- the size by its digits
small_by : (M D n t f w p : ℕ) → 0 < t → M * (w * t) ≡ n * t * D → p ≡ w * f → M * p ≡ n * f * D
small_by M D n t f w p pos e g =
    eq_of_mul-eq-mul_right t pos (M * p) (n * f * D)
    (omega (arith, ap (λ (k : ℕ). k * f) e, ap (λ (k : ℕ). M * k * t) g))

pub small_size : (x : Float) (n power places v : ℕ) → Splits x (n * 2 ^ power) → places + power ≡ 1074
    → v ≡ n * 5 ^ places → IsSize x v places
small_size nan n k p v h e f = absurd h
small_size (inf s) n k p v h e f = absurd h
small_size (fin s m d) n k p v h e f =
    let whole : 2 ^ p * 2 ^ k ≡ 2 ^ 1074 = sym (pow-add 2 p k) ∙ ap (λ (t : ℕ). 2 ^ t) e in
    small_by (m * up d) (down d) n (2 ^ k) (5 ^ p) (2 ^ p) (10 ^ p) (pow_pos k)
    (ap (λ (t : ℕ). m * up d * t) whole ∙ h) (mul-pow 2 5 p)
    ∙ ap (λ (t : ℕ). t * down d) (sym f)

large_by : (M D n t w q : ℕ) → 0 < w → M * w ≡ n * t * D → t ≡ q * w → M * 1 ≡ n * q * D
large_by M D n t w q pos e g =
    eq_of_mul-eq-mul_right w pos (M * 1) (n * q * D) (omega (arith, e, ap (λ (k : ℕ). n * k * D) g))

pub large_size : (x : Float) (n power v : ℕ) → Splits x (n * 2 ^ power) → 1074 ≤ power → v ≡ n * 2 ^ (power - 1074)
    → IsSize x v 0
large_size nan n k v h e f = absurd h
large_size (inf s) n k v h e f = absurd h
large_size (fin s m d) n k v h e f =
    let whole : 2 ^ k ≡ 2 ^ (k - 1074) * 2 ^ 1074 = ap (λ (t : ℕ). 2 ^ t) (omega arith) ∙ pow-add 2 (k - 1074) 1074 in
    large_by (m * up d) (down d) n (2 ^ k) (2 ^ 1074) (2 ^ (k - 1074)) (pow_pos 1074) h whole
    ∙ ap (λ (t : ℕ). t * down d) (sym f)

-- ---- rounded
pub closest_whole : (q : ℕ) → closest q 1 ≡ q
closest_whole q = rw (div-one q, mod-one q) refl

pub padded_size : (x : Float) (n s p : ℕ) → IsSize x n s → s ≤ p → rounded x p ≡ n * 10 ^ (p - s)
unfolding rounded
padded_size nan n s p h l = absurd h
padded_size (inf t) n s p h l = absurd h
padded_size (fin t m e) n s p h l =
    let whole : 10 ^ p ≡ 10 ^ s * 10 ^ (p - s) = ap (λ (k : ℕ). 10 ^ k) (omega arith) ∙ pow-add 10 s (p - s) in
    closest_same (m * up e * 10 ^ p) (down e) (n * 10 ^ (p - s)) 1 (down_pos e) (omega arith)
    (omega (arith, ap (λ (k : ℕ). m * up e * k) whole, ap (λ (k : ℕ). k * 10 ^ (p - s)) h))
    ∙ closest_whole (n * 10 ^ (p - s))

pub cut_size : (x : Float) (n s p : ℕ) → IsSize x n s → p ≤ s → rounded x p ≡ closest n (10 ^ (s - p))
unfolding rounded
cut_size nan n s p h l = absurd h
cut_size (inf t) n s p h l = absurd h
cut_size (fin t m e) n s p h l =
    let whole : 10 ^ s ≡ 10 ^ p * 10 ^ (s - p) = ap (λ (k : ℕ). 10 ^ k) (omega arith) ∙ pow-add 10 p (s - p) in
    closest_same (m * up e * 10 ^ p) (down e) n (10 ^ (s - p)) (down_pos e) (ten_pos (s - p))
    (omega (arith, ap (λ (k : ℕ). m * up e * k) whole, h))

-- ---- texts of digits
abbrev pub text : ℕ → List ℕ
text n = map (λ d. 48 + d) (digits_of 10 n)

step : (n : ℕ) → 0 < n → text n ≡ text (n / 10) ++ ((48 + n % 10) ∷ [])
step n h = ap (map (λ (d : ℕ). 48 + d)) (digits_of_step 10 n (omega arith) h)
    ∙ map-append (λ (d : ℕ). 48 + d) (digits_of 10 (n / 10)) (n % 10 ∷ [])

abbrev Same : ℕ → List ℕ → Type 0
Same n ds = 0 < n → ds ≡ text n

same_one : (n : ℕ) → n < 10 → Same n ((48 + n) ∷ [])
same_one n h pos =
    let none : n / 10 ≡ 0 = omega arith in
    let all' : n % 10 ≡ n = omega arith in
    sym (step n pos ∙ (λ i. text (none i) ++ ((48 + all' i) ∷ [])))

same_more : (n : ℕ) (ds : List ℕ) → 10 ≤ n → Same (n / 10) ds → Same n (ds ++ ((48 + n % 10) ∷ []))
same_more n ds h s pos =
    ap (λ (t : List ℕ). t ++ ((48 + n % 10) ∷ [])) (s (omega arith)) ∙ sym (step n pos)

pub decimal_text : (n : ℕ) → 0 < n → n < 2 ^ 128 → decimal n ≡ text n
decimal_text n h l = decimal_by_steps_wide Same same_one same_more n (omega (arith, l)) h

last_zero : (n : ℕ) → 0 < n → text (n * 10) ≡ text n ++ (48 ∷ [])
last_zero n h =
    let q : n * 10 / 10 ≡ n = mul-div_cancel n (omega arith) in
    let r : n * 10 % 10 ≡ 0 = mul-mod_left n 10 in
    step (n * 10) (omega arith) ∙ (λ i. text (q i) ++ ((48 + r i) ∷ []))

zeros_behind : (b z : ℕ) → replicate z b ++ (b ∷ []) ≡ b ∷ replicate z b
zeros_behind b zero = refl
zeros_behind b (suc z) = ap (λ (t : List ℕ). b ∷ t) (zeros_behind b z)

some : (n z : ℕ) → 0 < n → 0 < n * 10 ^ z
some n z h = mul-pos h (ten_pos z)

pub with_zeros : (n z : ℕ) → 0 < n → text (n * 10 ^ z) ≡ text n ++ replicate z 48
with_zeros n zero h =
    let e : n * 1 ≡ n = omega arith in
    ap text e ∙ sym (append-nil (text n))
with_zeros n (suc z) h =
    let e : n * 10 ^ suc z ≡ n * 10 ^ z * 10 = omega (arith, ap (λ (k : ℕ). n * k) (pow-suc 10 z)) in
    ap text e ∙ last_zero (n * 10 ^ z) (some n z h)
    ∙ ap (λ (t : List ℕ). t ++ (48 ∷ [])) (with_zeros n z h)
    ∙ append_assoc (text n) (replicate z 48) (48 ∷ [])
    ∙ ap (λ (t : List ℕ). text n ++ t) (zeros_behind 48 z)

-- ---- a number times a power of ten
by_digits : (digits t : List ℕ) (n : ℕ) → t ≡ map (λ d. 48 + d) (reverse digits) → AreFigures digits n → t ≡ text n
by_digits digits t n e are = e ∙ ap (map (λ (d : ℕ). 48 + d)) (sym (are_digits digits n are))

has_digits : (n : ℕ) → 0 < n → length (text n) ≡ 0 → ⊥
has_digits n h e = absurd (omega (arith, e, ap length (step n h), length-append (text (n / 10)) ((48 + n % 10) ∷ [])))

pub raised_none : (digits t : List ℕ) (n z : ℕ) → t ≡ map (λ d. 48 + d) (reverse digits) → length t ≡ 0
    → AreFigures digits n → t ≡ text (n * 10 ^ z)
raised_none digits t n z e h are = go n (by_digits digits t n e are)
  where
    go : (n : ℕ) → t ≡ text n → t ≡ text (n * 10 ^ z)
    go zero s = let none : 0 ≡ 0 * 10 ^ z = omega arith in s ∙ ap text none
    go (suc n) s = absurd (has_digits (suc n) (omega arith) (sym (ap length s) ∙ h))

pub raised_some : (digits t new : List ℕ) (n z : ℕ) → t ≡ map (λ d. 48 + d) (reverse digits) → (length t ≡ 0 → ⊥)
    → new ≡ t ++ replicate z 48 → AreFigures digits n → new ≡ text (n * 10 ^ z)
raised_some digits t new n z e h w are = go n (by_digits digits t n e are)
  where
    go : (n : ℕ) → t ≡ text n → new ≡ text (n * 10 ^ z)
    go zero s = absurd (h (ap length s))
    go (suc n) s = w ∙ ap (λ (k : List ℕ). k ++ replicate z 48) s ∙ sym (with_zeros (suc n) z (omega arith))

-- ---- what is no number has the texts of 0
pub zero_closest : (p : ℕ) → closest (0 * 10 ^ p) 1 ≡ 0
zero_closest p = let z : 0 * 10 ^ p ≡ 0 = omega arith in ap (λ (k : ℕ). closest k 1) z

pub no_size : (x : Float) (p : ℕ) → float_is_finite x ≡ false → rounded (of_bits binary64 0) p ≡ rounded x p
unfolding rounded float_is_finite of_bits
no_size nan p h = zero_closest p
no_size (inf s) p h = zero_closest p
no_size (fin s m e) p h = absurd (true≢false h)
