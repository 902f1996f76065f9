-- The bits of 2 / pi by words, and a product with them.
use Rattle.std.proofs.Common.{ℕ, zero, suc, ◌≡◌, ◌+◌, ◌-◌, ◌*◌, ◌/◌, ◌%◌, ◌^◌, ◌<◌, ◌≤◌, Bool, true, ◌&&◌}
use Rattle.std.proofs.Common.{List, [], ◌∷◌, refl, sym, ap, ◌∙◌, arith, slice_index_or, nat_lt, mod-lt}
use Rattle.std.proofs.lemmas.Bool.{and_parts, ltb-true}
use Rattle.std.proofs.lemmas.List.{get_or_past}
use Rattle.std.proofs.lemmas.Nat.{div-mul-add, mod-pow-add, pow-add, pow_pos}
use Rattle.std.proofs.Math.Nat.{div-div-eq-div-mul}
use Rattle.std.proofs.Math.Pow.{mod-mod-pow}
use Rattle.awk_numbers.specs.Quarters.{number_of, two_over_pi, words}

-- ---- the words
abbrev are_words : List ℕ → Bool
are_words [] = true
are_words (d ∷ ds) = nat_lt d (2 ^ 64) && are_words ds

later : (d n i : ℕ) → d < 2 ^ 64 → (d + 2 ^ 64 * n) / 2 ^ (64 * (i + 1)) ≡ n / 2 ^ (64 * i)
later d n i h =
    let power : 2 ^ (64 * (i + 1)) ≡ 2 ^ 64 * 2 ^ (64 * i) =
    ap (λ (k : ℕ). 2 ^ k) (omega arith) ∙ pow-add 2 64 (64 * i) in
    ap (λ (k : ℕ). (d + 2 ^ 64 * n) / k) power ∙ sym (div-div-eq-div-mul (d + 2 ^ 64 * n) (2 ^ 64) (2 ^ (64 * i)))
    ∙ ap (λ (k : ℕ). k / 2 ^ (64 * i)) (omega (arith, h))

at : (ws : List ℕ) (i : ℕ) → are_words ws ≡ true
    → slice_index_or ws i 0 ≡ number_of ws / 2 ^ (64 * i) % 2 ^ 64
at [] i h = sym (ap (λ (k : ℕ). k % 2 ^ 64) (Rattle.std.proofs.Math.Nat.zero-div (2 ^ (64 * i))))
at (d ∷ ds) zero h =
    let small : d < 2 ^ 64 = omega (arith, ltb-true d (2 ^ 64) (and_parts _ _ h).0) in
    omega (arith, small)
at (d ∷ ds) (suc i) h =
    let small : d < 2 ^ 64 = omega (arith, ltb-true d (2 ^ 64) (and_parts _ _ h).0) in
    at ds i (and_parts _ _ h).1
    ∙ ap (λ (k : ℕ). k % 2 ^ 64) (sym (later d (number_of ds) i small) ∙ ap (λ (k : ℕ). number_of (d ∷ ds)
    / 2 ^ (64 * k)) (omega arith))

pub digit_is : (i : ℕ) → slice_index_or words i 0 ≡ two_over_pi / 2 ^ (64 * i) % 2 ^ 64
unfolding two_over_pi
digit_is i = at words i refl

pub no_digit : (i : ℕ) → 19 ≤ i → 0 ≡ two_over_pi / 2 ^ (64 * i) % 2 ^ 64
no_digit i h = sym (get_or_past words i 0 h) ∙ digit_is i

-- ---- 64 bits from two words
pair_is : (v high low : ℕ) → high ≡ v / 2 ^ 64 % 2 ^ 64 → low ≡ v % 2 ^ 64 → high * 2 ^ 64 + low ≡ v % 2 ^ 128
pair_is v high low e f = omega (arith, e, f)

cut_is : (v s : ℕ) → s < 64 → v % 2 ^ 128 / 2 ^ s % 2 ^ 64 ≡ v / 2 ^ s % 2 ^ 64
cut_is v s h =
    let t = 128 - s in
    let parts : 128 ≡ t + s = omega (arith, h) in
    let fewer : t ≡ 64 - s + 64 = omega (arith, h) in
    let cut : v % 2 ^ 128 / 2 ^ s ≡ v / 2 ^ s % 2 ^ t =
    ap (λ (k : ℕ). v % 2 ^ k / 2 ^ s) parts ∙ ap (λ (k : ℕ). k / 2 ^ s) (mod-pow-add v t s)
    ∙ div-mul-add (v / 2 ^ s % 2 ^ t) (2 ^ s) (v % 2 ^ s) (mod-lt v (pow_pos s)) in
    ap (λ (k : ℕ). k % 2 ^ 64) cut ∙ ap (λ (k : ℕ). v / 2 ^ s % 2 ^ k % 2 ^ 64) fewer
    ∙ mod-mod-pow (v / 2 ^ s) (64 - s) 64

further : (n a b c : ℕ) → c ≡ a + b → n / 2 ^ c ≡ n / 2 ^ a / 2 ^ b
further n a b c e =
    ap (λ (k : ℕ). n / 2 ^ k) e ∙ ap (λ (k : ℕ). n / k) (pow-add 2 a b)
    ∙ sym (div-div-eq-div-mul n (2 ^ a) (2 ^ b))

pub word_is : (n k high low : ℕ) → high ≡ n / 2 ^ (64 * (k / 64 + 1)) % 2 ^ 64 → low ≡ n / 2 ^ (64 * (k / 64)) % 2 ^ 64
    → (high * 2 ^ 64 + low) / 2 ^ (k % 64) % 2 ^ 64 ≡ n / 2 ^ k % 2 ^ 64
word_is n k high low e f =
    let v = n / 2 ^ (64 * (k / 64)) in
    let next = e ∙ ap (λ (i : ℕ). i % 2 ^ 64) (further n (64 * (k / 64)) 64 (64 * (k / 64 + 1)) (omega arith)) in
    ap (λ (i : ℕ). i / 2 ^ (k % 64) % 2 ^ 64) (pair_is v high low next f) ∙ cut_is v (k % 64) (omega arith)
    ∙ ap (λ (i : ℕ). i % 2 ^ 64) (sym (further n (64 * (k / 64)) (k % 64) k (omega arith)))

-- ---- the product
by_words : (m v a b c r : ℕ) → v ≡ c + 2 ^ 64 * b + 2 ^ 128 * a + 2 ^ 192 * r
    → ((m * a * 2 ^ 64 % 2 ^ 128 + m * b) % 2 ^ 128 + m * c / 2 ^ 64) % 2 ^ 128 ≡ m * v / 2 ^ 64 % 2 ^ 128
by_words m v a b c r e =
    let all : m * v ≡ m * c + 2 ^ 64 * (m * b) + 2 ^ 128 * (m * a) + 2 ^ 192 * (m * r) = rw e (omega arith) in
    omega (arith, all)

pub quarters_is : (m k high middle low : ℕ) → high ≡ two_over_pi / 2 ^ (k + 128) % 2 ^ 64
    → middle ≡ two_over_pi / 2 ^ (k + 64) % 2 ^ 64 → low ≡ two_over_pi / 2 ^ k % 2 ^ 64
    → ((m * high * 2 ^ 64 % 2 ^ 128 + m * middle) % 2 ^ 128 + m * low / 2 ^ 64) % 2 ^ 128
    ≡ m * (two_over_pi / 2 ^ k) / 2 ^ 64 % 2 ^ 128
quarters_is m k high middle low e f g =
    let v = two_over_pi / 2 ^ k in
    let first = e ∙ ap (λ (i : ℕ). i % 2 ^ 64) (further two_over_pi k 128 (k + 128) refl) in
    let second = f ∙ ap (λ (i : ℕ). i % 2 ^ 64) (further two_over_pi k 64 (k + 64) refl) in
    by_words m v high middle low (v / 2 ^ 192) (omega (arith, first, second, g))
