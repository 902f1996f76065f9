-- Digits that are written from the last to the first.
use Rattle.std.proofs.Common.{◌≡◌, ℕ, zero, suc, ◌+◌, ◌/◌, ◌%◌, ◌^◌, ◌<◌, ◌≤◌, Bool, List, ◌∷◌, length, set, drop, sym}
use Rattle.std.proofs.Common.{ap, ◌∙◌, add-one, arith}
use Rattle.std.proofs.Math.Nat.{pow-suc, pow-zero, pow-le-pow_left}
use Rattle.std.proofs.lemmas.Bool.{eq-eqb, ne_eqb}
use Rattle.std.proofs.lemmas.List.{drop-set, drop_all}
use Rattle.std.proofs.lemmas.Nat.{div_below}
use Rattle.std.specs.Fmt.{digit_glyph, digits, digits_onto}

-- there is room for the digits of every number
pub room : (base n : ℕ) → 8 ≤ base → n < 2 ^ 64 → n < base ^ 22
room base n h small = omega (arith, pow-le-pow_left {n = 8} {m = base} h 22)

pub room_step : (base n k : ℕ) → 8 ≤ base → n < base ^ suc k → n / base < base ^ k
room_step base n k h small = div_below n base (base ^ k) (omega arith) (omega (arith, pow-suc base k))

-- where a digit is left there is room for it
pub room_left : (base n k : ℕ) → n < base ^ k → (n ≡ 0 → ⊥) → 0 < k
room_left base n zero small some = absurd (some (omega (arith, pow-zero base)))
room_left base n (suc k) small some = omega arith

pub start : (base n : ℕ) (upper : Bool) (buffer : List ℕ) → length buffer ≡ 22
    → digits_onto 64 base upper n (drop 22 buffer) ≡ digits base upper n
unfolding digits
start base n upper buffer h = ap (digits_onto 64 base upper n) (drop_all 22 buffer (omega arith))

written_at : (buffer : List ℕ) (k y : ℕ) → k < length buffer → drop k (set buffer k y) ≡ y ∷ drop (suc k) buffer
written_at buffer k y within = drop-set buffer k y within ∙ ap (λ n. y ∷ drop n buffer) (add-one k)

same_state : (base n at k : ℕ) (upper : Bool) (buffer : List ℕ) → at ≡ suc k
    → digits_onto (suc (k + 42)) base upper n (drop (suc k) buffer) ≡ digits_onto (at + 42) base upper n
    (drop at buffer)
same_state base n at k upper buffer e =
    let fuel : suc (k + 42) ≡ at + 42 = omega arith in
    ap (λ m. digits_onto (suc (k + 42)) base upper n (drop m buffer)) (sym e)
    ∙ ap (λ m. digits_onto m base upper n (drop at buffer)) fuel

-- one more digit, and then the last
pub step : (base n at k y : ℕ) (upper : Bool) (buffer whole : List ℕ) → at ≡ suc k → y ≡ digit_glyph upper (n % base)
    → k < length buffer → digits_onto (at + 42) base upper n (drop at buffer) ≡ whole → (n / base ≡ 0 → ⊥)
    → digits_onto (k + 42) base upper (n / base) (drop k (set buffer k y)) ≡ whole
step base n at k y upper buffer whole e g within so_far more =
    let here = same_state base n at k upper buffer e ∙ so_far in
    rw (written_at buffer k y within) (rw g (rw (ne_eqb (n / base) 0 more) at here))

pub last : (base n at k y : ℕ) (upper : Bool) (buffer whole : List ℕ) → at ≡ suc k → y ≡ digit_glyph upper (n % base)
    → k < length buffer → digits_onto (at + 42) base upper n (drop at buffer) ≡ whole → n / base ≡ 0
    → drop k (set buffer k y) ≡ whole
last base n at k y upper buffer whole e g within so_far none =
    let here = same_state base n at k upper buffer e ∙ so_far in
    rw (written_at buffer k y within) (rw g (rw (eq-eqb (n / base) 0 none) at here))
