-- The whole number that is left without a fraction, the numbers from 2 ^ 63 to below 2 ^ 64, and the place for a point.
use Rattle.std.proofs.Common.{◌≡◌, ℕ, zero, suc, ◌+◌, ◌*◌, ◌/◌, ◌%◌, ◌^◌, ◌<◌, ◌≤◌, ◌++◌, ◌∷◌, [], Bool, true, false}
use Rattle.std.proofs.Common.{◌&&◌, ◌||◌, T, List, length, map, reverse, drop, refl, sym, ap, ◌∙◌, arith, subst, w64}
use Rattle.std.proofs.Common.{true≢false, length-append, ltb, eqb, ltb→lt, eqb→eq, ℤ, pos, neg_ℤ, Result, Ok, Err}
use Rattle.std.proofs.lemmas.Bool.{le-ltb}
use Rattle.std.proofs.lemmas.Float.{lt_of_lt_of_le}
use Rattle.std.proofs.lemmas.Int.Digits.{digits_of_step}
use Rattle.std.proofs.lemmas.List.{length-map}
use Rattle.std.proofs.lemmas.Nat.{div_below}
use Rattle.std.specs.Prelude.{unsigned_abs, int_lt, if◌then◌else◌, IfSome}
use Rattle.std.specs.Result.{result_ok}
use Rattle.std.specs.Float.{Float, binary64, nan, inf, fin, minus_one, two_to, minus_two_to, float_is_finite}
use Rattle.std.specs.Float.{◌≤ᶠ◌, ◌<ᶠ◌}
use Rattle.std.specs.Float.{float_to_signed, is_sign_negative}
use Rattle.std.specs.Int.Digits.{digits_of}
use lib.Ieee.{le, lt, eq, of_bits, up, down, to_signed}
use lib.Ieee.Nearest.{div_mono, div_same}
use lib.Ieee.Fits.{down_pos, and_l, and_r}
use Rattle.awk_numbers.specs.declared.number.Number.TheVariants.{Real}
use Rattle.awk_numbers.specs.declared.number.NumberFault.{NumberFault}
use Rattle.awk_numbers.specs.declared.number.NumberFault.TheVariants.{OutOfRange}
use Rattle.awk_numbers.specs.Decimal.{padded, pointed}
use Rattle.awk_numbers.specs.Exponents.{exponent_text, exponential, mantissa, place}
use Rattle.awk_numbers.specs.Figures.{AreFigures, IsSize}
use Rattle.awk_numbers.specs.Numbers.{signed}
use Rattle.awk_numbers.specs.Operators.{is_bounded, whole_of}
use Rattle.awk_numbers.specs.Shown.{integral_of}
use Rattle.awk_numbers.proofs.Figures.{are_digits, cut, ten_pos}

pub past_wide_is : of_bits binary64 0x43f0_0000_0000_0000 ≡ two_to 64
unfolding of_bits
past_wide_is = refl

pub above_minus_one : (x : Float) → two_to 63 ≤ᶠ x → minus_one <ᶠ x
unfolding lt
above_minus_one x h = lt_of_lt_of_le minus_one (two_to 63) x tt h

pub abs_signed : (s : Bool) (q : ℕ) → unsigned_abs (signed s q) ≡ q
abs_signed true zero = refl
abs_signed true (suc q) = refl
abs_signed false q = refl

-- what is no number has no digits
pub no_integral : (x : Float) → float_is_finite x ≡ false → 0 ≡ unsigned_abs (integral_of x)
unfolding float_is_finite
no_integral nan h = refl
no_integral (inf s) h = refl
no_integral (fin s m e) h = absurd (true≢false h)

quotient : (x : Float) (n places : ℕ) → IsSize x n places → n / 10 ^ places ≡ unsigned_abs (integral_of x)
quotient nan n places h = absurd h
quotient (inf s) n places h = absurd h
quotient (fin s m e) n places h =
    sym (div_same (m * up e) (down e) n (10 ^ places) (down_pos e) (ten_pos places) h)
    ∙ sym (abs_signed s (m * up e / down e))

-- the digits before the point
pub whole_digits : (x : Float) (digits : List ℕ) (n places : ℕ) → AreFigures digits n → IsSize x n places
    → reverse (drop places digits) ≡ digits_of 10 (unsigned_abs (integral_of x))
whole_digits x digits n places are size =
    sym (are_digits (drop places digits) (n / 10 ^ places) (cut digits n places are).0)
    ∙ ap (digits_of 10) (quotient x n places size)

-- digits are none of 0 alone
no_digits : (q : ℕ) → length (map (λ d. 48 + d) (digits_of 10 q)) ≡ 0 → q ≡ 0
no_digits zero h = refl
no_digits (suc q) h = absurd (omega (
  arith,
  h,
  length-map (digits_of 10 (suc q)) (λ d. 48 + d),
  ap length (digits_of_step 10 (suc q) (omega arith) (omega arith)),
  length-append (digits_of 10 (suc q / 10)) (suc q % 10 ∷ []),
))

no_size : (x : Float) → unsigned_abs (integral_of x) ≡ 0 → false ≡ int_lt (integral_of x) (pos 0)
no_size nan h = refl
no_size (inf s) h = refl
no_size (fin s m e) h = none s (m * up e / down e) (sym (abs_signed s (m * up e / down e)) ∙ h)
  where
    none : (s : Bool) (q : ℕ) → q ≡ 0 → false ≡ int_lt (signed s q) (pos 0)
    none true q e = rw e refl
    none false q e = rw e refl

some_size : (x : Float) → (unsigned_abs (integral_of x) ≡ 0 → ⊥) → is_sign_negative x ≡ int_lt (integral_of x) (pos 0)
unfolding is_sign_negative
some_size nan h = absurd (h refl)
some_size (inf s) h = absurd (h refl)
some_size (fin s m e) h = by_sign s (m * up e / down e) (λ z. h (abs_signed s (m * up e / down e) ∙ z))
  where
    by_sign : (s : Bool) (q : ℕ) → (q ≡ 0 → ⊥) → s ≡ int_lt (signed s q) (pos 0)
    by_sign true zero h = absurd (h refl)
    by_sign true (suc q) h = refl
    by_sign false q h = sym (le-ltb q 0 (omega arith))

pub minus_none : (x : Float) (digits : List ℕ) → digits ≡ map (λ d. 48 + d) (digits_of 10 (unsigned_abs
    (integral_of x)))
    → length digits ≡ 0 → false ≡ int_lt (integral_of x) (pos 0)
minus_none x digits e h = no_size x (no_digits (unsigned_abs (integral_of x)) (sym (ap length e) ∙ h))

pub minus_some : (x : Float) (digits : List ℕ) → digits ≡ map (λ d. 48 + d) (digits_of 10 (unsigned_abs
    (integral_of x)))
    → (length digits ≡ 0 → ⊥) → is_sign_negative x ≡ int_lt (integral_of x) (pos 0)
minus_some x digits e h = some_size x (λ z. h (ap length e ∙ ap (λ (q : ℕ). length (map (λ d. 48 + d)
    (digits_of 10 q))) z))

-- ---- within 64 bits
below_most : (m : ℕ) (e : ℤ) → T (lt (fin false m e) (two_to 63)) → m * up e < 2 ^ 63 * down e
unfolding lt
below_most m e h = omega (arith, ltb→lt _ _ h)

above_least : (m : ℕ) (e : ℤ) → T (le (minus_two_to 63) (fin true m e)) → m * up e ≤ 2 ^ 63 * down e
unfolding le lt eq
above_least m e h = go (ltb (m * up e * 1) (2 ^ 63 * down e)) (eqb (2 ^ 63 * down e) (m * up e * 1)) (ltb→lt _ _)
    (eqb→eq _ _) h
  where
    go : (p q : Bool) → (T p → m * up e * 1 < 2 ^ 63 * down e) → (T q → 2 ^ 63 * down e ≡ m * up e * 1)
        → T (p || (q && true)) → m * up e ≤ 2 ^ 63 * down e
    go true q f g t = omega (arith, f tt)
    go false true f g t = omega (arith, g tt)
    go false false f g t = absurd t

bounded : (x : Float) → T (is_bounded x) → integral_of x ≡ float_to_signed w64 x
unfolding le lt eq to_signed
bounded nan h = absurd h
bounded (inf true) h = absurd h
bounded (inf false) h = absurd h
bounded (fin true m e) h =
    let most : m * up e / down e ≤ 2 ^ 63 = omega (
      arith,
      div_mono (m * up e) (down e) (2 ^ 63) 1 (down_pos e)
          (omega arith) (omega (arith, above_least m e (and_l _ _ h))),
    ) in
    ap (λ (n : ℕ). neg_ℤ (pos n)) (omega (arith, most))
bounded (fin false m e) h =
    let most : m * up e / down e < 2 ^ 63 = div_below (m * up e) (down e) (2 ^ 63) (down_pos e)
    (below_most m e (and_r _ _ h)) in
    ap pos (omega (arith, most))

abbrev kept : Result ℤ NumberFault → ℤ
kept (Ok n) = n
kept (Err e) = pos 0

abbrev is_kept : Result ℤ NumberFault → Bool
is_kept (Ok n) = true
is_kept (Err e) = false

near_is : (x : Float) (n : ℤ) → Ok n ≡ whole_of (Real x) → integral_of x ≡ n
near_is x n h = go (is_bounded x) (bounded x) h
  where
    go : (b : Bool) → (T b → integral_of x ≡ float_to_signed w64 x)
        → Ok n ≡ (if b then Ok (float_to_signed w64 x) else Err OutOfRange) → integral_of x ≡ n
    go true f e = f tt ∙ sym (ap kept e)
    go false f e = absurd (true≢false (ap is_kept e))

pub near_some : (x : Float) (r : Result ℤ NumberFault) → r ≡ whole_of (Real x)
    → IfSome (result_ok r) (λ n. integral_of x ≡ n)
near_some x (Ok n) e = near_is x n e
near_some x (Err f) e = tt

-- the letter of the exponent at least
pub some_text : (letter : ℕ) (x : Float) (places : ℕ) → 1 ≤ length (exponential letter x places)
unfolding exponential
some_text letter x places =
    let head = pointed places (padded (places + 1) (mantissa x (places + 1))) in
    let tail = exponent_text letter (place x (places + 1)) in
    omega (arith, length-append head tail)
