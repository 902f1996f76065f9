-- What the bits of a double say of its size.
use Rattle.std.specs.Prelude.{ℕ, suc, ◌≡◌, ◌+◌, ◌-◌, ◌*◌, ◌/◌, ◌%◌, ◌^◌, ◌<◌, ◌≤◌, T, not, Bool, true, false, cond}
use Rattle.std.proofs.Common.{ap, sym, arith, subst, refl, ◌∙◌}
use Rattle.std.specs.Float.{Float, nan, inf, fin, binary64, float_is_finite}
use lib.Dec.{eqb, leb}
use borrow.Author.Tests.{eqb-false}
use lib.Ieee.{is_nan, fits, to_bits, of_bits, of_fields, odd}
use lib.Ieee.Bits.{of_bits-to_bits, to_bits-lt}
use lib.Ieee.Exact.{HasValue, odd_sign}
use Rattle.awk_numbers.specs.Digits.{Splits}

pub not_nan : (x : Float) → T (float_is_finite x) → T (not (is_nan x))
unfolding is_nan float_is_finite
not_nan nan h = absurd h
not_nan (inf s) h = absurd h
not_nan (fin s m e) h = tt

splits : (x : Float) (s : Bool) (n : ℕ) → HasValue x s n (2 ^ 1074) → Splits x n
splits nan s n v = absurd v
splits (inf t) s n v = absurd v
splits (fin t m e) s n v = v.1

-- the bits of the fields: one of zero, and others
zero_field : (s : Bool) (t : ℕ) → Splits (of_fields binary64 s 0 t) (t * 1)
unfolding of_fields
zero_field s t = splits _ s _ (odd_sign 53 s t 0 1074)

never_finite : (b s : Bool) → T (float_is_finite (cond b (inf s) nan)) → ⊥
unfolding float_is_finite
never_finite true s h = h
never_finite false s h = h

suc_field : (s : Bool) (j t : ℕ) → suc j < 2048 → T (float_is_finite (of_fields binary64 s (suc j) t))
    → (suc j < 2047) × Splits (of_fields binary64 s (suc j) t) ((t + 2 ^ 52) * 2 ^ j)
unfolding of_fields
suc_field s j t h = go (eqb (suc j) 2047) refl
  where
    go : (b : Bool) → eqb (suc j) 2047 ≡ b
        → T (float_is_finite (cond b (cond (eqb t 0) (inf s) nan) (odd 53 s (2 ^ 52 + t) j 1074)))
        → (suc j < 2047) × Splits (cond b (cond (eqb t 0) (inf s) nan) (odd 53 s (2 ^ 52 + t) j 1074))
        ((t + 2 ^ 52) * 2 ^ j)
    go true e f = absurd (never_finite (eqb t 0) s f)
    go false e f = (
      omega (arith, eqb-false (suc j) 2047 e),
      splits _ s _ (subst (λ (k : ℕ). HasValue (odd 53 s (2 ^ 52 + t) j 1074) s (k * 2 ^ j) (2 ^ 1074)) (omega arith)
          (odd_sign 53 s (2 ^ 52 + t) j 1074)),
    )

module _ (x : Float) (f : T (fits binary64 x)) (h : T (float_is_finite x)) where
  abbrev b : ℕ
  b = to_bits binary64 x

  back : of_bits binary64 b ≡ x
  back = of_bits-to_bits binary64 x f

  small : b < 2 ^ 64
  small = to_bits-lt binary64 x f

  pub low : b % 2 ^ 63 < 2 ^ 52 → Splits x (b % 2 ^ 63 * 1)
  unfolding of_bits
  low l =
      let field : b % 2 ^ 63 / 2 ^ 52 ≡ 0 = omega arith in
      let rest : b % 2 ^ 52 ≡ b % 2 ^ 63 = omega arith in
      subst (λ (y : Float). Splits y (b % 2 ^ 63 * 1)) back
      (subst (λ (n : ℕ). Splits (of_fields binary64 (leb (2 ^ 63) b) n (b % 2 ^ 52)) (b % 2 ^ 63 * 1)) (sym field)
      (subst (λ (n : ℕ). Splits (of_fields binary64 (leb (2 ^ 63) b) 0 (b % 2 ^ 52)) (n * 1)) rest
      (zero_field (leb (2 ^ 63) b) (b % 2 ^ 52))))

  pub high : 2 ^ 52 ≤ b % 2 ^ 63 → (b % 2 ^ 63 / 2 ^ 52 < 2047)
      × Splits x ((b % 2 ^ 63 % 2 ^ 52 + 2 ^ 52) * 2 ^ (b % 2 ^ 63 / 2 ^ 52 - 1))
  unfolding of_bits
  high l =
      let j = b % 2 ^ 63 / 2 ^ 52 - 1 in
      let field : b % 2 ^ 63 / 2 ^ 52 ≡ suc j = omega arith in
      let rest : b % 2 ^ 52 ≡ b % 2 ^ 63 % 2 ^ 52 = omega arith in
      let same : of_fields binary64 (leb (2 ^ 63) b) (suc j) (b % 2 ^ 63 % 2 ^ 52) ≡ x =
      ap (λ (n : ℕ). of_fields binary64 (leb (2 ^ 63) b) n (b % 2 ^ 63 % 2 ^ 52)) (sym field)
      ∙ ap (λ (n : ℕ). of_fields binary64 (leb (2 ^ 63) b) (b % 2 ^ 63 / 2 ^ 52) n) (sym rest) ∙ back in
      let all' = suc_field (leb (2 ^ 63) b) j (b % 2 ^ 63 % 2 ^ 52) (omega arith)
      (subst (λ (y : Float). T (float_is_finite y)) (sym same) h) in
      (omega (arith, all'.0), subst (λ (y : Float). Splits y ((b % 2 ^ 63 % 2 ^ 52 + 2 ^ 52) * 2 ^ j)) same all'.1)
