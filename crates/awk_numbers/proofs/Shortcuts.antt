-- The short ways of the operators, as the code takes them: a number of 64 bits is read back from its bits.
use Rattle.std.proofs.Common.{◌≡◌, ◌^◌, ◌≤◌, ℤ, pos, ◌+ℤ◌, ◌-ℤ◌, ◌*ℤ◌, neg_ℤ, unsigned_abs, Ok, SFits, w64, to_z}
use Rattle.std.proofs.Common.{of_z}
use Rattle.std.proofs.Common.{sym, ap, subst, ◌∙◌, arith}
use Rattle.std.proofs.lemmas.Int.{ints, fits_signed_from_abs, to_z-of_z}
use lib.Ieee.{binary64, add, sub, mul, neg}
use Rattle.awk_numbers.specs.declared.number.Number.{Number}
use Rattle.awk_numbers.specs.declared.number.Number.TheVariants.{Whole}
use Rattle.awk_numbers.specs.Numbers.{double_of, settled}
use Rattle.awk_numbers.proofs.Exact.{add_exact, sub_exact, mul_exact, neg_exact}

abbrev pub IsSmall : ℤ → Type 0
IsSmall z = unsigned_abs z ≤ 2 ^ 53

abbrev pub held : ℤ → ℤ
held z = to_z w64 (of_z w64 z)

fits : (z : ℤ) → IsSmall z → SFits w64 z
fits z h = fits_signed_from_abs w64 z (omega (arith, h))

pub held_is : (z : ℤ) → IsSmall z → held z ≡ z
held_is z h = to_z-of_z w64 z (fits z h)

-- what a checked operation gives
pub checked : (f : ℤ → ℤ → ℤ) (m n z : ℤ) → IsSmall m → IsSmall n → SFits w64 (f (held m) (held n))
    × (z ≡ f (held m) (held n)) → held z ≡ f m n
checked f m n z p q e =
    let first : held m ≡ m = to_z-of_z w64 m (fits m p) in
    let second : held n ≡ n = to_z-of_z w64 n (fits n q) in
    to_z-of_z w64 z (subst (λ (k : ℤ). SFits w64 k) (sym e.1) e.0) ∙ e.1 ∙ (λ i. f (first i) (second i))

pub add_at : (x y : Number) (m n z : ℤ) → (x ≡ Whole m) × IsSmall m → (y ≡ Whole n) × IsSmall n → z ≡ m +ℤ n → IsSmall z
    → Ok (Whole z) ≡ settled (add binary64 (double_of x) (double_of y))
add_at x y m n z p q e h = rw (p.0, q.0, e) (sym (add_exact m n p.1 q.1 (subst IsSmall e h)))

pub sub_at : (x y : Number) (m n z : ℤ) → (x ≡ Whole m) × IsSmall m → (y ≡ Whole n) × IsSmall n → z ≡ m -ℤ n → IsSmall z
    → Ok (Whole z) ≡ settled (sub binary64 (double_of x) (double_of y))
sub_at x y m n z p q e h = rw (p.0, q.0, e) (sym (sub_exact m n p.1 q.1 (subst IsSmall e h)))

pub mul_at : (x y : Number) (m n z : ℤ) → (x ≡ Whole m) × IsSmall m → (y ≡ Whole n) × IsSmall n → z ≡ m *ℤ n → IsSmall z
    → Ok (Whole z) ≡ settled (mul binary64 (double_of x) (double_of y))
mul_at x y m n z p q e h = rw (p.0, q.0, e) (sym (mul_exact m n p.1 q.1 (subst IsSmall e h)))

size_of_neg : (n : ℤ) → IsSmall n → IsSmall (neg_ℤ n)
size_of_neg n h = omega (arith, ints, h)

minus : (n : ℤ) → pos 0 -ℤ n ≡ neg_ℤ n
minus n = omega (arith, ints)

pub neg_at : (x : Number) (n : ℤ) → SFits w64 n → x ≡ Whole n → IsSmall (held n) → Ok (Whole (held (pos 0 -ℤ held n)))
    ≡ settled (neg (double_of x))
neg_at x n f e h =
    let same : held n ≡ n = to_z-of_z w64 n f in
    let small : IsSmall n = subst IsSmall same h in
    let all : held (pos 0 -ℤ held n) ≡ neg_ℤ n = ap (λ (k : ℤ). held (pos 0 -ℤ k)) same ∙ ap held (minus n)
    ∙ to_z-of_z w64 (neg_ℤ n) (fits (neg_ℤ n) (size_of_neg n small)) in
    rw (e, all) (sym (neg_exact n small))
