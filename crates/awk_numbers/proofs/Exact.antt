-- For whole numbers of a size up to 2 ^ 53, the doubles' operators give what the whole numbers' do.
use Rattle.std.proofs.Common.{ℕ, zero, suc, ◌≡◌, ◌+◌, ◌*◌, ◌/◌, ◌%◌, ◌^◌, ◌<◌, ◌≤◌, Bool, true, false}
use Rattle.std.proofs.Common.{ℤ, pos, negsuc, ◌+ℤ◌, ◌-ℤ◌, ◌*ℤ◌, neg_ℤ, unsigned_abs, int_div, int_rem, Ok, Err, Result}
use Rattle.std.proofs.Common.{is_ok, refl, sym, ap, subst, ◌∙◌, arith, div-add-mod', true≢false}
use Rattle.std.proofs.lemmas.Int.{ints}
use Rattle.std.specs.Bool.{if◌then◌else◌}
use Rattle.std.specs.Float.{binary64}
use lib.Ieee.{add, sub, mul, div, rem, neg, of_int}
use lib.Ieee.Exact.{HasValue}
use lib.Ieee.Back.{round_whole}
use Rattle.awk_numbers.specs.declared.number.Number.{Number}
use Rattle.awk_numbers.specs.declared.number.Number.TheVariants.{Whole, Real}
use Rattle.awk_numbers.specs.declared.number.NumberFault.{NumberFault}
use Rattle.awk_numbers.specs.declared.number.NumberFault.TheVariants.{OutOfRange}
use Rattle.awk_numbers.specs.Numbers.{settled}
use Rattle.awk_numbers.specs.Operators.{ranged, is_in_range, is_int_zero}
use Rattle.awk_numbers.proofs.Wholes.{settled_whole, add_whole, neg_value, mul_whole, div_whole, rem_whole}

pub positive_value : (n : ℕ) → n ≤ 2 ^ 53 → HasValue (of_int binary64 (pos n)) false n 1
unfolding of_int
positive_value n h = round_whole binary64 false n h

pub negative_value : (n : ℕ) → suc n ≤ 2 ^ 53 → HasValue (of_int binary64 (negsuc n)) true (suc n) 1
unfolding of_int
negative_value n h = round_whole binary64 true (suc n) h

to : {A : Type 0} {m n : ℤ} → (f : ℤ → A) → m ≡ n → f m ≡ f n
to f e = ap f e

pub add_exact : (m n : ℤ) → unsigned_abs m ≤ 2 ^ 53 → unsigned_abs n ≤ 2 ^ 53 → unsigned_abs (m +ℤ n) ≤ 2 ^ 53
    → settled (add binary64 (of_int binary64 m) (of_int binary64 n)) ≡ Ok (Whole (m +ℤ n))
add_exact (pos a) (pos b) p q r = add_whole _ _ false false a b (positive_value a p) (positive_value b q) p q (λ e. r)
add_exact (pos a) (negsuc b) p q r = add_whole _ _ false true a (suc b) (positive_value a p) (negative_value b q) p q
    (λ e. absurd (true≢false (sym e)))
add_exact (negsuc a) (pos b) p q r = add_whole _ _ true false (suc a) b (negative_value a p) (positive_value b q) p q
    (λ e. absurd (true≢false e))
add_exact (negsuc a) (negsuc b) p q r = add_whole _ _ true true (suc a) (suc b) (negative_value a p)
    (negative_value b q) p q (λ e. omega (arith, r))

neg_of : (n : ℤ) → unsigned_abs n ≤ 2 ^ 53 → settled (neg (of_int binary64 n)) ≡ Ok (Whole (neg_ℤ n))
neg_of (pos a) p = settled_whole _ true a (neg_value _ false a (positive_value a p)) p
neg_of (negsuc a) p = settled_whole _ false (suc a) (neg_value _ true (suc a) (negative_value a p)) p

pub neg_exact : (n : ℤ) → unsigned_abs n ≤ 2 ^ 53 → settled (neg (of_int binary64 n)) ≡ Ok (Whole (neg_ℤ n))
neg_exact = neg_of

size : (n : ℕ) → unsigned_abs (neg_ℤ (pos n)) ≤ 2 ^ 53 → n ≤ 2 ^ 53
size zero h = h
size (suc n) h = h

pub sub_exact : (m n : ℤ) → unsigned_abs m ≤ 2 ^ 53 → unsigned_abs n ≤ 2 ^ 53 → unsigned_abs (m -ℤ n) ≤ 2 ^ 53
    → settled (sub binary64 (of_int binary64 m) (of_int binary64 n)) ≡ Ok (Whole (m -ℤ n))
unfolding sub
sub_exact (pos a) (pos b) p q r =
    add_whole _ _ false true a b (positive_value a p) (neg_value _ false b (positive_value b q)) p q
    (λ e. absurd (true≢false (sym e))) ∙ ap (λ (z : ℤ). Ok (Whole z)) (omega (arith, ints))
sub_exact (pos a) (negsuc b) p q r =
    add_whole _ _ false false a (suc b) (positive_value a p) (neg_value _ true (suc b) (negative_value b q)) p q
    (λ e. omega (arith, r)) ∙ ap (λ (z : ℤ). Ok (Whole z)) (omega (arith, ints))
sub_exact (negsuc a) (pos b) p q r =
    add_whole _ _ true true (suc a) b (negative_value a p) (neg_value _ false b (positive_value b q)) p q
    (λ e. differs a b r) ∙ ap (λ (z : ℤ). Ok (Whole z)) (omega (arith, ints))
  where
    differs : (a b : ℕ) → unsigned_abs (negsuc a -ℤ pos b) ≤ 2 ^ 53 → suc a + b ≤ 2 ^ 53
    differs a b r =
        let e : negsuc a -ℤ pos b ≡ neg_ℤ (pos (suc a + b)) = omega (arith, ints) in
        size (suc a + b) (subst (λ (z : ℤ). unsigned_abs z ≤ 2 ^ 53) e r)
sub_exact (negsuc a) (negsuc b) p q r =
    add_whole _ _ true false (suc a) (suc b) (negative_value a p) (neg_value _ true (suc b) (negative_value b q)) p q
    (λ e. absurd (true≢false e)) ∙ ap (λ (z : ℤ). Ok (Whole z)) (omega (arith, ints))

pub mul_exact : (m n : ℤ) → unsigned_abs m ≤ 2 ^ 53 → unsigned_abs n ≤ 2 ^ 53 → unsigned_abs (m *ℤ n) ≤ 2 ^ 53
    → settled (mul binary64 (of_int binary64 m) (of_int binary64 n)) ≡ Ok (Whole (m *ℤ n))
mul_exact (pos a) (pos b) p q r = mul_whole _ _ false false a b (positive_value a p) (positive_value b q) r
mul_exact (pos a) (negsuc b) p q r = mul_whole _ _ false true a (suc b) (positive_value a p) (negative_value b q)
    (size (a * suc b) r)
mul_exact (negsuc a) (pos b) p q r = mul_whole _ _ true false (suc a) b (negative_value a p) (positive_value b q)
    (size (suc a * b) r)
mul_exact (negsuc a) (negsuc b) p q r = mul_whole _ _ true true (suc a) (suc b) (negative_value a p)
    (negative_value b q) r

-- nothing remains
times : (a b : ℕ) → a % b ≡ 0 → a ≡ a / b * b
times a b e = omega (arith, e, div-add-mod' a b)

size_pos : (n : ℕ) → pos n ≡ pos 0 → n ≡ 0
size_pos n e = ap unsigned_abs e

size_neg : (n : ℕ) → neg_ℤ (pos n) ≡ pos 0 → n ≡ 0
size_neg zero e = refl
size_neg (suc n) e = ap unsigned_abs e

no_more : (a b : ℕ) → a / b ≤ a
no_more a b = Rattle.std.proofs.Math.Nat.div-le_self a b

pub div_exact : (m n : ℤ) → unsigned_abs m ≤ 2 ^ 53 → unsigned_abs n ≤ 2 ^ 53 → 0 < unsigned_abs n → int_rem m n ≡ pos 0
    → settled (div binary64 (of_int binary64 m) (of_int binary64 n)) ≡ Ok (Whole (int_div m n))
div_exact (pos a) (pos b) p q z r = div_whole _ _ false false a b (a / b) (positive_value a p) (positive_value b q) z
    (times a b (size_pos _ r)) (omega (arith, p, no_more a b))
div_exact (pos a) (negsuc b) p q z r = div_whole _ _ false true a (suc b) (a / suc b) (positive_value a p)
    (negative_value b q) z (times a (suc b) (size_pos _ r)) (omega (arith, p, no_more a (suc b)))
div_exact (negsuc a) (pos b) p q z r = div_whole _ _ true false (suc a) b (suc a / b) (negative_value a p)
    (positive_value b q) z (times (suc a) b (size_neg _ r)) (omega (arith, p, no_more (suc a) b))
div_exact (negsuc a) (negsuc b) p q z r = div_whole _ _ true true (suc a) (suc b) (suc a / suc b) (negative_value a p)
    (negative_value b q) z (times (suc a) (suc b) (size_neg _ r)) (omega (arith, p, no_more (suc a) (suc b)))

pub rem_exact : (m n : ℤ) → unsigned_abs m ≤ 2 ^ 53 → unsigned_abs n ≤ 2 ^ 53 → 0 < unsigned_abs n
    → settled (rem binary64 (of_int binary64 m) (of_int binary64 n)) ≡ Ok (Whole (int_rem m n))
rem_exact (pos a) (pos b) p q z = rem_whole _ _ false false a b (positive_value a p) (positive_value b q) z p
rem_exact (pos a) (negsuc b) p q z = rem_whole _ _ false true a (suc b) (positive_value a p) (negative_value b q) z p
rem_exact (negsuc a) (pos b) p q z = rem_whole _ _ true false (suc a) b (negative_value a p) (positive_value b q) z p
rem_exact (negsuc a) (negsuc b) p q z = rem_whole _ _ true true (suc a) (suc b) (negative_value a p)
    (negative_value b q) z p

-- ---- what a result of the whole numbers says
abbrev held : Result Number NumberFault → ℤ
held (Ok (Whole z)) = z
held (Ok (Real x)) = pos 0
held (Err e) = pos 0

abbrev given : ℤ → Result Number NumberFault
given z = Ok (Whole z)

pub same_whole : (m n : ℤ) → given m ≡ given n → m ≡ n
same_whole m n e = ap held e

pub ranged_is : (m n : ℤ) → ranged m ≡ Ok (Whole n) → m ≡ n
ranged_is m n e = go (is_in_range m) e
  where
    go : (b : Bool) → (if b then Ok (Whole m) else Err OutOfRange) ≡ Ok (Whole n) → m ≡ n
    go true h = ap held h
    go false h = absurd (true≢false (sym (ap is_ok h)))

pub not_zero : (n : ℤ) → is_int_zero n ≡ false → 0 < unsigned_abs n
not_zero (pos zero) e = absurd (true≢false e)
not_zero (pos (suc n)) e = omega arith
not_zero (negsuc n) e = omega arith
