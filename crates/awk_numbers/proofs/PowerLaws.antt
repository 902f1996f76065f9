-- The laws of powers.
use Rattle.std.proofs.Common.{ℕ, zero, suc, ◌≡◌, ◌-◌, ◌/◌, ◌^◌, ◌≤◌, ◌==◌, ◌&&◌, nat_lt, Bool, true, false, T}
use Rattle.std.proofs.Common.{ℤ, pos, negsuc}
use Rattle.std.proofs.Common.{unsigned_abs, int_div, Some, None, Result, Ok, Err, is_ok, refl, sym, ap}
use Rattle.std.proofs.Common.{subst, ◌∙◌, arith, true≢false, div-le_self}
use Rattle.std.proofs.Math.Nat.{pow-zero}
use Rattle.std.proofs.lemmas.Bool.{le-leb, leb-true, le-ltb, ne_eqb}
use Rattle.std.specs.Bool.{if◌then◌else◌}
use Rattle.std.specs.Int.{int_pow}
use Rattle.std.specs.Float.{Float, binary64, nan, inf, fin, float_zero, float_with_sign}
use lib.Ieee.{eq, fits, is_nan, lt, of_int}
use lib.Ieee.Bits.{of_bits-fits}
use lib.Ieee.Exact.{HasValue}
use lib.Ieee.Fits.{add-fits, mul-fits, div-fits, neg-fits, sqrt-fits}
use Rattle.awk_numbers.specs.declared.number.Number.{Number}
use Rattle.awk_numbers.specs.declared.number.Number.TheVariants.{Whole, Real}
use Rattle.awk_numbers.specs.declared.number.Numbers.TheVariants as profile
use Rattle.awk_numbers.specs.declared.number.NumberFault.{NumberFault}
use Rattle.awk_numbers.specs.declared.number.NumberFault.TheVariants.{ZeroDivisor}
use Rattle.awk_numbers.specs.Formula.{bits, by_logarithm, high, less, logarithm, plus, power, shifted, small_power}
use Rattle.awk_numbers.specs.Formula.{times, times_power, two_power, unit, unscaled, within}
use Rattle.awk_numbers.specs.Laws.{Closed, IsExact, PowRestricts}
use Rattle.awk_numbers.specs.Numbers.{double_of, settled, IsNumber}
use Rattle.awk_numbers.specs.Operators.{is_int_zero, is_zero}
use Rattle.awk_numbers.specs.Powers.{by_formula, double_pow, is_below_zero, is_exact, is_odd, is_whole, kept_or}
use Rattle.awk_numbers.specs.Powers.{one_over, one_over_raised, pow, raised, some_power}
use Rattle.awk_numbers.proofs.Canonical.{behind, number_in, ranged_number, settled_number, signed_size}
use Rattle.awk_numbers.proofs.Exact.{positive_value, ranged_is}
use Rattle.awk_numbers.proofs.WholePowers.{zero-pow}

-- ---- the power of a whole number in both profiles
value_not_below : (x : Float) (q : ℕ) → HasValue x false q 1 → lt x float_zero ≡ false
unfolding lt
value_not_below nan q v = refl
value_not_below (inf s) q v = absurd v
value_not_below (fin s m e) q v = rw v.0 (le-ltb _ _ (omega arith))

not_below : (n : ℕ) → n ≤ 2 ^ 53 → is_below_zero (Whole (pos n)) ≡ false
not_below n h = value_not_below (of_int binary64 (pos n)) n (positive_value n h)

no_power : (m : ℤ) → int_pow m 0 ≡ pos 1
no_power (pos a) = ap pos (pow-zero a)
no_power (negsuc a) = ap pos (pow-zero (suc a))

raised_at : (m : ℤ) (n : ℕ) (z : ℤ) → int_pow m n ≡ z → IsExact z → raised (Whole m) (Whole (pos n)) ≡ Ok (Whole z)
unfolding raised
raised_at m n z e r =
    let small : is_exact (int_pow m n) ≡ true =
    le-leb _ _ (subst (λ (k : ℤ). unsigned_abs k ≤ 2 ^ 53) (sym e) r) in
    rw small (ap (λ (k : ℤ). Ok (Whole k)) e)

some_at : (m : ℤ) (n : ℕ) (z : ℤ) → n ≤ 2 ^ 53 → int_pow m n ≡ z → IsExact z
    → some_power (Whole m) (Whole (pos n)) ≡ Ok (Whole z)
unfolding some_power
some_at m n z q e r = rw (not_below n q) (raised_at m n z e r)

pick : (b : Bool) (u v r : Result Number NumberFault) → b ≡ false → v ≡ r → (if b then u else v) ≡ r
pick true u v r e h = absurd (true≢false e)
pick false u v r e h = h

-- by whether the number is zero
by_zero : (m : ℤ) (k : ℕ) (z : ℤ) → suc k ≤ 2 ^ 53 → int_pow m (suc k) ≡ z → IsExact z
    → (if is_int_zero m then (if is_below_zero (Whole (pos (suc k))) then Err ZeroDivisor else Ok (Whole (pos 0)))
    else some_power (Whole m) (Whole (pos (suc k)))) ≡ Ok (Whole z)
by_zero (pos zero) k z q e r =
    rw (not_below (suc k) q) (ap (λ (n : ℤ). Ok (Whole n)) (ap pos (sym (zero-pow (suc k) (omega arith))) ∙ e))
by_zero (pos (suc a)) k z q e r = pick (suc a == 0) _ _ _ (ne_eqb (suc a) 0 (λ h. omega (arith, h)))
    (some_at (pos (suc a)) (suc k) z q e r)
by_zero (negsuc a) k z q e r = some_at (negsuc a) (suc k) z q e r

pub power_restricts : PowRestricts
unfolding double_pow
power_restricts m z zero p q r e = ap (λ (n : ℤ). Ok (Whole n)) (sym (no_power m) ∙ ranged_is (int_pow m 0) z e)
power_restricts m z (suc k) p q r e = pick (suc k == 0) _ _ _ (ne_eqb (suc k) 0 (λ h. omega (arith, h)))
    (by_zero m k z q (ranged_is (int_pow m (suc k)) z e) r)

-- ---- powers are numbers
either_fits : (b : Bool) (x y : Float) → T (fits binary64 x) → T (fits binary64 y)
    → T (fits binary64 (if b then x else y))
either_fits true x y f g = f
either_fits false x y f g = g

shifted_fits : (x : Float) (n : ℕ) → T (fits binary64 (shifted x n))
unfolding shifted
shifted_fits x n =
    either_fits (nat_lt n 4) _ _ (of_bits-fits binary64 0) (either_fits (nat_lt 4092 n) _ _
    (of_bits-fits binary64 0x7ff0_0000_0000_0000) (mul-fits binary64 (times x (unit (n / 2 - 1)))
    (unit (n - n / 2 - 1))))

two_fits : (p q : Float) → T (fits binary64 (two_power p q))
unfolding two_power
two_fits p q =
    let z = plus q p in
    let t = plus z (bits 0x4338_0000_0000_0000) in
    either_fits (is_nan t) t _ (add-fits binary64 z (bits 0x4338_0000_0000_0000))
    (either_fits (lt z (bits 0xc091_3000_0000_0000)) (bits 0) _ (of_bits-fits binary64 0)
    (shifted_fits (small_power (less p (less t (bits 0x4338_0000_0000_0000))) q) (unscaled t)))

logarithm_fits : (x y : Float) → T (fits binary64 (by_logarithm x y))
unfolding by_logarithm times_power
logarithm_fits x y =
    let t = logarithm x in
    let first = high (within y) in
    two_fits (times first t.0) (plus (times (less (within y) first) t.0) (times (within y) t.1))

power_fits : (x y : Float) → T (fits binary64 (power x y))
unfolding power
power_fits x y =
    either_fits (eq y (bits 0x4000_0000_0000_0000)) _ _ (mul-fits binary64 x x)
    (either_fits (eq y (bits 0x3fe0_0000_0000_0000)) _ _ (sqrt-fits binary64 x) (logarithm_fits x y))

formula_fits : (x y : Number) → T (fits binary64 (by_formula x y))
formula_fits x y =
    let f = power_fits (float_with_sign false (double_of x)) (double_of y) in
    either_fits (is_below_zero x && is_odd y) _ _
    (neg-fits binary64 (power (float_with_sign false (double_of x)) (double_of y)) f) f

abbrev Gives : Result Number NumberFault → Number → Type 0
Gives r z = r ≡ Ok z → IsNumber profile.Double z

either_gives : (b : Bool) (u v : Result Number NumberFault) (z : Number) → Gives u z → Gives v z
    → Gives (if b then u else v) z
either_gives true u v z f g = f
either_gives false u v z f g = g

none_gives : (e : NumberFault) (z : Number) → Gives (Err e) z
none_gives e z h = absurd (true≢false (sym (ap is_ok h)))

whole_gives : (n : ℤ) (z : Number) → unsigned_abs n ≤ 2 ^ 53 → Gives (Ok (Whole n)) z
whole_gives n z l h = subst (λ (k : Number). IsNumber profile.Double k) (ap number_in h) l

double_gives : (x : Float) (z : Number) → T (fits binary64 x) → Gives (settled x) z
double_gives x z f h = settled_number x z f h

kept_gives : (b : Bool) (n : ℤ) (x : Float) (z : Number) → (b ≡ true → unsigned_abs n ≤ 2 ^ 53) → T (fits binary64 x)
    → Gives (kept_or (if b then Some n else None) x) z
kept_gives true n x z l f = whole_gives n z (l refl)
kept_gives false n x z l f = double_gives x z f

raised_gives : (x y z : Number) → Gives (raised x y) z
unfolding raised
raised_gives (Whole m) (Whole (pos n)) z =
    kept_gives (is_exact (int_pow m n)) (int_pow m n) _ z (leb-true _ _) (formula_fits (Whole m) (Whole (pos n)))
raised_gives (Whole m) (Whole (negsuc n)) z = double_gives _ z (formula_fits (Whole m) (Whole (negsuc n)))
raised_gives (Whole m) (Real y) z = double_gives _ z (formula_fits (Whole m) (Real y))
raised_gives (Real x) y z = double_gives _ z (formula_fits (Real x) y)

one_over_gives : (r : Result Number NumberFault) (z : Number) → Gives (one_over r) z
one_over_gives (Err e) z = whole_gives (pos 0) z (omega arith)
one_over_gives (Ok p) z = double_gives _ z (div-fits binary64 _ _)

one_over_raised_gives : (x : Number) (r : Result Number NumberFault) (z : Number) → Gives (one_over_raised x r) z
one_over_raised_gives x (Err e) z = none_gives e z
one_over_raised_gives x (Ok y) z = one_over_gives (raised x y) z

some_gives : (x y z : Number) → Gives (some_power x y) z
unfolding some_power
some_gives x y z =
    either_gives (is_whole y) _ _ z (either_gives (is_below_zero y) _ _ z (one_over_raised_gives x _ z)
    (raised_gives x y z)) (either_gives (is_below_zero x) _ _ z (none_gives _ z)
    (double_gives _ z (formula_fits x y)))

double_closed : (x y z : Number) → Gives (double_pow x y) z
unfolding double_pow
double_closed x y z =
    either_gives (is_zero y) _ _ z (whole_gives (pos 1) z (omega arith)) (either_gives (is_zero x) _ _ z
    (either_gives (is_below_zero y) _ _ z (none_gives _ z) (whole_gives (pos 0) z (omega arith))) (some_gives x y z))

one_over_small : (k : ℤ) → unsigned_abs (int_div (pos 1) k) ≤ 2 ^ 63
one_over_small (pos b) = omega (arith, div-le_self 1 b)
one_over_small (negsuc b) =
    subst (λ (n : ℕ). n ≤ 2 ^ 63) (sym (signed_size true (1 / suc b))) (omega (arith, div-le_self 1 (suc b)))

pub closed_pow : Closed pow
closed_pow profile.Double x y z p q e = double_closed x y z e
closed_pow profile.Whole (Whole m) (Whole (pos n)) z p q e = ranged_number (int_pow m n) z e
closed_pow profile.Whole (Whole m) (Whole (negsuc n)) z p q e = behind profile.Whole (is_int_zero m) _ z
    (λ h. subst (λ (k : Number). IsNumber profile.Whole k) (ap number_in h) (one_over_small (int_pow m (suc n)))) e
closed_pow profile.Whole (Whole m) (Real y) z p q e = absurd q
closed_pow profile.Whole (Real x) y z p q e = absurd p
