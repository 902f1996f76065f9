-- What the operators give are numbers of the profile, and equal numbers are one value.
use Rattle.std.proofs.Common.{ℕ, zero, suc, ◌≡◌, ◌*◌, ◌/◌, ◌%◌, ◌^◌, ◌≤◌, ◌==◌, Bool, true, false, cond, T}
use Rattle.std.proofs.Common.{ℤ, pos, negsuc, ◌+ℤ◌, ◌-ℤ◌, ◌*ℤ◌, neg_ℤ, unsigned_abs, int_div, int_rem, nat_abs, Result}
use Rattle.std.proofs.Common.{Ok, Err, is_ok, refl, sym, ap, subst, ◌∙◌, arith, true≢false, div-add-mod', Less, Equal}
use Rattle.std.proofs.Common.{Greater, is_eq}
use Rattle.std.proofs.lemmas.Int.{ints}
use Rattle.std.proofs.lemmas.Bool.{and_parts, leb-true, ltb-true, ne_eqb}
use Rattle.std.proofs.lemmas.Float.{eq_flip, eq-not_lt}
use Rattle.std.specs.Bool.{if◌then◌else◌}
use Rattle.std.specs.Ordering.{int_cmp}
use Rattle.std.specs.Float.{Float, binary64, nan, inf, fin}
use Rattle.std.specs.Float.Cmp.{same_key}
use lib.Dec.{not_T}
use lib.Ieee.{up, down, fits, of_int, of_bits, to_bits, top, lt, eq, is_nan}
use lib.Ieee.Bits.{of_bits-to_bits, is_false}
use lib.Ieee.Fits.{add-fits, sub-fits, mul-fits, div-fits, rem-fits, neg-fits, of_int-fits, down_pos}
use Rattle.awk_numbers.specs.declared.number.Number.{Number}
use Rattle.awk_numbers.specs.declared.number.Number.TheVariants.{Whole, Real}
use Rattle.awk_numbers.specs.declared.number.Numbers.{Numbers}
use Rattle.awk_numbers.specs.declared.number.Numbers.TheVariants as profile
use Rattle.awk_numbers.specs.declared.number.NumberFault.{NumberFault}
use Rattle.awk_numbers.specs.declared.number.NumberFault.TheVariants.{OutOfRange, ZeroDivisor}
use Rattle.awk_numbers.specs.Numbers.{signed, is_counted, settled, double_of, IsNumber}
use Rattle.awk_numbers.specs.Operators as op
use Rattle.awk_numbers.specs.Operators.{ranged, is_in_range, is_int_zero, is_zero}
use Rattle.awk_numbers.specs.Laws.{Closed, NegClosed, OneValue}
use Rattle.awk_numbers.proofs.Wholes.{counted}
use Rattle.awk_numbers.proofs.Settling.{double_value, equal_size}

-- ---- results are numbers
abbrev pub number_in : Result Number NumberFault → Number
number_in (Ok x) = x
number_in (Err e) = Whole (pos 0)

pub signed_size : (s : Bool) (q : ℕ) → unsigned_abs (signed s q) ≡ q
signed_size false q = refl
signed_size true zero = refl
signed_size true (suc q) = refl

abbrev chosen : Bool → Bool → ℕ → Float → Result Number NumberFault
chosen counted s q x = if counted then Ok (Whole (signed s q)) else Ok (Real x)

pub settled_number : (x : Float) (z : Number) → T (fits binary64 x) → settled x ≡ Ok z → IsNumber profile.Double z
settled_number nan z f e = absurd (true≢false (sym (ap is_ok e)))
settled_number (inf s) z f e = absurd (true≢false (sym (ap is_ok e)))
settled_number (fin s m p) z f e = go (is_counted (m * up p) (down p)) refl e
  where
    go : (b : Bool) → is_counted (m * up p) (down p) ≡ b
        → chosen b s (m * up p / down p) (fin s m p) ≡ Ok z → IsNumber profile.Double z
    go true c h =
        let few : m * up p / down p ≤ 2 ^ 53 = leb-true _ _ (and_parts _ _ c).1 in
        subst (λ (k : Number). IsNumber profile.Double k) (ap number_in h)
        (subst (λ (n : ℕ). n ≤ 2 ^ 53) (sym (signed_size s (m * up p / down p))) few)
    go false c h = subst (λ (k : Number). IsNumber profile.Double k) (ap number_in h) (f, rw c refl)

in_range : (w : ℤ) → is_in_range w ≡ true → unsigned_abs w ≤ 2 ^ 63
in_range (pos n) e = omega (arith, ltb-true n (2 ^ 63) e)
in_range (negsuc n) e = omega (arith, ltb-true n (2 ^ 63) e)

pub ranged_number : (w : ℤ) (z : Number) → ranged w ≡ Ok z → IsNumber profile.Whole z
ranged_number w z e = go (is_in_range w) (in_range w) e
  where
    go : (b : Bool) → (b ≡ true → unsigned_abs w ≤ 2 ^ 63) → (if b then Ok (Whole w) else Err OutOfRange) ≡ Ok z
        → IsNumber profile.Whole z
    go true f h = subst (λ (k : Number). IsNumber profile.Whole k) (ap number_in h) (f refl)
    go false f h = absurd (true≢false (sym (ap is_ok h)))

double_fits : (x : Number) → IsNumber profile.Double x → T (fits binary64 (double_of x))
double_fits (Whole n) p = of_int-fits binary64 n
double_fits (Real x) p = p.0

pub closed_add : Closed op.add
closed_add profile.Double x y z p q e = settled_number _ z (add-fits binary64 (double_of x) (double_of y)) e
closed_add profile.Whole (Whole m) (Whole n) z p q e = ranged_number (m +ℤ n) z e
closed_add profile.Whole (Whole m) (Real y) z p q e = absurd q
closed_add profile.Whole (Real x) y z p q e = absurd p

pub closed_sub : Closed op.sub
closed_sub profile.Double x y z p q e = settled_number _ z (sub-fits binary64 (double_of x) (double_of y)) e
closed_sub profile.Whole (Whole m) (Whole n) z p q e = ranged_number (m -ℤ n) z e
closed_sub profile.Whole (Whole m) (Real y) z p q e = absurd q
closed_sub profile.Whole (Real x) y z p q e = absurd p

pub closed_mul : Closed op.mul
closed_mul profile.Double x y z p q e = settled_number _ z (mul-fits binary64 (double_of x) (double_of y)) e
closed_mul profile.Whole (Whole m) (Whole n) z p q e = ranged_number (m *ℤ n) z e
closed_mul profile.Whole (Whole m) (Real y) z p q e = absurd q
closed_mul profile.Whole (Real x) y z p q e = absurd p

-- what stands behind a test of the divisor
pub behind : (numbers : Numbers) (b : Bool) (r : Result Number NumberFault) (z : Number)
    → (r ≡ Ok z → IsNumber numbers z)
    → (if b then Err ZeroDivisor else r) ≡ Ok z → IsNumber numbers z
behind numbers true r z f h = absurd (true≢false (sym (ap is_ok h)))
behind numbers false r z f h = f h

pub closed_div : Closed op.div
closed_div profile.Double x y z p q e = behind profile.Double (is_zero y) _ z
    (λ h. settled_number _ z (div-fits binary64 (double_of x) (double_of y)) h) e
closed_div profile.Whole (Whole m) (Whole n) z p q e = behind profile.Whole (is_int_zero n) _ z
    (λ h. ranged_number (int_div m n) z h) e
closed_div profile.Whole (Whole m) (Real y) z p q e = absurd q
closed_div profile.Whole (Real x) y z p q e = absurd p

mod_small : (a b k : ℕ) → a ≤ k → a % b ≤ k
mod_small a b k h = omega (arith, h, div-add-mod' a b)

rem_small : (m n : ℤ) → unsigned_abs m ≤ 2 ^ 63 → unsigned_abs (int_rem m n) ≤ 2 ^ 63
rem_small (pos a) n p = mod_small a (nat_abs n) (2 ^ 63) p
rem_small (negsuc a) n p = subst (λ (k : ℕ). k ≤ 2 ^ 63) (sym (signed_size true (suc a % nat_abs n)))
    (mod_small (suc a) (nat_abs n) (2 ^ 63) p)

pub closed_rem : Closed op.rem
closed_rem profile.Double x y z p q e = behind profile.Double (is_zero y) _ z
    (λ h. settled_number _ z (rem-fits binary64 (double_of x) (double_of y) (double_fits x p)) h) e
closed_rem profile.Whole (Whole m) (Whole n) z p q e =
    behind profile.Whole (is_int_zero n) _ z (λ h. subst (λ (k : Number). IsNumber profile.Whole k) (ap number_in h)
    (rem_small m n p)) e
closed_rem profile.Whole (Whole m) (Real y) z p q e = absurd q
closed_rem profile.Whole (Real x) y z p q e = absurd p

pub closed_neg : NegClosed
closed_neg profile.Double x z p e = settled_number _ z (neg-fits binary64 (double_of x) (double_fits x p)) e
closed_neg profile.Whole (Whole n) z p e = ranged_number (neg_ℤ n) z e
closed_neg profile.Whole (Real x) z p e = absurd p

-- ---- equal numbers
abbrev is_real : Result Number NumberFault → Bool
is_real (Ok (Whole n)) = false
is_real (Ok (Real x)) = true
is_real (Err e) = false

-- a double that equals a whole number up to 2 ^ 53 settles to one
no_whole : (x : Float) (s : Bool) (q : ℕ) → q ≤ 2 ^ 53 → settled x ≡ Ok (Real x)
    → T (eq (of_int binary64 (signed s q)) x) → ⊥
no_whole nan s q h e t = true≢false (sym (ap is_ok e))
no_whole (inf u) s q h e t = true≢false (sym (ap is_ok e))
no_whole (fin u m p) s q h e t =
    let v = double_value s q h in
    let k = counted (m * up p) (down p) q (down_pos p) (equal_size (of_int binary64 (signed s q)) u v.0 m p q v.2 t) h
    in
    let whole : settled (fin u m p) ≡ Ok (Whole (signed u (m * up p / down p))) = rw k.0 refl in
    true≢false (sym (ap is_real (sym whole ∙ e)))

mixed : (n : ℤ) (x : Float) → unsigned_abs n ≤ 2 ^ 53 → settled x ≡ Ok (Real x) → T (eq (of_int binary64 n) x) → ⊥
mixed (pos n) x p e t = no_whole x false n p e t
mixed (negsuc n) x p e t = no_whole x true (suc n) p e t

not_top : (x : Float) → T (fits binary64 x) → settled x ≡ Ok (Real x) → to_bits binary64 x ≡ top binary64 → ⊥
unfolding of_bits
not_top x f e h =
    let is : of_bits binary64 (top binary64) ≡ x = ap (of_bits binary64) (sym h) ∙ of_bits-to_bits binary64 x f in
    true≢false (sym (ap is_real (ap settled is ∙ e)))

same_double : (x y : Float) → T (fits binary64 x) → T (fits binary64 y) → settled x ≡ Ok (Real x)
    → settled y ≡ Ok (Real y) → T (eq x y) → x ≡ y
unfolding is_nan
same_double nan y f g d e t = absurd (true≢false (sym (ap is_ok d)))
same_double (inf s) y f g d e t = absurd (true≢false (sym (ap is_ok d)))
same_double (fin s m p) nan f g d e t = absurd (true≢false (sym (ap is_ok e)))
same_double (fin s m p) (inf u) f g d e t = absurd (true≢false (sym (ap is_ok e)))
same_double (fin s m p) (fin u n k) f g d e t =
    let x = fin s m p in
    let y = fin u n k in
    let first = is_false (lt x y) (not_T (lt x y) (eq-not_lt x y t)) in
    let second = is_false (lt y x) (not_T (lt y x) (eq-not_lt y x (eq_flip x y t))) in
    let key = same_key binary64 x y (rw (first, second) refl) in
    let left = ne_eqb (to_bits binary64 x) (top binary64) (not_top x f d) in
    let right = ne_eqb (to_bits binary64 y) (top binary64) (not_top y g e) in
    let bits : to_bits binary64 x ≡ to_bits binary64 y = apart (to_bits binary64 x) (to_bits binary64 y) left right key
    in
    sym (of_bits-to_bits binary64 x f) ∙ ap (of_bits binary64) bits ∙ of_bits-to_bits binary64 y g
  where
    apart : (a b : ℕ) → (a == top binary64) ≡ false → (b == top binary64) ≡ false → cond (a == top binary64) 0 a
        ≡ cond (b == top binary64) 0 b → a ≡ b
    apart a b l r h = sym (rw l refl) ∙ h ∙ rw r refl

equal_from : (p q : Bool) → cond p Less (cond q Equal Greater) ≡ Equal → T q
equal_from true q h = absurd (true≢false (sym (ap is_eq h)))
equal_from false true h = tt
equal_from false false h = absurd (true≢false (sym (ap is_eq h)))

same_int : (m n : ℤ) → int_cmp m n ≡ Equal → m ≡ n
same_int m n h = grind (arith, ints)

pub one_whole : OneValue profile.Whole
one_whole (Whole m) (Whole n) p q e = ap Whole (same_int m n e)
one_whole (Whole m) (Real y) p q e = absurd q
one_whole (Real x) y p q e = absurd p

pub one_double : OneValue profile.Double
one_double (Whole m) (Whole n) p q e = ap Whole (same_int m n e)
one_double (Whole m) (Real y) p q e = absurd (mixed m y p q.1 (equal_from (lt (of_int binary64 m) y) _ e))
one_double (Real x) (Whole n) p q e =
    absurd (mixed n x q p.1 (eq_flip x (of_int binary64 n) (equal_from (lt x (of_int binary64 n)) _ e)))
one_double (Real x) (Real y) p q e = ap Real (same_double x y p.0 q.0 p.1 q.1 (equal_from (lt x y) _ e))
