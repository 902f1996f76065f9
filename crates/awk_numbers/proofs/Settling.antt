-- When a double is a whole number up to 2 ^ 53, by comparisons and casts.
use Rattle.std.proofs.Common.{ℕ, zero, suc, ◌≡◌, ◌*◌, ◌/◌, ◌%◌, ◌^◌, ◌<◌, ◌≤◌, Bool, true, false, not, ◌&&◌}
use Rattle.std.proofs.Common.{◌||◌, ◌==◌, T, ltb, eqb, w64, ◌⊎◌, inl, inr}
use Rattle.std.proofs.Common.{ℤ, pos, neg_ℤ, nat_le, Ok, Err, refl, sym, ap, subst, ◌∙◌, arith}
use Rattle.std.proofs.Common.{div-add-mod', lt→ltb, ltb→lt, eqb→eq, true≢false}
use Rattle.std.proofs.lemmas.Float.{le_trans, lt_of_le_of_lt, lt_of_not-le}
use Rattle.std.specs.Float.{Float, binary64, nan, inf, fin, two_to, minus_two_to, ◌≤ᶠ◌, ◌<ᶠ◌, float_is_finite}
use Rattle.std.specs.Float.{float_to_signed}
use lib.Dec.{le→leb}
use lib.Ieee.{le, lt, eq, up, down, to_signed, of_int, in_float, level, is_nan}
use lib.Ieee.Exact.{HasValue}
use lib.Ieee.Fits.{down_pos, and_l, and_r, and_i, eq→eqb}
use lib.Ieee.Nearest.{div_mono}
use Rattle.awk_numbers.specs.declared.number.Number.TheVariants.{Whole, Real}
use Rattle.awk_numbers.specs.declared.number.NumberFault.TheVariants.{OutOfRange}
use Rattle.awk_numbers.specs.declared.number.Number.{Number}
use Rattle.awk_numbers.specs.Numbers.{signed, is_counted, settled, is_small}
use Rattle.awk_numbers.specs.Operators.{is_bounded, whole_of}
use Rattle.awk_numbers.proofs.Wholes.{counted}
use Rattle.awk_numbers.proofs.Exact.{positive_value, negative_value}

-- ---- the bounds of 64 bits
pub above_least : (x : Float) → T (is_small x) → minus_two_to 63 ≤ᶠ x
unfolding le lt eq
above_least x h = le_trans (minus_two_to 63) (minus_two_to 53) x tt (and_l _ _ h)

pub below_past : (x : Float) → T (is_small x) → x <ᶠ two_to 63
unfolding lt
below_past x h = lt_of_le_of_lt x (two_to 53) (two_to 63) (and_r _ _ h) tt

-- ---- small in size
at_most : (x y : ℕ) (c : Bool) → T (ltb x y || (eqb x y && c)) → x ≤ y
at_most x y c h = go (ltb x y) (eqb x y) (ltb→lt x y) (eqb→eq x y) h
  where
    go : (p q : Bool) → (T p → x < y) → (T q → x ≡ y) → T (p || (q && c)) → x ≤ y
    go true q f g t = omega (arith, f tt)
    go false true f g t = omega (arith, g tt)
    go false false f g t = absurd t

pub small_size : (s : Bool) (m : ℕ) (e : ℤ) → T (is_small (fin s m e)) → m * up e ≤ 2 ^ 53 * down e
unfolding le lt eq
small_size false m e h = omega (arith, at_most (m * up e * 1) (2 ^ 53 * down e) _ (and_r _ _ h))
small_size true m e h =
    omega (arith, at_most (m * up e * 1) (2 ^ 53 * down e) _ (flipped (m * up e * 1) (2 ^ 53 * down e) (and_l _ _ h)))
  where
    flipped : (x y : ℕ) → T (ltb x y || (eqb y x && true)) → T (ltb x y || (eqb x y && true))
    flipped x y t = go (ltb x y) (eqb y x) (eqb→eq y x) t
      where
        go : (p q : Bool) → (T q → y ≡ x) → T (p || (q && true)) → T (p || (eqb x y && true))
        go true q f t = tt
        go false true f t = and_i (eqb x y) true (eq→eqb (sym (f tt))) tt
        go false false f t = absurd t

-- not small, by the order of the numbers
pub large_size : (s : Bool) (m : ℕ) (e : ℤ) → T (not (is_small (fin s m e))) → 2 ^ 53 * down e < m * up e
unfolding is_nan lt
large_size s m e h = go s (le (minus_two_to 53) (fin s m e)) (le (fin s m e) (two_to 53))
    (lt_of_not-le (minus_two_to 53) (fin s m e) tt tt) (lt_of_not-le (fin s m e) (two_to 53) tt tt) h
  where
    go : (s p q : Bool) → (T (not p) → T (lt (fin s m e) (minus_two_to 53)))
        → (T (not q) → T (lt (two_to 53) (fin s m e))) → T (not (p && q)) → 2 ^ 53 * down e < m * up e
    go true true true f g t = absurd t
    go false true true f g t = absurd t
    go true false q f g t = omega (arith, ltb→lt _ _ (f tt))
    go false false q f g t = absurd (f tt)
    go true true false f g t = absurd (g tt)
    go false true false f g t = omega (arith, ltb→lt _ _ (g tt))

-- ---- the whole part
quotient : (a b : ℕ) → 0 < b → a ≤ 2 ^ 53 * b → a / b ≤ 2 ^ 53
quotient a b p h = omega (arith, div_mono a b (2 ^ 53) 1 p (omega arith) (omega (arith, h)))

pub cut : (s : Bool) (m : ℕ) (e : ℤ) → T (is_small (fin s m e))
    → (float_to_signed w64 (fin s m e) ≡ signed s (m * up e / down e)) × (m * up e / down e ≤ 2 ^ 53)
unfolding to_signed
cut true m e h =
    let few = quotient (m * up e) (down e) (down_pos e) (small_size true m e h) in
    (ap (λ (n : ℕ). neg_ℤ (pos n)) (omega (arith, few)), few)
cut false m e h =
    let few = quotient (m * up e) (down e) (down_pos e) (small_size false m e h) in
    (ap pos (omega (arith, few)), few)

fits_float : (s : Bool) (q : ℕ) → q ≤ 2 ^ 53 → T (in_float binary64 (signed s q))
unfolding in_float
fits_float false q h = le→leb q (2 ^ 53) h
fits_float true zero h = tt
fits_float true (suc q) h = lt→ltb q (2 ^ 53) h

pub cut_fits : (x : Float) (n : ℤ) → T (is_small x) → n ≡ float_to_signed w64 x → T (in_float binary64 n)
unfolding le lt eq
cut_fits nan n h e = absurd h
cut_fits (inf true) n h e = absurd h
cut_fits (inf false) n h e = absurd h
cut_fits (fin s m p) n h e =
    let k = cut s m p h in
    subst (λ (z : ℤ). T (in_float binary64 z)) (sym (e ∙ k.0)) (fits_float s (m * up p / down p) k.1)

-- ---- whether the whole part is all
level_same : (s : Bool) (a b : ℕ) → a ≡ b → T (level s a s b)
level_same true a b e = and_i (eqb a b) true (eq→eqb e) tt
level_same false a b e = and_i (eqb a b) true (eq→eqb e) tt

level_zero : (s t : Bool) (a b : ℕ) → a ≡ 0 → b ≡ 0 → T (level s a t b)
level_zero true true a b e f = and_i (eqb a b) true (eq→eqb (e ∙ sym f)) tt
level_zero false false a b e f = and_i (eqb a b) true (eq→eqb (e ∙ sym f)) tt
level_zero true false a b e f = and_i (eqb a b) (eqb a 0) (eq→eqb (e ∙ sym f)) (eq→eqb e)
level_zero false true a b e f = and_i (eqb a b) (eqb a 0) (eq→eqb (e ∙ sym f)) (eq→eqb e)

across : (a b q c d : ℕ) → a * 1 ≡ q * c → b ≡ q * d → a * d ≡ b * c
across a b q c d e f =
    let first : a ≡ q * c = omega (arith, e) in
    rw (first, f) (omega arith)

-- a double of the sign and size of a whole number equals one of the same
pub equals : (x : Float) (s t : Bool) (m : ℕ) (e : ℤ) (q : ℕ) → HasValue x t q 1 → (t ≡ s) ⊎ (q ≡ 0)
    → m * up e ≡ q * down e → T (eq x (fin s m e))
unfolding eq
equals nan s t m e q v w h = absurd v
equals (inf u) s t m e q v w h = absurd v
equals (fin u n d) s t m e q v (inl w) h =
    subst (λ (k : Bool). T (level k (n * up d * down e) s (m * up e * down d))) (sym (v.0 ∙ w))
    (level_same s (n * up d * down e) (m * up e * down d) (across (n * up d) (m * up e) q (down d) (down e) v.1 h))
equals (fin u n d) s t m e q v (inr w) h =
    let here : n * up d * down e ≡ m * up e * down d = across (n * up d) (m * up e) q (down d) (down e) v.1 h in
    let none : m * up e ≡ 0 = h ∙ ap (λ (i : ℕ). i * down e) w ∙ omega arith in
    let last : m * up e * down d ≡ 0 = ap (λ (i : ℕ). i * down d) none ∙ omega arith in
    level_zero u s (n * up d * down e) (m * up e * down d) (here ∙ last) last

pub equal_size : (x : Float) (s t : Bool) (m : ℕ) (e : ℤ) (q : ℕ) → HasValue x t q 1 → T (eq x (fin s m e))
    → m * up e ≡ q * down e
unfolding eq
equal_size nan s t m e q v h = absurd v
equal_size (inf u) s t m e q v h = absurd v
equal_size (fin u n d) s t m e q v h = cancelled (n * up d) (m * up e) q (down d) (down e) (down_pos d) v.1
    (eqb→eq _ _ (and_l _ _ h))
  where
    cancelled : (a b q c d : ℕ) → 0 < c → a * 1 ≡ q * c → a * d ≡ b * c → b ≡ q * d
    cancelled a b q c d p e f =
        let first : a ≡ q * c = omega (arith, e) in
        native.Mathlib.Nat.eq_of_mul-eq-mul_right c p b (q * d) (sym f ∙ ap (λ (i : ℕ). i * d) first ∙ omega arith)

-- the double of a whole number with a sign
pub double_value : (s : Bool) (q : ℕ) → q ≤ 2 ^ 53 → (t : Bool) × ((t ≡ s) ⊎ (q ≡ 0))
    × HasValue (of_int binary64 (signed s q)) t q 1
double_value false q h = (false, inl refl, positive_value q h)
double_value true zero h = (false, inr refl, positive_value zero h)
double_value true (suc q) h = (true, inl refl, negative_value q h)

whole_by : (s : Bool) (m : ℕ) (e : ℤ) (n : ℤ) → n ≡ signed s (m * up e / down e) → m * up e / down e ≤ 2 ^ 53
    → T (eq (of_int binary64 n) (fin s m e))
    → Ok (Whole n) ≡ settled (fin s m e)
whole_by s m e n is few h =
    let v = double_value s (m * up e / down e) few in
    let all = equal_size (of_int binary64 (signed s (m * up e / down e))) s v.0 m e (m * up e / down e) v.2
    (subst (λ (z : ℤ). T (eq (of_int binary64 z) (fin s m e))) is h) in
    let k = counted (m * up e) (down e) (m * up e / down e) (down_pos e) all few in
    rw k.0 (ap (λ (z : ℤ). Ok (Whole z)) is)

uncounted : (a b : ℕ) → (a ≡ a / b * b → ⊥) → is_counted a b ≡ false
uncounted a b h = go (a % b == 0) (eqb→eq (a % b) 0)
  where
    go : (p : Bool) → (T p → a % b ≡ 0) → (p && nat_le (a / b) (2 ^ 53)) ≡ false
    go true f = absurd (h (omega (arith, f tt, div-add-mod' a b)))
    go false f = refl

real_by : (s : Bool) (m : ℕ) (e : ℤ) (n : ℤ) → n ≡ signed s (m * up e / down e) → m * up e / down e ≤ 2 ^ 53
    → T (not (eq (of_int binary64 n) (fin s m e)))
    → Ok (Real (fin s m e)) ≡ settled (fin s m e)
real_by s m e n is few h =
    let v = double_value s (m * up e / down e) few in
    rw (uncounted (m * up e) (down e)
    (λ (all : m * up e ≡ m * up e / down e * down e). both _ (subst (λ (z : ℤ). T (eq (of_int binary64 z) (fin s m e)))
    (sym is) (equals (of_int binary64 (signed s (m * up e / down e))) s v.0 m e (m * up e / down e) v.2 v.1 all))
    h)) refl
  where
    both : (b : Bool) → T b → T (not b) → ⊥
    both true t u = u
    both false t u = t

pub settles_whole : (x : Float) (n : ℤ) → T (is_small x) → n ≡ float_to_signed w64 x → T (eq (of_int binary64 n) x)
    → Ok (Whole n) ≡ settled x
unfolding le lt eq
settles_whole nan n h e k = absurd h
settles_whole (inf true) n h e k = absurd h
settles_whole (inf false) n h e k = absurd h
settles_whole (fin s m p) n h e k = whole_by s m p n (e ∙ (cut s m p h).0) (cut s m p h).1 k

pub settles_real : (x : Float) (n : ℤ) → T (is_small x) → n ≡ float_to_signed w64 x → T (not (eq (of_int binary64 n) x))
    → Ok (Real x) ≡ settled x
unfolding le lt eq
settles_real nan n h e k = absurd h
settles_real (inf true) n h e k = absurd h
settles_real (inf false) n h e k = absurd h
settles_real (fin s m p) n h e k = real_by s m p n (e ∙ (cut s m p h).0) (cut s m p h).1 k

-- ---- what is larger
past : (a b : ℕ) → 0 < b → 2 ^ 53 * b < a → is_counted a b ≡ false
past a b p h = go (a % b == 0) (eqb→eq (a % b) 0)
  where
    go : (k : Bool) → (T k → a % b ≡ 0) → (k && nat_le (a / b) (2 ^ 53)) ≡ false
    go false f = refl
    go true f =
        let all : a ≡ a / b * b = omega (arith, f tt, div-add-mod' a b) in
        Rattle.std.proofs.lemmas.Bool.lt-leb (a / b) (2 ^ 53) (native.Mathlib.Nat.lt_of_mul-lt-mul_right b
        (subst (λ (n : ℕ). 2 ^ 53 * b < n) all h))

pub settles_large : (x : Float) → T (not (is_small x)) → float_is_finite x ≡ true → Ok (Real x) ≡ settled x
unfolding float_is_finite
settles_large nan h f = absurd (true≢false (sym f))
settles_large (inf s) h f = absurd (true≢false (sym f))
settles_large (fin s m e) h f = rw (past (m * up e) (down e) (down_pos e) (large_size s m e h)) refl

pub settles_nothing : (x : Float) → float_is_finite x ≡ false → Err OutOfRange ≡ settled x
unfolding float_is_finite
settles_nothing nan f = refl
settles_nothing (inf s) f = refl
settles_nothing (fin s m e) f = absurd (true≢false f)

pub bounded_at : (x : Number) (y : Float) (n : ℤ) → x ≡ Real y → is_bounded y ≡ true → n ≡ float_to_signed w64 y
    → Ok n ≡ whole_of x
bounded_at x y n e b is = rw (e, b, is) refl
