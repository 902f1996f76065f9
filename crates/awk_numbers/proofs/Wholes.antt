-- What the operators give of doubles that have the value of whole numbers.
use Rattle.std.proofs.Common.{ℕ, zero, suc, ◌≡◌, ◌+◌, ◌-◌, ◌*◌, ◌/◌, ◌%◌, ◌^◌, ◌<◌, ◌≤◌, ◌⊎◌, inl, inr, Bool, true}
use Rattle.std.proofs.Common.{false, not, cond, ◌&&◌}
use Rattle.std.proofs.Common.{ℤ, ◌+ℤ◌, ltb, eqb, Ok, refl, sym, ap, subst, ◌∙◌, arith}
use Rattle.std.proofs.Common.{mul-lt-mul_of_pos_right, div-add-mod', mod-lt}
use Rattle.std.proofs.Common.{mul-pos}
use Rattle.std.proofs.lemmas.Nat.{mod-mul-add}
use Rattle.std.proofs.lemmas.Int.{ints}
use Rattle.std.proofs.lemmas.Bool.{lt-ltb, le-ltb, le-leb, ne_eqb}
use Rattle.std.specs.Float.{Float, binary64, nan, inf, fin}
use lib.Ieee.{up, down, round, sum, add, mul, div, rem, neg, unlike}
use lib.Ieee.Exact.{HasValue}
use lib.Ieee.Back.{round_whole}
use lib.Ieee.Scale.{round_same}
use lib.Ieee.Fits.{down_pos}
use native.Mathlib.Nat.{mul-div_cancel, mul-mod_left}
use Rattle.awk_numbers.specs.declared.number.Number.TheVariants.{Whole}
use Rattle.awk_numbers.specs.Numbers.{signed, is_counted, settled}

-- ---- which double settles to a whole number
pub counted : (a b q : ℕ) → 0 < b → a ≡ q * b → q ≤ 2 ^ 53 → (is_counted a b ≡ true) × (a / b ≡ q)
counted a b q p e h =
    let none : a % b ≡ 0 = ap (λ (n : ℕ). n % b) e ∙ mul-mod_left q b in
    let all : a / b ≡ q = ap (λ (n : ℕ). n / b) e ∙ mul-div_cancel q p in
    (rw (none, all) (le-leb q (2 ^ 53) h), all)

pub settled_whole : (x : Float) (s : Bool) (q : ℕ) → HasValue x s q 1 → q ≤ 2 ^ 53 → settled x ≡ Ok (Whole (signed s q))
settled_whole nan s q v h = absurd v
settled_whole (inf t) s q v h = absurd v
settled_whole (fin t m e) s q v h =
    let k = counted (m * up e) (down e) q (down_pos e) (omega (arith, v.1)) h in
    rw (k.0, k.1, v.0) refl

-- a fraction that is whole, rounded, has its value
pub rounds : (s : Bool) (p c q : ℕ) → 0 < c → p ≡ q * c → q ≤ 2 ^ 53 → HasValue (round binary64 s p c) s q 1
rounds s p c q z e h =
    subst (λ (x : Float). HasValue x s q 1) (sym (round_same binary64 s p c q 1 z (omega arith) (omega (arith, e))))
    (round_whole binary64 s q h)

pub settles : (s : Bool) (p c q : ℕ) → 0 < c → p ≡ q * c → q ≤ 2 ^ 53 → settled (round binary64 s p c)
    ≡ Ok (Whole (signed s q))
settles s p c q z e h = settled_whole (round binary64 s p c) s q (rounds s p c q z e h) h

-- ---- sums
-- of one sign
alike : (s : Bool) (a b : ℕ) → signed s (a + b) ≡ signed s a +ℤ signed s b
alike true a b = omega (arith, ints)
alike false a b = omega (arith, ints)

sum_alike : (s : Bool) (p q c a b : ℕ) → 0 < c → p ≡ a * c → q ≡ b * c → a + b ≤ 2 ^ 53
    → settled (sum binary64 s p s q c) ≡ Ok (Whole (signed s a +ℤ signed s b))
unfolding sum
sum_alike true p q c a b z e f h = settles true (p + q) c (a + b) z (omega (arith, e, f)) h
    ∙ ap (λ (n : ℤ). Ok (Whole n)) (alike true a b)
sum_alike false p q c a b z e f h = settles false (p + q) c (a + b) z (omega (arith, e, f)) h
    ∙ ap (λ (n : ℤ). Ok (Whole n)) (alike false a b)

-- of two signs
less : (s : Bool) (a b : ℕ) → a < b → signed (not s) (b - a) ≡ signed s a +ℤ signed (not s) b
less true a b h = omega (arith, ints)
less false a b h = omega (arith, ints)

no_less : (s : Bool) (a b : ℕ) → b ≤ a → signed s (a - b) ≡ signed s a +ℤ signed (not s) b
no_less true a b h = omega (arith, ints)
no_less false a b h = omega (arith, ints)

sign_of_zero : (s : Bool) → signed (s && false) 0 ≡ signed s 0
sign_of_zero true = refl
sign_of_zero false = refl

kept : (s : Bool) → (s && true) ≡ s
kept true = refl
kept false = refl

apart : (s : Bool) (p q c a b : ℕ) → 0 < c → p ≡ a * c → q ≡ b * c → a ≤ 2 ^ 53 → b ≤ 2 ^ 53
    → (a < b) ⊎ ((a ≡ b) ⊎ (b < a))
    → settled (cond (ltb p q) (round binary64 (not s) (q - p) c) (round binary64 (s && ltb q p) (p - q) c))
    ≡ Ok (Whole (signed s a +ℤ signed (not s) b))
apart s p q c a b z e f ha hb (inl l) =
    let under : p < q = omega (arith, e, f, mul-lt-mul_of_pos_right l z) in
    rw (lt-ltb p q under) (settles (not s) (q - p) c (b - a) z (omega (arith, e, f, ap (λ (n : ℕ). n * c) (back a b l)))
    (omega arith) ∙ ap (λ (n : ℤ). Ok (Whole n)) (less s a b l))
  where
    back : (a b : ℕ) → a < b → b - a + a ≡ b
    back a b h = omega arith
apart s p q c a b z e f ha hb (inr (inl l)) =
    let same : p ≡ q = e ∙ ap (λ (n : ℕ). n * c) l ∙ sym f in
    rw (le-ltb q p (omega (arith, same)), le-ltb p q (omega (arith, same)))
    (settles (s && false) (p - q) c 0 z (omega (arith, same)) (omega arith) ∙ ap (λ (n : ℤ). Ok (Whole n))
    (sign_of_zero s ∙ ap (signed s) (gone a b l) ∙ no_less s a b (omega (arith, l))))
  where
    gone : (a b : ℕ) → a ≡ b → 0 ≡ a - b
    gone a b h = omega (arith, h)
apart s p q c a b z e f ha hb (inr (inr l)) =
    let over : q < p = omega (arith, e, f, mul-lt-mul_of_pos_right l z) in
    rw (le-ltb p q (omega (arith, over)), lt-ltb q p over, kept s)
    (settles s (p - q) c (a - b) z (omega (arith, e, f, ap (λ (n : ℕ). n * c) (back b a l))) (omega arith)
    ∙ ap (λ (n : ℤ). Ok (Whole n)) (no_less s a b (omega (arith, l))))
  where
    back : (a b : ℕ) → a < b → b - a + a ≡ b
    back a b h = omega arith

three : (a b : ℕ) → (a < b) ⊎ ((a ≡ b) ⊎ (b < a))
three a b = grind arith

sum_whole : (s t : Bool) (p q c a b : ℕ) → 0 < c → p ≡ a * c → q ≡ b * c → a ≤ 2 ^ 53 → b ≤ 2 ^ 53
    → (s ≡ t → a + b ≤ 2 ^ 53)
    → settled (sum binary64 s p t q c) ≡ Ok (Whole (signed s a +ℤ signed t b))
unfolding sum
sum_whole true true p q c a b z e f ha hb h = sum_alike true p q c a b z e f (h refl)
sum_whole false false p q c a b z e f ha hb h = sum_alike false p q c a b z e f (h refl)
sum_whole true false p q c a b z e f ha hb h = apart true p q c a b z e f ha hb (three a b)
sum_whole false true p q c a b z e f ha hb h = apart false p q c a b z e f ha hb (three a b)

pub add_whole : (x y : Float) (s t : Bool) (a b : ℕ) → HasValue x s a 1 → HasValue y t b 1 → a ≤ 2 ^ 53 → b ≤ 2 ^ 53
    → (s ≡ t → a + b ≤ 2 ^ 53)
    → settled (add binary64 x y) ≡ Ok (Whole (signed s a +ℤ signed t b))
unfolding add
add_whole nan y s t a b v w ha hb h = absurd v
add_whole (inf u) y s t a b v w ha hb h = absurd v
add_whole (fin u m e) nan s t a b v w ha hb h = absurd w
add_whole (fin u m e) (inf k) s t a b v w ha hb h = absurd w
add_whole (fin u m e) (fin k n d) s t a b v w ha hb h =
    rw (v.0, w.0)
    (sum_whole s t (m * up e * down d) (n * up d * down e) (down e * down d) a b (mul-pos (down_pos e) (down_pos d))
    (omega (arith, ap (λ (i : ℕ). i * down d) v.1)) (omega (arith, ap (λ (i : ℕ). i * down e) w.1)) ha hb h)

pub neg_value : (x : Float) (s : Bool) (a : ℕ) → HasValue x s a 1 → HasValue (neg x) (not s) a 1
unfolding neg
neg_value nan s a v = absurd v
neg_value (inf u) s a v = absurd v
neg_value (fin u m e) s a v = (ap not v.0, v.1)

-- ---- products
product : (p q a b c d : ℕ) → p * 1 ≡ a * c → q * 1 ≡ b * d → p * q ≡ a * b * (c * d)
product p q a b c d e f =
    let first : p ≡ a * c = omega (arith, e) in
    let second : q ≡ b * d = omega (arith, f) in
    rw (first, second) (omega arith)

pub mul_whole : (x y : Float) (s t : Bool) (a b : ℕ) → HasValue x s a 1 → HasValue y t b 1 → a * b ≤ 2 ^ 53
    → settled (mul binary64 x y) ≡ Ok (Whole (signed (unlike s t) (a * b)))
unfolding mul
mul_whole nan y s t a b v w h = absurd v
mul_whole (inf u) y s t a b v w h = absurd v
mul_whole (fin u m e) nan s t a b v w h = absurd w
mul_whole (fin u m e) (inf k) s t a b v w h = absurd w
mul_whole (fin u m e) (fin k n d) s t a b v w h =
    rw (v.0, w.0)
    (settles (unlike s t) (m * up e * (n * up d)) (down e * down d) (a * b) (mul-pos (down_pos e) (down_pos d))
    (product (m * up e) (n * up d) a b (down e) (down d) v.1 w.1) h)

-- ---- quotients
no_zero : (n u b d : ℕ) → n * u * 1 ≡ b * d → 0 < b → 0 < d → eqb n 0 ≡ false
no_zero zero u b d e p q = absurd (omega (arith, e, mul-pos p q))
no_zero (suc n) u b d e p q = ne_eqb (suc n) 0 (λ h. omega (arith, h))

pub div_whole : (x y : Float) (s t : Bool) (a b q : ℕ) → HasValue x s a 1 → HasValue y t b 1 → 0 < b → a ≡ q * b
    → q ≤ 2 ^ 53
    → settled (div binary64 x y) ≡ Ok (Whole (signed (unlike s t) q))
unfolding div
div_whole nan y s t a b q v w z r h = absurd v
div_whole (inf u) y s t a b q v w z r h = absurd v
div_whole (fin u m e) nan s t a b q v w z r h = absurd w
div_whole (fin u m e) (inf k) s t a b q v w z r h = absurd w
div_whole (fin u m e) (fin k n d) s t a b q v w z r h =
    let above : m * up e * down d ≡ q * (n * up d * down e) = quotient (m * up e) (n * up d) a b q (down e)
    (down d) v.1 w.1 r in
    let below : 0 < n * up d * down e = positive (n * up d) b (down e) (down d) w.1 z (down_pos e) (down_pos d) in
    rw (v.0, w.0, no_zero n (up d) b (down d) w.1 z (down_pos d)) (settles (unlike s t) (m * up e * down d)
    (n * up d * down e) q below above h)
  where
    quotient : (p r a b q c d : ℕ) → p * 1 ≡ a * c → r * 1 ≡ b * d → a ≡ q * b → p * d ≡ q * (r * c)
    quotient p r a b q c d e f g =
        let first : p ≡ a * c = omega (arith, e) in
        let second : r ≡ b * d = omega (arith, f) in
        rw (first, second, g) (omega arith)

    positive : (r b c d : ℕ) → r * 1 ≡ b * d → 0 < b → 0 < c → 0 < d → 0 < r * c
    positive r b c d e f g h =
        let second : r ≡ b * d = omega (arith, e) in
        rw second (mul-pos (mul-pos f h) g)

-- ---- remainders
pub mod_scaled : (a b c : ℕ) → 0 < b → 0 < c → (a * c) % (b * c) ≡ a % b * c
mod_scaled a b c p q =
    let parts : a / b * (b * c) + a % b * c ≡ a * c = omega (arith, ap (λ (n : ℕ). n * c) (div-add-mod' a b)) in
    ap (λ (n : ℕ). n % (b * c)) (sym parts) ∙ mod-mul-add (a / b) (b * c) (a % b * c)
    (mul-lt-mul_of_pos_right (mod-lt a p) q)

pub rem_whole : (x y : Float) (s t : Bool) (a b : ℕ) → HasValue x s a 1 → HasValue y t b 1 → 0 < b → a ≤ 2 ^ 53
    → settled (rem binary64 x y) ≡ Ok (Whole (signed s (a % b)))
unfolding rem
rem_whole nan y s t a b v w z h = absurd v
rem_whole (inf u) y s t a b v w z h = absurd v
rem_whole (fin u m e) nan s t a b v w z h = absurd w
rem_whole (fin u m e) (inf k) s t a b v w z h = absurd w
rem_whole (fin u m e) (fin k n d) s t a b v w z h =
    rw (v.0, no_zero n (up d) b (down d) w.1 z (down_pos d))
    (settles s (m * up e * down d % (n * up d * down e)) (down e * down d) (a % b) (mul-pos (down_pos e) (down_pos d))
    (both (m * up e * down d) (n * up d * down e) a b (down e * down d)
    (omega (arith, ap (λ (i : ℕ). i * down d) v.1)) (omega (arith, ap (λ (i : ℕ). i * down e) w.1)) z
    (mul-pos (down_pos e) (down_pos d)))
    (omega (arith, h, mod_le a b)))
  where
    both : (p q a b c : ℕ) → p ≡ a * c → q ≡ b * c → 0 < b → 0 < c → p % q ≡ a % b * c
    both p q a b c e f g i = rw (e, f) (mod_scaled a b c g i)

    mod_le : (a b : ℕ) → a % b ≤ a
    mod_le a b = omega (arith, div-add-mod' a b)
