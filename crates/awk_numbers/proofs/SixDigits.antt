-- Six significant digits of a double, and texts in 16 bytes.
use Rattle.std.proofs.Common.{ℕ, zero, suc, ◌≡◌, ◌+◌, ◌-◌, ◌*◌, ◌/◌, ◌%◌, ◌^◌, ◌<◌, ◌≤◌, ◌⊎◌, inl, inr}
use Rattle.std.proofs.Common.{List, [], ◌∷◌, ◌++◌, length, get_or, replicate, true, Bool, refl, sym, ap, subst, ◌∙◌}
use Rattle.std.proofs.Common.{arith, length-append, lt_of_lt_of_le, mul-le-mul_right, mul-lt-mul_of_pos_right}
use Rattle.std.proofs.Common.{div-mul-le_self, div-add-mod', lt_of_mul-lt-mul_right, mod-lt, pow-suc}
use Rattle.std.proofs.lemmas.List.{append_assoc, length-replicate}
use Rattle.std.proofs.lemmas.Int.Digits.{length-digits_of-le}
use Rattle.std.proofs.lemmas.Nat.{mul-pow, pow-add, pow_pos}
use Rattle.std.proofs.Math.Nat.{pow-le-pow_right}
use Rattle.std.specs.Bool.{if◌then◌else◌}
use Rattle.std.proofs.lemmas.Bool.{and_parts, leb-true, ltb-true}
use Rattle.std.specs.Float.{Float, nan, inf, fin, is_sign_negative}
use lib.Ieee.{up, down}
use lib.Ieee.Nearest.{closest, closest_same, closest_mono}
use lib.Ieee.Fits.{down_pos}
use lib.Pow.{pow_mono, shr_lt}
use Rattle.awk_numbers.specs.Decimal.{fixed, padded, pointed}
use Rattle.awk_numbers.specs.Digits.{rounded, Splits}
use Rattle.awk_numbers.specs.Exponents.{mantissa, place, rounded_figures}
use Rattle.awk_numbers.specs.Figures.{AllFigures, AreFigures, IsSize, below}
use Rattle.awk_numbers.specs.General.{AreSix, general, general_text, is_plain, shortened}
use Rattle.awk_numbers.proofs.Figures.{below-lt, below-suc, below-zero, below_cons, empty, renamed, ten-suc, ten_pos}
use Rattle.awk_numbers.proofs.Figures.{within}
use Rattle.awk_numbers.proofs.Room.{small_room}
use Rattle.awk_numbers.proofs.Sizes.{closest_whole, small_size, text}
use Rattle.awk_numbers.proofs.Significant.{as_padded, at_most, figures_at, kept_digits, kept_place, length_of}
use Rattle.awk_numbers.proofs.Significant.{raised_digits, raised_place, rounded_at, some_units}
use Rattle.awk_numbers.proofs.Styles.{as_plain}

-- ---- the number of few digits
pub sum_more : (xs : List ℕ) (i sum d unit : ℕ) → sum ≡ below xs i → unit ≡ 10 ^ i → d ≡ get_or xs i 0
    → sum + d * unit ≡ below xs (i + 1)
sum_more xs i sum d unit s u e = (λ j. s j + e j * u j) ∙ sym (below-suc xs i)

pub unit_more : (i unit : ℕ) → unit ≡ 10 ^ i → unit * 10 ≡ 10 ^ (i + 1)
unit_more i unit e = ap (λ (k : ℕ). k * 10) e ∙ sym (ten-suc i)

pub below_six : (xs : List ℕ) (i : ℕ) → AllFigures xs → i ≤ 6 → below xs i < 10 ^ 6
below_six xs i h l =
    lt_of_lt_of_le (below-lt xs i h) (pow-le-pow_right {n = 10} (omega arith) {i = i} {j = 6} l)

-- ---- rounded to fewer digits
either : (a b : ℕ) → (a ≤ b) ⊎ (b < a)
either a b = grind arith

-- what is rounded up to a power of ten is so with a digit less
pub raised_again : (n d : ℕ) → 0 < d → n ≤ d → closest (n * 10 ^ 6) d ≡ 10 ^ 6 → closest (n * 10 ^ 5) d ≡ 10 ^ 5
raised_again n d pos h e = go (either (n * 10 ^ 6 * 4) (3999997 * d))
  where
    most : closest (n * 10 ^ 5) d ≤ closest (10 ^ 5) 1
    most = closest_mono (n * 10 ^ 5) d (10 ^ 5) 1 pos (omega arith) (omega (arith, h))

    go : (n * 10 ^ 6 * 4 ≤ 3999997 * d) ⊎ (3999997 * d < n * 10 ^ 6 * 4) → closest (n * 10 ^ 5) d ≡ 10 ^ 5
    go (inl l) =
        let less : closest (n * 10 ^ 6) d ≤ closest 3999997 4 =
        closest_mono (n * 10 ^ 6) d 3999997 4 pos (omega arith) l in
        absurd (omega (arith, less, e))
    go (inr l) =
        let least : closest 399999 4 ≤ closest (n * 10 ^ 5) d =
        closest_mono 399999 4 (n * 10 ^ 5) d (omega arith) pos (omega (arith, l)) in
        omega (arith, least, most, closest_whole (10 ^ 5))

pub size_closest : (x : Float) (n s p : ℕ) → IsSize x n s → rounded x p ≡ closest (n * 10 ^ p) (10 ^ s)
unfolding rounded
size_closest nan n s p h = absurd h
size_closest (inf t) n s p h = absurd h
size_closest (fin t m e) n s p h =
    closest_same (m * up e * 10 ^ p) (down e) (n * 10 ^ p) (10 ^ s) (down_pos e) (ten_pos s)
    (omega (arith, ap (λ (k : ℕ). k * 10 ^ p) h))

-- as many digits before the point and behind it as that
pub same_digits : (n l s p c : ℕ) → p + l ≡ c + s → closest (n * 10 ^ p) (10 ^ s) ≡ closest (n * 10 ^ c) (10 ^ l)
same_digits n l s p c e =
    let wide : 10 ^ p * 10 ^ l ≡ 10 ^ c * 10 ^ s =
    sym (pow-add 10 p l) ∙ ap (λ (k : ℕ). 10 ^ k) e ∙ pow-add 10 c s in
    closest_same (n * 10 ^ p) (10 ^ s) (n * 10 ^ c) (10 ^ l) (ten_pos s) (ten_pos l)
    (omega (arith, ap (λ (k : ℕ). n * k) wide))

-- ---- texts
pub own_short : (n k : ℕ) (own : List ℕ) → own ≡ text n → n < 10 ^ k → length own ≤ k
own_short n k own e h = omega (arith, ap length e, length_of n, length-digits_of-le 10 k n (omega arith) h)

module _ (old zeros own : List ℕ) (n least turn : ℕ) (z : zeros ≡ old ++ replicate turn 48)
    (t : turn ≡ least - length own) (is : own ≡ text n) where
  all_zeros : zeros ≡ old ++ replicate (least - length own) 48
  all_zeros = z ∙ ap (λ (k : ℕ). old ++ replicate k 48) t

  zeros_length : length zeros ≡ length old + (least - length own)
  zeros_length =
      ap length all_zeros ∙ length-append old (replicate (least - length own) 48)
      ∙ ap (λ (k : ℕ). length old + k) (length-replicate {A = ℕ} (least - length own) 48)

  pub both_fit : n < 10 ^ 6 → length old ≤ 10 → length old + least ≤ 16 → length zeros + length own ≤ 16
  both_fit h k l = omega (arith, zeros_length, own_short n 6 own is h, k, l)

  pub behind_zeros : (new : List ℕ) → new ≡ zeros ++ own → new ≡ old ++ padded least n
  behind_zeros new e =
      e ∙ ap (λ (xs : List ℕ). xs ++ own) all_zeros
      ∙ append_assoc old (replicate (least - length own) 48) own
      ∙ ap (λ (xs : List ℕ). old ++ xs) (as_padded least n own is)

  pub at_least : (new : List ℕ) → new ≡ zeros ++ own → length old + least ≤ length new
  at_least new e = omega (arith, ap length e, length-append zeros own, zeros_length)

  pub no_more : (new : List ℕ) → new ≡ zeros ++ own → (k : ℕ) → n < 10 ^ k → least ≤ k
      → length new ≤ length old + k
  no_more new e k h l =
      omega (arith, ap length e, length-append zeros own, zeros_length, own_short n k own is h, l)

pub as_plain_text : (x : Float) (n k : ℕ) → k ≡ place x 6 → is_plain 6 k ≡ true
    → rounded x (1079 - k) ≡ n
    → shortened (1079 - k) (pointed (1079 - k) (padded (1079 - k + 1) n)) ≡ general 101 x 6
unfolding fixed
as_plain_text x n k e h same =
    ap (λ (q : ℕ). shortened (1079 - k) (pointed (1079 - k) (padded (1079 - k + 1) q))) (sym same)
    ∙ as_plain 101 x 6 k e h

same_or_not : (a b : ℕ) → (a ≡ b) ⊎ (a ≡ b → ⊥)
same_or_not a b = grind arith

-- ---- both ways out
pub none_plain : (x : Float) (n s : ℕ) → IsSize x n s → n ≡ 0 → rounded x 5 ≡ 0
none_plain x n s size e =
    size_closest x n s 5 size ∙ ap (λ (k : ℕ). closest (k * 10 ^ 5) (10 ^ s)) e
    ∙ closest_same (0 * 10 ^ 5) (10 ^ s) 0 1 (ten_pos s) (omega arith) (omega arith)

module _ (x : Float) (ds : List ℕ) (n s q : ℕ) (are : AreFigures ds n) (size : IsSize x n s) (few : s ≤ 1074)
    (some : 0 < n) (is : q ≡ closest (n * 10 ^ 6) (10 ^ length ds)) where
  same : q ≡ rounded_figures x 6
  same = is ∙ rounded_at x ds n s are size few 6 some

  pub raised_six : q ≡ 10 ^ 6 → 10 ^ 5 ≡ mantissa x 6
  raised_six e = sym (raised_digits x 6 (sym same ∙ e))

  pub raised_stands : (l : ℕ) → l ≡ length ds → q ≡ 10 ^ 6 → l + (1074 - s) ≡ place x 6
  raised_stands l i e =
      ap (λ (k : ℕ). k + (1074 - s)) i ∙ sym (figures_at x ds n s are size few some)
      ∙ raised_place x 6 (some_units x ds n s are size few some) (sym same ∙ e)

  pub raised_plain : (l : ℕ) → l ≡ length ds → q ≡ 10 ^ 6 → l + (1074 - s) < 1080
      → rounded x (1079 - (l + (1074 - s))) ≡ 10 ^ 5
  raised_plain l i e h =
      let p = 1079 - (l + (1074 - s)) in
      let small : n < 10 ^ length ds = subst (λ (k : ℕ). k < 10 ^ length ds) are.value
      (below-lt ds (length ds) are.each) in
      size_closest x n s p size ∙ same_digits n (length ds) s p 5 (omega (arith, i, h, few))
      ∙ raised_again n (10 ^ length ds) (ten_pos (length ds)) (omega (arith, small)) (sym is ∙ e)

  pub kept_six : (q ≡ 10 ^ 6 → ⊥) → q ≡ mantissa x 6
  kept_six e = same ∙ kept_digits x 6 (λ h. e (same ∙ h))

  pub kept_stands : (l : ℕ) → l ≡ length ds → (q ≡ 10 ^ 6 → ⊥) → l + (1074 - s) - 1 ≡ place x 6
  kept_stands l i e =
      ap (λ (k : ℕ). k + (1074 - s) - 1) i ∙ ap (λ (k : ℕ). k - 1) (sym (figures_at x ds n s are size few some))
      ∙ kept_place x 6 (some_units x ds n s are size few some) (λ h. e (same ∙ h))

  pub kept_small : (q ≡ 10 ^ 6 → ⊥) → q < 10 ^ 6
  kept_small e = omega (arith, e, same, at_most x ds n s are size few 6 some)

  pub kept_plain : (l : ℕ) → l ≡ length ds → 1070 ≤ l + (1074 - s) - 1 → l + (1074 - s) - 1 < 1080
      → rounded x (1079 - (l + (1074 - s) - 1)) ≡ q
  kept_plain l i g h =
      let p = 1079 - (l + (1074 - s) - 1) in
      size_closest x n s p size ∙ same_digits n (length ds) s p 6 (omega (arith, i, g, h, few)) ∙ sym is

  -- after the carry, l being how many digits there are
  pub six_from : (l f r k : ℕ) → l ≡ length ds → f ≡ l + (1074 - s) → f ≤ 2000
      → (q ≡ 10 ^ 6 → (r ≡ 10 ^ 5) × (k ≡ f)) → ((q ≡ 10 ^ 6 → ⊥) → (r ≡ q) × (k ≡ f - 1)) → AreSix x r k
  six_from l f r k i e h up' down' = go (same_or_not q (10 ^ 6))
    where
      go : (q ≡ 10 ^ 6) ⊎ (q ≡ 10 ^ 6 → ⊥) → AreSix x r k
      go (inl t) =
          let made = up' t in
          let at : k ≡ l + (1074 - s) = made.1 ∙ e in (
            made.0 ∙ raised_six t,
            at ∙ raised_stands l i t,
            omega (arith, made.0),
            omega (arith, made.1, h),
            λ g j. ap (λ (n : ℕ). rounded x (1079 - n)) at
                ∙ raised_plain l i t (subst (λ (n : ℕ). n < 1080) at j) ∙ sym made.0,
          )
      go (inr t) =
          let made = down' t in
          let at : k ≡ l + (1074 - s) - 1 = made.1 ∙ ap (λ (n : ℕ). n - 1) e in (
            made.0 ∙ kept_six t,
            at ∙ kept_stands l i t,
            subst (λ (n : ℕ). n < 10 ^ 6) (sym made.0) (kept_small t),
            omega (arith, made.1, h),
            λ g j. ap (λ (n : ℕ). rounded x (1079 - n)) at
                ∙ kept_plain l i (subst (λ (n : ℕ). 1070 ≤ n) at g) (subst (λ (n : ℕ). n < 1080) at j)
                ∙ sym made.0,
          )

-- ---- in 128 bits
-- each number has its digits
cons : (ds : List ℕ) (n : ℕ) → 0 < n → AreFigures ds (n / 10) → AreFigures (n % 10 ∷ ds) n
cons ds n pos are = record {
  value = below_cons (n % 10) ds (length ds) ∙ omega (arith, are.value);
  each = first (n % 10) ds (omega arith) are.each;
  front = λ k e. go k ds are e;
}
  where
    first : (d : ℕ) (ds : List ℕ) → d < 10 → AllFigures ds → AllFigures (d ∷ ds)
    first d ds h f zero = h
    first d ds h f (suc i) = f i

    go : (k : ℕ) (ds : List ℕ) → AreFigures ds (n / 10) → suc (length ds) ≡ suc k → 10 ^ k ≤ n
    go zero ds a e = omega (arith, pos)
    go (suc k) ds a e = omega (arith, a.front k (omega (arith, e)), pow-suc 10 k)

figures_of : (k n : ℕ) → n < 10 ^ k → (ds : List ℕ) × AreFigures ds n
figures_of zero n h = ([], renamed [] 0 n (omega (arith, h)) empty)
figures_of (suc k) zero h = ([], empty)
figures_of (suc k) (suc n) h =
    let rest = figures_of k (suc n / 10) (omega (arith, h, pow-suc 10 k)) in
    (suc n % 10 ∷ rest.0, cons rest.0 (suc n) (omega arith) rest.1)

-- how many there are
long_by : (ds : List ℕ) (v p s : ℕ) → AreFigures ds v → 10 ^ 5 * 10 ^ s ≤ v * 10 ^ p → v * 10 ^ p < 10 ^ 6 * 10 ^ s
    → length ds + p ≡ 6 + s
long_by ds v p s are least most = go ds are
  where
    go : (ds : List ℕ) → AreFigures ds v → length ds + p ≡ 6 + s
    go [] are =
        let none : v ≡ 0 = sym are.value ∙ below-zero [] in
        absurd (omega (arith, ap (λ (n : ℕ). n * 10 ^ p) none, least, ten_pos s))
    go (d ∷ ds) are =
        let l = length ds in
        let above : v < 10 ^ suc l = subst (λ (k : ℕ). k < 10 ^ suc l) are.value (below-lt (d ∷ ds) (suc l) are.each) in
        let over : v * 10 ^ p < 10 ^ suc l * 10 ^ p = mul-lt-mul_of_pos_right above (ten_pos p) in
        let under : 10 ^ l * 10 ^ p ≤ v * 10 ^ p = mul-le-mul_right (10 ^ p) (are.front l refl) in
        let first : 5 + s < suc l + p = within (5 + s) (suc l + p)
        (omega (arith, least, over, pow-add 10 5 s, pow-add 10 (suc l) p)) in
        let second : l + p < 6 + s = within (l + p) (6 + s)
        (omega (arith, most, under, pow-add 10 6 s, pow-add 10 l p)) in
        omega (arith, first, second)

-- a size from 10 ^ (5 - p) to below 10 ^ (6 - p) that is n / 2 ^ s
module _ (x : Float) (n s p q : ℕ) (parts : Splits x (n * 2 ^ (1074 - s))) (few : s ≤ 1074) (small : n < 2 ^ 53)
    (least : 10 ^ 5 * 2 ^ s ≤ n * 10 ^ p) (most : n * 10 ^ p < 10 ^ 6 * 2 ^ s) (is : q ≡ closest (n * 10 ^ p) (2 ^ s))
  where
    all' : (ds : List ℕ) × AreFigures ds (n * 5 ^ s)
    all' = figures_of 768 (n * 5 ^ s) (small_room n s small few)

    ten : 10 ^ s ≡ 2 ^ s * 5 ^ s
    ten = mul-pow 2 5 s

    least_v : 10 ^ 5 * 10 ^ s ≤ n * 5 ^ s * 10 ^ p
    least_v = omega (arith, ap (λ (k : ℕ). 10 ^ 5 * k) ten, mul-le-mul_right (5 ^ s) least)

    most_v : n * 5 ^ s * 10 ^ p < 10 ^ 6 * 10 ^ s
    most_v = omega (arith, ap (λ (k : ℕ). 10 ^ 6 * k) ten, mul-lt-mul_of_pos_right most (five_pos s))
      where
        five_pos : (k : ℕ) → 0 < 5 ^ k
        five_pos zero = omega arith
        five_pos (suc k) = omega (arith, five_pos k, pow-suc 5 k)

    digits : length all'.0 + p ≡ 6 + s
    digits = long_by all'.0 (n * 5 ^ s) p s all'.1 least_v most_v

    some_v : 0 < n * 5 ^ s
    some_v = positive (n * 5 ^ s) least_v
      where
        positive : (k : ℕ) → 10 ^ 5 * 10 ^ s ≤ k * 10 ^ p → 0 < k
        positive zero h = absurd (omega (arith, h, ten_pos s))
        positive (suc k) h = omega arith

    is_v : q ≡ closest (n * 5 ^ s * 10 ^ 6) (10 ^ length all'.0)
    is_v =
        let l = length all'.0 in
        let wide : 10 ^ p * 10 ^ l ≡ 10 ^ 6 * 10 ^ s =
        sym (pow-add 10 p l) ∙ ap (λ (k : ℕ). 10 ^ k) (omega (arith, digits)) ∙ pow-add 10 6 s in
        is ∙ closest_same (n * 10 ^ p) (2 ^ s) (n * 5 ^ s * 10 ^ 6) (10 ^ l) (pow_pos s) (ten_pos l)
        (omega (arith, ap (λ (k : ℕ). n * k) wide, ap (λ (k : ℕ). n * 10 ^ 6 * k) ten))

    pub near_are : (f r k : ℕ) → p ≤ s → f ≡ 1080 - p → (q ≡ 10 ^ 6 → (r ≡ 10 ^ 5) × (k ≡ f))
        → ((q ≡ 10 ^ 6 → ⊥) → (r ≡ q) × (k ≡ f - 1)) → AreSix x r k
    near_are f r k h e up' down' =
        six_from x all'.0 (n * 5 ^ s) s q all'.1
        (small_size x n (1074 - s) s (n * 5 ^ s) parts (omega (arith, few)) refl) few some_v is_v (length all'.0) f r k
        refl (omega (arith, digits, h, e, few)) (omega (arith, e)) up' down'

-- what the first step shows
pub bounds_from : (n s p w : ℕ) → w ≡ n * 10 ^ 9 / 2 ^ s → p ≤ 9 → 10 ^ 14 ≤ w * 10 ^ p → w * 10 ^ p < 10 ^ 15
    → (10 ^ 5 * 2 ^ s ≤ n * 10 ^ p) × (n * 10 ^ p < 10 ^ 6 * 2 ^ s)
bounds_from n s p w e few least most =
    let u = 2 ^ s in
    let low : w * u ≤ n * 10 ^ 9 = subst (λ (k : ℕ). k * u ≤ n * 10 ^ 9) (sym e) (div-mul-le_self (n * 10 ^ 9) u) in
    let high' : n * 10 ^ 9 < (w + 1) * u = subst (λ (k : ℕ). n * 10 ^ 9 < (k + 1) * u) (sym e)
    (omega (arith, div-add-mod' (n * 10 ^ 9) u, mod-lt (n * 10 ^ 9) (pow_pos s))) in
    let same : 15 - p + p ≡ 15 = omega (arith, few) in
    let parts : 10 ^ (15 - p) * 10 ^ p ≡ 10 ^ 15 = sym (pow-add 10 (15 - p) p) ∙ ap (λ (k : ℕ). 10 ^ k) same in
    let below' : w < 10 ^ (15 - p) = lt_of_mul-lt-mul_right (10 ^ p) (omega (arith, parts, most)) in
    let first : w * u * 10 ^ p ≤ n * 10 ^ 9 * 10 ^ p = mul-le-mul_right (10 ^ p) low in
    let second : n * 10 ^ 9 * 10 ^ p < (w + 1) * u * 10 ^ p = mul-lt-mul_of_pos_right high' (ten_pos p) in
    let next : w + 1 ≤ 10 ^ (15 - p) = omega (arith, below') in
    let third : (w + 1) * (u * 10 ^ p) ≤ 10 ^ (15 - p) * (u * 10 ^ p) = mul-le-mul_right (u * 10 ^ p) next in
    let fourth : 10 ^ 14 * u ≤ w * 10 ^ p * u = mul-le-mul_right u least in (
      omega (arith, first, fourth),
      omega (arith, second, third, ap (λ (k : ℕ). k * u) parts),
    )

pub whole_small : (n s m : ℕ) → m ≡ n → n < 2 ^ 53 → 33 ≤ s → m * 10 ^ 9 / 2 ^ s < 2 ^ 64
whole_small n s m e h l =
    let most : 2 ^ 97 ≤ 2 ^ (64 + s) = pow_mono {i = 97} {j = 64 + s} (omega arith) in
    shr_lt 64 s (omega (arith, most, e, h))

pub rounded_small : (n s p q : ℕ) → q ≡ closest (n * 10 ^ p) (2 ^ s) → n * 10 ^ p < 10 ^ 6 * 2 ^ s → q ≤ 10 ^ 6
rounded_small n s p q e h =
    let most : closest (n * 10 ^ p) (2 ^ s) ≤ closest (10 ^ 6) 1 =
    closest_mono (n * 10 ^ p) (2 ^ s) (10 ^ 6) 1 (pow_pos s) (omega arith) (omega (arith, h)) in
    omega (arith, most, e, closest_whole (10 ^ 6))

pub more_places : (number raised places : ℕ) → raised ≡ number * 10 ^ places → 10 ^ 5 ≤ number → raised < 10 ^ 14
    → places < 9
more_places number raised places e l h =
    let least : 10 ^ 5 * 10 ^ places ≤ number * 10 ^ places = mul-le-mul_right (10 ^ places) l in
    within places 9 (omega (arith, least, e, h))

pub more_raised : (number raised places : ℕ) → raised ≡ number * 10 ^ places → raised * 10 ≡ number * 10 ^ (places + 1)
more_raised number raised places e = omega (arith, e, ap (λ (k : ℕ). number * k) (ten-suc places))

-- ---- which way
pub plain_from : (k : ℕ) → is_plain 6 k ≡ true → (1070 ≤ k) × (k < 1080)
plain_from k h = let parts = and_parts _ _ h in (leb-true 1070 k parts.0, ltb-true k 1080 parts.1)

pub with_sign : (x : Float) (minus : Bool) (size new : List ℕ) → minus ≡ is_sign_negative x → size ≡ general 101 x 6
    → new ≡ (if minus then 45 ∷ size else size) → new ≡ general_text 101 x 6
with_sign x minus size new m e n =
    n ∙ (λ i. if m i then 45 ∷ e i else e i)
