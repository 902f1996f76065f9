-- Whole numbers by their digits.
use Rattle.std.proofs.Common.{ℕ, zero, suc, ◌≡◌, ◌+◌, ◌-◌, ◌*◌, ◌/◌, ◌%◌, ◌^◌, ◌<◌, ◌≤◌}
use Rattle.std.proofs.Common.{◌⊎◌, inl, inr, List, [], ◌∷◌, ◌++◌}
use Rattle.std.proofs.Common.{length, get_or, set, drop, reverse, refl, sym, ap, subst, ◌∙◌, arith, length-append}
use Rattle.std.proofs.Common.{add-one, mul-le-mul_right, div-one}
use Rattle.std.specs.Int.Digits.{digits_of}
use Rattle.std.proofs.lemmas.Int.Digits.{digits_of_step}
use native.Mathlib.Nat.{pow-suc, lt_of_le_of_lt, mul-le-mul, mul-le-mul_left, div-div-eq-div-mul}
use lib.Seq.{get_or-set_same, get_or-set_other}
use Rattle.std.proofs.lemmas.List.{length-drop}
use lib.Arith.{mod-mul}
use Rattle.std.proofs.Math.Nat.{pow-le-pow_right}
use mathlib.Core.List.{reverse-cons}
use Prim.Native.Nat.compare
use Prim.Native.Nat.{compare, Ordering}
use lib.Ieee.{nearest}
use lib.Ieee.Nearest.{closest}
use Rattle.awk_numbers.specs.Figures.{below, AllFigures, AreFigures}

-- ---- what digits stand for
pub below-zero : (xs : List ℕ) → below xs 0 ≡ 0
unfolding below
below-zero xs = refl

pub below-suc : (xs : List ℕ) (i : ℕ) → below xs (i + 1) ≡ below xs i + get_or xs i 0 * 10 ^ i
unfolding below
below-suc xs i = rw add-one

pub ten-suc : (i : ℕ) → 10 ^ (i + 1) ≡ 10 ^ i * 10
ten-suc i = rw add-one (pow-suc 10 i)

below_same : (xs ys : List ℕ) (n : ℕ) → ((i : ℕ) → i < n → get_or xs i 0 ≡ get_or ys i 0) → below xs n ≡ below ys n
unfolding below
below_same xs ys zero h = refl
below_same xs ys (suc n) h = λ j. below_same xs ys n (λ i l. h i (omega arith)) j + h n (omega arith) j * 10 ^ n

pub below-set : (xs : List ℕ) (i v : ℕ) → i < length xs → below (set xs i v) (i + 1) ≡ below xs i + v * 10 ^ i
below-set xs i v h =
    below-suc (set xs i v) i
    ∙ (λ j. below_same (set xs i v) xs i (λ k l. get_or-set_other xs i k v 0 (λ e. omega arith)) j
    + get_or-set_same xs i v 0 h j * 10 ^ i)

-- ---- a digit's step of a multiplication
pub scale_step : (done old x by add carry w : ℕ) → done + carry * w ≡ old * by + add
    → done + (x * by + carry) % 10 * w + (x * by + carry) / 10 * (w * 10) ≡ (old + x * w) * by + add
scale_step done old x by add carry w h =
    let wide = x * by + carry in
    let parts : wide % 10 + wide / 10 * 10 ≡ x * by + carry = omega arith in
    omega (arith, ap (λ (t : ℕ). t * w) parts)

pub product_small : (x by carry : ℕ) → x < 10 → by ≤ 2 ^ 56 → carry ≤ 2 ^ 57 → x * by + carry ≤ 11 * 2 ^ 56
product_small x by carry h k l =
    let most : x * by ≤ 9 * 2 ^ 56 = mul-le-mul {n₁ = x} {m₁ = by} {n₂ = 9} {m₂ = 2 ^ 56} (omega arith) k in
    omega (arith, most)

pub set_figures : (xs : List ℕ) (i v : ℕ) → AllFigures xs → v < 10 → AllFigures (set xs i v)
set_figures [] i v h l k = h k
set_figures (x ∷ xs) zero v h l zero = l
set_figures (x ∷ xs) zero v h l (suc k) = h (suc k)
set_figures (x ∷ xs) (suc i) v h l zero = h zero
set_figures (x ∷ xs) (suc i) v h l (suc k) = set_figures xs i v (λ j. h (suc j)) l k

-- ---- a digit more
last_at : (xs : List ℕ) (d : ℕ) → get_or (xs ++ (d ∷ [])) (length xs) 0 ≡ d
last_at [] d = refl
last_at (x ∷ xs) d = last_at xs d

before : (xs : List ℕ) (d i : ℕ) → i < length xs → get_or (xs ++ (d ∷ [])) i 0 ≡ get_or xs i 0
before [] d i h = absurd (omega arith)
before (x ∷ xs) d zero h = refl
before (x ∷ xs) d (suc i) h = before xs d i (omega arith)

pub longer : (xs : List ℕ) (d : ℕ) → length (xs ++ (d ∷ [])) ≡ length xs + 1
longer xs d = length-append xs (d ∷ [])

below_push : (xs : List ℕ) (d : ℕ) → below (xs ++ (d ∷ [])) (length (xs ++ (d ∷ [])))
    ≡ below xs (length xs) + d * 10 ^ length xs
below_push xs d =
    ap (below (xs ++ (d ∷ []))) (longer xs d) ∙ below-suc (xs ++ (d ∷ [])) (length xs)
    ∙ (λ j. below_same (xs ++ (d ∷ [])) xs (length xs) (λ i l. before xs d i l) j + last_at xs d j * 10 ^ length xs)

pub push_figures : (xs : List ℕ) (d : ℕ) → AllFigures xs → d < 10 → AllFigures (xs ++ (d ∷ []))
push_figures [] d h l zero = l
push_figures [] d h l (suc k) = h k
push_figures (x ∷ xs) d h l zero = h zero
push_figures (x ∷ xs) d h l (suc k) = push_figures xs d (λ j. h (suc j)) l k

pub push_step : (xs : List ℕ) (rest N : ℕ) → below xs (length xs) + rest * 10 ^ length xs ≡ N
    → below (xs ++ (rest % 10 ∷ [])) (length (xs ++ (rest % 10 ∷ [])))
    + rest / 10 * 10 ^ length (xs ++ (rest % 10 ∷ [])) ≡ N
push_step xs rest N h =
    let w = 10 ^ length xs in
    let wide : 10 ^ length (xs ++ (rest % 10 ∷ [])) ≡ w * 10 = ap (λ (n : ℕ). 10 ^ n) (longer xs (rest % 10))
    ∙ ten-suc (length xs) in
    let parts : rest % 10 + rest / 10 * 10 ≡ rest = omega arith in
    (λ j. below_push xs (rest % 10) j + rest / 10 * wide j) ∙ omega (arith, ap (λ (t : ℕ). t * w) parts, h)

pub front_step : (b rest w N : ℕ) → b + rest * w ≡ N → 0 < rest → w ≤ N
front_step b rest w N h l =
    let most : 1 * w ≤ rest * w = mul-le-mul_right w l in
    omega (arith, most, h)

-- ---- the whole of a multiplication
front_scaled : (k n f a : ℕ) → 10 ^ k ≤ n → 0 < f → 10 ^ k ≤ n * f + a
front_scaled k n f a h l =
    let most : 1 * n ≤ f * n = mul-le-mul_right n l in
    omega (arith, most, h)

pub scaled : (old mid new : List ℕ) (n f a carry : ℕ) → AreFigures old n → 0 < f → length mid ≡ length old
    → below mid (length old) + carry * 10 ^ length old ≡ below old (length old) * f + a
    → below new (length new) ≡ below mid (length mid) + carry * 10 ^ length mid → AllFigures new
    → ((k : ℕ) → length new ≡ suc k
    → (length mid ≡ suc k) ⊎ (10 ^ k ≤ below mid (length mid) + carry * 10 ^ length mid))
    → AreFigures new (n * f + a)
scaled old mid new n f a carry are pos same product more figures front =
    let all' : below mid (length mid) + carry * 10 ^ length mid ≡ n * f + a =
    ap (λ (l : ℕ). below mid l + carry * 10 ^ l) same ∙ product ∙ ap (λ (m : ℕ). m * f + a) are.value in
    record {
      value = more ∙ all';
      each = figures;
      front = λ k e. elim (front k e) [
        | inl l ↦ front_scaled k n f a (are.front k (sym same ∙ l)) pos
        | inr m ↦ subst (λ (t : ℕ). 10 ^ k ≤ t) all' m
      ];
    }

pub empty : AreFigures [] 0
empty = record { value = below-zero []; each = λ i. omega arith; front = λ k e. absurd (omega (arith, e)) }

pub renamed : (xs : List ℕ) (m n : ℕ) → m ≡ n → AreFigures xs m → AreFigures xs n
renamed xs m n e are = subst (AreFigures xs) e are

-- ---- the last digits and those before them
pub below_cons : (d : ℕ) (ds : List ℕ) (i : ℕ) → below (d ∷ ds) (suc i) ≡ d + below ds i * 10
unfolding below
below_cons d ds zero = omega arith
below_cons d ds (suc i) =
    omega (arith, below_cons d ds i, pow-suc 10 i, ap (λ (t : ℕ). get_or ds i 0 * t) (pow-suc 10 i))

whole : (d : ℕ) (ds : List ℕ) (n : ℕ) → AreFigures (d ∷ ds) n → n ≡ d + below ds (length ds) * 10
whole d ds n are = sym are.value ∙ below_cons d ds (length ds)

pub last_digit : (d : ℕ) (ds : List ℕ) (n : ℕ) → AreFigures (d ∷ ds) n → n % 10 ≡ d
last_digit d ds n are = let small : d < 10 = are.each zero in omega (arith, whole d ds n are)

pub tail : (d : ℕ) (ds : List ℕ) (n : ℕ) → AreFigures (d ∷ ds) n → AreFigures ds (n / 10)
tail d ds n are =
    let small : d < 10 = are.each zero in
    record {
      value = omega (arith, whole d ds n are);
      each = λ i. are.each (suc i);
      front = λ k e. (let most : 10 ^ suc k ≤ n = are.front (suc k) (ap suc e) in omega (arith, most, pow-suc 10 k));
    }

some : (d : ℕ) (ds : List ℕ) (n : ℕ) → AreFigures (d ∷ ds) n → 0 < n
some d ds n are = let most : 10 ^ length ds ≤ n = are.front (length ds) refl in
    omega (arith, most, power_pos (length ds))
  where
    power_pos : (k : ℕ) → 0 < 10 ^ k
    power_pos zero = omega arith
    power_pos (suc k) = omega (arith, power_pos k, pow-suc 10 k)

none : (n : ℕ) → AreFigures [] n → 0 ≡ n
none n are = sym (below-zero []) ∙ are.value

-- they are the digits, the last one first
pub are_digits : (ds : List ℕ) (n : ℕ) → AreFigures ds n → digits_of 10 n ≡ reverse ds
are_digits [] n are = subst (λ (m : ℕ). digits_of 10 m ≡ reverse []) (none n are) refl
are_digits (d ∷ ds) n are =
    digits_of_step 10 n (omega arith) (some d ds n are)
    ∙ (λ i. are_digits ds (n / 10) (tail d ds n are) i ++ (last_digit d ds n are i ∷ [])) ∙ sym (reverse-cons d ds)

pub ten_pos : (k : ℕ) → 0 < 10 ^ k
ten_pos zero = omega arith
ten_pos (suc k) = omega (arith, ten_pos k, pow-suc 10 k)

below_nil : (c : ℕ) → below [] c ≡ 0
unfolding below
below_nil zero = refl
below_nil (suc c) = omega (arith, below_nil c)

pub cut : (xs : List ℕ) (n c : ℕ) → AreFigures xs n → AreFigures (drop c xs) (n / 10 ^ c) × (n % 10 ^ c ≡ below xs c)
cut xs n zero are = (renamed xs n (n / 1) (sym (div-one n)) are, omega (arith, below-zero xs))
cut [] n (suc c) are =
    let z = none n are in (
      renamed [] 0 (n / 10 ^ suc c) (gone n (10 ^ suc c) z) empty,
      rest n (10 ^ suc c) z ∙ sym (below_nil (suc c)),
    )
  where
    gone : (n d : ℕ) → 0 ≡ n → 0 ≡ n / d
    gone n d e = subst (λ (m : ℕ). 0 ≡ m / d) e (sym (native.Mathlib.Nat.zero-div d))

    rest : (n d : ℕ) → 0 ≡ n → n % d ≡ 0
    rest n d e = subst (λ (m : ℕ). m % d ≡ 0) e (native.Mathlib.Nat.zero-mod d)
cut (d ∷ ds) n (suc c) are =
    let on = cut ds (n / 10) c (tail d ds n are) in
    let wide : 10 * 10 ^ c ≡ 10 ^ suc c = omega (arith, pow-suc 10 c) in (
      renamed (drop c ds) (n / 10 / 10 ^ c) (n / 10 ^ suc c)
          (div-div-eq-div-mul n 10 (10 ^ c) ∙ ap (λ (t : ℕ). n / t) wide) on.0,
      ap (λ (t : ℕ). n % t) (pow-suc 10 c) ∙ mod-mul n {m = 10 ^ c} {c = 10} (ten_pos c) (omega arith)
          ∙ omega (arith, on.1, last_digit d ds n are, below_cons d ds c),
    )

pub power_more : (n f t : ℕ) → n * f ^ t * f + 0 ≡ n * f ^ (t + 1)
power_more n f t =
    let more : f ^ (t + 1) ≡ f ^ t * f = rw add-one (pow-suc f t) in
    omega (arith, ap (λ (k : ℕ). n * k) more)

pub drop_figures : (xs : List ℕ) (c : ℕ) → AllFigures xs → AllFigures (drop c xs)
drop_figures xs zero h = h
drop_figures [] (suc c) h = h
drop_figures (x ∷ xs) (suc c) h = drop_figures xs c (λ i. h (suc i))

below_more : (xs : List ℕ) (i k : ℕ) → below xs i ≤ below xs (i + k)
below_more xs i zero = let e : i ≡ i + 0 = omega arith in subst (λ (t : ℕ). below xs i ≤ below xs t) e (omega arith)
below_more xs i (suc k) =
    let e : i + k + 1 ≡ i + suc k = omega arith in
    subst (λ (t : ℕ). below xs i ≤ below xs t) e (omega (arith, below_more xs i k, below-suc xs (i + k)))

-- a digit that is no zero
pub above_zero : (xs : List ℕ) (i count : ℕ) → i < count → (get_or xs i 0 ≡ 0 → ⊥) → 0 < below xs count
above_zero xs i count h ne =
    let some' : 1 * 10 ^ i ≤ get_or xs i 0 * 10 ^ i = mul-le-mul_right (10 ^ i) (positive (get_or xs i 0) ne) in
    let e : i + 1 + (count - (i + 1)) ≡ count = omega arith in
    let most : below xs (i + 1) ≤ below xs count =
    subst (λ (t : ℕ). below xs (i + 1) ≤ below xs t) e (below_more xs (i + 1) (count - (i + 1))) in
    omega (arith, some', most, below-suc xs i, ten_pos i)
  where
    positive : (d : ℕ) → (d ≡ 0 → ⊥) → 1 ≤ d
    positive zero ne = absurd (ne refl)
    positive (suc d) ne = omega arith

pub zeros_more : (xs : List ℕ) (i : ℕ) → below xs i ≡ 0 → get_or xs i 0 ≡ 0 → below xs (i + 1) ≡ 0
zeros_more xs i h e = below-suc xs i ∙ (λ j. h j + e j * 10 ^ i) ∙ omega arith

pub below-lt : (xs : List ℕ) (n : ℕ) → AllFigures xs → below xs n < 10 ^ n
unfolding below
below-lt xs zero h = omega arith
below-lt xs (suc n) h =
    let most : (get_or xs n 0 + 1) * 10 ^ n ≤ 10 * 10 ^ n = mul-le-mul_right (10 ^ n) (omega (arith, h n)) in
    omega (arith, below-lt xs n h, pow-suc 10 n, most)

-- ---- to the nearest
compare-lt : (a b : ℕ) → a < b → compare a b ≡ Ordering.lt
compare-lt zero (suc b) h = compare.zero-suc b
compare-lt (suc a) (suc b) h = compare.suc-suc a b ∙ compare-lt a b (omega arith)
compare-lt a zero h = absurd (omega arith)

compare-eq : (a b : ℕ) → a ≡ b → compare a b ≡ Ordering.eq
compare-eq zero zero h = compare.zero-zero
compare-eq (suc a) (suc b) h = compare.suc-suc a b ∙ compare-eq a b (omega arith)
compare-eq zero (suc b) h = absurd (omega arith)
compare-eq (suc a) zero h = absurd (omega arith)

compare-gt : (a b : ℕ) → b < a → compare a b ≡ Ordering.gt
compare-gt (suc a) zero h = compare.suc-zero a
compare-gt (suc a) (suc b) h = compare.suc-suc a b ∙ compare-gt a b (omega arith)
compare-gt zero b h = absurd (omega arith)

less_half : (n u : ℕ) → n % u * 2 < u → closest n u ≡ n / u
less_half n u h = ap (nearest (n / u)) (compare-lt (n % u * 2) u h)

half : (n u : ℕ) → n % u * 2 ≡ u → closest n u ≡ n / u + n / u % 2
half n u h = ap (nearest (n / u)) (compare-eq (n % u * 2) u h)

more_half : (n u : ℕ) → u < n % u * 2 → closest n u ≡ n / u + 1
more_half n u h = ap (nearest (n / u)) (compare-gt (n % u * 2) u h) ∙ omega arith

parity : (ys : List ℕ) (q : ℕ) → AreFigures ys q → q % 2 ≡ get_or ys 0 0 % 2
parity [] q are = ap (λ (t : ℕ). t % 2) (sym (none q are))
parity (d ∷ ds) q are = omega (arith, last_digit d ds q are)

first_kept : (xs : List ℕ) (c : ℕ) → get_or (drop c xs) 0 0 ≡ get_or xs c 0
first_kept xs zero = refl
first_kept [] (suc c) = refl
first_kept (x ∷ xs) (suc c) = first_kept xs c

module _ (xs : List ℕ) (p : ℕ) (figures : AllFigures xs) (n : ℕ) (are : AreFigures xs n) where
  last_part : n % 10 ^ (p + 1) ≡ below xs p + get_or xs p 0 * 10 ^ p
  last_part = (cut xs n (p + 1) are).1 ∙ below-suc xs p

  pub goes_down : get_or xs p 0 < 5 → closest n (10 ^ (p + 1)) ≡ n / 10 ^ (p + 1)
  goes_down h =
      let most : get_or xs p 0 * 10 ^ p ≤ 4 * 10 ^ p = mul-le-mul_right (10 ^ p) (omega arith) in
      less_half n (10 ^ (p + 1)) (omega (arith, last_part, most, below-lt xs p figures, ten-suc p))

  pub goes_up : 5 < get_or xs p 0 → closest n (10 ^ (p + 1)) ≡ n / 10 ^ (p + 1) + 1
  goes_up h =
      let most : 6 * 10 ^ p ≤ get_or xs p 0 * 10 ^ p = mul-le-mul_right (10 ^ p) (omega arith) in
      more_half n (10 ^ (p + 1)) (omega (arith, last_part, most, ten-suc p, ten_pos p))

  pub passes_half : get_or xs p 0 ≡ 5 → 0 < below xs p → closest n (10 ^ (p + 1)) ≡ n / 10 ^ (p + 1) + 1
  passes_half e h =
      more_half n (10 ^ (p + 1)) (omega (arith, last_part, ap (λ (t : ℕ). t * 10 ^ p) e, ten-suc p))

  pub ties : get_or xs p 0 ≡ 5 → below xs p ≡ 0
      → closest n (10 ^ (p + 1)) ≡ n / 10 ^ (p + 1) + get_or xs (p + 1) 0 % 2
  ties e z =
      half n (10 ^ (p + 1)) (omega (arith, last_part, ap (λ (t : ℕ). t * 10 ^ p) e, z, ten-suc p))
      ∙ ap (λ (t : ℕ). n / 10 ^ (p + 1) + t) (parity (drop (p + 1) xs) (n / 10 ^ (p + 1)) (cut xs n (p + 1) are).0
      ∙ ap (λ (t : ℕ). t % 2) (first_kept xs (p + 1)))

  pub tie_up : get_or xs p 0 ≡ 5 → below xs p ≡ 0 → get_or xs (p + 1) 0 % 2 ≡ 1
      → closest n (10 ^ (p + 1)) ≡ n / 10 ^ (p + 1) + 1
  tie_up e z o = ties e z ∙ ap (λ (t : ℕ). n / 10 ^ (p + 1) + t) o

  pub tie_down : get_or xs p 0 ≡ 5 → below xs p ≡ 0 → (get_or xs (p + 1) 0 % 2 ≡ 1 → ⊥)
      → closest n (10 ^ (p + 1)) ≡ n / 10 ^ (p + 1)
  tie_down e z o =
      let even : get_or xs (p + 1) 0 % 2 ≡ 0 = other (get_or xs (p + 1) 0) o in
      ties e z ∙ ap (λ (t : ℕ). n / 10 ^ (p + 1) + t) even ∙ omega arith
    where
      other : (d : ℕ) → (d % 2 ≡ 1 → ⊥) → d % 2 ≡ 0
      other d o = omega (arith, o)

-- ---- in a vector of 768 digits
pub slice_product : (old mid seen : List ℕ) (f a carry : ℕ) → seen ≡ old → length mid ≡ length seen
    → below mid (length seen) + carry * 10 ^ length seen ≡ below seen (length seen) * f + a
    → below mid (length mid) + carry * 10 ^ length mid ≡ below old (length old) * f + a
slice_product old mid seen f a carry e same h =
    ap (λ (l : ℕ). below mid l + carry * 10 ^ l) same ∙ h
    ∙ ap (λ (xs : List ℕ). below xs (length xs) * f + a) e

either : (l k : ℕ) → (l < k) ⊎ (k ≤ l)
either l k = grind arith

pub within : (l k : ℕ) → 10 ^ l < 10 ^ k → l < k
within l k h = go (either l k)
  where
    go : (l < k) ⊎ (k ≤ l) → l < k
    go (inl e) = e
    go (inr e) =
        let most : 10 ^ k ≤ 10 ^ l = pow-le-pow_right {n = 10} (omega arith) {i = k} {j = l} e in
        absurd (omega (arith, h, most))

-- there is room for a digit more
pub has_room : (xs : List ℕ) (rest all' : ℕ) → below xs (length xs) + rest * 10 ^ length xs ≡ all' → all' < 10 ^ 768
    → 0 < rest → length xs < 768
has_room xs rest all' e h l =
    let most = front_step (below xs (length xs)) rest (10 ^ length xs) all' e l in
    within (length xs) 768 (lt_of_le_of_lt most h)

pub less_power : (f i t : ℕ) → 0 < f → i ≤ t → f ^ i ≤ f ^ t
less_power f i t h l = pow-le-pow_right {n = f} h {i = i} {j = t} l

-- a factor more of those that there is room for
pub next_room : (b f i t : ℕ) → 0 < f → i < t → b * f ^ t < 10 ^ 768 → b * f ^ i * f + 0 < 10 ^ 768
next_room b f i t p l h =
    let most : b * f ^ (i + 1) ≤ b * f ^ t = mul-le-mul_left b (less_power f (i + 1) t p (omega arith)) in
    omega (arith, most, h, power_more b f i)

-- what is left before the last digits, and what is added to it
pub kept_room : (xs ks : List ℕ) (c added : ℕ) → AllFigures xs → ks ≡ drop c xs → length xs ≤ 768 → 0 < c → added ≤ 1
    → below ks (length ks) * 1 + added < 10 ^ 768
kept_room xs ks c added figures e h l few =
    let own : AllFigures ks = subst AllFigures (sym e) (drop_figures xs c figures) in
    let less : length ks ≤ 767 = omega (arith, ap length e, length-drop c xs, h, l) in
    let most : 10 ^ length ks ≤ 10 ^ 767 = pow-le-pow_right {n = 10} (omega arith) {i = length ks} {j = 767} less in
    omega (arith, most, below-lt ks (length ks) own, few)
