-- Bytes that are looked for in a vector, or in two that overlap.
use Rattle.std.proofs.Common.{◌≡◌, ℕ, zero, suc, ◌+◌, ◌-◌, ◌*◌, ◌%◌, ◌^◌, ◌<◌, ◌≤◌, Bool, true, false, ◌||◌, cond, eqb}
use Rattle.std.proofs.Common.{List, [], ◌∷◌, ◌++◌, map, length, get_or, take, drop, replicate, length-drop, refl, sym}
use Rattle.std.proofs.Common.{ap, ap₂, ◌∙◌, arith}
use native.Mathlib.Nat.{pow-suc, mul_assoc, mod-eq_of_lt}
use Rattle.std.proofs.lemmas.List.{length-map, length-take-le, map-append, take_all, take_more, take_rest}
use Rattle.std.proofs.lemmas.Nat.{le_or_r}
use Rattle.std.proofs.lemmas.Simd.{zip2_splat, mask_l-mod, mask_l-lt}
use lib.Bits.{bit_or, or_zero_l, or_shifted_r}
use lib.Lanes.{zip2, chunk, mask_l, top}
use lib.Pow.{pow_mono}
use Rattle.awk_fields.specs.Marks.{is_mark}
use Rattle.awk_fields.specs.declared.marks.Marks.{Marks}
use Rattle.awk_fields.proofs.Bits.{pair, or_pair}

abbrev hit : ℕ → ℕ → ℕ
hit a b = cond (eqb a b) 255 0

abbrev marked : Marks → ℕ → ℕ
marked m x = bit_or (bit_or (hit x m.first) (hit x m.second)) (hit x m.third)

joined : (f g : ℕ → ℕ) (xs : List ℕ) → zip2 bit_or (map f xs) (map g xs) ≡ map (λ x. bit_or (f x) (g x)) xs
joined f g [] = refl
joined f g (x ∷ xs) = ap (λ r. bit_or (f x) (g x) ∷ r) (joined f g xs)

lane : (a b c : Bool) → top 7 (bit_or (bit_or (cond a 255 0) (cond b 255 0)) (cond c 255 0)) ≡ (a || (b || c))
lane true true true = refl
lane true true false = refl
lane true false true = refl
lane true false false = refl
lane false true true = refl
lane false true false = refl
lane false false true = refl
lane false false false = refl

lanes : (m : Marks) (v : List ℕ) → map (top 7) (map (marked m) v) ≡ map (is_mark m) v
lanes m [] = refl
lanes m (x ∷ xs) = ap₂ (λ b r. b ∷ r) (lane (eqb x m.first) (eqb x m.second) (eqb x m.third)) (lanes m xs)

pub marks_mask : (m : Marks) (n : ℕ) (v : List ℕ) → length v ≡ n → n ≤ 64
    → mask_l (map (top 7)
    (zip2 bit_or (zip2 bit_or (zip2 hit v (replicate n m.first)) (zip2 hit v (replicate n m.second)))
    (zip2 hit v (replicate n m.third)))) % 2 ^ 64 ≡ mask_l (map (is_mark m) v)
marks_mask m n v long few =
    let first_two = ap₂ (zip2 bit_or) (zip2_splat hit v n m.first long) (zip2_splat hit v n m.second long)
    ∙ joined (λ x. hit x m.first) (λ x. hit x m.second) v in
    let all = ap₂ (zip2 bit_or) first_two (zip2_splat hit v n m.third long)
    ∙ joined (λ x. bit_or (hit x m.first) (hit x m.second)) (λ x. hit x m.third) v in
    ap (λ l. mask_l (map (top 7) l) % 2 ^ 64) all ∙ ap (λ l. mask_l l % 2 ^ 64) (lanes m v)
    ∙ mask_l-mod (map (is_mark m) v) 64 (omega (arith, length-map v (is_mark m)))

-- a block that the text ends
pub last_block : (from : ℕ) (s : List ℕ) → length s - from < 64 → take (length s - from) (drop from s)
    ≡ take 64 (drop from s)
last_block from s few = take_rest s from ∙ sym (take_all 64 (drop from s) (omega (arith, length-drop from s)))

-- the first bytes set no other bits than all do
pub or_same : (b : Bool) → (b || b) ≡ b
or_same true = refl
or_same false = refl

pub or_thrice : (b : Bool) → (b || (b || b)) ≡ b
or_thrice true = refl
or_thrice false = refl

or_false : (b : Bool) → (b || false) ≡ b
or_false true = refl
or_false false = refl

zero_mul : (n : ℕ) → 0 * n ≡ 0
zero_mul n = omega arith

module _ (p : ℕ → Bool) where
  front : (n : ℕ) (s : List ℕ) → bit_or (mask_l (map p (take n s))) (mask_l (map p s)) ≡ mask_l (map p s)
  front zero s = or_zero_l (mask_l (map p s))
  front (suc n) [] = refl
  front (suc n) (x ∷ s) = or_pair (p x) (p x) (mask_l (map p (take n s))) (mask_l (map p s)) ∙ ap₂ pair (or_same (p x))
      (front n s)

  -- so many bytes from the front on and so many up to the end, where they overlap
  pub covered : (k n : ℕ) (s : List ℕ) → k ≤ n → bit_or (mask_l (map p (take n s))) (mask_l (map p (drop k s)) * 2 ^ k)
      ≡ mask_l (map p s)
  covered zero n s le = ap (bit_or (mask_l (map p (take n s)))) (omega arith) ∙ front n s
  covered (suc k) zero s le = absurd (omega arith)
  covered (suc k) (suc n) [] le = or_zero_l (0 * 2 ^ suc k) ∙ zero_mul (2 ^ suc k)
  covered (suc k) (suc n) (x ∷ s) le =
      let m = mask_l (map p (drop k s)) in
      let on : m * 2 ^ suc k ≡ pair false (m * 2 ^ k) = ap (λ r. m * r) (pow-suc 2 k)
      ∙ omega (arith, mul_assoc m (2 ^ k) 2) in
      ap (bit_or (pair (p x) (mask_l (map p (take n s))))) on ∙ or_pair (p x) false (mask_l (map p (take n s)))
      (m * 2 ^ k) ∙ ap₂ pair (or_false (p x)) (covered k n s (omega arith))

  pub overlapped : (n k : ℕ) (s : List ℕ) → k + n ≡ length s → k ≤ n → length s ≤ 64
      → bit_or (mask_l (map p (chunk 0 n s))) (mask_l (map p (chunk k n s)) * 2 ^ k % 2 ^ 64) ≡ mask_l (map p s)
  overlapped n k s whole le few =
      let front = mask_l (map p (take n s)) in
      let m = mask_l (map p (drop k s)) * 2 ^ k in
      let all = covered k n s le in
      let rest : take n (drop k s) ≡ drop k s = take_all n (drop k s) (omega (arith, length-drop k s)) in
      let long : length (map p s) ≤ 64 = omega (arith, length-map s p) in
      let small : m < 2 ^ 64 = omega (arith, le_or_r front m, all, mask_l-lt (map p s), pow_mono long) in
      ap (λ l. bit_or front (mask_l (map p l) * 2 ^ k % 2 ^ 64)) rest ∙ ap (bit_or front) (mod-eq_of_lt small) ∙ all

  -- one byte more
  pushed : (bits : List Bool) (b : Bool) → mask_l (bits ++ b ∷ []) ≡ mask_l bits + cond b 1 0 * 2 ^ length bits
  pushed [] true = refl
  pushed [] false = refl
  pushed (a ∷ bits) b =
      let n = length bits in
      let t = cond b 1 0 in
      let twice : t * 2 ^ suc n ≡ 2 * (t * 2 ^ n) = ap (λ r. t * r) (pow-suc 2 n) ∙ omega (arith, mul_assoc t (2 ^ n) 2)
      in
      ap (pair a) (pushed bits b) ∙ omega (arith, twice)

  module _ (s : List ℕ) (i found : ℕ) (inside : i < length s) (found_is : found ≡ mask_l (map p (take i s))) where
    more : found + cond (p (get_or s i 0)) 1 0 * 2 ^ i ≡ mask_l (map p (take (i + 1) s))
    more =
        let bits = map p (take i s) in
        let long : length bits ≡ i = length-map (take i s) p ∙ length-take-le i s (omega arith) in
        sym (ap (λ l. mask_l (map p l)) (take_more s i 0 inside)
        ∙ ap mask_l (map-append p (take i s) (get_or s i 0 ∷ [])) ∙ pushed bits (p (get_or s i 0))
        ∙ (λ j. sym found_is j + cond (p (get_or s i 0)) 1 0 * 2 ^ long j))

    pub more_unmarked : p (get_or s i 0) ≡ false → found ≡ mask_l (map p (take (i + 1) s))
    more_unmarked fails = omega (arith, more, ap (λ b. cond b 1 0 * 2 ^ i) fails)

    pub more_marked : length s ≤ 64 → p (get_or s i 0) ≡ true → bit_or found (1 * 2 ^ i % 2 ^ 64)
        ≡ mask_l (map p (take (i + 1) s))
    more_marked few passes =
        let bits = map p (take i s) in
        let long : length bits ≡ i = length-map (take i s) p ∙ length-take-le i s (omega arith) in
        let below : found < 2 ^ i = omega (arith, found_is, mask_l-lt bits, ap (λ n. 2 ^ n) long) in
        let one : 1 * 2 ^ i < 2 ^ 64 = omega (arith, pow_mono (le_63 i (omega arith))) in
        ap (bit_or found) (mod-eq_of_lt one) ∙ or_shifted_r 1 i found below ∙ omega (
          arith,
          more,
          ap (λ b. cond b 1 0 * 2 ^ i) passes,
        )
      where
        le_63 : (j : ℕ) → j < 64 → j ≤ 63
        le_63 j lt = omega arith
