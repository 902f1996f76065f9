-- Bits that are taken from a number, the lowest first.
use Rattle.std.proofs.Common.{◌≡◌, ℕ, zero, suc, ◌+◌, ◌-◌, ◌*◌, ◌/◌, ◌%◌, ◌^◌, ◌<◌, ◌≤◌, Bool, true, false, not, ◌||◌}
use Rattle.std.proofs.Common.{cond, max, min, List, [], ◌∷◌, length, drop, refl, sym, ap, ◌∙◌, arith}
use native.Mathlib.Nat.{pow-suc, mul_comm, mul_assoc, one-le-pow}
use lib.Arith.{mod-mul}
use lib.Pow.{pow-add}
use lib.Bits.{differ, bit_and, bit_or, bit_xor, and_step, or_step, xor_step, and_self}
use lib.Count.{count_trailing_zeros, under}
use lib.Lanes.{mask_l}
use Rattle.std.specs.List.{prefix_len}
use Rattle.awk_fields.specs.Edges.{differs}

-- a number by its lowest bit and the others
abbrev pub pair : Bool → ℕ → ℕ
pair b n = cond b 1 0 + 2 * n

lowest : (b : Bool) (n : ℕ) → (pair b n % 2 ≡ cond b 1 0) × (pair b n / 2 ≡ n)
lowest true n = omega arith
lowest false n = omega arith

or_last : (a b : Bool) (n : ℕ) → n * 2 + max (cond a 1 0) (cond b 1 0) ≡ pair (a || b) n
or_last true true n = omega arith
or_last true false n = omega arith
or_last false true n = omega arith
or_last false false n = omega arith

pub or_pair : (a b : Bool) (m n : ℕ) → bit_or (pair a m) (pair b n) ≡ pair (a || b) (bit_or m n)
or_pair a b m n = or_step (pair a m) (pair b n) ∙ (λ i. bit_or ((lowest a m).1 i) ((lowest b n).1 i) * 2 + max
    ((lowest a m).0 i) ((lowest b n).0 i)) ∙ or_last a b (bit_or m n)

and_true_false : (m n : ℕ) → bit_and (pair true m) (pair false n) ≡ 2 * bit_and m n
and_true_false m n =
    and_step (pair true m) (pair false n) ∙ (λ i. bit_and ((lowest true m).1 i) ((lowest false n).1 i) * 2 + min
    ((lowest true m).0 i) ((lowest false n).0 i)) ∙ omega arith

and_false_true : (m n : ℕ) → bit_and (pair false m) (pair true n) ≡ 2 * bit_and m n
and_false_true m n =
    and_step (pair false m) (pair true n) ∙ (λ i. bit_and ((lowest false m).1 i) ((lowest true n).1 i) * 2 + min
    ((lowest false m).0 i) ((lowest true n).0 i)) ∙ omega arith

xor_last : (a b : Bool) (n : ℕ) → n * 2 + differ (cond a 1 0) (cond b 1 0) ≡ pair (differs a b) n
xor_last true true n = omega arith
xor_last true false n = omega arith
xor_last false true n = omega arith
xor_last false false n = omega arith

pub xor_pair : (a b : Bool) (m n : ℕ) → bit_xor (pair a m) (pair b n) ≡ pair (differs a b) (bit_xor m n)
xor_pair a b m n = xor_step (pair a m) (pair b n) ∙ (λ i. bit_xor ((lowest a m).1 i) ((lowest b n).1 i) * 2 + differ
    ((lowest a m).0 i) ((lowest b n).0 i)) ∙ xor_last a b (bit_xor m n)

-- the lowest bits of a number
pub pair_mod : (b : Bool) (n r : ℕ) → pair b n % 2 ^ suc r ≡ pair b (n % 2 ^ r)
pair_mod b n r =
    ap (λ m. pair b n % m) (pow-suc 2 r) ∙ mod-mul (pair b n) {m = 2 ^ r} {c = 2}
    (omega (arith, one-le-pow r 2 (omega arith))) (omega arith)
    ∙ (λ i. ((lowest b n).1 i % 2 ^ r) * 2 + (lowest b n).0 i) ∙ omega arith

-- ---- the lowest set bit

by_lowest : (b : Bool) (n t m : ℕ) → 0 < pair b n → (0 < n → t ≡ m) → under (cond b 1 0) t ≡ cond (not b) (1 + m) 0
by_lowest true n t m some rest = refl
by_lowest false n t m some rest = omega (arith, rest (omega arith))

-- the place of the first bit that is set, and the number without it
pub first_place : (w : ℕ) (bits : List Bool) → length bits ≤ w → 0 < mask_l bits → count_trailing_zeros w (mask_l bits)
    ≡ prefix_len not bits
unfolding count_trailing_zeros
first_place w [] le some = absurd (omega arith)
first_place zero (b ∷ bits) le some = absurd (omega arith)
first_place (suc w) (b ∷ bits) le some =
    (λ i. under ((lowest b (mask_l bits)).0 i) (count_trailing_zeros w ((lowest b (mask_l bits)).1 i)))
    ∙ by_lowest b (mask_l bits) _ _ some (first_place w bits (omega arith))

pub first_gone : (bits : List Bool) → 0 < mask_l bits → bit_and (mask_l bits) (mask_l bits - 1)
    ≡ 2 ^ (prefix_len not bits + 1) * mask_l (drop (prefix_len not bits + 1) bits)
first_gone [] some = absurd (omega arith)
first_gone (true ∷ bits) some =
    let n = mask_l bits in
    let less : pair true n - 1 ≡ pair false n = omega arith in
    ap (bit_and (pair true n)) less ∙ and_true_false n n ∙ ap (λ m. 2 * m) (and_self n)
first_gone (false ∷ bits) some =
    let n = mask_l bits in
    let j = prefix_len not bits in
    let less : pair false n - 1 ≡ pair true (n - 1) = omega arith in
    let on : 1 + j + 1 ≡ suc (j + 1) = omega arith in
    ap (bit_and (pair false n)) less ∙ and_false_true n (n - 1) ∙ ap (λ m. 2 * m) (first_gone bits (omega arith))
    ∙ sym (mul_assoc 2 (2 ^ (j + 1)) (mask_l (drop (j + 1) bits))) ∙ ap (λ m. m * mask_l (drop (j + 1) bits))
    (mul_comm 2 (2 ^ (j + 1)) ∙ sym (pow-suc 2 (j + 1)))
    ∙ ap (λ m. 2 ^ m * mask_l (drop m (false ∷ bits))) (sym on)

even : (n : ℕ) → 2 * n ≡ pair false n
even n = omega arith

-- the same behind so many bits that are not set
shifted : (k n : ℕ) → 2 ^ suc k * n ≡ pair false (2 ^ k * n)
shifted k n = ap (λ m. m * n) (pow-suc 2 k ∙ mul_comm (2 ^ k) 2) ∙ mul_assoc 2 (2 ^ k) n ∙ even (2 ^ k * n)

zero_add : (n : ℕ) → 0 + n ≡ n
zero_add n = omega arith

once : (n : ℕ) → 2 ^ 0 * n ≡ n
once n = omega arith

some_shifted : (k n : ℕ) → 0 < n → 0 < 2 ^ k * n
some_shifted zero n some = omega (arith, once n)
some_shifted (suc k) n some = omega (arith, shifted k n, some_shifted k n some)

pub some_behind : (k n : ℕ) → 0 < 2 ^ k * n → 0 < n
some_behind k zero some = let none = mul_comm (2 ^ k) 0 in absurd (omega arith)
some_behind k (suc n) some = omega arith

pub none_behind : (k n : ℕ) → 2 ^ k * n ≡ 0 → n ≡ 0
none_behind k zero none = refl
none_behind k (suc n) none = absurd (omega (arith, some_shifted k (suc n) (omega arith)))

place_behind : (k w n : ℕ) → count_trailing_zeros (k + w) (2 ^ k * n) ≡ k + count_trailing_zeros w n
unfolding count_trailing_zeros
place_behind zero w n = (λ i. count_trailing_zeros ((zero_add w) i) (once n i))
    ∙ sym (zero_add (count_trailing_zeros w n))
place_behind (suc k) w n =
    let m = 2 ^ k * n in
    let more : suc k + w ≡ suc (k + w) = omega arith in
    (λ i. count_trailing_zeros (more i) (shifted k n i))
    ∙ (λ i. under ((lowest false m).0 i) (count_trailing_zeros (k + w) ((lowest false m).1 i)))
    ∙ ap suc (place_behind k w n) ∙ omega arith

gone_behind : (k n : ℕ) → 0 < n → bit_and (2 ^ k * n) (2 ^ k * n - 1) ≡ 2 ^ k * bit_and n (n - 1)
gone_behind zero n some = ap (λ m. bit_and m (m - 1)) (once n) ∙ sym (once (bit_and n (n - 1)))
gone_behind (suc k) n some =
    let m = 2 ^ k * n in
    let less : pair false m - 1 ≡ pair true (m - 1) = omega (arith, some_shifted k n some) in
    ap (λ x. bit_and x (x - 1)) (shifted k n) ∙ ap (bit_and (pair false m)) less ∙ and_false_true m (m - 1)
    ∙ ap (λ x. 2 * x) (gone_behind k n some) ∙ even (2 ^ k * bit_and n (n - 1))
    ∙ sym (shifted k (bit_and n (n - 1)))

-- the bits of a number from a place on: the first that is set, and those behind it
pub record Taken (bits : List Bool) (k e : ℕ) : Type 0 where
  pub place : count_trailing_zeros 64 e ≡ k + prefix_len not bits
  pub rest : bit_and e (e - 1) ≡ 2 ^ (k + prefix_len not bits + 1) * mask_l (drop (prefix_len not bits + 1) bits)

pub taken : (bits : List Bool) (k e : ℕ) → k + length bits ≤ 64 → e ≡ 2 ^ k * mask_l bits → 0 < e → Taken bits k e
taken bits k e le is some =
    let n = mask_l bits in
    let j = prefix_len not bits in
    let have : 0 < n = some_behind k n (omega (arith, is)) in
    let wide : 64 ≡ k + (64 - k) = omega arith in
    let on : k + (j + 1) ≡ k + j + 1 = omega arith in
    record {
      place = ap (count_trailing_zeros 64) is ∙ ap (λ w. count_trailing_zeros w (2 ^ k * n)) wide ∙ place_behind k
          (64 - k) n ∙ ap (λ t. k + t) (first_place (64 - k) bits (omega arith) have);
      rest = ap (λ x. bit_and x (x - 1)) is ∙ gone_behind k n have ∙ ap (λ x. 2 ^ k * x) (first_gone bits have)
          ∙ sym (mul_assoc (2 ^ k) (2 ^ (j + 1)) (mask_l (drop (j + 1) bits)))
          ∙ ap (λ x. x * mask_l (drop (j + 1) bits)) (sym (pow-add 2 k (j + 1)) ∙ ap (λ x. 2 ^ x) on);
    }
