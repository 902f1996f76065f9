-- Vectors that have room for what is added.
use Rattle.std.proofs.Common.{ℕ, zero, suc, refl, ◌≡◌, ◌+◌, ◌≤◌, List, [], ◌++◌, length, Result, Ok, Err, IsOk}
use Rattle.std.proofs.Common.{OnOk, IfOk, ap, arith, ◌∙◌}
use Rattle.std.proofs.Common.{◌*◌, ◌/◌, ◌%◌, ◌^◌, ◌<◌, sym, subst, true≢false, mul-le-mul_left, mul-le-mul_right}
use Rattle.std.proofs.Common.{lt_of_le_of_lt}
use Rattle.std.proofs.Math.Nat.{pow-le-pow_left, pow-le-pow_right}
use Rattle.std.proofs.lemmas.Nat.{pow-add}
use native.Mathlib.Nat.{pow-zero}
use lib.Ieee.Nearest.{closest, closest_mono}
use Rattle.awk_numbers.specs.Figures.{AreFigures, below}
use Rattle.awk_numbers.proofs.Figures.{below-zero, ten_pos, within}
use Rattle.awk_numbers.proofs.Sizes.{chunks, closest_whole}

on_ok : {T E P : Type 0} (r : Result T E) → OnOk r P → IsOk r → P
on_ok (Ok x) h t = h
on_ok (Err e) h t = absurd (true≢false (sym t))

-- they are added where they fit
pub added : {T E : Type 0} (r : Result T E) (old part new : List ℕ) (cap : ℕ) → OnOk r (new ≡ old ++ part)
    → (length old + length part ≤ cap → IsOk r) → length old + length part ≤ cap → new ≡ old ++ part
added r old part new cap h w l = on_ok r h (w l)

pub added_first : {T E : Type 0} (r : Result T E) (old part new : List ℕ) (cap : ℕ) → OnOk r (new ≡ old ++ part)
    → (length old + length part ≤ cap → IsOk r) → old ≡ [] → length part ≤ cap → new ≡ part
added_first r old part new cap h w e l =
    added r old part new cap h w (omega (arith, ap length e, l)) ∙ ap (λ (xs : List ℕ). xs ++ part) e

pub if_ok : {T E : Type 0} (r : Result T E) (P Q : T → Type 0) → ((x : T) → P x → Q x) → IfOk r P → IfOk r Q
if_ok (Ok x) P Q f h = f x h
if_ok (Err e) P Q f h = h

-- ---- the digits of each double
room_by : (n b t k : ℕ) → n < 2 ^ 53 → 0 < b → t ≤ k → 2 ^ 53 * b ^ k < 10 ^ 768 → n * b ^ t < 10 ^ 768
room_by n b t k h p l e =
    let wide : b ^ t ≤ b ^ k = pow-le-pow_right {n = b} p {i = t} {j = k} l in
    let first : n * b ^ t ≤ n * b ^ k = mul-le-mul_left n wide in
    let second : n * b ^ k ≤ 2 ^ 53 * b ^ k = mul-le-mul_right (b ^ k) (omega (arith, h)) in
    lt_of_le_of_lt first (lt_of_le_of_lt second e)

pub small_room : (n t : ℕ) → n < 2 ^ 53 → t ≤ 1074 → n * 5 ^ t < 10 ^ 768
small_room n t h l = room_by n 5 t 1074 h (omega arith) l (omega arith)

pub large_room : (n t : ℕ) → n < 2 ^ 53 → t ≤ 971 → n * 2 ^ t < 10 ^ 768
large_room n t h l = room_by n 2 t 971 h (omega arith) l (omega arith)

pub first_chunks : (n b c t : ℕ) → c ≡ b ^ 16 → 0 < b → n * b ^ t < 10 ^ 768 → n * c ^ (t / 16) < 10 ^ 768
first_chunks n b c t e p h =
    let one : b ^ 0 ≤ b ^ (t % 16) = pow-le-pow_right {n = b} p {i = 0} {j = t % 16} (omega arith) in
    let most : n * c ^ (t / 16) * b ^ 0 ≤ n * c ^ (t / 16) * b ^ (t % 16) = mul-le-mul_left (n * c ^ (t / 16)) one in
    omega (arith, most, ap (λ (k : ℕ). n * c ^ (t / 16) * k) (pow-zero b), chunks n b c t e, h)

pub last_chunks : (n b c t : ℕ) → c ≡ b ^ 16 → n * b ^ t < 10 ^ 768 → n * c ^ (t / 16) * b ^ (t % 16) < 10 ^ 768
last_chunks n b c t e h = subst (λ (k : ℕ). k < 10 ^ 768) (sym (chunks n b c t e)) h

nothing : (xs : List ℕ) → xs ≡ [] → below xs (length xs) ≡ 0
nothing xs e = ap (λ (ys : List ℕ). below ys (length ys)) e ∙ below-zero []

pub started : (xs : List ℕ) (n total : ℕ) → xs ≡ [] → total ≡ below xs (length xs) * 1 + n → total ≡ n
started xs n total e h = omega (arith, nothing xs e, h)

pub first_room : (xs : List ℕ) (n : ℕ) → xs ≡ [] → n < 2 ^ 53 → below xs (length xs) * 1 + n < 10 ^ 768
first_room xs n e h = omega (arith, nothing xs e, h)

-- ---- how many there are before the point
pub small_most : (n t : ℕ) → n < 2 ^ 53 → n * 5 ^ t < 10 ^ (309 + t)
small_most n t h =
    let low : 5 ^ t ≤ 10 ^ t = pow-le-pow_left {n = 5} {m = 10} (omega arith) t in
    let first : n * 5 ^ t ≤ n * 10 ^ t = mul-le-mul_left n low in
    let second : (n + 1) * 10 ^ t ≤ 10 ^ 309 * 10 ^ t = mul-le-mul_right (10 ^ t) (omega (arith, h)) in
    let more : 10 ^ (309 + t) ≡ 10 ^ 309 * 10 ^ t = pow-add 10 309 t in
    let distributed : (n + 1) * 10 ^ t ≡ n * 10 ^ t + 10 ^ t = omega arith in
    let positive : 0 < 10 ^ t = ten_pos t in
    omega (arith, first, second, more, distributed, positive)

pub large_most : (n t : ℕ) → n < 2 ^ 53 → t ≤ 971 → n * 2 ^ t < 10 ^ (309 + 0)
large_most n t h l =
    let wide : 2 ^ t ≤ 2 ^ 971 = pow-le-pow_right {n = 2} (omega arith) {i = t} {j = 971} l in
    let first : n * 2 ^ t ≤ n * 2 ^ 971 = mul-le-mul_left n wide in
    let second : n * 2 ^ 971 ≤ 2 ^ 53 * 2 ^ 971 = mul-le-mul_right {n = 2 ^ 53} (2 ^ 971) (omega (arith, h)) in
    lt_of_le_of_lt first (lt_of_le_of_lt second (omega arith))

few_by : (xs : List ℕ) (n l : ℕ) → AreFigures xs n → n ≤ 10 ^ 309 → length xs ≡ l → l ≤ 310
few_by xs n zero are h e = omega arith
few_by xs n (suc k) are h e =
    let most : 10 ^ k < 10 ^ 310 = lt_of_le_of_lt (are.front k e) (omega (arith, h)) in
    let few : k < 310 = within k 310 most in
    omega (arith, few)

pub few_digits : (xs : List ℕ) (n : ℕ) → AreFigures xs n → n < 10 ^ (309 + 0) → length xs ≤ 310
few_digits xs n are h = few_by xs n (length xs) are (omega (arith, h)) refl

pub few_rounded : (xs : List ℕ) (n s : ℕ) → AreFigures xs (closest n (10 ^ s)) → n < 10 ^ (309 + s) → length xs ≤ 310
few_rounded xs n s are h =
    let more : 10 ^ (309 + s) ≡ 10 ^ 309 * 10 ^ s = pow-add 10 309 s in
    let less : closest n (10 ^ s) ≤ closest (10 ^ 309) 1 =
    closest_mono n (10 ^ s) (10 ^ 309) 1 (ten_pos s) (omega arith) (omega (arith, h, more)) in
    few_by xs (closest n (10 ^ s)) (length xs) are (omega (arith, less, closest_whole (10 ^ 309))) refl
