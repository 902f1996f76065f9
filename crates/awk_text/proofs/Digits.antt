-- Texts of a few digits.
use Rattle.std.proofs.Common.{◌≡◌, ℕ, ◌+◌, ◌-◌, ◌*◌, ◌^◌, ◌<◌, ◌≤◌, Bool, true, false, ◌&&◌, ◌||◌, ◌==◌, cond, ℤ, pos}
use Rattle.std.proofs.Common.{List, [], ◌∷◌, length, take, drop, get_or, Some, None, Ok, true≢false, refl, sym, ap, ◌∙◌}
use Rattle.std.proofs.Common.{arith}
use Rattle.std.proofs.lemmas.Bool.{lt-ltb}
use Rattle.std.proofs.lemmas.Bool.Decides.{nat_tests}
use Rattle.std.proofs.lemmas.Int.Digits.{digits_value_more}
use Rattle.std.proofs.Math.Nat.{pow-le-pow_right}
use lib.Pow.{pow-add}
use Rattle.std.proofs.Math.Seq.{take-length, drop-length}
use Rattle.std.specs.Char.{digit_value, is_ascii_digit}
use Rattle.std.specs.List.{list_all, prefix_len, take_while}
use Rattle.std.specs.Str.Parse.{digits_value}
use Rattle.awk_numbers.specs.Operators.{is_in_range}
use Rattle.awk_text.specs.Arithmetic.{ranged}
use Rattle.awk_text.specs.Numerals.{after_sign, drop_while, has_minus, is_blank, is_numeral, looks_numeric, number}

digit_value_is : (b : ℕ) → is_ascii_digit b ≡ true → digit_value b ≡ b - 48
digit_value_is b h = grind (arith, nat_tests)

-- one more digit
pub one_more : (text : List ℕ) (i most v : ℕ) → i < length text → is_ascii_digit (get_or text i 0) ≡ true
    → v ≡ digits_value 10 (take i text) → v < most
    → (v * 10 + (get_or text i 0 - 48) ≡ digits_value 10 (take (i + 1) text))
    × (v * 10 + (get_or text i 0 - 48) < most * 10)
one_more text i most v within digit so_far small =
    let step = digits_value_more 10 text i within in
    let own = digit_value_is (get_or text i 0) digit in
    let nine : get_or text i 0 < 58 = grind (arith, nat_tests, digit) in
    (omega (arith, step, own, so_far), omega (arith, nine, small))

no_blank : (b : ℕ) → is_ascii_digit b ≡ true → is_blank b ≡ false
no_blank b h = grind (arith, nat_tests)

no_sign : (b : ℕ) → is_ascii_digit b ≡ true → (b == 43 || b == 45) ≡ false
no_sign b h = grind (arith, nat_tests)

no_minus : (b : ℕ) → is_ascii_digit b ≡ true → (b == 45) ≡ false
no_minus b h = grind (arith, nat_tests)

first_is : (t : Bool) (n m : ℕ) → cond t (1 + n) 0 ≡ 1 + m → t ≡ true
first_is true n m e = refl
first_is false n m e = absurd (omega (arith, e))

rest_is : (t : Bool) (n m : ℕ) → cond t (1 + n) 0 ≡ 1 + m → n ≡ m
rest_is true n m e = omega (arith, e)
rest_is false n m e = absurd (omega (arith, e))

-- as many digits as there are bytes are all of them
pub all_of : (text : List ℕ) → prefix_len is_ascii_digit text ≡ length text → list_all is_ascii_digit text ≡ true
all_of [] all = refl
all_of (b ∷ bs) all =
    rw (first_is (is_ascii_digit b) (prefix_len is_ascii_digit bs) (length bs) (omega (arith, all)))
    (all_of bs (rest_is (is_ascii_digit b) (prefix_len is_ascii_digit bs) (length bs) (omega (arith, all))))

body_of : (b : ℕ) (bs : List ℕ) → is_ascii_digit b ≡ true → drop_while is_blank (b ∷ bs) ≡ b ∷ bs
body_of b bs digit = rw (no_blank b digit) refl

pub number_is : (text : List ℕ) → 0 < length text → prefix_len is_ascii_digit text ≡ length text
    → (drop_while is_blank text ≡ text) × (after_sign text ≡ text) × (has_minus text ≡ false)
number_is [] some all = absurd (omega (arith, some))
number_is (b ∷ bs) some all =
    let digit = first_is (is_ascii_digit b) (prefix_len is_ascii_digit bs) (length bs) (omega (arith, all)) in
    (body_of b bs digit, rw (no_sign b digit) refl, no_minus b digit)

is_all : (text : List ℕ) → 0 < length text → prefix_len is_ascii_digit text ≡ length text → is_numeral text ≡ true
is_all text some all =
    let left : drop_while is_ascii_digit text ≡ [] = ap (λ n. drop n text) all ∙ drop-length text in
    rw (left, all, lt-ltb 0 (length text) some) refl

looked : (a b : Bool) (z : ℤ) → a ≡ true → b ≡ true → cond (a && b) (Some z) None ≡ Some z
looked true true z x y = refl
looked true false z x y = absurd (true≢false (sym y))
looked false b z x y = absurd (true≢false (sym x))

module _ (text : List ℕ) (some : 0 < length text) (all : prefix_len is_ascii_digit text ≡ length text) where
  whole : take_while is_ascii_digit text ≡ text
  whole = ap (λ n. take n text) all ∙ take-length text

  pub number_so : number text ≡ pos (digits_value 10 text)
  number_so = let h = number_is text some all in rw (h.0, h.1, h.2, whole) refl

  pub ranged_so : digits_value 10 text < 2 ^ 63 → ranged (number text) ≡ Ok (pos (digits_value 10 text))
  ranged_so small = ap ranged number_so ∙ rw (lt-ltb (digits_value 10 text) (2 ^ 63) small) refl

  pub looks_so : digits_value 10 text < 2 ^ 63 → looks_numeric text ≡ Some (pos (digits_value 10 text))
  looks_so small =
      let h = number_is text some all in
      let fits : is_in_range (number text) ≡ true = ap is_in_range number_so ∙ lt-ltb (digits_value 10 text)
      (2 ^ 63) small in
      let numeral : is_numeral (after_sign (drop_while is_blank text)) ≡ true = rw (h.0, h.1) (is_all text some all) in
      looked (is_numeral (after_sign (drop_while is_blank text))) (is_in_range (number text)) (number text) numeral fits
      ∙ ap Some number_so

pub next_power : (i x : ℕ) → x < 10 ^ i * 10 → x < 10 ^ (i + 1)
next_power i x small = rw (pow-add 10 i 1) small

pub few : (i v : ℕ) → i ≤ 18 → v < 10 ^ i → v < 1000000000000000000
few i v short small =
    let most : 10 ^ i ≤ 10 ^ 18 = pow-le-pow_right {n = 10} (omega arith) {j = 18} short in omega (arith, most, small)

pub fewer : (i v : ℕ) → i < 18 → v < 10 ^ i → v < 100000000000000000
fewer i v short small =
    let most : 10 ^ i ≤ 10 ^ 17 = pow-le-pow_right {n = 10} (omega arith) {j = 17} (omega (arith, short)) in
    omega (arith, most, small)
