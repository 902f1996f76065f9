-- A number read digit by digit, which stays at its most from there on.
use Rattle.std.proofs.Common.{◌≡◌, ℕ, suc, zero, ◌+◌, ◌-◌, ◌*◌, ◌^◌, ◌<◌, ◌≤◌, min, Bool, true, false, ◌&&◌, cond, ℤ}
use Rattle.std.proofs.Common.{List, length, get_or, take, drop, Some, None, Ok, Err, ⊎_elim, refl, sym, ap, ◌∙◌, arith}
use Rattle.std.proofs.lemmas.Bool.{cases_lt, le-ltb}
use Rattle.std.proofs.lemmas.Bool.Decides.{nat_tests}
use Rattle.std.specs.List.{list_all, prefix_len, take_while}
use Rattle.std.specs.Result.{result_ok}
use Rattle.awk_text.specs.declared.fault.Fault.TheVariants.{OutOfRange}
use Rattle.awk_numbers.specs.Operators.{is_in_range}
use Rattle.awk_text.specs.Arithmetic.{ranged}
use Rattle.awk_text.specs.Numerals.{after_sign, drop_while, has_minus, is_blank, is_numeral, looks_numeric, number}
use Rattle.awk_text.specs.Numerals.{signed}
use Rattle.std.proofs.lemmas.Int.Digits.{digits_value_more}
use Rattle.std.specs.Char.{digit_value, is_ascii_digit}
use Rattle.std.specs.Str.Parse.{digits_value}

digit_value_is : (c : ℕ) → is_ascii_digit c ≡ true → digit_value c ≡ c - 48
digit_value_is c h = grind (arith, nat_tests)

saturates : (x v d : ℕ) → v ≡ min x (2 ^ 64 - 1) → min (min (v * 10) (2 ^ 64 - 1) + d) (2 ^ 64 - 1) ≡ min (x * 10 + d)
    (2 ^ 64 - 1)
saturates x v d h = omega arith

-- one more digit
pub digits_step : (bs : List ℕ) (i v : ℕ) → i < length bs → is_ascii_digit (get_or bs i 0) ≡ true
    → v ≡ min (digits_value 10 (take i bs)) (2 ^ 64 - 1) → min (min (v * 10) (2 ^ 64 - 1) + (get_or bs i 0 - 48))
    (2 ^ 64 - 1) ≡ min (digits_value 10 (take (i + 1) bs)) (2 ^ 64 - 1)
digits_step bs i v within digit so_far =
    omega (
      arith,
      saturates (digits_value 10 (take i bs)) v (get_or bs i 0 - 48) so_far,
      digits_value_more 10 bs i within,
      digit_value_is (get_or bs i 0) digit,
    )

-- a number at its most is out of range, whatever its sign
out_of_range : (minus : Bool) (n : ℕ) → 2 ^ 64 - 1 ≤ n → ranged (signed minus n) ≡ Err OutOfRange
out_of_range true zero h = absurd (omega arith)
out_of_range true (suc n) h = rw (le-ltb n (2 ^ 63) (omega arith)) refl
out_of_range false n h = rw (le-ltb n (2 ^ 63) (omega arith)) refl

pub ranged-saturated : (minus : Bool) (n : ℕ) → ranged (signed minus (min n (2 ^ 64 - 1))) ≡ ranged (signed minus n)
ranged-saturated minus n = ⊎_elim within beyond (cases_lt n (2 ^ 64))
  where
    within : n < 2 ^ 64 → ranged (signed minus (min n (2 ^ 64 - 1))) ≡ ranged (signed minus n)
    within h = let e : min n (2 ^ 64 - 1) ≡ n = omega arith in ap (λ k. ranged (signed minus k)) e

    beyond : 2 ^ 64 ≤ n → ranged (signed minus (min n (2 ^ 64 - 1))) ≡ ranged (signed minus n)
    beyond h = out_of_range minus (min n (2 ^ 64 - 1)) (omega arith) ∙ sym (out_of_range minus n (omega arith))

some_from_ok : (fits : Bool) (z : ℤ) → result_ok (cond fits (Ok z) (Err OutOfRange)) ≡ cond (true && fits) (Some z) None
some_from_ok true z = refl
some_from_ok false z = refl

-- a text that is a numeral looks numeric where its number is in range
pub looks_by_range : (text : List ℕ) → is_numeral (after_sign (drop_while is_blank text)) ≡ true
    → result_ok (ranged (number text)) ≡ looks_numeric text
looks_by_range text h = rw h (some_from_ok (is_in_range (number text)) (number text))

-- a text that is none does not
pub looks_not : (text : List ℕ) → is_numeral (after_sign (drop_while is_blank text)) ≡ false → None ≡ looks_numeric text
looks_not text h = rw h refl

pub numeral_yes : (rest : List ℕ) (count : ℕ) → count ≡ prefix_len is_ascii_digit rest → (count ≡ 0 → ⊥)
    → list_all is_blank (drop count rest) ≡ true → is_numeral rest ≡ true
numeral_yes rest count e some blank = grind (arith, nat_tests)

pub numeral_no_digit : (rest : List ℕ) (count : ℕ) → count ≡ prefix_len is_ascii_digit rest → count ≡ 0
    → is_numeral rest ≡ false
numeral_no_digit rest count e none = grind (arith, nat_tests)

pub numeral_more : (rest : List ℕ) (count : ℕ) → count ≡ prefix_len is_ascii_digit rest → (count ≡ 0 → ⊥)
    → list_all is_blank (drop count rest) ≡ false → is_numeral rest ≡ false
numeral_more rest count e some blank = grind (arith, nat_tests)

-- the number that the parts of a text make
pub ranged_from_parts : (body : List ℕ) (minus : Bool) (rest : List ℕ) (size : ℕ) → minus ≡ has_minus body
    → rest ≡ after_sign body → size ≡ min (digits_value 10 (take_while is_ascii_digit rest)) (2 ^ 64 - 1)
    → ranged (signed minus size)
    ≡ ranged (signed (has_minus body) (digits_value 10 (take_while is_ascii_digit (after_sign body))))
ranged_from_parts body minus rest size m r s =
    rw s (rw r (rw m (ranged-saturated (has_minus body)
    (digits_value 10 (take_while is_ascii_digit (after_sign body))))))
