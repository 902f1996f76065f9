-- Keys that are the digits of a small number, and keys that are not.
use Rattle.std.proofs.Common.{◌≡◌, ℕ, zero, suc, ◌+◌, ◌-◌, ◌*◌, ◌^◌, ◌<◌, ◌≤◌, nat_eq, Bool, true, false, List, [], ◌∷◌}
use Rattle.std.proofs.Common.{length, get_or, take, length-take, refl, sym, ap, ◌∙◌, subst, arith}
use Rattle.std.proofs.lemmas.Bool.Decides.{nat_tests}
use Rattle.std.proofs.lemmas.Fmt.{decimal_digit, decimal_nonempty, length-decimal-le, first_decimal, decimal_injective}
use Rattle.std.proofs.lemmas.Fmt.{digits_decimal, decimal-digits_value}
use Rattle.std.proofs.lemmas.Int.Digits.{digits_more, digits_value_more}
use Rattle.std.proofs.lemmas.Slice.Eq.{bytes_eq-Decides}
use Rattle.std.proofs.lemmas.Str.Parse.{IsNumeralModel, numerals_by_value, tells_digits, digit_at, digits_value_short}
use Rattle.std.specs.Char.{digit_value, is_ascii_digit}
use Rattle.std.specs.Fmt.{decimal}
use Rattle.std.specs.Str.{bytes_eq}
use Rattle.std.specs.Str.Parse.{AllDigits, digits_value}
use Rattle.awk_lib.specs.Dense.{most_places, IsOutside}

own : IsNumeralModel (AllDigits 10) (digits_value 10)
own = numerals_by_value (AllDigits 10) tells_digits

-- ---- digits, one by one

digit_is : (c : ℕ) → is_ascii_digit c ≡ true → (digit_value c ≡ c - 48) × (digit_value c < 10)
digit_is c h = (grind (arith, nat_tests), grind (arith, nat_tests))

pub digits_next : (ds : List ℕ) (i : ℕ) → i < length ds → is_ascii_digit (get_or ds i 0) ≡ true
    → AllDigits 10 (take i ds) → AllDigits 10 (take (i + 1) ds)
digits_next ds i within digit all = digits_more 10 ds i within all (digit_is (get_or ds i 0) digit).1

pub value_next : (ds : List ℕ) (i n : ℕ) → i < length ds → is_ascii_digit (get_or ds i 0) ≡ true
    → n ≡ digits_value 10 (take i ds)
    → n * 10 + (get_or ds i 0 - 48) ≡ digits_value 10 (take (i + 1) ds)
value_next ds i n within digit so_far = omega (
  arith,
  digits_value_more 10 ds i within,
  (digit_is (get_or ds i 0) digit).0,
  so_far,
)

not_in_range : (c : ℕ) → is_ascii_digit c ≡ false → 48 ≤ c → c ≤ 57 → ⊥
not_in_range c other low high = grind (arith, nat_tests)

pub not_digits : (ds : List ℕ) (i : ℕ) → i < length ds → is_ascii_digit (get_or ds i 0) ≡ false → AllDigits 10 ds → ⊥
not_digits ds i within other all = let r = digit_at ds i all within in not_in_range (get_or ds i 0) other r.0 r.1

pub value_small : (ds : List ℕ) (i n : ℕ) → length ds ≤ 7 → AllDigits 10 (take i ds) → n ≡ digits_value 10 (take i ds)
    → n < most_places
value_small ds i n short all is =
    let l : length (take i ds) ≤ 7 = omega (arith, length-take i ds) in
    omega (arith, is, digits_value_short own (take i ds) 7 all l)

pub is_zero : (n : ℕ) (b : Bool) → b ≡ nat_eq n 0 → b ≡ true → n ≡ 0
is_zero n b is e = grind (arith, nat_tests)

pub is_positive : (n : ℕ) (b : Bool) → b ≡ nat_eq n 0 → b ≡ false → 0 < n
is_positive n b is e = grind (arith, nat_tests)

-- ---- a key that is the digits of a number

pub key_of_digits : (ds : List ℕ) (k : ℕ) → AllDigits 10 ds → k ≡ digits_value 10 ds → 0 < length ds → length ds ≤ 7
    → (get_or ds 0 0 ≡ 48 → ⊥) → (ds ≡ decimal k) × (k < most_places)
key_of_digits ds k all is some short first =
    let small : digits_value 10 ds < 10 ^ 7 = digits_value_short own ds 7 all short in (
      sym (ap decimal is ∙ decimal-digits_value own ds all some (λ e. absurd (first e)) (omega (arith, small))),
      omega (arith, is, small),
    )

pub key_zero : (ds : List ℕ) → length ds ≡ 1 → get_or ds 0 0 ≡ 48 → (ds ≡ decimal 0) × (0 < most_places)
key_zero ds one first = (alone ds one first ∙ sym (decimal_digit 0 (omega arith)), omega arith)
  where
    alone : (l : List ℕ) → length l ≡ 1 → get_or l 0 0 ≡ 48 → l ≡ 48 ∷ []
    alone [] o f = let impossible : ⊥ = omega (arith, o) in absurd impossible
    alone (x ∷ []) o f = ap (λ y. y ∷ []) f
    alone (x ∷ y ∷ l) o f = let impossible : ⊥ = omega (arith, o) in absurd impossible

-- ---- a key that is not

pub differs : (ds : List ℕ) (k : ℕ) → (ds ≡ decimal k → ⊥) → bytes_eq ds (decimal k) ≡ false
differs ds k other = by (bytes_eq ds (decimal k)) refl
  where
    by : (b : Bool) → bytes_eq ds (decimal k) ≡ b → bytes_eq ds (decimal k) ≡ false
    by true e = absurd (other ((bytes_eq-Decides ds (decimal k)).0 e))
    by false e = e

outside : (ds : List ℕ) (n : ℕ) → ((k : ℕ) → k < n → ds ≡ decimal k → ⊥) → IsOutside n ds
outside ds n other k l = differs ds k (other k l)

pub outside_long : (ds : List ℕ) → 7 < length ds → IsOutside most_places ds
outside_long ds long =
    outside ds most_places (λ k l e. omega (
      arith,
      long,
      ap length e,
      length-decimal-le 7 k (omega arith)
          (omega (arith, l)) (omega (arith, l)),
    ))

pub outside_empty : (ds : List ℕ) → length ds ≡ 0 → IsOutside most_places ds
outside_empty ds none =
    outside ds most_places (λ k l e. omega (arith, none, ap length e, decimal_nonempty k (omega (arith, l))))

pub outside_zero : (ds : List ℕ) → get_or ds 0 0 ≡ 48 → 1 < length ds → IsOutside most_places ds
outside_zero ds first more = outside ds most_places by
  where
    by : (k : ℕ) → k < most_places → ds ≡ decimal k → ⊥
    by zero l e = omega (arith, more, ap length (e ∙ decimal_digit 0 (omega arith)))
    by (suc k) l e = omega (
      arith,
      first,
      ap (λ t. get_or t 0 0) e,
      first_decimal (suc k) (omega arith)
          (omega (arith, l)),
    )

pub outside_other : (ds : List ℕ) → (AllDigits 10 ds → ⊥) → IsOutside most_places ds
outside_other ds not_all =
    outside ds most_places (λ k l e. not_all (subst (AllDigits 10) (sym e) (digits_decimal own k (omega (arith, l)))))

pub outside_beyond : (ds : List ℕ) (k n : ℕ) → ds ≡ decimal k → k < most_places → n ≤ k → IsOutside n ds
outside_beyond ds k n is small beyond =
    outside ds n (λ j l e. let same : k ≡ j = decimal_injective k j (omega (arith, small))
    (omega (arith, small, l, beyond)) (sym is ∙ e) in omega (arith, same, l, beyond))

pub outside_number : (k n : ℕ) → k < 2 ^ 64 → n ≤ k → IsOutside n (decimal k)
outside_number k n small beyond =
    outside (decimal k) n (λ j l e. let same : k ≡ j = decimal_injective k j small (omega (arith, small, l, beyond)) e
    in omega (arith, same, l, beyond))
