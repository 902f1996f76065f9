-- A number has no newline.
use Rattle.std.proofs.Common.{◌≡◌, ℕ, Bool, true, false, not, ◌&&◌, ◌||◌, cond, eqb, List, [], ◌∷◌, ◌++◌, sym, ap, refl}
use Rattle.std.proofs.Common.{subst, ◌∙◌, inl, inr, arith}
use Rattle.std.specs.Char.{is_ascii_digit}
use Rattle.std.specs.List.{list_all}
use Rattle.std.proofs.lemmas.Bool.{and_parts, cases_Bool, false≢true}
use Rattle.std.proofs.lemmas.Bool.Decides.{nat_tests}
use Rattle.std.proofs.lemmas.List.Folds.{list_all-append}
use Rattle.awk_numbers.specs.Numerals.{without_sign}
use Rattle.awk_numbers.specs.declared.number.Numbers.{Numbers}
use Rattle.awk_numbers.specs.declared.number.Numbers.TheVariants.{Whole, Double}
use Rattle.awk_tokens.specs.Bytes.{Text}
use Rattle.awk_tokens.specs.Tokens.{is_number, IsMantissa, whole, pointed, is_exponent, IsNumeral, IsNumber}
use Rattle.awk_tokens.proofs.FirstLemmas.{head_is, tail_is}
use Rattle.awk_tokens.proofs.NumeralLemmas.{number_all, both_digits}

abbrev is_line : Text → Bool
is_line z = list_all (λ c. not (eqb c 10)) z

both_lines : (x y : Text) → is_line x ≡ true → is_line y ≡ true → is_line (x ++ y) ≡ true
both_lines x y a b = list_all-append (λ c. not (eqb c 10)) x y ∙ ap (λ t. t && is_line y) a ∙ b

and_true : (p q : Bool) → p ≡ true → q ≡ true → (p && q) ≡ true
and_true p q a b = ap (λ t. t && q) a ∙ b

digits_line : (t : Text) → list_all is_ascii_digit t ≡ true → is_line t ≡ true
digits_line [] h = refl
digits_line (c ∷ t) h =
    let both = and_parts (is_ascii_digit c) (list_all is_ascii_digit t) h in
    and_true (not (eqb c 10)) (is_line t) (digit_line c both.0) (digits_line t both.1)
  where
    digit_line : (c : ℕ) → is_ascii_digit c ≡ true → not (eqb c 10) ≡ true
    digit_line c h = grind (arith, nat_tests)

mantissa_line : (m : Text) → IsMantissa m → is_line m ≡ true
mantissa_line _ (whole digits h) = digits_line digits (number_all digits h)
mantissa_line _ (pointed front behind h) =
    let both = both_digits front behind h in
    both_lines front (46 ∷ behind) (digits_line front both.0) (digits_line behind both.1)

exponent_line : (x : Text) → is_exponent x ≡ true → is_line x ≡ true
exponent_line [] h = refl
exponent_line (e ∷ []) h = absurd (false≢true (and_parts (eqb e 101 || eqb e 69) false h).1)
exponent_line (e ∷ c ∷ x) h =
    let both = and_parts (eqb e 101 || eqb e 69) (is_number (without_sign (c ∷ x))) h in
    and_true (not (eqb e 10)) (is_line (c ∷ x)) (letter_line e both.0)
    (elim (cases_Bool (eqb c 43 || eqb c 45)) [
      | inl s ↦ and_true (not (eqb c 10)) (is_line x) (sign_line c s)
          (digits_line x (number_all x (sym (ap (λ t. is_number (cond t x (c ∷ x))) s) ∙ both.1)))
      | inr s ↦ digits_line (c ∷ x) (number_all (c ∷ x) (sym (ap (λ t. is_number (cond t x (c ∷ x))) s) ∙ both.1))
    ])
  where
    letter_line : (e : ℕ) → (eqb e 101 || eqb e 69) ≡ true → not (eqb e 10) ≡ true
    letter_line e h = grind (arith, nat_tests)

    sign_line : (c : ℕ) → (eqb c 43 || eqb c 45) ≡ true → not (eqb c 10) ≡ true
    sign_line c h = grind (arith, nat_tests)

number_line : (numbers : Numbers) (text : Text) → IsNumber numbers text → is_line text ≡ true
number_line Whole text h = digits_line text (number_all text h)
number_line Double text h = subst (λ w. is_line w ≡ true) (sym h.parts) (both_lines h.mantissa h.exponent
    (mantissa_line h.mantissa h.is_mantissa) (exponent_line h.exponent h.is_exponent))

before_newline : (added rest more left : Text) → is_line added ≡ true → rest ++ 10 ∷ more ≡ added ++ left
    → (behind : Text) × (rest ≡ added ++ behind)
before_newline [] rest more left line parts = (rest, refl)
before_newline (c ∷ added) [] more left line parts =
    let is = (and_parts (not (eqb c 10)) (is_line added) line).0 in
    absurd (false≢true (ap (λ b. not (eqb b 10)) (head_is 10 c more (added ++ left) parts) ∙ is))
before_newline (c ∷ added) (r ∷ rest) more left line parts =
    let both = and_parts (not (eqb c 10)) (is_line added) line in
    let inner = before_newline added rest more left both.1 (tail_is r c (rest ++ 10 ∷ more) (added ++ left) parts) in
    (inner.0, ap (λ b. b ∷ rest) (head_is r c (rest ++ 10 ∷ more) (added ++ left) parts) ∙ ap (λ w. c ∷ w) inner.1)

-- what of a longer number stands before a newline
pub number_before : (numbers : Numbers) (text added rest more left : Text) → IsNumber numbers (text ++ added)
    → rest ++ 10 ∷ more ≡ added ++ left → (behind : Text) × (rest ≡ added ++ behind)
number_before numbers text added rest more left h parts =
    let both = and_parts (is_line text) (is_line added)
    (sym (list_all-append (λ c. not (eqb c 10)) text added) ∙ number_line numbers (text ++ added) h) in
    before_newline added rest more left both.1 parts
