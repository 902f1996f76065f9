-- Texts of a few digits, in profile double, and by profile.
use Rattle.std.proofs.Common.{◌≡◌, ℕ, ◌+◌, ◌-◌, ◌*◌, ◌^◌, ◌<◌, ◌≤◌, Bool, true, false, ◌&&◌, ◌||◌, cond, eqb, pos}
use Rattle.std.proofs.Common.{List, [], ◌++◌, length, drop, get_or, slice_range, Some, None, Ok}
use Rattle.std.proofs.Common.{refl, ap, ◌∙◌, arith}
use Rattle.std.proofs.lemmas.Bool.{lt-ltb}
use Rattle.std.proofs.lemmas.List.{append-nil, get_or_past, take_all}
use Rattle.std.proofs.Math.Nat.{pow-le-pow_right}
use Rattle.std.proofs.Math.Seq.{drop-length}
use Rattle.std.specs.Char.{is_ascii_digit}
use Rattle.std.specs.List.{list_all, prefix_len}
use Rattle.std.specs.Option.{option_map}
use Rattle.std.specs.Result.{result_ok}
use Rattle.std.specs.Str.Parse.{digits_value}
use Rattle.fast_float.specs.Text.{Parts, scan, has_digits, has_exponent, exponent_start, digits_end}
use Rattle.awk_numbers.specs.declared.number.Number.TheVariants.{Whole}
use Rattle.awk_numbers.specs.Numerals.{has_minus, is_blank, looks_numeric, number, number_by, numeric_by, value_of}
use Rattle.awk_numbers.specs.Numerals.{without_sign}
use Rattle.awk_numbers.proofs.Wholes.{settles}
use Rattle.awk_numbers.specs.declared.number.Numbers.{Numbers}
use Rattle.awk_numbers.specs.declared.number.Numbers.TheVariants as profile
use Rattle.awk_text.specs.Faults.{or_fault}
use Rattle.awk_text.specs.Numerals.{looks_in, most_digits, number_in, wholly}
use Rattle.awk_text.proofs.Digits as whole
use Rattle.awk_text.proofs.Digits.{number_is}

-- ---- what the scan reads

abbrev mantissa_to : List ℕ → ℕ → ℕ
mantissa_to z a = cond (eqb (get_or z a 0) 46) (digits_end z (a + 1)) a

abbrev built : List ℕ → ℕ → ℕ → ℕ → Bool → Bool → Parts
built z a b c point has =
    record {
      whole = slice_range z 0 a;
      point = point;
      fraction = cond point (slice_range z (a + 1) b) [];
      exponent_negative = has && eqb (get_or z (b + 1) 0) 45;
      exponent = cond has (slice_range z c (digits_end z c)) [];
      len = cond has (digits_end z c) b;
    }

scan_built : (z : List ℕ) → scan z ≡ built z (digits_end z 0) (mantissa_to z (digits_end z 0))
    (exponent_start z (mantissa_to z (digits_end z 0))) (eqb (get_or z (digits_end z 0) 0) 46)
    (has_exponent z (mantissa_to z (digits_end z 0)))
unfolding scan
scan_built z = refl

-- the parts of digits alone
abbrev plain : List ℕ → Parts
plain z = record {
  whole = z;
  point = false;
  fraction = [];
  exponent_negative = false;
  exponent = [];
  len = length z;
}

plain_scan : (z : List ℕ) → prefix_len is_ascii_digit z ≡ length z → scan z ≡ plain z
plain_scan z all =
    let n = length z in
    let front : digits_end z 0 ≡ n = omega (arith, all) in
    let past : get_or z n 0 ≡ 0 = get_or_past z n 0 (omega arith) in
    let point : eqb (get_or z n 0) 46 ≡ false = ap (λ c. eqb c 46) past in
    let mantissa : mantissa_to z n ≡ n = ap (λ t. cond t (digits_end z (n + 1)) n) point in
    let power : has_exponent z n ≡ false =
    ap (λ c. (eqb c 101 || eqb c 69) && is_ascii_digit (get_or z (exponent_start z n) 0)) past in
    scan_built z
    ∙ ap (λ i. built z i (mantissa_to z i) (exponent_start z (mantissa_to z i)) (eqb (get_or z i 0) 46)
    (has_exponent z (mantissa_to z i))) front
    ∙ ap (λ i. built z n i (exponent_start z i) (eqb (get_or z n 0) 46) (has_exponent z i)) mantissa
    ∙ ap (λ t. built z n n (exponent_start z n) t (has_exponent z n)) point
    ∙ ap (λ t. built z n n (exponent_start z n) false t) power
    ∙ ap (λ w. record {
      whole = w;
      point = false;
      fraction = [];
      exponent_negative = false;
      exponent = [];
      len = length z;
    }) (take_all (length z - 0) z (omega arith))

-- ---- its number

value_is : (z : List ℕ) → digits_value 10 z ≤ 2 ^ 53 → value_of false (plain z) ≡ Ok (Whole (pos (digits_value 10 z)))
value_is z small =
    let same : digits_value 10 (z ++ []) ≡ digits_value 10 z = ap (digits_value 10) (append-nil z) in
    settles false (digits_value 10 (z ++ []) * 10 ^ 0) (10 ^ (0 + 0)) (digits_value 10 z) (omega arith)
    (omega (arith, same)) small

module _ (text : List ℕ) (some : 0 < length text) (all : prefix_len is_ascii_digit text ≡ length text) where
  pub number_so : digits_value 10 text ≤ 2 ^ 53 → number text ≡ Ok (Whole (pos (digits_value 10 text)))
  number_so small =
      let h = number_is text some all in
      let digits : has_digits (plain text) ≡ true = lt-ltb 0 (length text + 0) (omega (arith, some)) in
      ap (λ w. number_by w (scan (without_sign w))) h.0
      ∙ ap (λ w. number_by text (scan w)) h.1
      ∙ ap (number_by text) (plain_scan text all)
      ∙ ap (λ t. cond t (value_of (has_minus text) (plain text)) (Ok (Whole (pos 0)))) digits
      ∙ ap (λ t. value_of t (plain text)) h.2
      ∙ value_is text small

  pub looks_so : digits_value 10 text ≤ 2 ^ 53 → looks_numeric text ≡ Some (Whole (pos (digits_value 10 text)))
  looks_so small =
      let h = number_is text some all in
      let digits : has_digits (plain text) ≡ true = lt-ltb 0 (length text + 0) (omega (arith, some)) in
      let end : list_all is_blank (drop (length text) text) ≡ true = ap (list_all is_blank) (drop-length text) in
      ap (λ w. numeric_by w (without_sign w) (scan (without_sign w))) h.0
      ∙ ap (λ w. numeric_by text w (scan w)) h.1
      ∙ ap (numeric_by text text) (plain_scan text all)
      ∙ ap (λ t. cond (t && list_all is_blank (drop (length text) text)) (result_ok (value_of (has_minus text)
      (plain text))) None) digits
      ∙ ap (λ t. cond t (result_ok (value_of (has_minus text) (plain text))) None) end
      ∙ ap (λ t. result_ok (value_of t (plain text))) h.2
      ∙ ap result_ok (value_is text small)

-- ---- by the profile

pub at_most : (numbers : Numbers) → most_digits numbers ≤ 18
at_most profile.Whole = omega arith
at_most profile.Double = omega arith

few_in : (numbers : Numbers) (i v : ℕ) → i ≤ most_digits numbers → v < 10 ^ i → v < 10 ^ most_digits numbers
few_in numbers i v short small =
    let most : 10 ^ i ≤ 10 ^ most_digits numbers = pow-le-pow_right {n = 10} (omega arith) {j = most_digits numbers} short
    in omega (arith, most, small)

module _ (text : List ℕ) (some : 0 < length text) (all : prefix_len is_ascii_digit text ≡ length text) where
  pub few_number : (numbers : Numbers) (i : ℕ) → i ≤ most_digits numbers → digits_value 10 text < 10 ^ i
      → number_in numbers text ≡ Ok (Whole (pos (digits_value 10 text)))
  few_number profile.Whole i short small =
      ap wholly (whole.ranged_so text some all (omega (arith, few_in profile.Whole i _ short small)))
  few_number profile.Double i short small =
      ap or_fault (number_so text some all (omega (arith, few_in profile.Double i _ short small)))

  pub few_looks : (numbers : Numbers) (i : ℕ) → i ≤ most_digits numbers → digits_value 10 text < 10 ^ i
      → looks_in numbers text ≡ Some (Whole (pos (digits_value 10 text)))
  few_looks profile.Whole i short small =
      ap (option_map Whole) (whole.looks_so text some all (omega (arith, few_in profile.Whole i _ short small)))
  few_looks profile.Double i short small =
      looks_so text some all (omega (arith, few_in profile.Double i _ short small))
