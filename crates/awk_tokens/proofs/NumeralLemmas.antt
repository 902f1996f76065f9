-- The scan of a numeral finds the longest one that a text begins with.
use Rattle.std.proofs.Common.{◌≡◌, ℕ, zero, suc, ◌+◌, ◌-◌, ◌<◌, ◌≤◌, Bool, true, false, ◌&&◌, ◌||◌, cond, eqb}
use Rattle.std.proofs.Common.{[], ◌∷◌, ◌++◌, length, take, drop, get_or, sym, ap, refl, subst, ◌∙◌, inl, inr, arith}
use Rattle.std.proofs.Common.{add-zero, Some, None, Ok, pos, slice_range}
use Rattle.std.specs.Char.{is_ascii_digit}
use Rattle.std.specs.List.{list_all, prefix_len}
use Rattle.std.proofs.Math.Seq.{drop-append_seam}
use Rattle.std.proofs.lemmas.Bool.{cases_Bool, eqb-true, and_parts, false≢true, cases_lt, lt-ltb}
use Rattle.std.proofs.lemmas.Bool.Decides.{nat_tests}
use Rattle.std.proofs.lemmas.List.{append_assoc, append-nil, length-append, length-drop, length-take, length-take-le}
use Rattle.std.proofs.lemmas.List.{get_or-drop, get_or-take, get_or_past, drop-drop, drop-take}
use Rattle.std.proofs.lemmas.List.{take-take, take-append-drop}
use Rattle.std.proofs.lemmas.List.Folds.{list_all-append}
use Rattle.std.proofs.lemmas.List.Sums.{prefix_len-le-length}
use Rattle.fast_float.specs.Text.{Parts, scan, has_digits, has_exponent, exponent_start, digits_end}
use Rattle.awk_numbers.specs.Numerals.{constant, is_blank, number, number_by, value_of, without_sign}
use Rattle.awk_numbers.specs.declared.number.Number.TheVariants.{Whole as Value}
use Rattle.awk_tokens.specs.Bytes.{Text}
use Rattle.awk_tokens.specs.Scan.{digits_len, begins_number}
use Rattle.awk_tokens.specs.Tokens.{is_number, IsMantissa, whole, pointed, is_exponent, IsNumeral}
use Rattle.awk_tokens.proofs.Runs.{list_all_take, prefix_len_all}

-- ---- how long it is

-- a point, and the digits behind it
abbrev pub pointed_len : Text → ℕ
pointed_len y = cond (eqb (get_or y 0 0) 46) (1 + digits_len (drop 1 y)) 0

abbrev pub mantissa_len : Text → ℕ
mantissa_len z = digits_len z + pointed_len (drop (digits_len z) z)

abbrev pub is_signed : Text → Bool
is_signed v = eqb (get_or v 1 0) 45 || eqb (get_or v 1 0) 43

-- `e`, and a sign or none
abbrev pub lead_len : Text → ℕ
lead_len v = cond (is_signed v) 2 1

abbrev pub has_power : Text → Bool
has_power v = (eqb (get_or v 0 0) 101 || eqb (get_or v 0 0) 69) && is_ascii_digit (get_or v (lead_len v) 0)

abbrev pub exponent_len : Text → ℕ
exponent_len v = cond (has_power v) (lead_len v + digits_len (drop (lead_len v) v)) 0

abbrev pub numeral_len : Text → ℕ
numeral_len z = mantissa_len z + exponent_len (drop (mantissa_len z) z)

-- ---- so long is what the scan takes

at_drop : (z : Text) (n i : ℕ) → get_or z (n + i) 0 ≡ get_or (drop n z) i 0
at_drop z n i = sym (get_or-drop n z i 0)

at_front : (z : Text) (n : ℕ) → get_or z n 0 ≡ get_or (drop n z) 0 0
at_front z n = ap (λ i. get_or z i 0) (sym (add-zero n)) ∙ at_drop z n 0

mantissa_end : (z : Text) (a : ℕ) → cond (eqb (get_or z a 0) 46) (digits_end z (a + 1)) a ≡ a + pointed_len (drop a z)
mantissa_end z a =
    ap (λ b. cond (eqb b 46) (digits_end z (a + 1)) a) (at_front z a)
    ∙ ap (λ w. cond (eqb (get_or (drop a z) 0 0) 46) (a + 1 + digits_len w) a) (sym (drop-drop 1 a z))
    ∙ moved (eqb (get_or (drop a z) 0 0) 46) (digits_len (drop 1 (drop a z)))
  where
    moved : (t : Bool) (k : ℕ) → cond t (a + 1 + k) a ≡ a + cond t (1 + k) 0
    moved true k = omega arith
    moved false k = omega arith

start_is : (z : Text) (b : ℕ) → exponent_start z b ≡ b + lead_len (drop b z)
start_is z b = ap (λ c. cond (eqb c 45 || eqb c 43) (b + 2) (b + 1)) (at_drop z b 1) ∙ moved (is_signed (drop b z))
  where
    moved : (t : Bool) → cond t (b + 2) (b + 1) ≡ b + cond t 2 1
    moved true = refl
    moved false = refl

power_is : (z : Text) (b : ℕ) → has_exponent z b ≡ has_power (drop b z)
power_is z b =
    let v : Text = drop b z in
    ap (λ c. (eqb c 101 || eqb c 69) && is_ascii_digit (get_or z (exponent_start z b) 0)) (at_front z b)
    ∙ ap (λ i. (eqb (get_or v 0 0) 101 || eqb (get_or v 0 0) 69) && is_ascii_digit (get_or z i 0)) (start_is z b)
    ∙ ap (λ c. (eqb (get_or v 0 0) 101 || eqb (get_or v 0 0) 69) && is_ascii_digit c) (at_drop z b (lead_len v))

power_end : (z : Text) (b : ℕ) → cond (has_exponent z b) (digits_end z (exponent_start z b)) b
    ≡ b + exponent_len (drop b z)
power_end z b =
    let v : Text = drop b z in
    let l = lead_len v in
    ap (λ t. cond t (digits_end z (exponent_start z b)) b) (power_is z b)
    ∙ ap (λ s. cond (has_power v) (digits_end z s) b) (start_is z b)
    ∙ ap (λ w. cond (has_power v) (b + l + digits_len w) b) (sym (drop-drop l b z))
    ∙ moved (has_power v) l (digits_len (drop l v))
  where
    moved : (t : Bool) (l k : ℕ) → cond t (b + l + k) b ≡ b + cond t (l + k) 0
    moved true l k = omega arith
    moved false l k = omega arith

digits_front : (z : Text) → digits_end z 0 ≡ digits_len z
digits_front z = omega arith

abbrev pub mantissa_to : Text → ℕ → ℕ
mantissa_to z a = cond (eqb (get_or z a 0) 46) (digits_end z (a + 1)) a

abbrev pub power_to : Text → ℕ → ℕ
power_to z b = cond (has_exponent z b) (digits_end z (exponent_start z b)) b

scan_len : (z : Text) → (scan z).len ≡ numeral_len z
unfolding scan
scan_len z = ap (λ a. power_to z (mantissa_to z a)) (digits_front z) ∙ ap (power_to z) (mantissa_end z (digits_len z))
    ∙ power_end z (mantissa_len z)

-- ---- a numeral at the front is no longer

pub number_all : (t : Text) → is_number t ≡ true → list_all is_ascii_digit t ≡ true
number_all [] h = absurd (false≢true h)
number_all (c ∷ t) h = h

pub both_digits : (x y : Text) → is_number (x ++ y) ≡ true → (list_all is_ascii_digit x ≡ true)
    × (list_all is_ascii_digit y ≡ true)
both_digits x y h = and_parts (list_all is_ascii_digit x) (list_all is_ascii_digit y)
    (sym (list_all-append is_ascii_digit x y) ∙ number_all (x ++ y) h)

pub run_over : (w y : Text) → list_all is_ascii_digit w ≡ true → length w ≤ digits_len (w ++ y)
run_over [] y h = omega arith
run_over (c ∷ w) y h =
    let both = and_parts (is_ascii_digit c) (list_all is_ascii_digit w) h in
    let len : digits_len (c ∷ (w ++ y)) ≡ 1 + digits_len (w ++ y) =
    ap (λ t. cond t (1 + digits_len (w ++ y)) 0) both.0 in
    omega (arith, run_over w y both.1)

-- the digits before a point, and what follows them
point_run : (front behind y : Text) → list_all is_ascii_digit front ≡ true
    → (digits_len ((front ++ 46 ∷ behind) ++ y) ≡ length front)
    × (pointed_len (drop (digits_len ((front ++ 46 ∷ behind) ++ y)) ((front ++ 46 ∷ behind) ++ y))
    ≡ 1 + digits_len (behind ++ y))
point_run front behind y h =
    let w : Text = (front ++ 46 ∷ behind) ++ y in
    let same : w ≡ front ++ 46 ∷ (behind ++ y) = append_assoc front (46 ∷ behind) y in
    let run : digits_len w ≡ length front = ap digits_len same ∙ prefix_len_all is_ascii_digit front 46 (behind ++ y) h
    refl in (
      run,
      ap (λ n. pointed_len (drop n w)) run ∙ ap (λ u. pointed_len (drop (length front) u)) same
          ∙ ap pointed_len (drop-append_seam front (46 ∷ (behind ++ y))),
    )

mantissa_over : (m y : Text) → IsMantissa m → length m ≤ mantissa_len (m ++ y)
mantissa_over _ y (whole digits h) = omega (arith, run_over digits y (number_all digits h))
mantissa_over _ y (pointed front behind h) =
    let both = both_digits front behind h in
    let p = point_run front behind y both.0 in
    omega (arith, p.0, p.1, run_over behind y both.1, length-append front (46 ∷ behind))

mantissa_before : (m y : Text) (e : ℕ) → IsMantissa m → is_ascii_digit e ≡ false → eqb e 46 ≡ false
    → mantissa_len (m ++ e ∷ y) ≡ length m
mantissa_before _ y e (whole digits h) no_digit no_point =
    let run : digits_len (digits ++ e ∷ y) ≡ length digits = prefix_len_all is_ascii_digit digits e y
    (number_all digits h) no_digit in
    let none : pointed_len (drop (digits_len (digits ++ e ∷ y)) (digits ++ e ∷ y)) ≡ 0 =
    ap (λ n. pointed_len (drop n (digits ++ e ∷ y))) run ∙ ap pointed_len (drop-append_seam digits (e ∷ y))
    ∙ ap (λ t. cond t (1 + digits_len y) 0) no_point in
    omega (arith, run, none)
mantissa_before _ y e (pointed front behind h) no_digit no_point =
    let both = both_digits front behind h in
    let p = point_run front behind (e ∷ y) both.0 in
    let run : digits_len (behind ++ e ∷ y) ≡ length behind = prefix_len_all is_ascii_digit behind e y both.1 no_digit in
    omega (arith, p.0, p.1, run, length-append front (46 ∷ behind))

-- the sign of an exponent, tested in another order
other_order : (c : ℕ) (t : Bool) → (eqb c 43 || eqb c 45) ≡ t → (eqb c 45 || eqb c 43) ≡ t
other_order c t h = swap (eqb c 43) (eqb c 45) ∙ h
  where
    swap : (p q : Bool) → (q || p) ≡ (p || q)
    swap true true = refl
    swap true false = refl
    swap false true = refl
    swap false false = refl

pub one_order : (c : ℕ) (t : Bool) → (eqb c 45 || eqb c 43) ≡ t → (eqb c 43 || eqb c 45) ≡ t
one_order c t h = swap (eqb c 43) (eqb c 45) ∙ h
  where
    swap : (p q : Bool) → (p || q) ≡ (q || p)
    swap true true = refl
    swap true false = refl
    swap false true = refl
    swap false false = refl

-- how long an exponent is whose digits begin here
power_len : (e : ℕ) (v : Text) (l : ℕ) → (eqb e 101 || eqb e 69) ≡ true → lead_len (e ∷ v) ≡ l
    → is_ascii_digit (get_or (e ∷ v) l 0) ≡ true → exponent_len (e ∷ v) ≡ l + digits_len (drop l (e ∷ v))
power_len e v l is_e lead digit =
    ap (λ i. cond ((eqb e 101 || eqb e 69) && is_ascii_digit (get_or (e ∷ v) i 0)) (i + digits_len (drop i (e ∷ v))) 0)
    lead ∙ ap (λ t. cond (t && is_ascii_digit (get_or (e ∷ v) l 0)) (l + digits_len (drop l (e ∷ v))) 0) is_e
    ∙ ap (λ t. cond t (l + digits_len (drop l (e ∷ v))) 0) digit

unsigned_over : (e c : ℕ) (x left : Text) → (eqb e 101 || eqb e 69) ≡ true → (eqb c 43 || eqb c 45) ≡ false
    → is_number (c ∷ x) ≡ true → suc (suc (length x)) ≤ exponent_len (e ∷ c ∷ (x ++ left))
unsigned_over e c x left is_e s digits =
    let len : exponent_len (e ∷ c ∷ (x ++ left)) ≡ 1 + digits_len (c ∷ (x ++ left)) = power_len e
    (c ∷ (x ++ left)) 1 is_e (ap (λ t. cond t 2 1) (other_order c false s))
    (and_parts (is_ascii_digit c) (list_all is_ascii_digit x) digits).0 in
    omega (arith, len, run_over (c ∷ x) left digits)

exponent_over : (e : ℕ) (x left : Text) → is_exponent (e ∷ x) ≡ true
    → suc (length x) ≤ exponent_len (e ∷ (x ++ left))
exponent_over e [] left h =
    absurd (false≢true (and_parts (eqb e 101 || eqb e 69) (is_number (without_sign [])) h).1)
exponent_over e (c ∷ []) left h =
    let both = and_parts (eqb e 101 || eqb e 69) (is_number (without_sign (c ∷ []))) h in
    elim (cases_Bool (eqb c 43 || eqb c 45)) [
      | inl s ↦ absurd (false≢true (sym (ap (λ t. is_number (cond t [] (c ∷ []))) s) ∙ both.1))
      | inr s ↦ unsigned_over e c [] left both.0 s (sym (ap (λ t. is_number (cond t [] (c ∷ []))) s) ∙ both.1)
    ]
exponent_over e (c ∷ d ∷ x) left h =
    let both = and_parts (eqb e 101 || eqb e 69) (is_number (without_sign (c ∷ d ∷ x))) h in
    elim (cases_Bool (eqb c 43 || eqb c 45)) [
      | inl s ↦
          let digits : is_number (d ∷ x) ≡ true = sym (ap (λ t. is_number (cond t (d ∷ x) (c ∷ d ∷ x))) s) ∙ both.1 in
          let v : Text = c ∷ d ∷ (x ++ left) in
          let len : exponent_len (e ∷ v) ≡ 2 + digits_len (d ∷ (x ++ left)) = power_len e v 2 both.0
          (ap (λ t. cond t 2 1) (other_order c true s)) (and_parts (is_ascii_digit d) (list_all is_ascii_digit x)
          digits).0 in
          omega (arith, len, run_over (d ∷ x) left digits)
      | inr s ↦ unsigned_over e c (d ∷ x) left both.0 s
          (sym (ap (λ t. is_number (cond t (d ∷ x) (c ∷ d ∷ x))) s) ∙ both.1)
    ]

covers : (m x left : Text) → IsMantissa m → is_exponent x ≡ true → length (m ++ x) ≤ numeral_len ((m ++ x) ++ left)
covers m [] left mantissa exponent = subst (λ t. length t ≤ numeral_len (t ++ left)) (sym (append-nil m))
    (omega (arith, mantissa_over m left mantissa))
covers m (e ∷ x) left mantissa exponent =
    let w : Text = m ++ e ∷ (x ++ left) in
    let is_e = (and_parts (eqb e 101 || eqb e 69) (is_number (without_sign x)) exponent).0 in
    let front : mantissa_len w ≡ length m = mantissa_before m (x ++ left) e mantissa (no_digit e is_e) (no_point e is_e)
    in
    let behind : exponent_len (drop (mantissa_len w) w) ≡ exponent_len (e ∷ (x ++ left)) =
    ap (λ n. exponent_len (drop n w)) front ∙ ap exponent_len (drop-append_seam m (e ∷ (x ++ left))) in
    subst (λ v. length (m ++ e ∷ x) ≤ numeral_len v) (sym (append_assoc m (e ∷ x) left))
    (omega (arith, front, behind, exponent_over e x left exponent, length-append m (e ∷ x)))
  where
    no_digit : (e : ℕ) → (eqb e 101 || eqb e 69) ≡ true → is_ascii_digit e ≡ false
    no_digit e h = grind (arith, nat_tests)

    no_point : (e : ℕ) → (eqb e 101 || eqb e 69) ≡ true → eqb e 46 ≡ false
    no_point e h = grind (arith, nat_tests)

pub numeral_covers : (text left : Text) → IsNumeral text → length text ≤ numeral_len (text ++ left)
numeral_covers text left n = subst (λ t. length t ≤ numeral_len (t ++ left)) (sym n.parts)
    (covers n.mantissa n.exponent left n.is_mantissa n.is_exponent)

-- ---- what is taken is a numeral

take_add : (n m : ℕ) (z : Text) → take (n + m) z ≡ take n z ++ take m (drop n z)
take_add n m z =
    sym (take-append-drop n (take (n + m) z))
    ∙ ap (λ w. w ++ drop n (take (n + m) z)) (take-take n (n + m) z (omega arith))
    ∙ ap (λ w. take n z ++ w) (drop-take n m z)

number_of : (t : Text) → list_all is_ascii_digit t ≡ true → 0 < length t → is_number t ≡ true
number_of [] h some = absurd (omega arith)
number_of (c ∷ t) h some = h

pub one_up : (n : ℕ) → 1 + n ≡ suc n
one_up n = omega arith

cons_at : (y : Text) → eqb (get_or y 0 0) 46 ≡ true → y ≡ 46 ∷ drop 1 y
cons_at [] h = absurd (false≢true h)
cons_at (c ∷ y) h = ap (λ b. b ∷ y) (eqb-true c 46 h)

digits_some : (z : Text) → is_ascii_digit (get_or z 0 0) ≡ true → 0 < digits_len z
digits_some [] h = absurd (false≢true h)
digits_some (c ∷ z) h = let len : digits_len (c ∷ z) ≡ 1 + digits_len z = ap (λ t. cond t (1 + digits_len z) 0) h in
    omega (arith, len)

-- the digits behind a point
abbrev pub behind_len : Text → ℕ
behind_len y = cond (eqb (get_or y 0 0) 46) (digits_len (drop 1 y)) 0

abbrev pub digits_in : Text → ℕ
digits_in z = digits_len z + behind_len (drop (digits_len z) z)

begins_some : (b : ℕ) (z : Text) → begins_number b (get_or z 0 0) ≡ true → 0 < digits_in (b ∷ z)
unfolding begins_number
begins_some b z begins =
    elim (cases_Bool (is_ascii_digit b)) [
      | inl digit ↦
          let len : digits_len (b ∷ z) ≡ 1 + digits_len z = ap (λ t. cond t (1 + digits_len z) 0) digit in
          omega (arith, len)
      | inr none ↦
          let point : (eqb b 46 && is_ascii_digit (get_or z 0 0)) ≡ true =
          sym (ap (λ t. t || (eqb b 46 && is_ascii_digit (get_or z 0 0))) none) ∙ begins in
          let both = and_parts (eqb b 46) (is_ascii_digit (get_or z 0 0)) point in
          let len : digits_len (b ∷ z) ≡ 0 = ap (λ t. cond t (1 + digits_len z) 0) none in
          let behind : behind_len (drop (digits_len (b ∷ z)) (b ∷ z)) ≡ digits_len z =
          ap (λ n. behind_len (drop n (b ∷ z))) len ∙ ap (λ t. cond t (digits_len z) 0) both.0 in
          omega (arith, len, behind, digits_some z both.1)
    ]

pub digits_within : (z : Text) → digits_len z ≤ length z
digits_within z = prefix_len-le-length is_ascii_digit z

mantissa_taken : (z : Text) → 0 < digits_in z → IsMantissa (take (mantissa_len z) z)
mantissa_taken z some =
    let a = digits_len z in
    let y : Text = drop a z in
    let front : length (take a z) ≡ a = length-take-le a z (digits_within z) in
    elim (cases_Bool (eqb (get_or y 0 0) 46)) [
      | inl point ↦
          let u : Text = drop 1 y in
          let k = digits_len u in
          let len : pointed_len y ≡ 1 + k = ap (λ t. cond t (1 + k) 0) point in
          let behind : behind_len y ≡ k = ap (λ t. cond t k 0) point in
          let taken : take (1 + k) y ≡ 46 ∷ take k u = ap (take (1 + k)) (cons_at y point)
          ∙ ap (λ n. take n (46 ∷ u)) (one_up k) in
          let all : take (a + pointed_len y) z ≡ take a z ++ 46 ∷ take k u = take_add a (pointed_len y) z
          ∙ ap (λ n. take a z ++ take n y) len ∙ ap (λ w. take a z ++ w) taken in
          let digits : list_all is_ascii_digit (take a z ++ take k u) ≡ true =
          list_all-append is_ascii_digit (take a z) (take k u)
          ∙ ap (λ t. t && list_all is_ascii_digit (take k u)) (list_all_take is_ascii_digit z)
          ∙ list_all_take is_ascii_digit u in
          let several : 0 < length (take a z ++ take k u) =
          omega (
            arith,
            length-append (take a z) (take k u),
            front,
            behind,
            some,
            length-take-le k u (digits_within u),
          ) in
          subst IsMantissa (sym all) (pointed (take a z) (take k u) (number_of (take a z ++ take k u) digits several))
      | inr none ↦
          let len : pointed_len y ≡ 0 = ap (λ t. cond t (1 + digits_len (drop 1 y)) 0) none in
          let behind : behind_len y ≡ 0 = ap (λ t. cond t (digits_len (drop 1 y)) 0) none in
          let all : take (a + pointed_len y) z ≡ take a z = ap (λ n. take n z) (omega (arith, len)) in
          subst IsMantissa (sym all) (whole (take a z) (number_of (take a z) (list_all_take is_ascii_digit z)
          (omega (arith, front, behind, some))))
    ]

-- an exponent, taken with its digits
power_taken : (e : ℕ) (v : Text) → has_power (e ∷ v) ≡ true → is_exponent (take (exponent_len (e ∷ v)) (e ∷ v)) ≡ true
power_taken e [] has = absurd (false≢true (and_parts (eqb e 101 || eqb e 69) false has).1)
power_taken e (c ∷ v) has =
    let w : Text = e ∷ c ∷ v in
    let both = and_parts (eqb e 101 || eqb e 69) (is_ascii_digit (get_or w (lead_len w) 0)) has in
    elim (cases_Bool (eqb c 45 || eqb c 43)) [
      | inl s ↦
          let lead : lead_len w ≡ 2 = ap (λ t. cond t 2 1) s in
          let digit : is_ascii_digit (get_or v 0 0) ≡ true = sym (ap (λ l. is_ascii_digit (get_or w l 0)) lead) ∙ both.1
          in
          let k = digits_len v in
          let u : Text = take k v in
          let all : take (exponent_len w) w ≡ e ∷ c ∷ u = ap (λ n. take n w) (power_len e (c ∷ v) 2 both.0 lead digit
          ∙ two_up k) in
          let digits : is_number u ≡ true = number_of u (list_all_take is_ascii_digit v)
          (omega (arith, length-take-le k v (digits_within v), digits_some v digit)) in
          ap is_exponent all ∙ ap (λ t. t && is_number (without_sign (c ∷ u))) both.0
          ∙ ap (λ t. is_number (cond t u (c ∷ u))) (one_order c true s) ∙ digits
      | inr s ↦
          let lead : lead_len w ≡ 1 = ap (λ t. cond t 2 1) s in
          let digit : is_ascii_digit c ≡ true = sym (ap (λ l. is_ascii_digit (get_or w l 0)) lead) ∙ both.1 in
          let k = digits_len v in
          let u : Text = take k v in
          let run : digits_len (c ∷ v) ≡ 1 + k = ap (λ t. cond t (1 + k) 0) digit in
          let all : take (exponent_len w) w ≡ e ∷ c ∷ u = ap (λ n. take n w) (power_len e (c ∷ v) 1 both.0 lead digit
          ∙ ap (λ n. 1 + n) run ∙ two_ups k) in
          ap is_exponent all ∙ ap (λ t. t && is_number (without_sign (c ∷ u))) both.0
          ∙ ap (λ t. is_number (cond t u (c ∷ u))) (one_order c false s)
          ∙ ap (λ t. t && list_all is_ascii_digit u) digit
          ∙ list_all_take is_ascii_digit v
    ]
  where
    two_up : (k : ℕ) → 2 + k ≡ suc (suc k)
    two_up k = omega arith

    two_ups : (k : ℕ) → 1 + (1 + k) ≡ suc (suc k)
    two_ups k = omega arith

exponent_taken : (v : Text) → is_exponent (take (exponent_len v) v) ≡ true
exponent_taken [] = refl
exponent_taken (e ∷ v) =
    elim (cases_Bool (has_power (e ∷ v))) [
      | inl has ↦ power_taken e v has
      | inr none ↦
          let len : exponent_len (e ∷ v) ≡ 0 =
          ap (λ t. cond t (lead_len (e ∷ v) + digits_len (drop (lead_len (e ∷ v)) (e ∷ v))) 0) none in
          ap (λ n. is_exponent (take n (e ∷ v))) len
    ]

numeral_taken : (z : Text) → 0 < digits_in z → IsNumeral (take (numeral_len z) z)
numeral_taken z some =
    let m = mantissa_len z in
    record {
      mantissa = take m z;
      exponent = take (exponent_len (drop m z)) (drop m z);
      parts = take_add m (exponent_len (drop m z)) z;
      is_mantissa = mantissa_taken z some;
      is_exponent = exponent_taken (drop m z);
    }

-- ---- it lies within the text

pointed_within : (y : Text) → pointed_len y ≤ length y
pointed_within [] = omega arith
pointed_within (c ∷ y) =
    elim (cases_Bool (eqb c 46)) [
      | inl h ↦
          let len : pointed_len (c ∷ y) ≡ 1 + digits_len y = ap (λ t. cond t (1 + digits_len y) 0) h in
          omega (arith, len, digits_within y)
      | inr h ↦ let len : pointed_len (c ∷ y) ≡ 0 = ap (λ t. cond t (1 + digits_len y) 0) h in omega (arith, len)
    ]

digit_within : (v : Text) (i : ℕ) → is_ascii_digit (get_or v i 0) ≡ true → i < length v
digit_within v i h =
    elim (cases_lt i (length v)) [
      | inl less ↦ less
      | inr past ↦ absurd (false≢true (sym (ap is_ascii_digit (get_or_past v i 0 past)) ∙ h))
    ]

exponent_within : (v : Text) → exponent_len v ≤ length v
exponent_within v =
    let l = lead_len v in
    elim (cases_Bool (has_power v)) [
      | inl has ↦
          let digit =
          (and_parts (eqb (get_or v 0 0) 101 || eqb (get_or v 0 0) 69) (is_ascii_digit (get_or v l 0)) has).1
          in
          let len : exponent_len v ≡ l + digits_len (drop l v) = ap (λ t. cond t (l + digits_len (drop l v)) 0) has in
          omega (arith, len, digit_within v l digit, digits_within (drop l v), length-drop l v)
      | inr none ↦
          let len : exponent_len v ≡ 0 = ap (λ t. cond t (l + digits_len (drop l v)) 0) none in
          omega (arith, len)
    ]

numeral_within : (z : Text) → numeral_len z ≤ length z
numeral_within z =
    let a = digits_len z in
    let m = mantissa_len z in
    let front = digits_within z in
    let point = pointed_within (drop a z) in
    let whole_front : m ≤ length z = omega (arith, length-drop a z) in
    omega (arith, exponent_within (drop m z), length-drop m z)

behind_less : (y : Text) → behind_len y ≤ pointed_len y
behind_less y = less (eqb (get_or y 0 0) 46) (digits_len (drop 1 y))
  where
    less : (t : Bool) (k : ℕ) → cond t k 0 ≤ cond t (1 + k) 0
    less true k = omega arith
    less false k = omega arith

-- ---- the scan of what is taken is that of the whole

digits_kept : (k : ℕ) (z : Text) → digits_len z ≤ k → digits_len (take k z) ≡ digits_len z
digits_kept zero z h = omega (arith, h)
digits_kept (suc k) [] h = refl
digits_kept (suc k) (c ∷ z) h =
    elim (cases_Bool (is_ascii_digit c)) [
      | inl d ↦
          let len : digits_len (c ∷ z) ≡ 1 + digits_len z = ap (λ t. cond t (1 + digits_len z) 0) d in
          ap (λ t. cond t (1 + digits_len (take k z)) 0) d
          ∙ ap (λ n. 1 + n) (digits_kept k z (omega (arith, len, h))) ∙ sym len
      | inr d ↦ ap (λ t. cond t (1 + digits_len (take k z)) 0) d ∙ sym (ap (λ t. cond t (1 + digits_len z) 0) d)
    ]

drop_kept : (i n : ℕ) (z : Text) → i ≤ n → drop i (take n z) ≡ take (n - i) (drop i z)
drop_kept i n z h = ap (λ k. drop i (take k z)) (parted i n h) ∙ drop-take i (n - i) z
  where
    parted : (i n : ℕ) → i ≤ n → n ≡ i + (n - i)
    parted i n h = omega arith

end_kept : (i n : ℕ) (z : Text) → digits_end z i ≤ n → digits_end (take n z) i ≡ digits_end z i
end_kept i n z h = ap (λ k. i + k) (ap digits_len (drop_kept i n z (omega arith)) ∙ digits_kept (n - i) (drop i z)
    (omega arith))

slice_kept : (i j n : ℕ) (z : Text) → i ≤ n → j ≤ n → slice_range (take n z) i j ≡ slice_range z i j
slice_kept i j n z h g = ap (take (j - i)) (drop_kept i n z h) ∙ take-take (j - i) (n - i) (drop i z) (omega arith)

byte_past : (n i : ℕ) (z : Text) → n ≤ i → get_or (take n z) i 0 ≡ 0
byte_past n i z h = get_or_past (take n z) i 0 (omega (arith, length-take n z))

abbrev pub built : Text → ℕ → ℕ → ℕ → Bool → Bool → Parts
built z a b c point has =
    record {
      whole = slice_range z 0 a;
      point = point;
      fraction = cond point (slice_range z (a + 1) b) [];
      exponent_negative = has && eqb (get_or z (b + 1) 0) 45;
      exponent = cond has (slice_range z c (digits_end z c)) [];
      len = cond has (digits_end z c) b;
    }

pub scan_built : (z : Text) → scan z ≡ built z (digits_end z 0) (mantissa_to z (digits_end z 0))
    (exponent_start z (mantissa_to z (digits_end z 0))) (eqb (get_or z (digits_end z 0) 0) 46)
    (has_exponent z (mantissa_to z (digits_end z 0)))
unfolding scan
scan_built z = refl

where_true : {A : Type 0} (t : Bool) (x y z : A) → (t ≡ true → x ≡ y) → cond t x z ≡ cond t y z
where_true true x y z h = h refl
where_true false x y z h = refl

module _ (z : Text) where
  abbrev a : ℕ
  a = digits_end z 0

  abbrev b : ℕ
  b = mantissa_to z a

  abbrev n : ℕ
  n = power_to z b

  abbrev t : Text
  t = take n z

  at_most : (c : Bool) (x y : ℕ) → y ≤ x → y ≤ cond c x y
  at_most true x y h = h
  at_most false x y h = omega arith

  a_in : a ≤ b
  a_in = at_most (eqb (get_or z a 0) 46) (digits_end z (a + 1)) a (omega arith)

  start_past : (b : ℕ) → b + 1 ≤ exponent_start z b
  start_past b = past (eqb (get_or z (b + 1) 0) 45 || eqb (get_or z (b + 1) 0) 43)
    where
      past : (c : Bool) → b + 1 ≤ cond c (b + 2) (b + 1)
      past true = omega arith
      past false = omega arith

  b_in : b ≤ n
  b_in = at_most (has_exponent z b) (digits_end z (exponent_start z b)) b (omega (arith, start_past b))

  a_kept : digits_end t 0 ≡ a
  a_kept = end_kept 0 n z (omega (arith, a_in, b_in))

  pointed_in : eqb (get_or z a 0) 46 ≡ true → b ≡ digits_end z (a + 1)
  pointed_in point = ap (λ c. cond c (digits_end z (a + 1)) a) point

  point_kept : eqb (get_or t a 0) 46 ≡ eqb (get_or z a 0) 46
  point_kept =
      elim (cases_lt a n) [
        | inl less ↦ ap (λ c. eqb c 46) (get_or-take n z a 0 less)
        | inr past ↦
            elim (cases_Bool (eqb (get_or z a 0) 46)) [
              | inl point ↦ absurd (omega (arith, pointed_in point, a_in, b_in))
              | inr none ↦ ap (λ c. eqb c 46) (byte_past n a z past) ∙ sym none
            ]
      ]

  b_kept : mantissa_to t a ≡ b
  b_kept = ap (λ c. cond c (digits_end t (a + 1)) a) point_kept
      ∙ where_true (eqb (get_or z a 0) 46) (digits_end t (a + 1)) (digits_end z (a + 1)) a
      (λ point. end_kept (a + 1) n z (omega (arith, pointed_in point, b_in)))

  whole_kept : slice_range t 0 a ≡ slice_range z 0 a
  whole_kept = slice_kept 0 a n z (omega arith) (omega (arith, a_in, b_in))

  fraction_kept : cond (eqb (get_or z a 0) 46) (slice_range t (a + 1) b) []
      ≡ cond (eqb (get_or z a 0) 46) (slice_range z (a + 1) b) []
  fraction_kept = where_true (eqb (get_or z a 0) 46) (slice_range t (a + 1) b) (slice_range z (a + 1) b) []
      (λ point. slice_kept (a + 1) b n z (omega (arith, pointed_in point, b_in)) b_in)

  from_front : built t (digits_end t 0) (mantissa_to t (digits_end t 0))
      (exponent_start t (mantissa_to t (digits_end t 0))) (eqb (get_or t (digits_end t 0) 0) 46)
      (has_exponent t (mantissa_to t (digits_end t 0)))
      ≡ built t a b (exponent_start t b) (eqb (get_or z a 0) 46) (has_exponent t b)
  from_front =
      ap (λ i. built t i (mantissa_to t i) (exponent_start t (mantissa_to t i)) (eqb (get_or t i 0) 46)
      (has_exponent t (mantissa_to t i))) a_kept
      ∙ ap (λ i. built t a i (exponent_start t i) (eqb (get_or t a 0) 46) (has_exponent t i)) b_kept
      ∙ ap (λ c. built t a b (exponent_start t b) c (has_exponent t b)) point_kept

  plain_kept : has_exponent z b ≡ false → scan t ≡ scan z
  plain_kept none =
      let all : n ≡ b = ap (λ c. cond c (digits_end z (exponent_start z b)) b) none in
      let power : has_exponent t b ≡ false =
      ap (λ c. (eqb c 101 || eqb c 69) && is_ascii_digit (get_or t (exponent_start t b) 0))
      (byte_past n b z (omega (arith, all))) in
      let same : built t a b (exponent_start t b) (eqb (get_or z a 0) 46) false
      ≡ built z a b (exponent_start z b) (eqb (get_or z a 0) 46) false =
      λ i. record {
        whole = whole_kept i;
        point = eqb (get_or z a 0) 46;
        fraction = fraction_kept i;
        exponent_negative = false;
        exponent = [];
        len = b;
      } in
      scan_built t ∙ from_front ∙ ap (built t a b (exponent_start t b) (eqb (get_or z a 0) 46)) power ∙ same
      ∙ sym (ap (built z a b (exponent_start z b) (eqb (get_or z a 0) 46)) none) ∙ sym (scan_built z)

  power_kept : has_exponent z b ≡ true → scan t ≡ scan z
  power_kept has =
      let c = exponent_start z b in
      let end = digits_end z c in
      let all : n ≡ end = ap (λ d. cond d end b) has in
      let digit : is_ascii_digit (get_or z c 0) ≡ true = (and_parts (eqb (get_or z b 0) 101 || eqb (get_or z b 0) 69)
      (is_ascii_digit (get_or z c 0)) has).1 in
      let some = digits_some (drop c z) (sym (ap is_ascii_digit (at_front z c)) ∙ digit) in
      let past = start_past b in
      let start : exponent_start t b ≡ c = ap (λ d. cond (eqb d 45 || eqb d 43) (b + 2) (b + 1))
      (get_or-take n z (b + 1) 0 (omega (arith, all, some, past))) in
      let power : has_exponent t b ≡ true =
      ap (λ d. (eqb d 101 || eqb d 69) && is_ascii_digit (get_or t (exponent_start t b) 0))
      (get_or-take n z b 0 (omega (arith, all, some, past)))
      ∙ ap (λ i. (eqb (get_or z b 0) 101 || eqb (get_or z b 0) 69) && is_ascii_digit (get_or t i 0)) start
      ∙ ap (λ d. (eqb (get_or z b 0) 101 || eqb (get_or z b 0) 69) && is_ascii_digit d)
      (get_or-take n z c 0 (omega (arith, all, some))) ∙ has in
      let ends : digits_end t c ≡ end = end_kept c n z (omega (arith, all)) in
      let sign : eqb (get_or t (b + 1) 0) 45 ≡ eqb (get_or z (b + 1) 0) 45 = ap (λ d. eqb d 45)
      (get_or-take n z (b + 1) 0 (omega (arith, all, some, past))) in
      let digits : slice_range t c (digits_end t c) ≡ slice_range z c end = ap (slice_range t c) ends
      ∙ slice_kept c end n z (omega (arith, all, some)) (omega (arith, all)) in
      let same : built t a b c (eqb (get_or z a 0) 46) true ≡ built z a b c (eqb (get_or z a 0) 46) true =
      λ i. record {
        whole = whole_kept i;
        point = eqb (get_or z a 0) 46;
        fraction = fraction_kept i;
        exponent_negative = sign i;
        exponent = digits i;
        len = ends i;
      } in
      scan_built t ∙ from_front ∙ ap (built t a b (exponent_start t b) (eqb (get_or z a 0) 46)) power
      ∙ ap (λ i. built t a b i (eqb (get_or z a 0) 46) true) start ∙ same
      ∙ sym (ap (built z a b c (eqb (get_or z a 0) 46)) has) ∙ sym (scan_built z)

  scan_kept : scan t ≡ scan z
  scan_kept =
      elim (cases_Bool (has_exponent z b)) [
        | inl has ↦ power_kept has
        | inr none ↦ plain_kept none
      ]

scan_taken : (z : Text) → scan (take (numeral_len z) z) ≡ scan z
unfolding scan
scan_taken z = ap (λ n. scan (take n z)) (sym (scan_len z)) ∙ scan_kept z

-- ---- its digits, and its number

fraction_len : (z : Text) (a : ℕ) → length (cond (eqb (get_or z a 0) 46) (slice_range z (a + 1) (mantissa_to z a)) [])
    ≡ behind_len (drop a z)
fraction_len z a =
    elim (cases_Bool (eqb (get_or z a 0) 46)) [
      | inl p ↦
          let k = digits_len (drop (a + 1) z) in
          let len : length (cond (eqb (get_or z a 0) 46) (slice_range z (a + 1) (mantissa_to z a)) [])
          ≡ length (take (a + 1 + k - (a + 1)) (drop (a + 1) z)) =
          ap (λ t. length (cond t (take (cond t (digits_end z (a + 1)) a - (a + 1)) (drop (a + 1) z)) [])) p in
          let q : eqb (get_or (drop a z) 0 0) 46 ≡ true = sym (ap (λ c. eqb c 46) (at_front z a)) ∙ p in
          let behind : behind_len (drop a z) ≡ k = ap (λ t. cond t (digits_len (drop 1 (drop a z))) 0) q
          ∙ ap digits_len (drop-drop 1 a z) in
          omega (arith, len, behind, length-take (a + 1 + k - (a + 1)) (drop (a + 1) z), digits_within (drop (a + 1) z))
      | inr p ↦
          let len : length (cond (eqb (get_or z a 0) 46) (slice_range z (a + 1) (mantissa_to z a)) []) ≡ 0 =
          ap (λ t. length (cond t (take (cond t (digits_end z (a + 1)) a - (a + 1)) (drop (a + 1) z)) [])) p in
          let q : eqb (get_or (drop a z) 0 0) 46 ≡ false = sym (ap (λ c. eqb c 46) (at_front z a)) ∙ p in
          let behind : behind_len (drop a z) ≡ 0 = ap (λ t. cond t (digits_len (drop 1 (drop a z))) 0) q in
          omega (arith, len, behind)
    ]

scan_digits : (z : Text) → length (scan z).whole + length (scan z).fraction ≡ digits_in z
unfolding scan
scan_digits z =
    let front : length (take (digits_end z 0 - 0) z) ≡ digits_len z = omega (
      arith,
      length-take (digits_end z 0 - 0) z,
      digits_within z,
    ) in
    let behind = fraction_len z (digits_end z 0) ∙ ap (λ a. behind_len (drop a z)) (digits_front z) in
    omega (arith, front, behind)

pub scan_some : (z : Text) → 0 < digits_in z → has_digits (scan z) ≡ true
scan_some z some = lt-ltb 0 (length (scan z).whole + length (scan z).fraction) (omega (arith, scan_digits z, some))

begins_byte : (b next : ℕ) → begins_number b next ≡ true → (is_ascii_digit b || eqb b 46) ≡ true
unfolding begins_number
begins_byte b next begins = fewer (is_ascii_digit b) (eqb b 46) (is_ascii_digit next) begins
  where
    fewer : (p q r : Bool) → (p || (q && r)) ≡ true → (p || q) ≡ true
    fewer true q r h = refl
    fewer false true r h = refl
    fewer false false r h = h

no_blank : (b : ℕ) → (is_ascii_digit b || eqb b 46) ≡ true → is_blank b ≡ false
no_blank b h = grind (arith, nat_tests)

no_sign : (b : ℕ) → (is_ascii_digit b || eqb b 46) ≡ true → (eqb b 43 || eqb b 45) ≡ false
no_sign b h = grind (arith, nat_tests)

no_minus : (b : ℕ) → (is_ascii_digit b || eqb b 46) ≡ true → eqb b 45 ≡ false
no_minus b h = grind (arith, nat_tests)

-- the number of a text that begins with neither a blank nor a sign
pub number_is : (b : ℕ) (z : Text) → (is_ascii_digit b || eqb b 46) ≡ true → has_digits (scan (b ∷ z)) ≡ true
    → number (b ∷ z) ≡ value_of false (scan (b ∷ z))
number_is b z begins has =
    ap (λ w. number_by w (scan (without_sign w)))
    (ap (λ t. drop (cond t (1 + prefix_len is_blank z) 0) (b ∷ z)) (no_blank b begins))
    ∙ ap (λ t. number_by (b ∷ z) (scan (cond t z (b ∷ z)))) (no_sign b begins)
    ∙ ap (λ t. cond t (value_of (eqb b 45) (scan (b ∷ z))) (Ok (Value (pos 0)))) has
    ∙ ap (λ t. value_of t (scan (b ∷ z))) (no_minus b begins)

first_taken : (n : ℕ) (b : ℕ) (z : Text) → 0 < n → (u : Text) × (take n (b ∷ z) ≡ b ∷ u)
first_taken zero b z some = absurd (omega arith)
first_taken (suc n) b z some = (take n z, refl)

number_taken : (b : ℕ) (z : Text) → begins_number b (get_or z 0 0) ≡ true
    → number (take (numeral_len (b ∷ z)) (b ∷ z)) ≡ value_of false (scan (b ∷ z))
number_taken b z begins =
    let w : Text = b ∷ z in
    let some = begins_some b z begins in
    let u = first_taken (numeral_len w) b z (omega (arith, some, behind_less (drop (digits_len w) w))) in
    let same : scan (b ∷ u.0) ≡ scan w = ap scan (sym u.1) ∙ scan_taken w in
    ap number u.1 ∙ number_is b u.0 (begins_byte b (get_or z 0 0) begins) (ap has_digits same ∙ scan_some w some)
    ∙ ap (value_of false) same

constant_at : (b : ℕ) (z : Text) → begins_number b (get_or z 0 0) ≡ true → constant (b ∷ z)
    ≡ Some (length (take (numeral_len (b ∷ z)) (b ∷ z)), number (take (numeral_len (b ∷ z)) (b ∷ z)))
constant_at b z begins =
    let w : Text = b ∷ z in
    let len : (scan w).len ≡ length (take (numeral_len w) w) = scan_len w
    ∙ sym (length-take-le (numeral_len w) w (numeral_within w)) in
    ap (λ t. cond t (Some ((scan w).len, value_of false (scan w))) None) (scan_some w (begins_some b z begins))
    ∙ ap (λ k. Some (k, value_of false (scan w))) len
    ∙ ap (λ v. Some (length (take (numeral_len w) w), v)) (sym (number_taken b z begins))

-- ---- the numeral that a text begins with

empty_mantissa : (m x : Text) → IsMantissa m → [] ≡ m ++ x → ⊥
empty_mantissa _ x (whole [] h) same = false≢true h
empty_mantissa _ x (whole (c ∷ digits) h) same = absurd cc
empty_mantissa _ x (pointed [] behind h) same = absurd cc
empty_mantissa _ x (pointed (c ∷ front) behind h) same = absurd cc

pub numeral_some : IsNumeral [] → ⊥
numeral_some n = empty_mantissa n.mantissa n.exponent n.is_mantissa n.parts

pub record NumeralAt (z : Text) : Type 0 where
  pub text : Text
  pub rest : Text
  pub parts : z ≡ text ++ rest
  pub moves : 0 < length text
  pub is : IsNumeral text
  pub longest : (more left : Text) → rest ≡ more ++ left → IsNumeral (text ++ more) → more ≡ []
  pub constant_is : constant z ≡ Some (length text, number text)

pub none_left : (more : Text) → length more ≡ 0 → more ≡ []
none_left [] e = refl
none_left (c ∷ more) e = absurd (omega arith)

pub numeral_at : (b : ℕ) (z : Text) → begins_number b (get_or z 0 0) ≡ true → NumeralAt (b ∷ z)
numeral_at b z begins =
    let w : Text = b ∷ z in
    let n = numeral_len w in
    let some = begins_some b z begins in
    let text : Text = take n w in
    let rest : Text = drop n w in
    let whole_is : text ++ rest ≡ w = take-append-drop n w in
    let len : length text ≡ n = length-take-le n w (numeral_within w) in
    record {
      text = text;
      rest = rest;
      parts = sym whole_is;
      moves = omega (arith, len, some, behind_less (drop (digits_len w) w));
      is = numeral_taken w some;
      longest =
          λ more left parts is.
          let all : (text ++ more) ++ left ≡ w = append_assoc text more left ∙ ap (λ u. text ++ u) (sym parts)
          ∙ whole_is in
          let covered : length (text ++ more) ≤ n = subst (λ u. length (text ++ more) ≤ numeral_len u) all
          (numeral_covers (text ++ more) left is) in
          none_left more (omega (arith, len, covered, length-append text more));
      constant_is = constant_at b z begins;
    }
