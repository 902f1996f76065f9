-- The readings of a text, by its parts.
use Rattle.std.proofs.Common.{◌≡◌, ℕ, ◌<◌, ◌≤◌, Bool, true, false, cond, ◌&&◌, ◌||◌, eqb, nat_lt, ℤ, List, [], ◌∷◌}
use Rattle.std.proofs.Common.{◌++◌, length, Option, Some, None, refl, sym, ap, ◌∙◌, append_assoc, length-append, arith}
use mathlib.Core.Bool.{not}
use Rattle.std.proofs.lemmas.Bool.{and_from, and_parts, eqb-true, lt-ltb, ltb-true}
use Rattle.std.proofs.lemmas.Bool.Decides.{nat_tests}
use Rattle.std.proofs.lemmas.List.{take-append-drop}
use Rattle.std.specs.Prelude.{IfNone, IfSome, unwrap_or}
use Rattle.std.specs.Char.{is_ascii_digit}
use Rattle.std.specs.List.{list_all, prefix_len, take_while}
use Rattle.std.specs.Str.Parse.{digits_value}
use Rattle.awk_numbers.specs.Operators.{is_in_range}
use Rattle.awk_text.specs.Numerals.{after_sign, drop_while, has_minus, is_blank, is_numeral, looks_numeric, number}
use Rattle.awk_text.specs.Numerals.{signed}
use Rattle.awk_text.specs.Readings.{Looks, Number, Sign, Spells, minus, plus, sign_text, unsigned, with_sign}
use Rattle.awk_text.proofs.Fronts.{drop_while-append, length-le-prefix_len, length-take_while, list_all-take_while}
use Rattle.awk_text.proofs.Fronts.{prefix_len-append, stops, take_while-append}

-- ---- a digit is no sign and no blank

digit_43 : (d : ℕ) → is_ascii_digit d ≡ true → eqb d 43 ≡ false
digit_43 d h = grind (arith, nat_tests)

digit_45 : (d : ℕ) → is_ascii_digit d ≡ true → eqb d 45 ≡ false
digit_45 d h = grind (arith, nat_tests)

digit_blank : (d : ℕ) → is_ascii_digit d ≡ true → not (is_blank d) ≡ true
digit_blank d h = grind (arith, nat_tests)

blank_digit : (b : ℕ) → is_blank b ≡ true → not (is_ascii_digit b) ≡ true
blank_digit b h = grind (arith, nat_tests)

-- ---- the sign of a text that begins with no blank

abbrev sign_by : Bool → Bool → Sign
sign_by plus_here minus_here = cond minus_here minus (cond plus_here plus unsigned)

abbrev sign_of : List ℕ → Sign
sign_of [] = unsigned
sign_of (b ∷ bs) = sign_by (eqb b 43) (eqb b 45)

parts_by : (plus_here minus_here : Bool) (b : ℕ) (bs : List ℕ) → eqb b 43 ≡ plus_here → eqb b 45 ≡ minus_here
    → b ∷ bs ≡ sign_text (sign_by plus_here minus_here) ++ cond (plus_here || minus_here) bs (b ∷ bs)
parts_by true true b bs p m = ap (λ x. x ∷ bs) (eqb-true b 45 m)
parts_by false true b bs p m = ap (λ x. x ∷ bs) (eqb-true b 45 m)
parts_by true false b bs p m = ap (λ x. x ∷ bs) (eqb-true b 43 p)
parts_by false false b bs p m = refl

-- a text is its sign and what follows
sign_parts : (body : List ℕ) → body ≡ sign_text (sign_of body) ++ after_sign body
sign_parts [] = refl
sign_parts (b ∷ bs) = parts_by (eqb b 43) (eqb b 45) b bs refl refl

value_by : (plus_here minus_here : Bool) (n : ℕ) → signed minus_here n ≡ with_sign (sign_by plus_here minus_here) n
value_by true true n = refl
value_by false true n = refl
value_by true false n = refl
value_by false false n = refl

sign_value : (body : List ℕ) (n : ℕ) → signed (has_minus body) n ≡ with_sign (sign_of body) n
sign_value [] n = refl
sign_value (b ∷ bs) n = value_by (eqb b 43) (eqb b 45) n

-- a sign and digits are read as themselves
sign_of_digits : (s : Sign) (d : ℕ) (ds : List ℕ) → is_ascii_digit d ≡ true → sign_of (sign_text s ++ (d ∷ ds)) ≡ s
sign_of_digits plus d ds h = refl
sign_of_digits minus d ds h = refl
sign_of_digits unsigned d ds h = rw (digit_45 d h) (rw (digit_43 d h) refl)

after_sign_digits : (s : Sign) (d : ℕ) (ds : List ℕ) → is_ascii_digit d ≡ true → after_sign (sign_text s ++ (d ∷ ds))
    ≡ d ∷ ds
after_sign_digits plus d ds h = refl
after_sign_digits minus d ds h = refl
after_sign_digits unsigned d ds h = rw (digit_45 d h) (rw (digit_43 d h) refl)

stops_digits : (s : Sign) (d : ℕ) (ds : List ℕ) → is_ascii_digit d ≡ true → stops is_blank (sign_text s ++ (d ∷ ds))
    ≡ true
stops_digits plus d ds h = refl
stops_digits minus d ds h = refl
stops_digits unsigned d ds h = digit_blank d h

blanks_stop : (after : List ℕ) → list_all is_blank after ≡ true → stops is_ascii_digit after ≡ true
blanks_stop [] h = refl
blanks_stop (b ∷ bs) h = blank_digit b (and_parts (is_blank b) (list_all is_blank bs) h).0

-- ---- looks numeric

cond_some : (b : Bool) (x z : ℤ) → b ≡ true → x ≡ z → is_in_range z ≡ true → cond (b && is_in_range x) (Some x) None
    ≡ Some z
cond_some b x z h e fits = rw h (rw e (rw fits refl))

complete_parts : (blanks : List ℕ) (s : Sign) (digits after : List ℕ) (z : ℤ) → list_all is_blank blanks ≡ true
    → 0 < length digits → list_all is_ascii_digit digits ≡ true → list_all is_blank after ≡ true
    → z ≡ with_sign s (digits_value 10 digits) → is_in_range z ≡ true
    → looks_numeric (blanks ++ (sign_text s ++ (digits ++ after))) ≡ Some z
complete_parts blanks s [] after z all_blank some all_digits blank_after value fits = absurd (omega arith)
complete_parts blanks s (d ∷ ds) after z all_blank some all_digits blank_after value fits =
    let digit = (and_parts (is_ascii_digit d) (list_all is_ascii_digit ds) all_digits).0 in
    let body = sign_text s ++ (d ∷ (ds ++ after)) in
    let text = blanks ++ body in
    let stop = blanks_stop after blank_after in
    let body_is = drop_while-append is_blank blanks body all_blank (stops_digits s d (ds ++ after) digit) in
    let rest_is = after_sign_digits s d (ds ++ after) digit in
    let count = prefix_len-append is_ascii_digit (d ∷ ds) after all_digits stop in
    let some_digit = lt-ltb 0 (prefix_len is_ascii_digit (d ∷ (ds ++ after))) (omega (arith, count, some)) in
    let blank = ap (list_all is_blank) (drop_while-append is_ascii_digit (d ∷ ds) after all_digits stop)
    ∙ blank_after in
    let numeral : is_numeral (after_sign (drop_while is_blank text)) ≡ true =
    ap (λ t. is_numeral (after_sign t)) body_is ∙ ap is_numeral rest_is
    ∙ and_from (nat_lt 0 (prefix_len is_ascii_digit (d ∷ (ds ++ after))))
    (list_all is_blank (drop_while is_ascii_digit (d ∷ (ds ++ after)))) some_digit blank in
    let number_is : number text ≡ z =
    ap (λ t. signed (has_minus t) (digits_value 10 (take_while is_ascii_digit (after_sign t)))) body_is
    ∙ sign_value body (digits_value 10 (take_while is_ascii_digit (after_sign body)))
    ∙ ap (λ g. with_sign g (digits_value 10 (take_while is_ascii_digit (after_sign body))))
    (sign_of_digits s d (ds ++ after) digit)
    ∙ ap (λ t. with_sign s (digits_value 10 (take_while is_ascii_digit t))) rest_is
    ∙ ap (λ t. with_sign s (digits_value 10 t)) (take_while-append is_ascii_digit (d ∷ ds) after all_digits stop)
    ∙ sym value in
    cond_some (is_numeral (after_sign (drop_while is_blank text))) (number text) z numeral number_is fits

looks_complete : (text : List ℕ) (z : ℤ) → Looks text z → looks_numeric text ≡ Some z
looks_complete text z r = ap looks_numeric r.whole ∙ complete_parts r.blanks r.sign r.digits r.after z r.all_blank
    r.some_digit r.all_digits r.blank_after r.value r.in_range

some_by : (b c : Bool) (x z : ℤ) → cond (b && c) (Some x) None ≡ Some z → (b ≡ true) × (c ≡ true) × (x ≡ z)
some_by true true x z h = (refl, refl, ap (λ o. unwrap_or o x) h)
some_by true false x z h = absurd (cc)
some_by false c x z h = absurd (cc)

-- the blanks, the sign, the digits and the rest of a text make it
text_parts : (text : List ℕ) → text ≡ take_while is_blank text ++ (sign_text (sign_of (drop_while is_blank text))
    ++ (take_while is_ascii_digit (after_sign (drop_while is_blank text)) ++ drop_while is_ascii_digit
    (after_sign (drop_while is_blank text))))
text_parts text =
    let body = drop_while is_blank text in
    let rest = after_sign body in
    sym (take-append-drop (prefix_len is_blank text) text)
    ∙ ap (λ t. take_while is_blank text ++ t) (sign_parts body ∙ ap (λ t. sign_text (sign_of body) ++ t)
    (sym (take-append-drop (prefix_len is_ascii_digit rest) rest)))

looks_sound : (text : List ℕ) (z : ℤ) → looks_numeric text ≡ Some z → Looks text z
looks_sound text z h =
    let body = drop_while is_blank text in
    let rest = after_sign body in
    let parts = some_by (is_numeral rest) (is_in_range (number text)) (number text) z h in
    let numeral = and_parts (nat_lt 0 (prefix_len is_ascii_digit rest))
    (list_all is_blank (drop_while is_ascii_digit rest)) parts.0 in
    record {
      blanks = take_while is_blank text;
      sign = sign_of body;
      digits = take_while is_ascii_digit rest;
      after = drop_while is_ascii_digit rest;
      whole = text_parts text;
      all_blank = list_all-take_while is_blank text;
      some_digit = omega (
        arith,
        length-take_while is_ascii_digit rest,
        ltb-true 0 (prefix_len is_ascii_digit rest) numeral.0,
      );
      all_digits = list_all-take_while is_ascii_digit rest;
      blank_after = numeral.1;
      value = sym parts.2 ∙ sign_value body (digits_value 10 (take_while is_ascii_digit rest));
      in_range = ap is_in_range (sym parts.2) ∙ parts.1;
    }

-- the two clauses of the call
pub looks_if_some : (text : List ℕ) (o : Option ℤ) → o ≡ looks_numeric text → IfSome o (Looks text)
looks_if_some text None e = tt
looks_if_some text (Some z) e = looks_sound text z (sym e)

pub looks_if_none : (text : List ℕ) (o : Option ℤ) → o ≡ looks_numeric text → IfNone o ((z : ℤ) → Looks text z → ⊥)
looks_if_none text None e = λ z r. let both : None ≡ Some z = e ∙ looks_complete text z r in absurd (cc)
looks_if_none text (Some z) e = tt

-- ---- the number

abbrev tail_front : List ℕ → List ℕ
tail_front body = sign_text (sign_of body) ++ take_while is_ascii_digit (after_sign body)

abbrev front_of : List ℕ → List ℕ
front_of text = take_while is_blank text ++ tail_front (drop_while is_blank text)

longest_by : (blanks inner later : List ℕ) → list_all is_blank blanks ≡ true → stops is_blank (inner ++ later) ≡ true
    → length inner ≤ length (tail_front (inner ++ later))
    → length (blanks ++ inner) ≤ length (front_of ((blanks ++ inner) ++ later))
longest_by blanks inner later all_blank stop h =
    let tail = inner ++ later in
    let taken = take_while-append is_blank blanks tail all_blank stop in
    let dropped = drop_while-append is_blank blanks tail all_blank stop in
    let front_is : front_of (blanks ++ tail) ≡ blanks ++ tail_front tail =
    ap (λ t. t ++ tail_front (drop_while is_blank (blanks ++ tail))) taken ∙ ap (λ t. blanks ++ tail_front t)
    dropped in
    omega (
      arith,
      ap length (ap front_of (append_assoc blanks inner later) ∙ front_is),
      length-append blanks inner,
      length-append blanks (tail_front tail),
      h,
    )

digits_longest : (digits later : List ℕ) → list_all is_ascii_digit digits ≡ true
    → length digits ≤ length (take_while is_ascii_digit (digits ++ later))
digits_longest digits later h = omega (
  arith,
  length-take_while is_ascii_digit (digits ++ later),
  length-le-prefix_len is_ascii_digit digits later h,
)

longest_parts : (blanks : List ℕ) (s : Sign) (digits later : List ℕ) → list_all is_blank blanks ≡ true
    → list_all is_ascii_digit digits ≡ true → length (blanks ++ (sign_text s ++ digits)) ≤ length
    (front_of ((blanks ++ (sign_text s ++ digits)) ++ later))
longest_parts blanks plus digits later all_blank all_digits = longest_by blanks (43 ∷ digits) later all_blank refl
    (omega (arith, digits_longest digits later all_digits))
longest_parts blanks minus digits later all_blank all_digits = longest_by blanks (45 ∷ digits) later all_blank refl
    (omega (arith, digits_longest digits later all_digits))
longest_parts blanks unsigned (d ∷ ds) later all_blank all_digits =
    let digit = (and_parts (is_ascii_digit d) (list_all is_ascii_digit ds) all_digits).0 in
    let body = d ∷ (ds ++ later) in
    let tail_is : tail_front body ≡ take_while is_ascii_digit body =
    ap (λ g. sign_text g ++ take_while is_ascii_digit (after_sign body)) (sign_of_digits unsigned d (ds ++ later) digit)
    ∙ ap (take_while is_ascii_digit) (after_sign_digits unsigned d (ds ++ later) digit) in
    longest_by blanks (d ∷ ds) later all_blank (digit_blank d digit)
    (omega (arith, ap length tail_is, digits_longest (d ∷ ds) later all_digits))
longest_parts blanks unsigned [] later all_blank all_digits =
    let text = (blanks ++ []) ++ later in
    omega (
      arith,
      length-append blanks [],
      length-append (take_while is_blank text)
          (tail_front (drop_while is_blank text)),
      length-take_while is_blank text,
      ap (prefix_len is_blank) (append_assoc blanks [] later),
      length-le-prefix_len is_blank blanks later all_blank,
    )

longest_front : (text other later : List ℕ) (y : ℤ) → text ≡ other ++ later → Spells other y
    → length other ≤ length (front_of text)
longest_front text other later y e r =
    let same : text ≡ (r.blanks ++ (sign_text r.sign ++ r.digits)) ++ later = e ∙ ap (λ t. t ++ later) r.whole in
    omega (
      arith,
      ap length r.whole,
      ap (λ t. length (front_of t)) same,
      longest_parts r.blanks r.sign r.digits later
          r.all_blank r.all_digits,
    )

pub number_reads : (text : List ℕ) → Number text (number text)
number_reads text =
    let body = drop_while is_blank text in
    let rest = after_sign body in
    let blanks = take_while is_blank text in
    let sign = sign_text (sign_of body) in
    let digits = take_while is_ascii_digit rest in
    let later = drop_while is_ascii_digit rest in
    record {
      front = front_of text;
      rest = later;
      whole = text_parts text ∙ ap (λ t. blanks ++ t) (sym (append_assoc sign digits later))
          ∙ sym (append_assoc blanks (sign ++ digits) later);
      spells = record {
        blanks = blanks;
        sign = sign_of body;
        digits = digits;
        whole = refl;
        all_blank = list_all-take_while is_blank text;
        all_digits = list_all-take_while is_ascii_digit rest;
        value = sign_value body (digits_value 10 digits);
      };
      longest = longest_front text;
    }
