-- What is read in profile whole is read so in profile double.
use Rattle.std.proofs.Common.{◌≡◌, ◌≢◌, ℕ, ◌+◌, ◌-◌, ◌*◌, ◌^◌, ◌<◌, ◌≤◌, Bool, true, false, not, ◌&&◌, ◌||◌, cond}
use Rattle.std.proofs.Common.{eqb, T, List, [], ◌∷◌, ◌++◌, length, take, drop, get_or, fold, nat_le}
use Rattle.std.proofs.Common.{option_map, Option, Some, None, Result, is_ok, Ok, sym, ap, refl, subst, ◌∙◌, ◌⊎◌, inl, inr, arith}
use Rattle.std.specs.Char.{is_ascii_digit, digit_value}
use Rattle.std.specs.List.{list_all, All}
use Rattle.std.specs.Float.{Float, binary64, nan, inf, fin, float_is_finite}
use Rattle.std.specs.Str.Parse.{digits_value_after}
use Rattle.std.proofs.Math.Seq.{drop-append_seam}
use Rattle.std.proofs.lemmas.Bool.{and_parts, both_ways, cases_Bool, eqb-true, leb-true}
use Rattle.std.proofs.lemmas.Bool.{false≢true}
use Rattle.std.proofs.lemmas.Bool.Decides.{nat_tests}
use Rattle.std.proofs.lemmas.List.{append_assoc, append-nil, get_or_past, length-append, take_all}
use Rattle.std.proofs.lemmas.List.Elements.{All-pop}
use Rattle.std.proofs.lemmas.List.Folds.{list_all-append}
use lib.Ieee.{eq, le, lt, round}
use lib.Ieee.Order.{round_mono}
use Rattle.fast_float.specs.Text.{Parts, scan, has_exponent, exponent_start, digits_end}
use Rattle.awk_numbers.specs.Numbers.{settled}
use Rattle.awk_numbers.specs.Numerals.{number, value_of as value_in}
use Rattle.awk_numbers.specs.declared.number.Number.{Number as Value}
use Rattle.awk_numbers.specs.declared.number.NumberFault.{NumberFault}
use Rattle.awk_numbers.specs.declared.number.Numbers.TheVariants.{Whole, Double}
use Rattle.awk_tokens.specs.Bytes.{Text}
use Rattle.awk_tokens.specs.Laws.{Restricts}
use Rattle.awk_tokens.specs.Reads.{ReadsTo, begun, a_gap, a_token, operand_after, token_of}
use Rattle.awk_tokens.specs.Scan.{digits_len}
use Rattle.awk_tokens.specs.Tokens.{is_number, whole, IsNumeral, IsToken, NoLonger, value_of, begins_exponent, is_whole}
use Rattle.awk_tokens.specs.Tokens.{IsWord, IsConstant, IsFirst}
use Rattle.awk_tokens.specs.Words.{word_kind, builtin_kind, kind_of, kind_or, name_kind, is_of_doubles, reserved}
use Rattle.awk_tokens.specs.declared.words.Builtin.{Builtin as Function}
use Rattle.awk_tokens.specs.declared.terminals.Terminal.{Terminal}
use Rattle.awk_tokens.specs.declared.terminals.Terminal.TheVariants as listed
use Rattle.awk_tokens.specs.declared.token.Token.{Token}
use Rattle.awk_tokens.specs.declared.kinds.TokenKind.{TokenKind}
use Rattle.awk_tokens.specs.declared.kinds.TokenKind.TheVariants.{Number, Quoted, Pattern, Keyword, Builtin, Refused}
use Rattle.awk_tokens.specs.declared.kinds.TokenKind.TheVariants.{Name, CallName, Sign}
use Rattle.awk_tokens.proofs.FirstLemmas.{a_number, family_of, family_at, other_family, family_told, as_number}
use Rattle.awk_tokens.proofs.FirstLemmas.{word_is, word_family_of}
use Rattle.awk_tokens.proofs.NumeralLemmas.{pointed_len, mantissa_len, mantissa_to, exponent_len}
use Rattle.awk_tokens.proofs.NumeralLemmas.{numeral_len, is_signed}
use Rattle.awk_tokens.proofs.NumeralLemmas.{lead_len, has_power, one_order, one_up, number_all}
use Rattle.awk_tokens.proofs.NumeralLemmas.{numeral_covers, none_left, digits_in, built, scan_built}
use Rattle.awk_tokens.proofs.NumeralLemmas.{scan_some, number_is}
use Rattle.awk_tokens.proofs.Once.{no_token_empty, point_no_token}

-- ---- digits are a numeral

numeral_of : (text : Text) → is_number text ≡ true → IsNumeral text
numeral_of text h =
    record {
      mantissa = text;
      exponent = [];
      parts = sym (append-nil text);
      is_mantissa = whole text h;
      is_exponent = refl;
    }

-- a word that whole numbers don't refuse is of the same kind among doubles
builtin_in : (which : Function) (kind : TokenKind) → kind ≢ Refused → builtin_kind Whole which ≡ kind → Builtin ≡ kind
builtin_in which kind some e = by (is_of_doubles which) e
  where
    by : (b : Bool) → cond b Refused Builtin ≡ kind → Builtin ≡ kind
    by true e = absurd (some (sym e))
    by false e = e

kind_in : (t : Terminal) (kind : TokenKind) → kind ≢ Refused → kind_of Whole t ≡ kind → kind_of Double t ≡ kind
kind_in (listed.Builtin which) kind some e = builtin_in which kind some e
kind_in _ kind some e = e

kinds_in : (found : Option Terminal) (other kind : TokenKind) → kind ≢ Refused
    → kind_or (option_map (kind_of Whole) found) other ≡ kind
    → kind_or (option_map (kind_of Double) found) other ≡ kind
kinds_in None other kind some e = e
kinds_in (Some t) other kind some e = kind_in t kind some e

word_in : (kind : TokenKind) (text rest : Text) → kind ≢ Refused → IsWord Whole kind text rest
    → IsWord Double kind text rest
word_in kind text rest some h = (h.0, kinds_in (reserved text) (name_kind rest) kind some h.1)

token_in : (operand : Bool) (kind : TokenKind) (text rest : Text) → kind ≢ Refused
    → IsToken Whole operand kind text rest → IsToken Double operand kind text rest
token_in operand Number text rest some h = numeral_of text h
token_in operand Quoted text rest some h = h
token_in operand Pattern text rest some h = h
token_in operand Sign text rest some h = h
token_in operand Keyword text rest some h = word_in Keyword text rest some h
token_in operand Builtin text rest some h = word_in Builtin text rest some h
token_in operand Refused text rest some h = absurd (some refl)
token_in operand Name text rest some h = word_in Name text rest some h
token_in operand CallName text rest some h = word_in CallName text rest some h

-- a word of doubles is a word of whole numbers too, of another kind perhaps
a_word_of_whole : (operand : Bool) (kind : TokenKind) (text rest : Text) → IsWord Double kind text rest
    → (other : TokenKind) × IsToken Whole operand other text rest
a_word_of_whole operand kind text rest h =
    let other = word_kind Whole text rest in
    (other, (word_is Whole operand other text rest (word_family_of Whole text rest) (h.0, refl)).0)

-- a token of profile double is a number, or one of profile whole
token_of_whole : (operand : Bool) (kind : TokenKind) (text rest : Text) → IsToken Double operand kind text rest
    → (IsNumeral text × (family_of kind ≡ a_number))
    ⊎ ((other : TokenKind) × IsToken Whole operand other text rest)
token_of_whole operand Number text rest h = inl (h, refl)
token_of_whole operand Quoted text rest h = inr (Quoted, h)
token_of_whole operand Pattern text rest h = inr (Pattern, h)
token_of_whole operand Sign text rest h = inr (Sign, h)
token_of_whole operand Keyword text rest h = inr (a_word_of_whole operand Keyword text rest h)
token_of_whole operand Builtin text rest h = inr (a_word_of_whole operand Builtin text rest h)
token_of_whole operand Refused text rest h = inr (a_word_of_whole operand Refused text rest h)
token_of_whole operand Name text rest h = inr (a_word_of_whole operand Name text rest h)
token_of_whole operand CallName text rest h = inr (a_word_of_whole operand CallName text rest h)

number_only : (kind : TokenKind) → family_of kind ≡ a_number → kind ≡ Number
number_only Number e = refl
number_only Quoted e = absurd cc
number_only Pattern e = absurd cc
number_only Sign e = absurd cc
number_only Keyword e = absurd cc
number_only Builtin e = absurd cc
number_only Refused e = absurd cc
number_only Name e = absurd cc
number_only CallName e = absurd cc

-- ---- before such a rest it is the longest numeral

run_exact : (w y : Text) → list_all is_ascii_digit w ≡ true → is_ascii_digit (get_or y 0 0) ≡ false
    → digits_len (w ++ y) ≡ length w
run_exact [] [] h none = refl
run_exact [] (c ∷ y) h none = ap (λ t. cond t (1 + digits_len y) 0) none
run_exact (c ∷ w) y h none =
    let both = and_parts (is_ascii_digit c) (list_all is_ascii_digit w) h in
    ap (λ t. cond t (1 + digits_len (w ++ y)) 0) both.0 ∙ ap (λ n. 1 + n) (run_exact w y both.1 none)
    ∙ one_up (length w)

digit_behind : (text : Text) (c : ℕ) → is_number text ≡ true → is_ascii_digit c ≡ true
    → is_number (text ++ c ∷ []) ≡ true
digit_behind [] c h digit = absurd (false≢true h)
digit_behind (b ∷ z) c h digit =
    let both = and_parts (is_ascii_digit b) (list_all is_ascii_digit z) h in
    ap (λ t. t && list_all is_ascii_digit (z ++ c ∷ [])) both.0 ∙ list_all-append is_ascii_digit z (c ∷ [])
    ∙ ap (λ t. t && list_all is_ascii_digit (c ∷ [])) both.1 ∙ ap (λ t. t && true) digit

no_digit_next : (operand : Bool) (text rest : Text) → is_number text ≡ true → NoLonger Whole operand text rest
    → is_ascii_digit (get_or rest 0 0) ≡ false
no_digit_next operand text [] h none = refl
no_digit_next operand text (c ∷ rest) h none =
    elim (cases_Bool (is_ascii_digit c)) [
      | inl digit ↦ let nothing = none Number (c ∷ []) rest refl (digit_behind text c h digit) in absurd cc
      | inr other ↦ other
    ]

-- an exponent that a numeral takes begins as one
no_power : (v : Text) → begins_exponent v ≡ false → has_power v ≡ false
no_power v none =
    elim (cases_Bool (has_power v)) [
      | inl has ↦ absurd (both_ways (begins_exponent v) none (begins has))
      | inr other ↦ other
    ]
  where
    first : (p q r : Bool) → p ≡ true → q ≡ true → (p && (q || r)) ≡ true
    first p q r a b = ap (λ t. t && (q || r)) a ∙ ap (λ t. t || r) b

    second : (p q r s : Bool) → p ≡ true → r ≡ true → s ≡ true → (p && (q || (r && s))) ≡ true
    second p true r s a b c = ap (λ t. t && true) a
    second p false r s a b c = ap (λ t. t && (r && s)) a ∙ ap (λ t. t && s) b ∙ c

    begins : has_power v ≡ true → begins_exponent v ≡ true
    begins has =
        let is_e : Bool = eqb (get_or v 0 0) 101 || eqb (get_or v 0 0) 69 in
        let signs : Bool = eqb (get_or v 1 0) 43 || eqb (get_or v 1 0) 45 in
        let both = and_parts is_e (is_ascii_digit (get_or v (lead_len v) 0)) has in
        elim (cases_Bool (is_signed v)) [
          | inl s ↦
              second is_e (is_ascii_digit (get_or v 1 0)) signs (is_ascii_digit (get_or v 2 0)) both.0
              (one_order (get_or v 1 0) true s)
              (sym (ap (λ t. is_ascii_digit (get_or v (cond t 2 1) 0)) s) ∙ both.1)
          | inr s ↦
              first is_e (is_ascii_digit (get_or v 1 0)) (signs && is_ascii_digit (get_or v 2 0)) both.0
              (sym (ap (λ t. is_ascii_digit (get_or v (cond t 2 1) 0)) s) ∙ both.1)
        ]

whole_parts : (text rest : Text) → is_whole text rest ≡ true → (value_of text ≤ 9223372036854775807)
    × (eqb (get_or rest 0 0) 46 ≡ false)
    × (begins_exponent rest ≡ false)
whole_parts text rest h =
    let both = and_parts (nat_le (value_of text) 9223372036854775807) (not (eqb (get_or rest 0 0) 46)
    && not (begins_exponent rest)) h in
    let others = and_parts (not (eqb (get_or rest 0 0) 46)) (not (begins_exponent rest)) both.1 in (
      leb-true (value_of text) 9223372036854775807 both.0,
      not_true (eqb (get_or rest 0 0) 46) others.0,
      not_true (begins_exponent rest) others.1,
    )
  where
    not_true : (b : Bool) → not b ≡ true → b ≡ false
    not_true true h = absurd cc
    not_true false h = refl

whole_len : (text rest : Text) → is_number text ≡ true → is_ascii_digit (get_or rest 0 0) ≡ false
    → eqb (get_or rest 0 0) 46 ≡ false → begins_exponent rest ≡ false → numeral_len (text ++ rest) ≡ length text
whole_len text rest h digit point exponent =
    let z : Text = text ++ rest in
    let run : digits_len z ≡ length text = run_exact text rest (number_all text h) digit in
    let none : pointed_len (drop (digits_len z) z) ≡ 0 = ap (λ n. pointed_len (drop n z)) run
    ∙ ap pointed_len (drop-append_seam text rest) ∙ ap (λ t. cond t (1 + digits_len (drop 1 rest)) 0) point in
    let front : mantissa_len z ≡ length text = omega (arith, run, none) in
    let behind : exponent_len (drop (mantissa_len z) z) ≡ 0 = ap (λ n. exponent_len (drop n z)) front
    ∙ ap exponent_len (drop-append_seam text rest)
    ∙ ap (λ t. cond t (lead_len rest + digits_len (drop (lead_len rest) rest)) 0) (no_power rest exponent) in
    omega (arith, front, behind)

same_family : (operand : Bool) (b : ℕ) → eqb b 46 ≡ false → family_at Whole operand b ≡ family_at Double operand b
same_family operand b h =
    ap (λ t. cond (is_ascii_digit b || (t && false)) a_number (other_family operand b)) h
    ∙ sym (ap (λ t. cond (is_ascii_digit b || (t && true)) a_number (other_family operand b)) h)

-- no longer numeral stands where a token of profile whole does
numeral_no_longer : (operand : Bool) (kind other : TokenKind) (text rest more left : Text)
    → IsFirst Whole operand kind text rest → rest ≡ more ++ left → IsToken Double operand other (text ++ more) left
    → IsNumeral (text ++ more) → family_of other ≡ a_number → more ≡ []
numeral_no_longer operand kind other [] rest more left first parts token numeral is =
    absurd (no_token_empty Whole operand kind rest first.token)
numeral_no_longer operand kind other (b ∷ z) rest more left first parts token numeral is =
    let text : Text = b ∷ z in
    let no_point : eqb b 46 ≡ false = elim (cases_Bool (eqb b 46)) [
      | inl at_point ↦
          absurd (point_no_token operand kind (z ++ rest) text rest (ap (λ c. c ∷ (z ++ rest))
          (sym (eqb-true b 46 at_point))) first.token)
      | inr other_byte ↦ other_byte
    ] in
    let family : family_of kind ≡ a_number = sym (family_told Whole operand kind b z rest first.token)
    ∙ same_family operand b no_point
    ∙ family_told Double operand other b (z ++ more) left token ∙ is in
    let number_is_text : is_number text ≡ true = as_number Whole operand kind text rest family first.token in
    let limits = whole_parts text rest
    (subst (λ k. IsConstant Whole k text rest) (number_only kind family) first.constant)
    in
    let len : numeral_len (text ++ rest) ≡ length text = whole_len text rest number_is_text
    (no_digit_next operand text rest number_is_text first.longest) limits.1 limits.2 in
    let same : (text ++ more) ++ left ≡ text ++ rest = append_assoc text more left ∙ ap (λ w. text ++ w) (sym parts) in
    let covered : length (text ++ more) ≤ numeral_len (text ++ rest) =
    subst (λ w. length (text ++ more) ≤ numeral_len w) same (numeral_covers (text ++ more) left numeral) in
    none_left more (omega (arith, len, covered, length-append text more))

longest_in : (operand : Bool) (kind : TokenKind) (text rest : Text) → IsFirst Whole operand kind text rest
    → NoLonger Double operand text rest
longest_in operand kind text rest first other more left parts token =
    elim (token_of_whole operand other (text ++ more) left token) [
      | inl numeral ↦ numeral_no_longer operand kind other text rest more left first parts token numeral.0 numeral.1
      | inr same ↦ first.longest same.0 more left parts same.1
    ]

-- ---- its number is a double

-- between two doubles there are doubles alone
abbrev held : Value → Result Value NumberFault
held v = Ok v

okay_by : (t : Bool) (v w : Value) → is_ok (cond t (held v) (held w)) ≡ true
okay_by true v w = refl
okay_by false v w = refl

between : (low x high : Float) → T (float_is_finite low) → T (float_is_finite high) → T (le low x) → T (le x high)
    → is_ok (settled x) ≡ true
unfolding le lt eq float_is_finite
between nan x high p q a b = absurd p
between (inf s) x high p q a b = absurd p
between (fin s m e) x nan p q a b = absurd q
between (fin s m e) x (inf t) p q a b = absurd q
between (fin s m e) nan (fin t n d) p q a b = absurd a
between (fin s m e) (inf true) (fin t n d) p q a b = absurd a
between (fin s m e) (inf false) (fin t n d) p q a b = absurd b
between (fin s m e) (fin u k f) (fin t n d) p q a b = okay_by _ _ _

least_finite : T (float_is_finite (round binary64 false 0 1))
unfolding round float_is_finite
least_finite = tt

most_finite : T (float_is_finite (round binary64 false (2 ^ 63) 1))
unfolding round float_is_finite
most_finite = tt

rounded_okay : (n : ℕ) → n ≤ 2 ^ 63 → is_ok (settled (round binary64 false n 1)) ≡ true
rounded_okay n h = between (round binary64 false 0 1) (round binary64 false n 1) (round binary64 false (2 ^ 63) 1)
    least_finite most_finite (round_mono binary64 0 1 n 1 (omega arith) (omega arith) (omega arith))
    (round_mono binary64 n 1 (2 ^ 63) 1 (omega arith) (omega arith) (omega (arith, h)))

digits_same : (n : ℕ) (z : Text) → list_all is_ascii_digit z ≡ true → fold (λ k b. 10 * k + (b - 48)) n z
    ≡ digits_value_after 10 n z
digits_same n [] h = refl
digits_same n (c ∷ z) h =
    let both = and_parts (is_ascii_digit c) (list_all is_ascii_digit z) h in
    digits_same (10 * n + (c - 48)) z both.1
    ∙ ap (λ k. digits_value_after 10 k z) (omega (arith, digit_is c both.0))
  where
    digit_is : (c : ℕ) → is_ascii_digit c ≡ true → digit_value c ≡ c - 48
    digit_is c h = grind (arith, nat_tests)

-- the parts of digits alone
abbrev plain : Text → Parts
plain z = record {
  whole = z;
  point = false;
  fraction = [];
  exponent_negative = false;
  exponent = [];
  len = length z;
}

plain_scan : (z : Text) → list_all is_ascii_digit z ≡ true → scan z ≡ plain z
plain_scan z h =
    let run : digits_len z ≡ length z = ap digits_len (sym (append-nil z)) ∙ run_exact z [] h refl in
    let a : digits_end z 0 ≡ length z = omega (arith, run) in
    let past : get_or z (length z) 0 ≡ 0 = get_or_past z (length z) 0 (omega arith) in
    let point : eqb (get_or z (length z) 0) 46 ≡ false = ap (λ c. eqb c 46) past in
    let b : mantissa_to z (length z) ≡ length z = ap (λ t. cond t (digits_end z (length z + 1)) (length z)) point in
    let power : has_exponent z (length z) ≡ false =
    ap (λ c. (eqb c 101 || eqb c 69) && is_ascii_digit (get_or z (exponent_start z (length z)) 0)) past in
    let n = length z in
    scan_built z
    ∙ ap (λ i. built z i (mantissa_to z i) (exponent_start z (mantissa_to z i)) (eqb (get_or z i 0) 46)
    (has_exponent z (mantissa_to z i))) a
    ∙ ap (λ i. built z n i (exponent_start z i) (eqb (get_or z n 0) 46) (has_exponent z i)) b
    ∙ ap (λ t. built z n n (exponent_start z n) t (has_exponent z n)) point
    ∙ ap (λ t. built z n n (exponent_start z n) false t) power
    ∙ (λ i. record {
      whole = all_taken z i;
      point = false;
      fraction = [];
      exponent_negative = false;
      exponent = [];
      len = length z;
    })
  where
    all_taken : (z : Text) → take (length z - 0) (drop 0 z) ≡ z
    all_taken z = take_all (length z - 0) z (omega arith)

plain_value : (z : Text) → list_all is_ascii_digit z ≡ true → value_of z ≤ 9223372036854775807
    → is_ok (value_in false (plain z)) ≡ true
plain_value z h few =
    let same : digits_value_after 10 0 (z ++ []) ≡ value_of z = ap (digits_value_after 10 0) (append-nil z)
    ∙ sym (digits_same 0 z h) in
    let is : digits_value_after 10 0 (z ++ []) * 10 ^ 0 ≡ value_of z = omega (arith, same) in
    ap (λ n. is_ok (settled (round binary64 false n (10 ^ (0 + 0))))) is
    ∙ rounded_okay (value_of z) (omega (arith, few))

number_okay : (text rest : Text) → is_number text ≡ true → is_whole text rest ≡ true → is_ok (number text) ≡ true
number_okay [] rest h is = absurd (false≢true h)
number_okay (b ∷ z) rest h is =
    let digit = (and_parts (is_ascii_digit b) (list_all is_ascii_digit z) h).0 in
    let len : digits_len (b ∷ z) ≡ 1 + digits_len z = ap (λ t. cond t (1 + digits_len z) 0) digit in
    let some : 0 < digits_in (b ∷ z) = omega (arith, len) in
    ap is_ok (number_is b z (ap (λ t. t || eqb b 46) digit) (scan_some (b ∷ z) some)
    ∙ ap (value_in false) (plain_scan (b ∷ z) h)) ∙ plain_value (b ∷ z) h (whole_parts (b ∷ z) rest is).0

constant_in : (operand : Bool) (kind : TokenKind) (text rest : Text) → IsToken Whole operand kind text rest
    → IsConstant Whole kind text rest → IsConstant Double kind text rest
constant_in operand Number text rest h is = number_okay text rest h is
constant_in operand Quoted text rest h is = tt
constant_in operand Pattern text rest h is = tt
constant_in operand Sign text rest h is = tt
constant_in operand Keyword text rest h is = tt
constant_in operand Builtin text rest h is = tt
constant_in operand Refused text rest h is = tt
constant_in operand Name text rest h is = tt
constant_in operand CallName text rest h is = tt

-- ---- and so is all that is read

first_in : (operand : Bool) (kind : TokenKind) (text rest : Text) → kind ≢ Refused
    → IsFirst Whole operand kind text rest → IsFirst Double operand kind text rest
first_in operand kind text rest some first =
    record {
      token = token_in operand kind text rest some first.token;
      longest = longest_in operand kind text rest first;
      constant = constant_in operand kind text rest first.token first.constant;
    }

abbrev NoRefused : List Token → Type 0
NoRefused tokens = All (λ t. t.kind ≢ Refused) tokens

reads_in : (front : Text) (tokens : List Token) (rest : Text) → NoRefused tokens → ReadsTo Whole front tokens rest
    → ReadsTo Double front tokens rest
reads_in _ _ _ none (begun script) = begun script
reads_in _ _ _ none (a_gap front gap rest tokens before h) =
    a_gap front gap rest tokens (reads_in front tokens (gap ++ rest) none before) h
reads_in _ _ _ none (a_token front text rest tokens kind before h) =
    let parts = All-pop (λ t. t.kind ≢ Refused) (tokens ++ token_of front kind text ∷ []) tokens
    (Some (token_of front kind text)) refl none in
    a_token front text rest tokens kind (reads_in front tokens (text ++ rest) parts.0 before)
    (first_in (operand_after tokens) kind text rest parts.1 h)

pub restricts : Restricts
restricts script tokens none h = reads_in script tokens [] none h
