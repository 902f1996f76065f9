-- The scan of a token finds the longest one that stands first, or a refusal that stands there.
use Rattle.std.proofs.Common.{◌≡◌, ◌≢◌, ℕ, suc, ◌+◌, ◌-◌, ◌<◌, Bool, true, false, ◌&&◌, ◌||◌, cond, eqb}
use Rattle.std.proofs.Common.{[], ◌∷◌, ◌++◌, length, take, drop, get_or, slice_index, Option, Some, None}
use Rattle.std.proofs.Common.{option_map, Result, Ok, Err, is_ok, ◌⊎◌, sym, ap, refl, subst, ◌∙◌, inl, inr, arith}
use Rattle.std.specs.Char.{is_ascii_digit}
use Rattle.std.specs.List.{list_all, prefix_len}
use Rattle.std.proofs.lemmas.Bool.{cases_Bool, eqb-true, eqb-false, and_parts, both_ways, eq-eqb}
use Rattle.std.proofs.lemmas.Bool.{false_from_ne_true, or_parts, true≢false, false≢true}
use Rattle.std.proofs.lemmas.Bool.Decides.{nat_tests}
use Rattle.std.proofs.lemmas.List.{append_assoc, take-append-drop, length-append, length-take-le}
use Rattle.std.proofs.lemmas.List.Folds.{list_all-append}
use Rattle.std.proofs.lemmas.List.Sums.{prefix_len-le-length}
use Rattle.awk_numbers.specs.Numerals.{constant, number as number_of_text}
use Rattle.awk_numbers.specs.declared.number.Number.{Number as Value}
use Rattle.awk_numbers.specs.declared.number.NumberFault.{NumberFault}
use Rattle.awk_numbers.specs.declared.number.Numbers.{Numbers}
use Rattle.awk_numbers.specs.declared.number.Numbers.TheVariants.{Whole, Double}
use Rattle.awk_tokens.specs.Bytes.{Text, begins_name, continues_name}
use Rattle.awk_tokens.specs.Signs.{is_single, is_double, is_sign, sign_len}
use Rattle.awk_tokens.specs.Words.{is_name, word_kind, builtin_kind, kind_of, kind_or, is_of_doubles, reserved}
use Rattle.awk_tokens.specs.declared.words.Builtin.{Builtin as Function}
use Rattle.awk_tokens.specs.declared.terminals.Terminal.{Terminal}
use Rattle.awk_tokens.specs.declared.terminals.Terminal.TheVariants as listed
use Rattle.awk_tokens.specs.Strings.{StringEnds}
use Rattle.awk_tokens.specs.Patterns.{PatternEnds}
use Rattle.awk_tokens.specs.Tokens.{is_number, IsMantissa, whole, pointed, IsNumeral, IsNumber, IsToken, IsWord}
use Rattle.awk_tokens.specs.Tokens.{NoLonger, is_whole, IsConstant, IsFirst}
use Rattle.awk_tokens.specs.Reads.{IsStray, Stands, stray, open_string, open_pattern, no_constant, point}
use Rattle.awk_tokens.specs.Scan as scan
use Rattle.awk_tokens.specs.Scan.{Scanned, digits_len, name_len, string_rest, pattern_rest, closed, word, sign}
use Rattle.awk_tokens.specs.Scan.{begins_number, first_token, gap_len}
use Rattle.awk_tokens.specs.declared.scan.ErePart.TheVariants.{Outside}
use Rattle.awk_tokens.specs.declared.kinds.TokenKind.{TokenKind}
use Rattle.awk_tokens.specs.declared.kinds.TokenKind.TheVariants.{Number, Quoted, Pattern, Keyword, Builtin, Refused}
use Rattle.awk_tokens.specs.declared.kinds.TokenKind.TheVariants.{Name, CallName, Sign}
use Rattle.awk_tokens.proofs.Choices.{chosen, chosen_in}
use Rattle.awk_tokens.proofs.Runs.{list_all_take, no_more}
use Rattle.awk_tokens.proofs.StringLemmas.{string_rest_at, string_open, string_ends, string_parts}
use Rattle.awk_tokens.proofs.PatternLemmas.{pattern_rest_at, pattern_open, pattern_ends, pattern_parts}
use Rattle.awk_tokens.proofs.GapLemmas.{no_gap}
use Rattle.awk_tokens.proofs.NumeralLemmas.{numeral_some, numeral_at}
use Rattle.awk_tokens.proofs.SignLemmas.{sign_first, double_second}

-- ---- the first byte tells the family of a token

pub data Family : Type 0 where
  a_number : Family
  a_word : Family
  a_string : Family
  a_pattern : Family
  a_sign : Family

abbrev pub family_of : TokenKind → Family
family_of Number = a_number
family_of Quoted = a_string
family_of Pattern = a_pattern
family_of Sign = a_sign
family_of Keyword = a_word
family_of Builtin = a_word
family_of Refused = a_word
family_of Name = a_word
family_of CallName = a_word

abbrev has_points : Numbers → Bool
has_points Whole = false
has_points Double = true

-- each number begins so, and no other token does
abbrev leads_number : Numbers → ℕ → Bool
leads_number numbers b = is_ascii_digit b || (eqb b 46 && has_points numbers)

abbrev pub other_family : Bool → ℕ → Family
other_family operand b =
    cond (begins_name b) a_word (cond (eqb b 34) a_string (cond (eqb b 47 && operand) a_pattern a_sign))

abbrev pub family_at : Numbers → Bool → ℕ → Family
family_at numbers operand b = cond (leads_number numbers b) a_number (other_family operand b)

name_no_digit : (b : ℕ) → begins_name b ≡ true → is_ascii_digit b ≡ false
name_no_digit b h = grind (arith, nat_tests)

name_no_point : (b : ℕ) → begins_name b ≡ true → eqb b 46 ≡ false
name_no_point b h = grind (arith, nat_tests)

word_family : (numbers : Numbers) (operand : Bool) (b : ℕ) (z : Text) → is_name (b ∷ z) ≡ true
    → family_at numbers operand b ≡ a_word
word_family numbers operand b z h =
    let begins = (and_parts (begins_name b) (list_all continues_name z) h).0 in
    rw (name_no_digit b begins, name_no_point b begins, begins) refl

pub head_is : (b c : ℕ) (y z : Text) → b ∷ y ≡ c ∷ z → b ≡ c
head_is b c y z e = cc

pub tail_is : (b c : ℕ) (y z : Text) → b ∷ y ≡ c ∷ z → y ≡ z
tail_is b c y z e = cc

-- the first byte of a number
pub numeral_front : (b : ℕ) (z : Text) → IsNumeral (b ∷ z) → (is_ascii_digit b ≡ true) ⊎ ((b ≡ 46)
    × (is_ascii_digit (get_or z 0 0) ≡ true))
numeral_front b z n = mantissa_front n.mantissa n.exponent n.is_mantissa n.parts
  where
    first_digit : (c : ℕ) (digits left : Text) → is_number (c ∷ digits) ≡ true → b ∷ z ≡ c ∷ left
        → is_ascii_digit b ≡ true
    first_digit c digits left h same = ap is_ascii_digit (head_is b c z left same)
        ∙ (and_parts (is_ascii_digit c) (list_all is_ascii_digit digits) h).0

    mantissa_front : (m x : Text) → IsMantissa m → b ∷ z ≡ m ++ x → (is_ascii_digit b ≡ true) ⊎ ((b ≡ 46)
        × (is_ascii_digit (get_or z 0 0) ≡ true))
    mantissa_front _ x (whole [] h) same = absurd (false≢true h)
    mantissa_front _ x (whole (c ∷ digits) h) same = inl (first_digit c digits (digits ++ x) h same)
    mantissa_front _ x (pointed [] [] h) same = absurd (false≢true h)
    mantissa_front _ x (pointed [] (c ∷ behind) h) same = inr (
      head_is b 46 z (c ∷ (behind ++ x)) same,
      ap (λ w. is_ascii_digit (get_or w 0 0)) (tail_is b 46 z (c ∷ (behind ++ x)) same)
          ∙ (and_parts (is_ascii_digit c) (list_all is_ascii_digit behind) h).0,
    )
    mantissa_front _ x (pointed (c ∷ front) behind h) same =
        inl (first_digit c (front ++ behind) ((front ++ 46 ∷ behind) ++ x) h same)

pub number_byte : (numbers : Numbers) (b : ℕ) (z : Text) → IsNumber numbers (b ∷ z)
    → (is_ascii_digit b || eqb b 46) ≡ true
number_byte Whole b z h = ap (λ t. t || eqb b 46) (and_parts (is_ascii_digit b) (list_all is_ascii_digit z) h).0
number_byte Double b z h =
    elim (numeral_front b z h) [
      | inl digit ↦ ap (λ t. t || eqb b 46) digit
      | inr at_point ↦ ap (λ c. is_ascii_digit c || eqb c 46) at_point.0
    ]

number_leads : (numbers : Numbers) (b : ℕ) (z : Text) → IsNumber numbers (b ∷ z) → leads_number numbers b ≡ true
number_leads Whole b z h = ap (λ t. t || (eqb b 46 && false)) (and_parts (is_ascii_digit b) (list_all is_ascii_digit z)
    h).0
number_leads Double b z h =
    elim (numeral_front b z h) [
      | inl digit ↦ ap (λ t. t || (eqb b 46 && true)) digit
      | inr at_point ↦ ap (leads_number Double) at_point.0
    ]

pub family_told : (numbers : Numbers) (operand : Bool) (kind : TokenKind) (b : ℕ) (z rest : Text)
    → IsToken numbers operand kind (b ∷ z) rest
    → family_at numbers operand b ≡ family_of kind
family_told numbers operand Number b z rest h = ap (λ t. cond t a_number (other_family operand b))
    (number_leads numbers b z h)
family_told numbers operand Quoted b z rest h = ap (family_at numbers operand) (head_is b 34 z h.0 h.1)
family_told numbers operand Pattern b z rest h = ap (λ o. family_at numbers o b) h.2
    ∙ ap (family_at numbers true) (head_is b 47 z h.0 h.1)
family_told numbers operand Sign b z rest h =
    let no_digit = sign_first is_ascii_digit refl refl b z h.0 in
    let no_point = sign_first (λ c. eqb c 46) refl refl b z h.0 in
    let no_name = sign_first begins_name refl refl b z h.0 in
    let no_quote = sign_first (λ c. eqb c 34) refl refl b z h.0 in
    let no_slash : eqb b 47 && operand ≡ false = false_from_ne_true (eqb b 47 && operand) (λ both. let p =
    and_parts (eqb b 47) operand both in h.1 p.1 (eqb-true b 47 p.0)) in
    rw (no_digit, no_point, no_name, no_quote, no_slash) refl
family_told numbers operand Keyword b z rest h = word_family numbers operand b z h.0
family_told numbers operand Builtin b z rest h = word_family numbers operand b z h.0
family_told numbers operand Refused b z rest h = word_family numbers operand b z h.0
family_told numbers operand Name b z rest h = word_family numbers operand b z h.0
family_told numbers operand CallName b z rest h = word_family numbers operand b z h.0

-- what a token of a family is
pub as_number : (numbers : Numbers) (operand : Bool) (kind : TokenKind) (text rest : Text) → family_of kind ≡ a_number
    → IsToken numbers operand kind text rest → IsNumber numbers text
as_number numbers operand Number text rest e h = h
as_number numbers operand Quoted text rest e h = absurd cc
as_number numbers operand Pattern text rest e h = absurd cc
as_number numbers operand Sign text rest e h = absurd cc
as_number numbers operand Keyword text rest e h = absurd cc
as_number numbers operand Builtin text rest e h = absurd cc
as_number numbers operand Refused text rest e h = absurd cc
as_number numbers operand Name text rest e h = absurd cc
as_number numbers operand CallName text rest e h = absurd cc

as_name : (numbers : Numbers) (operand : Bool) (kind : TokenKind) (text rest : Text) → family_of kind ≡ a_word
    → IsToken numbers operand kind text rest → is_name text ≡ true
as_name numbers operand Number text rest e h = absurd cc
as_name numbers operand Quoted text rest e h = absurd cc
as_name numbers operand Pattern text rest e h = absurd cc
as_name numbers operand Sign text rest e h = absurd cc
as_name numbers operand Keyword text rest e h = h.0
as_name numbers operand Builtin text rest e h = h.0
as_name numbers operand Refused text rest e h = h.0
as_name numbers operand Name text rest e h = h.0
as_name numbers operand CallName text rest e h = h.0

pub as_string : (numbers : Numbers) (operand : Bool) (kind : TokenKind) (text rest : Text) → family_of kind ≡ a_string
    → IsToken numbers operand kind text rest → IsToken numbers operand Quoted text rest
as_string numbers operand Number text rest e h = absurd cc
as_string numbers operand Quoted text rest e h = h
as_string numbers operand Pattern text rest e h = absurd cc
as_string numbers operand Sign text rest e h = absurd cc
as_string numbers operand Keyword text rest e h = absurd cc
as_string numbers operand Builtin text rest e h = absurd cc
as_string numbers operand Refused text rest e h = absurd cc
as_string numbers operand Name text rest e h = absurd cc
as_string numbers operand CallName text rest e h = absurd cc

pub as_pattern : (numbers : Numbers) (operand : Bool) (kind : TokenKind) (text rest : Text) → family_of kind ≡ a_pattern
    → IsToken numbers operand kind text rest → IsToken numbers operand Pattern text rest
as_pattern numbers operand Number text rest e h = absurd cc
as_pattern numbers operand Quoted text rest e h = absurd cc
as_pattern numbers operand Pattern text rest e h = h
as_pattern numbers operand Sign text rest e h = absurd cc
as_pattern numbers operand Keyword text rest e h = absurd cc
as_pattern numbers operand Builtin text rest e h = absurd cc
as_pattern numbers operand Refused text rest e h = absurd cc
as_pattern numbers operand Name text rest e h = absurd cc
as_pattern numbers operand CallName text rest e h = absurd cc

pub as_sign : (numbers : Numbers) (operand : Bool) (kind : TokenKind) (text rest : Text) → family_of kind ≡ a_sign
    → IsToken numbers operand kind text rest → is_sign text ≡ true
as_sign numbers operand Number text rest e h = absurd cc
as_sign numbers operand Quoted text rest e h = absurd cc
as_sign numbers operand Pattern text rest e h = absurd cc
as_sign numbers operand Sign text rest e h = h.0
as_sign numbers operand Keyword text rest e h = absurd cc
as_sign numbers operand Builtin text rest e h = absurd cc
as_sign numbers operand Refused text rest e h = absurd cc
as_sign numbers operand Name text rest e h = absurd cc
as_sign numbers operand CallName text rest e h = absurd cc

-- ---- no longer token stands there

-- what a longer token of the same first byte adds
abbrev Adds : Numbers → Family → Bool → Text → Text → Type 0
Adds numbers family operand text rest = (kind : TokenKind) (more left : Text) → family_of kind ≡ family
    → rest ≡ more ++ left
    → IsToken numbers operand kind (text ++ more) left → more ≡ []

no_longer : (numbers : Numbers) (operand : Bool) (family : Family) (b : ℕ) (z rest : Text)
    → family_at numbers operand b ≡ family
    → Adds numbers family operand (b ∷ z) rest → NoLonger numbers operand (b ∷ z) rest
no_longer numbers operand family b z rest is adds kind more left parts other =
    adds kind more left (sym (family_told numbers operand kind b (z ++ more) left other) ∙ is) parts other

-- the token of this length stands first
pub record First (numbers : Numbers) (operand : Bool) (z : Text) (kind : TokenKind) (n : ℕ) : Type 0 where
  pub text : Text
  pub rest : Text
  pub parts : z ≡ text ++ rest
  pub len_is : n ≡ length text
  pub moves : 0 < n
  pub first : IsFirst numbers operand kind text rest

-- a run that begins with a byte that passes
run_len : (p : ℕ → Bool) (b : ℕ) (z : Text) → p b ≡ true → prefix_len p (b ∷ z) ≡ suc (prefix_len p z)
run_len p b z h = ap (λ t. cond t (1 + prefix_len p z) 0) h ∙ one_up (prefix_len p z)
  where
    one_up : (n : ℕ) → 1 + n ≡ suc n
    one_up n = omega arith

name_adds : (numbers : Numbers) (operand : Bool) (b : ℕ) (z : Text)
    → Adds numbers a_word operand (b ∷ take (name_len z) z) (drop (name_len z) z)
name_adds numbers operand b z kind more left is parts other =
    let all = (and_parts (begins_name b) (list_all continues_name (take (name_len z) z ++ more))
    (as_name numbers operand kind (b ∷ (take (name_len z) z ++ more)) left is other)).1 in
    let both = and_parts (list_all continues_name (take (name_len z) z)) (list_all continues_name more)
    (sym (list_all-append continues_name (take (name_len z) z) more) ∙ all) in
    no_more continues_name z more left parts both.1

-- a text and its rest, taken back from another rest of it
no_rest : (more left : Text) → more ++ left ≡ left → more ≡ []
no_rest [] left e = refl
no_rest (b ∷ more) left e = let len = ap length e in absurd (omega (arith, length-append (b ∷ more) left))

string_adds : (numbers : Numbers) (operand : Bool) (body rest : Text) → StringEnds (body ++ rest) rest
    → Adds numbers a_string operand (34 ∷ body) rest
string_adds numbers operand body rest h kind more left is parts other =
    let o = as_string numbers operand kind (34 ∷ (body ++ more)) left is other in
    let same : body ++ more ≡ o.0 = tail_is 34 34 (body ++ more) o.0 o.1 in
    let whole : o.0 ++ left ≡ body ++ rest = ap (λ w. w ++ left) (sym same) ∙ append_assoc body more left
    ∙ ap (λ w. body ++ w) (sym parts) in
    let one = string_rest_at (body ++ rest) rest h in
    let two = string_rest_at (o.0 ++ left) left o.2 in
    let ends_same : Some rest ≡ Some left = sym one ∙ sym (ap (string_rest false) whole) ∙ two in
    no_rest more left (sym parts ∙ some_is rest left ends_same)
  where
    some_is : (x y : Text) → Some x ≡ Some y → x ≡ y
    some_is x y e = cc

pattern_adds : (numbers : Numbers) (operand : Bool) (body rest : Text) → PatternEnds Outside (body ++ rest) rest
    → Adds numbers a_pattern operand (47 ∷ body) rest
pattern_adds numbers operand body rest h kind more left is parts other =
    let o = as_pattern numbers operand kind (47 ∷ (body ++ more)) left is other in
    let same : body ++ more ≡ o.0 = tail_is 47 47 (body ++ more) o.0 o.1 in
    let whole : o.0 ++ left ≡ body ++ rest = ap (λ w. w ++ left) (sym same) ∙ append_assoc body more left
    ∙ ap (λ w. body ++ w) (sym parts) in
    let one = pattern_rest_at Outside (body ++ rest) rest h in
    let two = pattern_rest_at Outside (o.0 ++ left) left o.3 in
    let ends_same : Some rest ≡ Some left = sym one ∙ sym (ap (pattern_rest Outside 0) whole) ∙ two in
    no_rest more left (sym parts ∙ some_is rest left ends_same)
  where
    some_is : (x y : Text) → Some x ≡ Some y → x ≡ y
    some_is x y e = cc

double_adds : (numbers : Numbers) (operand : Bool) (b next : ℕ) (rest : Text)
    → Adds numbers a_sign operand (b ∷ next ∷ []) rest
double_adds numbers operand b next rest kind [] left is parts other = refl
double_adds numbers operand b next rest kind (c ∷ more) left is parts other =
    let sign_is = as_sign numbers operand kind (b ∷ next ∷ c ∷ more) left is other in absurd cc

single_adds : (numbers : Numbers) (operand : Bool) (b : ℕ) (rest : Text) → is_double b (slice_index rest 0) ≡ false
    → Adds numbers a_sign operand (b ∷ []) rest
single_adds numbers operand b rest single kind [] left is parts other = refl
single_adds numbers operand b rest single kind (c ∷ []) left is parts other =
    let sign_is = as_sign numbers operand kind (b ∷ c ∷ []) left is other in
    let next : slice_index rest 0 ≡ c = ap (λ w. slice_index w 0) parts in
    absurd (both_ways (is_double b c) (sym (ap (is_double b) next) ∙ single) sign_is)
single_adds numbers operand b rest single kind (c ∷ d ∷ more) left is parts other =
    let sign_is = as_sign numbers operand kind (b ∷ c ∷ d ∷ more) left is other in absurd cc

-- ---- what each scan finds

abbrev okay : TokenKind × ℕ → Scanned
okay p = Ok p

ok_same : (p q : TokenKind × ℕ) → okay p ≡ okay q → p ≡ q
ok_same p q e = cc

cons_of : (z : Text) → get_or z 0 0 ≢ 0 → z ≡ get_or z 0 0 ∷ drop 1 z
cons_of [] some = absurd (some refl)
cons_of (b ∷ z) some = refl

-- ---- whole numbers

digits_add : (operand : Bool) (b : ℕ) (z : Text) → is_ascii_digit b ≡ true
    → Adds Whole a_number operand (b ∷ take (digits_len z) z) (drop (digits_len z) z)
digits_add operand b z digit kind more left is parts other =
    let all = (and_parts (is_ascii_digit b) (list_all is_ascii_digit (take (digits_len z) z ++ more))
    (as_number Whole operand kind (b ∷ (take (digits_len z) z ++ more)) left is other)).1 in
    let both = and_parts (list_all is_ascii_digit (take (digits_len z) z)) (list_all is_ascii_digit more)
    (sym (list_all-append is_ascii_digit (take (digits_len z) z) more) ∙ all) in
    no_more is_ascii_digit z more left parts both.1

number_token : (b : ℕ) (z : Text) → is_ascii_digit b ≡ true → is_number (b ∷ take (digits_len z) z) ≡ true
number_token b z digit = ap (λ t. t && list_all is_ascii_digit (take (digits_len z) z)) digit
    ∙ list_all_take is_ascii_digit z

number_longest : (operand : Bool) (b : ℕ) (z : Text) → is_ascii_digit b ≡ true
    → NoLonger Whole operand (b ∷ take (digits_len z) z) (drop (digits_len z) z)
number_longest operand b z digit = no_longer Whole operand a_number b (take (digits_len z) z) (drop (digits_len z) z)
    (rw digit refl) (digits_add operand b z digit)

-- the choice of the scan, where the first byte is a digit
whole_choice : (b : ℕ) (z : Text) (f : Scanned) → is_ascii_digit b ≡ true → scan.whole (b ∷ z) ≡ f
    → cond (is_whole (b ∷ take (digits_len z) z) (drop (digits_len z) z)) (okay (Number, suc (digits_len z))) (Err 3)
    ≡ f
whole_choice b z f digit e =
    subst (λ len. cond (is_whole (take len (b ∷ z)) (drop len (b ∷ z))) (okay (Number, len)) (Err 3) ≡ f)
    (run_len is_ascii_digit b z digit) e

digits_found : (operand : Bool) (b : ℕ) (z : Text) (kind : TokenKind) (n : ℕ) → is_ascii_digit b ≡ true
    → scan.whole (b ∷ z) ≡ Ok (kind, n) → First Whole operand (b ∷ z) kind n
digits_found operand b z kind n digit e =
    let m = digits_len z in
    elim (chosen (is_whole (b ∷ take m z) (drop m z)) (okay (Number, suc m)) (Err 3) (Ok (kind, n))
    (whole_choice b z (Ok (kind, n)) digit e)) [
      | inl h ↦
          let made : First Whole operand (b ∷ z) Number (suc m) =
          record {
            text = b ∷ take m z;
            rest = drop m z;
            parts = ap (λ w. b ∷ w) (sym (take-append-drop m z));
            len_is = omega (arith, length-take-le m z (prefix_len-le-length is_ascii_digit z));
            moves = omega arith;
            first = record {
              token = number_token b z digit;
              longest = number_longest operand b z digit;
              constant = h.0;
            };
          } in
          subst (λ p. First Whole operand (b ∷ z) p.0 p.1) (ok_same (Number, suc m) (kind, n) h.1) made
      | inr h ↦ absurd cc
    ]

digits_refused : (operand : Bool) (b : ℕ) (z : Text) (code : ℕ) → is_ascii_digit b ≡ true
    → scan.whole (b ∷ z) ≡ Err code → Stands Whole operand code (b ∷ z)
digits_refused operand b z code digit e =
    let m = digits_len z in
    elim (chosen (is_whole (b ∷ take m z) (drop m z)) (okay (Number, suc m)) (Err 3) (Err code)
    (whole_choice b z (Err code) digit e)) [
      | inl h ↦ absurd cc
      | inr h ↦
          let is3 : 3 ≡ code = cc in
          let made = no_constant operand (b ∷ take m z) (drop m z) (number_token b z digit)
          (number_longest operand b z digit) h.0 in
          subst (λ w. Stands Whole operand code (b ∷ w)) (take-append-drop m z)
          (subst (λ c. Stands Whole operand c (b ∷ (take m z ++ drop m z))) is3 made)
    ]

-- where a number begins with no digit, it begins with a point
point_first : (b next : ℕ) → begins_number b next ≡ true → is_ascii_digit b ≡ false → (b ≡ 46)
    × (is_ascii_digit next ≡ true)
unfolding begins_number
point_first b next begins none =
    let both = and_parts (eqb b 46) (is_ascii_digit next)
    (sym (ap (λ t. t || (eqb b 46 && is_ascii_digit next)) none) ∙ begins) in
    (eqb-true b 46 both.0, both.1)

point_refused : (z : Text) → scan.whole (46 ∷ z) ≡ Err 3
point_refused z = refl

whole_found : (operand : Bool) (b : ℕ) (z : Text) (kind : TokenKind) (n : ℕ) → begins_number b (get_or z 0 0) ≡ true
    → scan.whole (b ∷ z) ≡ Ok (kind, n) → First Whole operand (b ∷ z) kind n
whole_found operand b z kind n begins e =
    elim (cases_Bool (is_ascii_digit b)) [
      | inl digit ↦ digits_found operand b z kind n digit e
      | inr none ↦
          let first = point_first b (get_or z 0 0) begins none in
          let other = sym (point_refused z) ∙ ap (λ c. scan.whole (c ∷ z)) (sym first.0) ∙ e in
          absurd cc
    ]

whole_refused : (operand : Bool) (b : ℕ) (z : Text) (code : ℕ) → begins_number b (get_or z 0 0) ≡ true
    → scan.whole (b ∷ z) ≡ Err code → Stands Whole operand code (b ∷ z)
whole_refused operand b z code begins e =
    elim (cases_Bool (is_ascii_digit b)) [
      | inl digit ↦ digits_refused operand b z code digit e
      | inr none ↦
          let p = point_first b (get_or z 0 0) begins none in
          let next = get_or z 0 0 in
          let some : next ≢ 0 = λ is0. true≢false (sym p.1 ∙ ap is_ascii_digit is0) in
          let same = sym (point_refused z) ∙ ap (λ c. scan.whole (c ∷ z)) (sym p.0) ∙ e in
          let is3 : 3 ≡ code = cc in
          subst (λ c. Stands Whole operand c (b ∷ z)) is3 (subst (λ w. Stands Whole operand 3 (b ∷ w))
          (sym (cons_of z some)) (subst (λ c. Stands Whole operand 3 (c ∷ next ∷ drop 1 z)) (sym p.0)
          (point operand next (drop 1 z) refl p.1)))
    ]

-- ---- numerals

numeral_longest : (operand : Bool) (text rest : Text) → IsNumeral text
    → ((more left : Text) → rest ≡ more ++ left → IsNumeral (text ++ more) → more ≡ [])
    → NoLonger Double operand text rest
numeral_longest operand [] rest is longest = absurd (numeral_some is)
numeral_longest operand (b ∷ text) rest is longest =
    no_longer Double operand a_number b text rest (family_told Double operand Number b text rest is)
    (λ kind more left same parts other. longest more left parts
    (as_number Double operand kind (b ∷ (text ++ more)) left same other))

double_okay : (n : ℕ) (value : Result Value NumberFault) (p : TokenKind × ℕ) → scan.double (Some (n, value)) ≡ Ok p
    → (is_ok value ≡ true) × ((Number, n) ≡ p)
double_okay n (Ok value) p e = (refl, ok_same (Number, n) p e)
double_okay n (Err fault) p e = absurd cc

double_fault : (n : ℕ) (value : Result Value NumberFault) (code : ℕ) → scan.double (Some (n, value)) ≡ Err code
    → (is_ok value ≡ false) × (3 ≡ code)
double_fault n (Ok value) code e = absurd cc
double_fault n (Err fault) code e = (refl, cc)

numeral_found : (operand : Bool) (b : ℕ) (z : Text) (kind : TokenKind) (n : ℕ) → begins_number b (get_or z 0 0) ≡ true
    → scan.double (constant (b ∷ z)) ≡ Ok (kind, n) → First Double operand (b ∷ z) kind n
numeral_found operand b z kind n begins e =
    let m = numeral_at b z begins in
    let told = double_okay (length m.text) (number_of_text m.text) (kind, n) (sym (ap scan.double m.constant_is) ∙ e) in
    let made : First Double operand (b ∷ z) Number (length m.text) =
    record {
      text = m.text;
      rest = m.rest;
      parts = m.parts;
      len_is = refl;
      moves = m.moves;
      first = record {
        token = m.is;
        longest = numeral_longest operand m.text m.rest m.is m.longest;
        constant = told.0;
      };
    } in
    subst (λ p. First Double operand (b ∷ z) p.0 p.1) told.1 made

numeral_refused : (operand : Bool) (b : ℕ) (z : Text) (code : ℕ) → begins_number b (get_or z 0 0) ≡ true
    → scan.double (constant (b ∷ z)) ≡ Err code → Stands Double operand code (b ∷ z)
numeral_refused operand b z code begins e =
    let m = numeral_at b z begins in
    let told = double_fault (length m.text) (number_of_text m.text) code (sym (ap scan.double m.constant_is) ∙ e) in
    let made = no_constant operand m.text m.rest m.is (numeral_longest operand m.text m.rest m.is m.longest) told.0 in
    subst (λ w. Stands Double operand code w) (sym m.parts)
    (subst (λ c. Stands Double operand c (m.text ++ m.rest)) told.1 made)

-- ---- of each profile

number_found : (numbers : Numbers) (operand : Bool) (b : ℕ) (z : Text) (kind : TokenKind) (n : ℕ)
    → begins_number b (get_or z 0 0) ≡ true → scan.number numbers (b ∷ z) ≡ Ok (kind, n)
    → First numbers operand (b ∷ z) kind n
unfolding scan.number
number_found Whole operand b z kind n begins e = whole_found operand b z kind n begins e
number_found Double operand b z kind n begins e = numeral_found operand b z kind n begins e

number_refused : (numbers : Numbers) (operand : Bool) (b : ℕ) (z : Text) (code : ℕ)
    → begins_number b (get_or z 0 0) ≡ true → scan.number numbers (b ∷ z) ≡ Err code
    → Stands numbers operand code (b ∷ z)
unfolding scan.number
number_refused Whole operand b z code begins e = whole_refused operand b z code begins e
number_refused Double operand b z code begins e = numeral_refused operand b z code begins e

-- ---- words

name_continues : (b : ℕ) → begins_name b ≡ true → continues_name b ≡ true
name_continues b h = grind (arith, nat_tests)

builtin_kind_of : (numbers : Numbers) (which : Function) → family_of (builtin_kind numbers which) ≡ a_word
builtin_kind_of Whole which = either (is_of_doubles which)
  where
    either : (b : Bool) → family_of (cond b Refused Builtin) ≡ a_word
    either true = refl
    either false = refl
builtin_kind_of Double which = refl

word_kind_of : (numbers : Numbers) (t : Terminal) → family_of (kind_of numbers t) ≡ a_word
word_kind_of numbers (listed.Builtin which) = builtin_kind_of numbers which
word_kind_of numbers _ = refl

word_kinds : (numbers : Numbers) (found : Option Terminal) (call : Bool)
    → family_of (kind_or (option_map (kind_of numbers) found) (cond call CallName Name)) ≡ a_word
word_kinds numbers None true = refl
word_kinds numbers None false = refl
word_kinds numbers (Some t) call = word_kind_of numbers t

pub word_family_of : (numbers : Numbers) (text rest : Text) → family_of (word_kind numbers text rest) ≡ a_word
word_family_of numbers text rest = word_kinds numbers (reserved text) (eqb (slice_index rest 0) 40)

-- a word of its kind is that token
pub word_is : (numbers : Numbers) (operand : Bool) (kind : TokenKind) (text rest : Text) → family_of kind ≡ a_word
    → IsWord numbers kind text rest
    → IsToken numbers operand kind text rest × IsConstant numbers kind text rest
word_is numbers operand Number text rest e h = absurd cc
word_is numbers operand Quoted text rest e h = absurd cc
word_is numbers operand Pattern text rest e h = absurd cc
word_is numbers operand Sign text rest e h = absurd cc
word_is numbers operand Keyword text rest e h = (h, tt)
word_is numbers operand Builtin text rest e h = (h, tt)
word_is numbers operand Refused text rest e h = (h, tt)
word_is numbers operand Name text rest e h = (h, tt)
word_is numbers operand CallName text rest e h = (h, tt)

word_choice : (numbers : Numbers) (b : ℕ) (z : Text) → continues_name b ≡ true
    → word numbers (b ∷ z) ≡ (word_kind numbers (b ∷ take (name_len z) z) (drop (name_len z) z), suc (name_len z))
unfolding word
word_choice numbers b z continues = ap (λ len. (word_kind numbers (take len (b ∷ z)) (drop len (b ∷ z)), len))
    (run_len continues_name b z continues)

word_found : (numbers : Numbers) (operand : Bool) (b : ℕ) (z : Text) (kind : TokenKind) (n : ℕ) → begins_name b ≡ true
    → okay (word numbers (b ∷ z)) ≡ Ok (kind, n) → First numbers operand (b ∷ z) kind n
word_found numbers operand b z kind n begins e =
    let m = name_len z in
    let text : Text = b ∷ take m z in
    let rest : Text = drop m z in
    let k = word_kind numbers text rest in
    let is_name_of : is_name text ≡ true = ap (λ t. t && list_all continues_name (take m z)) begins
    ∙ list_all_take continues_name z in
    let token = word_is numbers operand k text rest (word_family_of numbers text rest) (is_name_of, refl) in
    let made : First numbers operand (b ∷ z) k (suc m) =
    record {
      text = text;
      rest = rest;
      parts = ap (λ w. b ∷ w) (sym (take-append-drop m z));
      len_is = omega (arith, length-take-le m z (prefix_len-le-length continues_name z));
      moves = omega arith;
      first = record {
        token = token.0;
        longest = no_longer numbers operand a_word b (take m z) rest
            (rw (name_no_digit b begins, name_no_point b begins, begins) refl) (name_adds numbers operand b z);
        constant = token.1;
      };
    } in
    subst (λ p. First numbers operand (b ∷ z) p.0 p.1)
    (sym (word_choice numbers b z (name_continues b begins)) ∙ ok_same (word numbers (b ∷ z))
    (kind, n) e) made

-- a scan to the end that was closed
closed_ok : (k : TokenKind) (z : Text) (o : Option Text) (p : TokenKind × ℕ) → closed k z o ≡ Ok p → (rest : Text)
    × (o ≡ Some rest) × ((k, length z - length rest) ≡ p)
closed_ok k z None p e = absurd cc
closed_ok k z (Some rest) p e = (rest, refl, ok_same (k, length z - length rest) p e)

closed_err : (k : TokenKind) (z : Text) (o : Option Text) (code : ℕ) → closed k z o ≡ Err code → (o ≡ None) × (2 ≡ code)
closed_err k z None code e = (refl, cc)
closed_err k z (Some rest) code e = absurd cc

string_found : (numbers : Numbers) (operand : Bool) (z : Text) (kind : TokenKind) (n : ℕ)
    → closed Quoted (34 ∷ z) (string_rest false z)
    ≡ Ok (kind, n) → First numbers operand (34 ∷ z) kind n
string_found numbers operand z kind n e =
    let c = closed_ok Quoted (34 ∷ z) (string_rest false z) (kind, n) e in
    let rest = c.0 in
    let ended = string_ends z rest c.1 in
    let p = string_parts z rest ended in
    let at : StringEnds (p.0 ++ rest) rest = subst (λ w. StringEnds w rest) p.1 ended in
    let len = ap length p.1 in
    let made : First numbers operand (34 ∷ z) Quoted (length (34 ∷ z) - length rest) =
    record {
      text = 34 ∷ p.0;
      rest = rest;
      parts = ap (λ w. 34 ∷ w) p.1;
      len_is = omega (arith, length-append p.0 rest);
      moves = omega (arith, length-append p.0 rest);
      first = record {
        token = (p.0, refl, at);
        longest = no_longer numbers operand a_string 34 p.0 rest refl
            (string_adds numbers operand p.0 rest at);
        constant = tt;
      };
    } in
    subst (λ q. First numbers operand (34 ∷ z) q.0 q.1) c.2 made

pattern_found : (numbers : Numbers) (z : Text) (kind : TokenKind) (n : ℕ)
    → closed Pattern (47 ∷ z) (pattern_rest Outside 0 z)
    ≡ Ok (kind, n) → First numbers true (47 ∷ z) kind n
pattern_found numbers z kind n e =
    let c = closed_ok Pattern (47 ∷ z) (pattern_rest Outside 0 z) (kind, n) e in
    let rest = c.0 in
    let ended = pattern_ends z rest c.1 in
    let p = pattern_parts Outside z rest ended in
    let at : PatternEnds Outside (p.0 ++ rest) rest = subst (λ w. PatternEnds Outside w rest) p.1 ended in
    let len = ap length p.1 in
    let made : First numbers true (47 ∷ z) Pattern (length (47 ∷ z) - length rest) =
    record {
      text = 47 ∷ p.0;
      rest = rest;
      parts = ap (λ w. 47 ∷ w) p.1;
      len_is = omega (arith, length-append p.0 rest);
      moves = omega (arith, length-append p.0 rest);
      first = record {
        token = (p.0, refl, refl, at);
        longest = no_longer numbers true a_pattern 47 p.0 rest refl
            (pattern_adds numbers true p.0 rest at);
        constant = tt;
      };
    } in
    subst (λ q. First numbers true (47 ∷ z) q.0 q.1) c.2 made

-- ---- signs

-- what is known of the first byte where no other token begins
record Plain (operand : Bool) (b : ℕ) : Type 0 where
  no_digit : is_ascii_digit b ≡ false
  no_name : begins_name b ≡ false
  no_quote : eqb b 34 ≡ false
  no_slash : (eqb b 47 && operand) ≡ false

plain_family : (numbers : Numbers) (operand : Bool) (b : ℕ) → Plain operand b → eqb b 46 ≡ false
    → family_at numbers operand b ≡ a_sign
plain_family numbers operand b p no_point = rw (p.no_digit, no_point, p.no_name, p.no_quote, p.no_slash) refl

not_slash : (operand : Bool) (b : ℕ) → Plain operand b → operand ≡ true → b ≢ 47
not_slash operand b p is is47 = both_ways (eqb b 47 && operand) p.no_slash (rw (eq-eqb b 47 is47, is) refl)

double_found : (numbers : Numbers) (operand : Bool) (b : ℕ) (z : Text) → Plain operand b
    → is_double b (get_or z 0 0) ≡ true
    → First numbers operand (b ∷ z) Sign 2
double_found numbers operand b z p is =
    let next = get_or z 0 0 in
    record {
      text = b ∷ next ∷ [];
      rest = drop 1 z;
      parts = ap (λ w. b ∷ w) (cons_of z (double_second b next is));
      len_is = refl;
      moves = omega arith;
      first = record {
        token = (is, not_slash operand b p);
        longest = no_longer numbers operand a_sign b (next ∷ []) (drop 1 z)
            (plain_family numbers operand b p (sign_first (λ c. eqb c 46) refl refl b (next ∷ []) is))
            (double_adds numbers operand b next (drop 1 z));
        constant = tt;
      };
    }

single_found : (numbers : Numbers) (operand : Bool) (b : ℕ) (z : Text) → Plain operand b
    → is_double b (get_or z 0 0) ≡ false
    → is_single b ≡ true → First numbers operand (b ∷ z) Sign 1
single_found numbers operand b z p other is =
    record {
      text = b ∷ [];
      rest = z;
      parts = refl;
      len_is = refl;
      moves = omega arith;
      first = record {
        token = (is, not_slash operand b p);
        longest = no_longer numbers operand a_sign b [] z
            (plain_family numbers operand b p (sign_first (λ c. eqb c 46) refl refl b [] is))
            (single_adds numbers operand b z other);
        constant = tt;
      };
    }

abbrev sign_of : ℕ → ℕ → ℕ → Scanned
sign_of n b next = cond (eqb n 0) (Err 1) (Ok (Sign, n))

sign_is : (b : ℕ) (z : Text) → sign (b ∷ z) ≡ sign_of (sign_len b (get_or z 0 0)) b (get_or z 0 0)
unfolding sign
sign_is b z = refl

sign_found : (numbers : Numbers) (operand : Bool) (b : ℕ) (z : Text) (kind : TokenKind) (n : ℕ) → Plain operand b
    → sign (b ∷ z) ≡ Ok (kind, n) → First numbers operand (b ∷ z) kind n
unfolding sign_len
sign_found numbers operand b z kind n p e =
    let next = get_or z 0 0 in
    let e1 = sym (sign_is b z) ∙ e in
    elim (chosen_in (λ k. sign_of k b next) (is_double b next) 2 (cond (is_single b) 1 0) (Ok (kind, n)) e1) [
      | inl h ↦ subst (λ q. First numbers operand (b ∷ z) q.0 q.1) (ok_same (Sign, 2) (kind, n) h.1)
          (double_found numbers operand b z p h.0)
      | inr h ↦
          elim (chosen_in (λ k. sign_of k b next) (is_single b) 1 0 (Ok (kind, n)) h.1) [
            | inl g ↦ subst (λ q. First numbers operand (b ∷ z) q.0 q.1) (ok_same (Sign, 1) (kind, n) g.1)
                (single_found numbers operand b z p h.0 g.0)
            | inr g ↦ absurd cc
          ]
    ]

-- no sign stands where none of one or two bytes does
no_sign_there : (b : ℕ) (z : Text) → is_double b (get_or z 0 0) ≡ false → is_single b ≡ false → (sign rest : Text)
    → b ∷ z ≡ sign ++ rest → is_sign sign ≡ false
no_sign_there b z double single [] rest e = refl
no_sign_there b z double single (c ∷ []) rest e = ap is_single (sym (head_is b c z rest e)) ∙ single
no_sign_there b z double single (c ∷ d ∷ []) rest e =
    let next : get_or z 0 0 ≡ d = ap (λ w. get_or w 0 0) (tail_is b c z (d ∷ rest) e) in
    ap (λ k. is_double k d) (sym (head_is b c z (d ∷ rest) e)) ∙ ap (is_double b) (sym next) ∙ double
no_sign_there b z double single (c ∷ d ∷ x ∷ w) rest e = refl

a_stray : (operand : Bool) (b : ℕ) (z : Text) → gap_len (b ∷ z) ≡ 0 → Plain operand b
    → is_double b (get_or z 0 0) ≡ false → is_single b ≡ false → (eqb b 46 && is_ascii_digit (get_or z 0 0)) ≡ false
    → IsStray (b ∷ z)
a_stray operand b z none p double single no_point =
    record {
      byte = λ e. absurd cc;
      no_gap = no_gap (b ∷ z) none;
      no_number = p.no_digit;
      no_fraction = λ is46. false_from_ne_true (is_ascii_digit (get_or z 0 0))
          (λ digit. both_ways (eqb b 46 && is_ascii_digit (get_or z 0 0)) no_point (rw (eq-eqb b 46 is46, digit) refl));
      no_name = p.no_name;
      no_string = eqb-false b 34 p.no_quote;
      no_sign = no_sign_there b z double single;
    }

sign_refused : (numbers : Numbers) (operand : Bool) (b : ℕ) (z : Text) (code : ℕ) → gap_len (b ∷ z) ≡ 0
    → Plain operand b
    → (eqb b 46 && is_ascii_digit (get_or z 0 0)) ≡ false → sign (b ∷ z) ≡ Err code
    → Stands numbers operand code (b ∷ z)
unfolding sign_len
sign_refused numbers operand b z code none p no_point e =
    let next = get_or z 0 0 in
    let e1 = sym (sign_is b z) ∙ e in
    elim (chosen_in (λ k. sign_of k b next) (is_double b next) 2 (cond (is_single b) 1 0) (Err code) e1) [
      | inl h ↦ absurd cc
      | inr h ↦
          elim (chosen_in (λ k. sign_of k b next) (is_single b) 1 0 (Err code) h.1) [
            | inl g ↦ absurd cc
            | inr g ↦
                let is1 : 1 ≡ code = cc in
                subst (λ c. Stands numbers operand c (b ∷ z)) is1
                (stray operand (b ∷ z) (a_stray operand b z none p h.0 g.0 no_point))
          ]
    ]

-- ---- the token or the refusal at the front

abbrev choice : Numbers → Bool → ℕ → Text → Scanned
choice numbers operand b z =
    cond (begins_number b (get_or z 0 0)) (scan.number numbers (b ∷ z)) (cond (begins_name b) (Ok (word numbers (b ∷ z)))
    (cond (eqb b 34) (closed Quoted (b ∷ z) (string_rest false z))
    (cond (eqb b 47 && operand) (closed Pattern (b ∷ z) (pattern_rest Outside 0 z)) (sign (b ∷ z)))))

first_token_is : (numbers : Numbers) (operand : Bool) (b : ℕ) (z : Text)
    → first_token numbers operand (b ∷ z) ≡ choice numbers operand b z
unfolding first_token
first_token_is numbers operand b z = refl

no_number : (b : ℕ) (z : Text) → begins_number b (get_or z 0 0) ≡ false → (is_ascii_digit b ≡ false)
    × ((eqb b 46 && is_ascii_digit (get_or z 0 0)) ≡ false)
unfolding begins_number
no_number b z none = or_parts (is_ascii_digit b) (eqb b 46 && is_ascii_digit (get_or z 0 0)) none

pub first_found : (numbers : Numbers) (operand : Bool) (z : Text) (kind : TokenKind) (n : ℕ) → 0 < length z
    → first_token numbers operand z ≡ Ok (kind, n) → First numbers operand z kind n
first_found numbers operand [] kind n some e = absurd (omega arith)
first_found numbers operand (b ∷ z) kind n some e =
    elim (chosen (begins_number b (get_or z 0 0)) _ _ (Ok (kind, n)) (sym (first_token_is numbers operand b z) ∙ e)) [
      | inl h ↦ number_found numbers operand b z kind n h.0 h.1
      | inr d ↦
          elim (chosen (begins_name b) _ _ (Ok (kind, n)) d.1) [
            | inl h ↦ word_found numbers operand b z kind n h.0 h.1
            | inr w ↦
                elim (chosen (eqb b 34) _ _ (Ok (kind, n)) w.1) [
                  | inl h ↦
                      let is34 = eqb-true b 34 h.0 in
                      subst (λ c. First numbers operand (c ∷ z) kind n) (sym is34)
                      (string_found numbers operand z kind n
                      (subst (λ c. closed Quoted (c ∷ z) (string_rest false z) ≡ Ok (kind, n)) is34 h.1))
                  | inr q ↦
                      elim (chosen (eqb b 47 && operand) _ _ (Ok (kind, n)) q.1) [
                        | inl h ↦
                            let both = and_parts (eqb b 47) operand h.0 in
                            let is47 = eqb-true b 47 both.0 in
                            subst (λ o. First numbers o (b ∷ z) kind n) (sym both.1)
                            (subst (λ c. First numbers true (c ∷ z) kind n)
                            (sym is47) (pattern_found numbers z kind n
                            (subst (λ c. closed Pattern (c ∷ z) (pattern_rest Outside 0 z) ≡ Ok (kind, n)) is47
                            h.1)))
                        | inr h ↦ sign_found numbers operand b z kind n (record {
                          no_digit = (no_number b z d.0).0;
                          no_name = w.0;
                          no_quote = q.0;
                          no_slash = h.0;
                        }) h.1
                      ]
                ]
          ]
    ]

pub first_refused : (numbers : Numbers) (operand : Bool) (z : Text) (code : ℕ) → 0 < length z → gap_len z ≡ 0
    → first_token numbers operand z ≡ Err code → Stands numbers operand code z
first_refused numbers operand [] code some none e = absurd (omega arith)
first_refused numbers operand (b ∷ z) code some none e =
    elim (chosen (begins_number b (get_or z 0 0)) _ _ (Err code) (sym (first_token_is numbers operand b z) ∙ e)) [
      | inl h ↦ number_refused numbers operand b z code h.0 h.1
      | inr d ↦
          elim (chosen (begins_name b) _ _ (Err code) d.1) [
            | inl h ↦ absurd cc
            | inr w ↦
                elim (chosen (eqb b 34) _ _ (Err code) w.1) [
                  | inl h ↦
                      let c = closed_err Quoted (b ∷ z) (string_rest false z) code h.1 in
                      subst (λ k. Stands numbers operand k (b ∷ z)) c.1 (subst (λ v. Stands numbers operand 2 (v ∷ z))
                      (sym (eqb-true b 34 h.0)) (open_string operand z (string_open z c.0)))
                  | inr q ↦
                      elim (chosen (eqb b 47 && operand) _ _ (Err code) q.1) [
                        | inl h ↦
                            let both = and_parts (eqb b 47) operand h.0 in
                            let c = closed_err Pattern (b ∷ z) (pattern_rest Outside 0 z) code h.1 in
                            subst (λ o. Stands numbers o code (b ∷ z)) (sym both.1)
                            (subst (λ k. Stands numbers true k (b ∷ z)) c.1
                            (subst (λ v. Stands numbers true 2 (v ∷ z)) (sym (eqb-true b 47 both.0))
                            (open_pattern z (pattern_open z c.0))))
                        | inr h ↦ sign_refused numbers operand b z code none (record {
                          no_digit = (no_number b z d.0).0;
                          no_name = w.0;
                          no_quote =
                              q.0;
                          no_slash = h.0;
                        }) (no_number b z d.0).1 h.1
                      ]
                ]
          ]
    ]
