-- The token that stands first stands first too where the text goes on with a newline.
use Rattle.std.proofs.Common.{◌≡◌, ◌≢◌, ℕ, ◌+◌, Bool, true, false, not, ◌&&◌, ◌||◌, eqb, List, [], ◌∷◌, ◌++◌}
use Rattle.std.proofs.Common.{length, slice_index, Some, option_map, sym, ap, refl, subst, ◌∙◌, inl, inr}
use Rattle.std.proofs.Common.{arith}
use Rattle.std.specs.Char.{is_ascii_digit}
use Rattle.std.specs.List.{list_all, list_any}
use Rattle.std.specs.Str.{bytes_eq}
use Rattle.std.proofs.lemmas.Bool.{and_parts, both_ways, eqb-true, or_cases, or_parts, true≢false}
use Rattle.std.proofs.lemmas.List.{append_assoc, length-append}
use Rattle.std.proofs.lemmas.List.Folds.{list_all-append}
use Rattle.std.proofs.lemmas.Slice.Eq.{bytes_eq-Decides}
use Rattle.awk_numbers.specs.declared.number.Numbers.{Numbers}
use Rattle.awk_numbers.specs.declared.number.Numbers.TheVariants.{Whole, Double}
use Rattle.awk_tokens.specs.Bytes.{Text, begins_name, continues_name}
use Rattle.awk_tokens.specs.Signs.{doubles, is_double, is_sign}
use Rattle.awk_tokens.specs.Words.{is_name, word_kind, name_kind, kind_of, kind_or, reserved}
use Rattle.awk_tokens.specs.Strings.{StringEnds}
use Rattle.awk_tokens.specs.Patterns.{PatternEnds}
use Rattle.awk_tokens.specs.Scan.{string_rest, pattern_rest}
use Rattle.awk_tokens.specs.Tokens.{IsToken, IsWord, NoLonger, is_whole, IsConstant, IsFirst}
use Rattle.awk_tokens.specs.declared.kinds.TokenKind.{TokenKind}
use Rattle.awk_tokens.specs.declared.kinds.TokenKind.TheVariants.{Number, Quoted, Pattern, Keyword, Builtin, Refused}
use Rattle.awk_tokens.specs.declared.kinds.TokenKind.TheVariants.{Name, CallName, Sign}
use Rattle.awk_tokens.proofs.FirstLemmas.{Family, a_number, a_word, a_string, a_pattern, a_sign, family_of, family_at}
use Rattle.awk_tokens.proofs.FirstLemmas.{family_told, as_number, as_string, as_pattern, as_sign, head_is, tail_is}
use Rattle.awk_tokens.proofs.FirstLemmas.{word_is, word_family_of}
use Rattle.awk_tokens.proofs.Once.{no_token_empty}
use Rattle.awk_tokens.proofs.PatternLemmas.{pattern_rest_at}
use Rattle.awk_tokens.proofs.StringLemmas.{string_rest_at}
use Rattle.awk_sources.proofs.NumeralOn.{number_before}
use Rattle.awk_sources.proofs.OnLemmas.{pattern_on}
use Rattle.awk_sources.proofs.StringOn.{string_on}

-- ---- it is a token there

name_kind_on : (rest more : Text) → name_kind (rest ++ 10 ∷ more) ≡ name_kind rest
name_kind_on [] more = refl
name_kind_on (b ∷ rest) more = refl

word_on : (numbers : Numbers) (kind : TokenKind) (text rest more : Text) → IsWord numbers kind text rest
    → IsWord numbers kind text (rest ++ 10 ∷ more)
word_on numbers kind text rest more h =
    (h.0, ap (λ k. kind_or (option_map (kind_of numbers) (reserved text)) k) (name_kind_on rest more) ∙ h.1)

body_on : (part : _) (body rest more : Text) → PatternEnds part (body ++ rest) rest
    → PatternEnds part (body ++ (rest ++ 10 ∷ more)) (rest ++ 10 ∷ more)
body_on part body rest more h = subst (λ w. PatternEnds part w (rest ++ 10 ∷ more)) (append_assoc body rest (10 ∷ more))
    (pattern_on part (body ++ rest) rest more h)

token_on : (numbers : Numbers) (operand : Bool) (kind : TokenKind) (text rest more : Text)
    → IsToken numbers operand kind text rest
    → IsToken numbers operand kind text (rest ++ 10 ∷ more)
token_on numbers operand Number text rest more h = h
token_on numbers operand Quoted text rest more h = (
  h.0,
  h.1,
  subst (λ w. StringEnds w (rest ++ 10 ∷ more)) (append_assoc h.0 rest (10 ∷ more))
      (string_on (h.0 ++ rest) rest (10 ∷ more) h.2),
)
token_on numbers operand Pattern text rest more h =
    (h.0, h.1, h.2, body_on _ h.0 rest more h.3)
token_on numbers operand Sign text rest more h = h
token_on numbers operand Keyword text rest more h = word_on numbers Keyword text rest more h
token_on numbers operand Builtin text rest more h = word_on numbers Builtin text rest more h
token_on numbers operand Refused text rest more h = word_on numbers Refused text rest more h
token_on numbers operand Name text rest more h = word_on numbers Name text rest more h
token_on numbers operand CallName text rest more h = word_on numbers CallName text rest more h

is_whole_on : (text rest more : Text) → is_whole text (rest ++ 10 ∷ more) ≡ is_whole text rest
is_whole_on text [] more = refl
is_whole_on text (x ∷ []) more = refl
is_whole_on text (x ∷ y ∷ []) more = refl
is_whole_on text (x ∷ y ∷ w ∷ rest) more = refl

constant_on : (numbers : Numbers) (kind : TokenKind) (text rest more : Text) → IsConstant numbers kind text rest
    → IsConstant numbers kind text (rest ++ 10 ∷ more)
constant_on Whole Number text rest more h = is_whole_on text rest more ∙ h
constant_on Double Number text rest more h = h
constant_on numbers Quoted text rest more h = tt
constant_on numbers Pattern text rest more h = tt
constant_on numbers Sign text rest more h = tt
constant_on numbers Keyword text rest more h = tt
constant_on numbers Builtin text rest more h = tt
constant_on numbers Refused text rest more h = tt
constant_on numbers Name text rest more h = tt
constant_on numbers CallName text rest more h = tt

-- ---- what a token of a family is

as_name : (numbers : Numbers) (operand : Bool) (kind : TokenKind) (text rest : Text) → family_of kind ≡ a_word
    → IsToken numbers operand kind text rest → is_name text ≡ true
as_name numbers operand Number text rest e h = absurd cc
as_name numbers operand Quoted text rest e h = absurd cc
as_name numbers operand Pattern text rest e h = absurd cc
as_name numbers operand Sign text rest e h = absurd cc
as_name numbers operand Keyword text rest e h = h.0
as_name numbers operand Builtin text rest e h = h.0
as_name numbers operand Refused text rest e h = h.0
as_name numbers operand Name text rest e h = h.0
as_name numbers operand CallName text rest e h = h.0

-- ---- no longer token stands there

-- a longer token of this family adds nothing, where the rest goes on with a newline
abbrev Adds : Numbers → Bool → Text → Text → Text → TokenKind → Type 0
Adds numbers operand text rest more other = (added left : Text) → rest ++ 10 ∷ more ≡ added ++ left
    → IsToken numbers operand other (text ++ added) left → added ≡ []

-- a run of bytes that pass, one more of them, and what is added behind
run_parts : (p : ℕ → Bool) (z added : Text) (c : ℕ) → list_all p (z ++ c ∷ added) ≡ true → (list_all p z ≡ true)
    × (p c ≡ true)
run_parts p z added c all =
    let both = and_parts (list_all p z) (list_all p (c ∷ added)) (sym (list_all-append p z (c ∷ added)) ∙ all) in
    (both.0, (and_parts (p c) (list_all p added) both.1).0)

run_one : (p : ℕ → Bool) (z : Text) (c : ℕ) → list_all p z ≡ true → p c ≡ true → list_all p (z ++ c ∷ []) ≡ true
run_one p z c all passes = list_all-append p z (c ∷ []) ∙ ap (λ t. t && list_all p (c ∷ [])) all
    ∙ ap (λ t. t && true) passes

no_name_newline : continues_name 10 ≡ false
no_name_newline = refl

word_adds : (numbers : Numbers) (operand : Bool) (b : ℕ) (z rest more added left : Text)
    → NoLonger numbers operand (b ∷ z) rest
    → rest ++ 10 ∷ more ≡ added ++ left → is_name (b ∷ (z ++ added)) ≡ true → added ≡ []
word_adds numbers operand b z rest more [] left none parts all = refl
word_adds numbers operand b z [] more (c ∷ added) left none parts all =
    let run = run_parts continues_name z added c (and_parts (begins_name b) (list_all continues_name (z ++ c ∷ added))
    all).1 in
    absurd (true≢false (sym run.1 ∙ ap continues_name (sym (head_is 10 c more (added ++ left) parts))
    ∙ no_name_newline))
word_adds numbers operand b z (r ∷ rest) more (c ∷ added) left none parts all =
    let both = and_parts (begins_name b) (list_all continues_name (z ++ c ∷ added)) all in
    let run = run_parts continues_name z added c both.1 in
    let text : Text = b ∷ (z ++ c ∷ []) in
    let name : is_name text ≡ true = ap (λ t. t && list_all continues_name (z ++ c ∷ [])) both.0
    ∙ run_one continues_name z c run.0 run.1 in
    let kind = word_kind numbers text rest in
    let token = (word_is numbers operand kind text rest (word_family_of numbers text rest) (name, refl)).0 in
    let nothing = none kind (c ∷ []) rest
    (ap (λ x. x ∷ rest) (head_is r c (rest ++ 10 ∷ more) (added ++ left) parts)) token in
    absurd cc

-- a text and its rest, taken back from another rest of it
no_rest : (added left : Text) → added ++ left ≡ left → added ≡ []
no_rest [] left e = refl
no_rest (b ∷ added) left e = let len = ap length e in absurd (omega (arith, length-append (b ∷ added) left))

some_is : (x y : Text) → Some x ≡ Some y → x ≡ y
some_is x y e = cc

-- what stands in a text behind its first byte, once more behind it
same_whole : (z body other rest added left : Text) → z ≡ body → z ++ added ≡ other → rest ≡ added ++ left
    → other ++ left ≡ body ++ rest
same_whole z body other rest added left is is_other parts =
    ap (λ w. w ++ left) (sym is_other) ∙ append_assoc z added left ∙ ap (λ w. z ++ w) (sym parts)
    ∙ ap (λ w. w ++ rest) is

string_adds : (numbers : Numbers) (operand : Bool) (b : ℕ) (z rest added left : Text)
    → IsToken numbers operand Quoted (b ∷ z) rest
    → rest ≡ added ++ left → IsToken numbers operand Quoted (b ∷ (z ++ added)) left → added ≡ []
string_adds numbers operand b z rest added left h parts o =
    let whole = same_whole z h.0 o.0 rest added left (tail_is b 34 z h.0 h.1) (tail_is b 34 (z ++ added) o.0 o.1) parts
    in
    let one = string_rest_at (h.0 ++ rest) rest h.2 in
    let two = string_rest_at (o.0 ++ left) left o.2 in
    no_rest added left (sym parts ∙ some_is rest left (sym one ∙ sym (ap (string_rest false) whole) ∙ two))

pattern_adds : (numbers : Numbers) (operand : Bool) (b : ℕ) (z rest added left : Text)
    → IsToken numbers operand Pattern (b ∷ z) rest
    → rest ≡ added ++ left → IsToken numbers operand Pattern (b ∷ (z ++ added)) left → added ≡ []
pattern_adds numbers operand b z rest added left h parts o =
    let whole = same_whole z h.0 o.0 rest added left (tail_is b 47 z h.0 h.1) (tail_is b 47 (z ++ added) o.0 o.1) parts
    in
    let one = pattern_rest_at _ (h.0 ++ rest) rest h.3 in
    let two = pattern_rest_at _ (o.0 ++ left) left o.3 in
    no_rest added left (sym parts ∙ some_is rest left (sym one ∙ sym (ap (pattern_rest _ 0) whole) ∙ two))

-- no sign has the newline second
listed_text : (p : Text → Bool) (xs : List Text) (t : Text) → list_any (λ s. bytes_eq s t) xs ≡ true
    → list_any p xs ≡ false → p t ≡ false
listed_text p [] t among none = absurd cc
listed_text p (x ∷ xs) t among none =
    let parts = or_parts (p x) (list_any p xs) none in
    elim (or_cases (bytes_eq x t) (list_any (λ s. bytes_eq s t) xs) among) [
      | inl h ↦ ap p (sym ((bytes_eq-Decides x t).0 h)) ∙ parts.0
      | inr h ↦ listed_text p xs t h parts.1
    ]

double_no_newline : (b : ℕ) → is_double b 10 ≡ true → ⊥
double_no_newline b is =
    let other = listed_text (λ s. eqb (slice_index s 1) 10) doubles (b ∷ 10 ∷ []) is refl in
    true≢false other

sign_adds : (numbers : Numbers) (operand : Bool) (b : ℕ) (z rest more added left : Text) → is_sign (b ∷ z) ≡ true
    → (operand ≡ true → b ≢ 47) → NoLonger numbers operand (b ∷ z) rest → rest ++ 10 ∷ more ≡ added ++ left
    → is_sign (b ∷ (z ++ added)) ≡ true
    → added ≡ []
sign_adds numbers operand b z rest more [] left sign slash none parts all = refl
sign_adds numbers operand b (x ∷ y ∷ z) rest more (c ∷ added) left sign slash none parts all = absurd cc
sign_adds numbers operand b (x ∷ []) rest more (c ∷ added) left sign slash none parts all = absurd cc
sign_adds numbers operand b [] rest more (c ∷ d ∷ added) left sign slash none parts all = absurd cc
sign_adds numbers operand b [] [] more (c ∷ []) left sign slash none parts all =
    absurd (double_no_newline b (ap (is_double b) (head_is 10 c more left parts) ∙ all))
sign_adds numbers operand b [] (r ∷ rest) more (c ∷ []) left sign slash none parts all =
    let nothing = none Sign (c ∷ []) rest (ap (λ x. x ∷ rest) (head_is r c (rest ++ 10 ∷ more) left parts)) (
      all,
      slash,
    ) in
    absurd cc

adds_nothing : (numbers : Numbers) (operand : Bool) (kind other : TokenKind) (b : ℕ) (z rest more : Text)
    → IsToken numbers operand kind (b ∷ z) rest → NoLonger numbers operand (b ∷ z) rest
    → family_of other ≡ family_of kind
    → Adds numbers operand (b ∷ z) rest more other
adds_nothing numbers operand Number other b z rest more h none same added left parts o =
    let h = as_number numbers operand other (b ∷ (z ++ added)) left same o in
    let before = number_before numbers (b ∷ z) added rest more left h parts in
    none Number added before.0 before.1 h
adds_nothing numbers operand Quoted other b z rest more h none same added left parts o =
    string_adds numbers operand b z (rest ++ 10 ∷ more) added left
    (token_on numbers operand Quoted (b ∷ z) rest more h) parts
    (as_string numbers operand other (b ∷ (z ++ added)) left same o)
adds_nothing numbers operand Pattern other b z rest more h none same added left parts o =
    pattern_adds numbers operand b z (rest ++ 10 ∷ more) added left
    (token_on numbers operand Pattern (b ∷ z) rest more h) parts
    (as_pattern numbers operand other (b ∷ (z ++ added)) left same o)
adds_nothing numbers operand Sign other b z rest more h none same added left parts o =
    sign_adds numbers operand b z rest more added left h.0 h.1 none parts
    (as_sign numbers operand other (b ∷ (z ++ added)) left same o)
adds_nothing numbers operand Keyword other b z rest more h none same added left parts o =
    word_adds numbers operand b z rest more added left none parts
    (as_name numbers operand other (b ∷ (z ++ added)) left same o)
adds_nothing numbers operand Builtin other b z rest more h none same added left parts o =
    word_adds numbers operand b z rest more added left none parts
    (as_name numbers operand other (b ∷ (z ++ added)) left same o)
adds_nothing numbers operand Refused other b z rest more h none same added left parts o =
    word_adds numbers operand b z rest more added left none parts
    (as_name numbers operand other (b ∷ (z ++ added)) left same o)
adds_nothing numbers operand Name other b z rest more h none same added left parts o =
    word_adds numbers operand b z rest more added left none parts
    (as_name numbers operand other (b ∷ (z ++ added)) left same o)
adds_nothing numbers operand CallName other b z rest more h none same added left parts o =
    word_adds numbers operand b z rest more added left none parts
    (as_name numbers operand other (b ∷ (z ++ added)) left same o)

longest_on : (numbers : Numbers) (operand : Bool) (kind : TokenKind) (text rest more : Text)
    → IsToken numbers operand kind text rest
    → NoLonger numbers operand text rest → NoLonger numbers operand text (rest ++ 10 ∷ more)
longest_on numbers operand kind [] rest more h none = absurd (no_token_empty numbers operand kind rest h)
longest_on numbers operand kind (b ∷ z) rest more h none =
    λ other added left parts o.
    adds_nothing numbers operand kind other b z rest more h none
    (sym (family_told numbers operand other b (z ++ added) left o)
    ∙ family_told numbers operand kind b z rest h) added left parts o

pub first_on : (numbers : Numbers) (operand : Bool) (kind : TokenKind) (text rest more : Text)
    → IsFirst numbers operand kind text rest
    → IsFirst numbers operand kind text (rest ++ 10 ∷ more)
first_on numbers operand kind text rest more h =
    record {
      token = token_on numbers operand kind text rest more h.token;
      longest =
          longest_on numbers operand kind text rest more h.token h.longest;
      constant = constant_on numbers kind text rest more h.constant;
    }

-- ---- the newline is a token wherever it stands first

newline_alone : (added : Text) → is_sign (10 ∷ added) ≡ true → added ≡ []
newline_alone [] is = refl
newline_alone (c ∷ []) is = absurd cc
newline_alone (c ∷ d ∷ added) is = absurd cc

pub newline_first : (numbers : Numbers) (operand : Bool) (rest : Text) → IsFirst numbers operand Sign (10 ∷ []) rest
newline_first numbers operand rest =
    record {
      token = (refl, λ is e. absurd (omega arith));
      longest = λ other added left parts o. newline_alone added (as_sign numbers operand other (10 ∷ added) left
          (sym (family_told numbers operand other 10 added left o)) o);
      constant = tt;
    }
