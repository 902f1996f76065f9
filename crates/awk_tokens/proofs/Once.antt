-- A script is read in one way at most, and not at all where it is refused.
use Rattle.std.proofs.Common.{◌≡◌, ◌≢◌, ℕ, suc, ◌+◌, ◌≤◌, Bool, true, false, not, ◌||◌, cond, eqb}
use Rattle.std.proofs.Common.{List, [], ◌∷◌, ◌++◌, length, take, drop, slice_index, sym, ap, refl, subst, ◌∙◌}
use Rattle.std.proofs.Common.{inl, inr, arith}
use Rattle.std.specs.Char.{is_ascii_digit}
use Rattle.std.specs.List.{list_all}
use Rattle.std.proofs.Math.Seq.{take-append_seam, drop-append_seam}
use Rattle.std.proofs.lemmas.Bool.{cases_lt, and_parts, both_ways, or_left, eq-eqb}
use Rattle.std.proofs.lemmas.Bool.{true≢false}
use Rattle.std.proofs.lemmas.Bool.Decides.{nat_tests}
use Rattle.std.proofs.lemmas.List.{append_assoc, append-nil, length-append}
use Rattle.awk_numbers.specs.declared.number.Numbers.{Numbers}
use Rattle.awk_numbers.specs.declared.number.Numbers.TheVariants.{Whole, Double}
use Rattle.awk_text.specs.declared.place.Place.{Place}
use Rattle.awk_tokens.specs.Bytes.{Text, is_blank, begins_name, continues_name}
use Rattle.awk_tokens.specs.Signs.{is_sign}
use Rattle.awk_tokens.specs.Words.{word_kind}
use Rattle.awk_tokens.specs.Strings.{StringEnds}
use Rattle.awk_tokens.specs.Patterns.{PatternEnds}
use Rattle.awk_tokens.specs.Tokens.{IsNumber, IsToken, IsWord, NoLonger, is_constant, IsConstant, IsFirst}
use Rattle.awk_tokens.specs.Reads.{IsStray, IsGap, blank, joined, comment, ReadsTo, begun, a_gap, a_token, Reads}
use Rattle.awk_tokens.specs.Reads.{Stands, stray, open_string, open_pattern, no_constant, point, Refuses, operand_after}
use Rattle.awk_tokens.specs.Reads.{token_of}
use Rattle.awk_tokens.specs.Scan.{gap_len, line_len}
use Rattle.awk_tokens.specs.declared.scan.ErePart.TheVariants.{Outside}
use Rattle.awk_tokens.specs.declared.token.Token.{Token}
use Rattle.awk_tokens.specs.declared.kinds.TokenKind.{TokenKind}
use Rattle.awk_tokens.specs.declared.kinds.TokenKind.TheVariants.{Number, Quoted, Pattern, Keyword, Builtin, Refused}
use Rattle.awk_tokens.specs.declared.kinds.TokenKind.TheVariants.{Name, CallName, Sign}
use Rattle.awk_tokens.proofs.Runs.{prefix_len_all}
use Rattle.awk_tokens.proofs.SignLemmas.{sign_first}
use Rattle.awk_tokens.proofs.NumeralLemmas.{numeral_some}
use Rattle.awk_tokens.proofs.GapLemmas.{blank_len, joined_len, comment_len}
use Rattle.awk_tokens.proofs.FirstLemmas.{Family, a_number, a_word, a_string, a_pattern, a_sign, family_of, family_at}
use Rattle.awk_tokens.proofs.FirstLemmas.{number_byte, numeral_front, family_told, as_string, as_pattern, as_sign}
use Rattle.awk_tokens.proofs.FirstLemmas.{head_is, tail_is}

-- ---- a separator is no token, and there is one at most

-- a byte that begins a separator
abbrev begins_gap : ℕ → Bool
begins_gap b = is_blank b || (eqb b 35 || eqb b 92)

gap_no_number : (b : ℕ) → begins_gap b ≡ true → (is_ascii_digit b || eqb b 46) ≡ true → ⊥
gap_no_number b gap number = grind (arith, nat_tests)

gap_no_name : (b : ℕ) → begins_gap b ≡ true → begins_name b ≡ true → ⊥
gap_no_name b gap name = grind (arith, nat_tests)

gap_no_word : (numbers : Numbers) (kind : TokenKind) (b : ℕ) (z rest : Text) → begins_gap b ≡ true
    → IsWord numbers kind (b ∷ z) rest → ⊥
gap_no_word numbers kind b z rest gap h = gap_no_name b gap (and_parts (begins_name b) (list_all continues_name z) h.0).0

gap_no_token : (numbers : Numbers) (operand : Bool) (kind : TokenKind) (b : ℕ) (z rest : Text) → begins_gap b ≡ true
    → IsToken numbers operand kind (b ∷ z) rest → ⊥
gap_no_token numbers operand Number b z rest gap h =
    gap_no_number b gap (number_byte numbers b z h)
gap_no_token numbers operand Quoted b z rest gap h = true≢false (sym gap ∙ ap begins_gap (head_is b 34 z h.0 h.1))
gap_no_token numbers operand Pattern b z rest gap h = true≢false (sym gap ∙ ap begins_gap (head_is b 47 z h.0 h.1))
gap_no_token numbers operand Sign b z rest gap h = both_ways (begins_gap b)
    (sign_first begins_gap refl refl b z h.0) gap
gap_no_token numbers operand Keyword b z rest gap h = gap_no_word numbers Keyword b z rest gap h
gap_no_token numbers operand Builtin b z rest gap h = gap_no_word numbers Builtin b z rest gap h
gap_no_token numbers operand Refused b z rest gap h = gap_no_word numbers Refused b z rest gap h
gap_no_token numbers operand Name b z rest gap h = gap_no_word numbers Name b z rest gap h
gap_no_token numbers operand CallName b z rest gap h = gap_no_word numbers CallName b z rest gap h

-- a token has a byte
no_word_empty : (numbers : Numbers) (kind : TokenKind) (rest : Text) → IsWord numbers kind [] rest → ⊥
no_word_empty numbers kind rest h = absurd cc

no_number_empty : (numbers : Numbers) → IsNumber numbers [] → ⊥
no_number_empty Whole h = absurd cc
no_number_empty Double h = numeral_some h

pub no_token_empty : (numbers : Numbers) (operand : Bool) (kind : TokenKind) (rest : Text)
    → IsToken numbers operand kind [] rest → ⊥
no_token_empty numbers operand Number rest h = no_number_empty numbers h
no_token_empty numbers operand Quoted rest h = let e = h.1 in absurd cc
no_token_empty numbers operand Pattern rest h = let e = h.1 in absurd cc
no_token_empty numbers operand Sign rest h = let e = h.0 in absurd cc
no_token_empty numbers operand Keyword rest h = no_word_empty numbers Keyword rest h
no_token_empty numbers operand Builtin rest h = no_word_empty numbers Builtin rest h
no_token_empty numbers operand Refused rest h = no_word_empty numbers Refused rest h
no_token_empty numbers operand Name rest h = no_word_empty numbers Name rest h
no_token_empty numbers operand CallName rest h = no_word_empty numbers CallName rest h

-- the first byte of a separator
record GapByte (gap : Text) : Type 0 where
  byte : ℕ
  others : Text
  is : gap ≡ byte ∷ others
  begins : begins_gap byte ≡ true

gap_byte : (gap rest : Text) → IsGap gap rest → GapByte gap
gap_byte _ _ (blank b rest h) = record {
  byte = b;
  others = [];
  is = refl;
  begins =
      or_left (is_blank b) (eqb b 35 || eqb b 92) h;
}
gap_byte _ _ (joined rest) = record { byte = 92; others = 10 ∷ []; is = refl; begins = refl }
gap_byte _ _ (comment line rest h stops) = record { byte = 35; others = line; is = refl; begins = refl }

gap_or_token : (numbers : Numbers) (operand : Bool) (kind : TokenKind) (gap rest text left : Text) → IsGap gap rest
    → gap ++ rest ≡ text ++ left → IsToken numbers operand kind text left → ⊥
gap_or_token numbers operand kind gap rest [] left h same token = no_token_empty numbers operand kind left token
gap_or_token numbers operand kind gap rest (b ∷ text) left h same token =
    let g = gap_byte gap rest h in
    let whole : g.byte ∷ (g.others ++ rest) ≡ b ∷ (text ++ left) = ap (λ w. w ++ rest) (sym g.is) ∙ same in
    gap_no_token numbers operand kind b text left
    (ap begins_gap (sym (head_is g.byte b (g.others ++ rest) (text ++ left) whole)) ∙ g.begins) token

line_is : (line rest : Text) → list_all (λ b. not (eqb b 10)) line ≡ true → (rest ≢ [] → slice_index rest 0 ≡ 10)
    → line_len (line ++ rest) ≡ length line
line_is line [] all stops = ap line_len (append-nil line) ∙ all_of line all
  where
    all_of : (w : Text) → list_all (λ b. not (eqb b 10)) w ≡ true → line_len w ≡ length w
    all_of [] h = refl
    all_of (c ∷ w) h =
        let both = and_parts (not (eqb c 10)) (list_all (λ b. not (eqb b 10)) w) h in
        ap (λ t. cond t (1 + line_len w) 0) both.0 ∙ ap (λ n. 1 + n) (all_of w both.1) ∙ one_up (length w)
      where
        one_up : (n : ℕ) → 1 + n ≡ suc n
        one_up n = omega arith
line_is line (b ∷ rest) all stops =
    prefix_len_all (λ c. not (eqb c 10)) line b rest all (ap (λ c. not (eqb c 10)) (stops (λ e. absurd cc)))

gap_len_is : (gap rest : Text) → IsGap gap rest → gap_len (gap ++ rest) ≡ length gap
gap_len_is _ _ (blank b rest h) = blank_len b rest h
gap_len_is _ _ (joined rest) = joined_len rest
gap_len_is _ _ (comment line rest h stops) = comment_len (line ++ rest) ∙ ap (λ n. 1 + n) (line_is line rest h stops)
    ∙ one_up (length line)
  where
    one_up : (n : ℕ) → 1 + n ≡ suc n
    one_up n = omega arith

-- two fronts of one text that are as long are the same
same_front : (x y v w : Text) → x ++ v ≡ y ++ w → length x ≡ length y → x ≡ y
same_front x y v w same len = sym (take-append_seam x v) ∙ ap (λ n. take n (x ++ v)) len ∙ ap (take (length y)) same
    ∙ take-append_seam y w

same_rest : (x y v w : Text) → x ++ v ≡ y ++ w → length x ≡ length y → v ≡ w
same_rest x y v w same len = sym (drop-append_seam x v) ∙ ap (λ n. drop n (x ++ v)) len ∙ ap (drop (length y)) same
    ∙ drop-append_seam y w

gap_lengths : (x y v w : Text) → x ++ v ≡ y ++ w → IsGap x v → IsGap y w → length x ≡ length y
gap_lengths x y v w same one two = sym (gap_len_is x v one) ∙ ap gap_len same ∙ gap_len_is y w two

-- ---- one token at most

-- the shorter front is a front of the longer one
longer : (x y v w : Text) → x ++ v ≡ y ++ w → length x ≤ length y → (more : Text) × (y ≡ x ++ more) × (v ≡ more ++ w)
longer [] y v w same len = (y, refl, same)
longer (b ∷ x) [] v w same len = absurd (omega arith)
longer (b ∷ x) (c ∷ y) v w same len =
    let inner = longer x y v w (tail_is b c (x ++ v) (y ++ w) same) (omega arith) in
    (inner.0, ap (λ d. d ∷ y) (sym (head_is b c (x ++ v) (y ++ w) same)) ∙ ap (λ u. b ∷ u) inner.1, inner.2)

longest_covers : (numbers : Numbers) (operand : Bool) (kind : TokenKind) (x y v w : Text) → x ++ v ≡ y ++ w
    → NoLonger numbers operand x v
    → IsToken numbers operand kind y w → length y ≤ length x
longest_covers numbers operand kind x y v w same none token =
    elim (cases_lt (length y) (length x)) [
      | inl less ↦ omega arith
      | inr more ↦
          let m = longer x y v w same more in
          let empty : m.0 ≡ [] = none kind m.0 w m.2 (subst (λ u. IsToken numbers operand kind u w) m.1 token) in
          let len = ap length m.1 in
          let none_more = ap length empty in
          omega (arith, length-append x m.0)
    ]

token_lengths : (numbers : Numbers) (operand : Bool) (k j : TokenKind) (x y v w : Text) → x ++ v ≡ y ++ w
    → IsToken numbers operand k x v
    → NoLonger numbers operand x v → IsToken numbers operand j y w → NoLonger numbers operand y w → length x ≡ length y
token_lengths numbers operand k j x y v w same one none two other =
    let a = longest_covers numbers operand j x y v w same none two in
    let b = longest_covers numbers operand k y x w v (sym same) other one in
    omega arith

-- the kind of a token is told by its bytes and the rest
abbrev kind_in : Numbers → Family → Text → Text → TokenKind
kind_in numbers a_number text rest = Number
kind_in numbers a_word text rest = word_kind numbers text rest
kind_in numbers a_string text rest = Quoted
kind_in numbers a_pattern text rest = Pattern
kind_in numbers a_sign text rest = Sign

kind_is : (numbers : Numbers) (operand : Bool) (kind : TokenKind) (text rest : Text)
    → IsToken numbers operand kind text rest
    → kind_in numbers (family_of kind) text rest ≡ kind
kind_is numbers operand Number text rest h = refl
kind_is numbers operand Quoted text rest h = refl
kind_is numbers operand Pattern text rest h = refl
kind_is numbers operand Sign text rest h = refl
kind_is numbers operand Keyword text rest h = h.1
kind_is numbers operand Builtin text rest h = h.1
kind_is numbers operand Refused text rest h = h.1
kind_is numbers operand Name text rest h = h.1
kind_is numbers operand CallName text rest h = h.1

same_kind : (numbers : Numbers) (operand : Bool) (k j : TokenKind) (text rest : Text)
    → IsToken numbers operand k text rest
    → IsToken numbers operand j text rest → k ≡ j
same_kind numbers operand k j [] rest one two = absurd (no_token_empty numbers operand k rest one)
same_kind numbers operand k j (b ∷ text) rest one two =
    let family : family_of k ≡ family_of j = sym (family_told numbers operand k b text rest one)
    ∙ family_told numbers operand j b text
    rest two in
    sym (kind_is numbers operand k (b ∷ text) rest one) ∙ ap (λ f. kind_in numbers f (b ∷ text) rest) family
    ∙ kind_is numbers operand j
    (b ∷ text) rest two

-- ---- the reading goes one way

-- the script goes on like this to its end, where these are all its tokens
data ReadsOn (numbers : Numbers) : Text → List Token → Text → List Token → Type 0 where
  all_read : (front : Text) (tokens : List Token) → ReadsOn numbers front tokens [] tokens
  on_gap : (front gap rest : Text) (tokens all : List Token) → IsGap gap rest
      → ReadsOn numbers (front ++ gap) tokens rest all
      → ReadsOn numbers front tokens (gap ++ rest) all
  on_token : (front text rest : Text) (tokens all : List Token) (kind : TokenKind)
      → IsFirst numbers (operand_after tokens) kind text rest
      → ReadsOn numbers (front ++ text) (tokens ++ token_of front kind text ∷ []) rest all
      → ReadsOn numbers front tokens (text ++ rest) all

no_gap_empty : (gap rest : Text) → IsGap gap rest → [] ≡ gap ++ rest → ⊥
no_gap_empty gap rest h same =
    let g = gap_byte gap rest h in
    let whole : [] ≡ g.byte ∷ (g.others ++ rest) = same ∙ ap (λ w. w ++ rest) g.is in
    absurd cc

no_token_at_end : (numbers : Numbers) (operand : Bool) (kind : TokenKind) (text rest : Text)
    → IsToken numbers operand kind text rest
    → [] ≡ text ++ rest → ⊥
no_token_at_end numbers operand kind [] rest h same = no_token_empty numbers operand kind rest h
no_token_at_end numbers operand kind (b ∷ text) rest h same = absurd cc

-- behind a separator
past_gap : (numbers : Numbers) (front z gap rest : Text) (tokens all : List Token)
    → ReadsOn numbers front tokens z all → z ≡ gap ++ rest
    → IsGap gap rest → ReadsOn numbers (front ++ gap) tokens rest all
past_gap numbers _ _ gap rest _ _ (all_read front tokens) same h = absurd (no_gap_empty gap rest h same)
past_gap numbers _ _ gap rest _ _ (on_gap front g r tokens all is more) same h =
    let len = gap_lengths g gap r rest same is h in
    subst (λ w. ReadsOn numbers (front ++ w) tokens rest all) (same_front g gap r rest same len)
    (subst (λ w. ReadsOn numbers (front ++ g) tokens w all) (same_rest g gap r rest same len) more)
past_gap numbers _ _ gap rest _ _ (on_token front text r tokens all kind first more) same h =
    absurd (gap_or_token numbers (operand_after tokens) kind gap rest text r h (sym same) first.token)

-- behind a token
past_token : (numbers : Numbers) (front z text rest : Text) (tokens all : List Token) (kind : TokenKind)
    → ReadsOn numbers front tokens z all
    → z ≡ text ++ rest → IsFirst numbers (operand_after tokens) kind text rest
    → ReadsOn numbers (front ++ text) (tokens ++ token_of front kind text ∷ []) rest all
past_token numbers _ _ text rest _ _ kind (all_read front tokens) same h =
    absurd (no_token_at_end numbers (operand_after tokens) kind text rest h.token same)
past_token numbers _ _ text rest _ _ kind (on_gap front g r tokens all is more) same h =
    absurd (gap_or_token numbers (operand_after tokens) kind g r text rest is same h.token)
past_token numbers _ _ text rest _ _ kind (on_token front t r tokens all k first more) same h =
    let o = operand_after tokens in
    let len = token_lengths numbers o k kind t text r rest same first.token first.longest h.token h.longest in
    let texts : t ≡ text = same_front t text r rest same len in
    let rests : r ≡ rest = same_rest t text r rest same len in
    let one : IsToken numbers o k text rest = subst (λ w. IsToken numbers o k text w) rests
    (subst (λ w. IsToken numbers o k w r) texts first.token) in
    let kinds : k ≡ kind = same_kind numbers o k kind text rest one h.token in
    let a : ReadsOn numbers (front ++ text) (tokens ++ token_of front k text ∷ []) r all =
    subst (λ w. ReadsOn numbers (front ++ w) (tokens ++ token_of front k w ∷ []) r all) texts more in
    subst (λ j. ReadsOn numbers (front ++ text) (tokens ++ token_of front j text ∷ []) rest all) kinds
    (subst (λ w. ReadsOn numbers (front ++ text) (tokens ++ token_of front k text ∷ []) w all) rests a)

-- what is read of a script stands on the way to its end
follow : (numbers : Numbers) (script front rest : Text) (tokens all : List Token) → ReadsTo numbers front tokens rest
    → script ≡ front ++ rest
    → ReadsOn numbers [] [] script all → ReadsOn numbers front tokens rest all
follow numbers script _ _ _ all (begun z) same on = subst (λ w. ReadsOn numbers [] [] w all) same on
follow numbers script _ _ _ all (a_gap front gap rest tokens before h) same on =
    past_gap numbers front (gap ++ rest) gap rest tokens all
    (follow numbers script front (gap ++ rest) tokens all before
    (same ∙ append_assoc front gap rest) on) refl h
follow numbers script _ _ _ all (a_token front text rest tokens kind before h) same on =
    past_token numbers front (text ++ rest) text rest tokens all kind
    (follow numbers script front (text ++ rest) tokens all before
    (same ∙ append_assoc front text rest) on) refl h

-- the way from the start of a script
way : (numbers : Numbers) (front rest : Text) (tokens all : List Token) → ReadsTo numbers front tokens rest
    → ReadsOn numbers front tokens rest all
    → ReadsOn numbers [] [] (front ++ rest) all
way numbers _ _ _ all (begun z) on = on
way numbers _ _ _ all (a_gap front gap rest tokens before h) on =
    subst (λ w. ReadsOn numbers [] [] w all) (sym (append_assoc front gap rest))
    (way numbers front (gap ++ rest) tokens all before
    (on_gap front gap rest tokens all h on))
way numbers _ _ _ all (a_token front text rest tokens kind before h) on =
    subst (λ w. ReadsOn numbers [] [] w all) (sym (append_assoc front text rest))
    (way numbers front (text ++ rest) tokens all before
    (on_token front text rest tokens all kind h on))

way_of : (numbers : Numbers) (script : Text) (tokens : List Token) → Reads numbers script tokens
    → ReadsOn numbers [] [] script tokens
way_of numbers script tokens h = subst (λ w. ReadsOn numbers [] [] w tokens) (append-nil script)
    (way numbers script [] tokens tokens h (all_read script tokens))

at_its_end : (numbers : Numbers) (front z : Text) (tokens all : List Token) → ReadsOn numbers front tokens z all
    → z ≡ [] → all ≡ tokens
at_its_end numbers _ _ _ _ (all_read front tokens) same = refl
at_its_end numbers _ _ _ _ (on_gap front g r tokens all is more) same = absurd (no_gap_empty g r is (sym same))
at_its_end numbers _ _ _ _ (on_token front t r tokens all kind first more) same =
    absurd (no_token_at_end numbers (operand_after tokens) kind t r first.token (sym same))

-- two readings of one script are the same
pub read_once : (numbers : Numbers) (script : Text) (tokens others : List Token) → Reads numbers script tokens
    → Reads numbers script others
    → others ≡ tokens
read_once numbers script tokens others one two =
    at_its_end numbers script [] tokens others
    (follow numbers script script [] tokens others one (sym (append-nil script))
    (way_of numbers script others two)) refl

-- ---- where a refusal stands nothing can be read

stray_no_word : (numbers : Numbers) (kind : TokenKind) (z : Text) (b : ℕ) (text rest : Text) → IsStray z
    → z ≡ b ∷ (text ++ rest) → IsWord numbers kind (b ∷ text) rest → ⊥
stray_no_word numbers kind z b text rest s same h =
    both_ways (begins_name b) (ap (λ w. begins_name (slice_index w 0)) (sym same) ∙ s.no_name)
    (and_parts (begins_name b) (list_all continues_name text) h.0).0

stray_no_digit : (z : Text) (b : ℕ) (left : Text) → IsStray z → z ≡ b ∷ left → is_ascii_digit b ≡ true → ⊥
stray_no_digit z b left s same digit =
    both_ways (is_ascii_digit b) (ap (λ w. is_ascii_digit (slice_index w 0)) (sym same) ∙ s.no_number) digit

-- the first byte of a number, or the second one behind a point, is a digit
stray_no_number : (numbers : Numbers) (z : Text) (b : ℕ) (text rest : Text) → IsStray z → z ≡ b ∷ (text ++ rest)
    → IsNumber numbers (b ∷ text) → ⊥
stray_no_number Whole z b text rest s same h = stray_no_digit z b (text ++ rest) s same
    (and_parts (is_ascii_digit b) (list_all is_ascii_digit text) h).0
stray_no_number Double z b text rest s same h =
    elim (numeral_front b text h) [
      | inl digit ↦ stray_no_digit z b (text ++ rest) s same digit
      | inr at_point ↦ both_ways (is_ascii_digit (slice_index z 1))
          (s.no_fraction (ap (λ w. slice_index w 0) same ∙ at_point.0))
          (ap (λ w. is_ascii_digit (slice_index w 1)) same ∙ second text at_point.1)
    ]
  where
    second : (text : Text) → is_ascii_digit (slice_index text 0) ≡ true → is_ascii_digit (slice_index (text ++ rest) 0)
        ≡ true
    second [] digit = absurd cc
    second (c ∷ text) digit = digit

stray_no_token : (numbers : Numbers) (operand : Bool) (kind : TokenKind) (z text rest : Text) → IsStray z
    → z ≡ text ++ rest
    → IsToken numbers operand kind text rest → ⊥
stray_no_token numbers operand kind z [] rest s same h = no_token_empty numbers operand kind rest h
stray_no_token numbers operand Number z (b ∷ text) rest s same h =
    stray_no_number numbers z b text rest s same h
stray_no_token numbers operand Quoted z (b ∷ text) rest s same h =
    s.no_string (ap (λ w. slice_index w 0) same ∙ head_is b 34 text h.0 h.1)
stray_no_token numbers operand Pattern z (b ∷ text) rest s same h =
    let is : z ≡ (47 ∷ []) ++ (text ++ rest) = same ∙ ap (λ c. c ∷ (text ++ rest)) (head_is b 47 text h.0 h.1) in
    true≢false (s.no_sign (47 ∷ []) (text ++ rest) is)
stray_no_token numbers operand Sign z (b ∷ text) rest s same h = both_ways (is_sign (b ∷ text))
    (s.no_sign (b ∷ text) rest same)
    h.0
stray_no_token numbers operand Keyword z (b ∷ text) rest s same h =
    stray_no_word numbers Keyword z b text rest s same h
stray_no_token numbers operand Builtin z (b ∷ text) rest s same h =
    stray_no_word numbers Builtin z b text rest s same h
stray_no_token numbers operand Refused z (b ∷ text) rest s same h =
    stray_no_word numbers Refused z b text rest s same h
stray_no_token numbers operand Name z (b ∷ text) rest s same h =
    stray_no_word numbers Name z b text rest s same h
stray_no_token numbers operand CallName z (b ∷ text) rest s same h =
    stray_no_word numbers CallName z b text rest s same h

-- a gap begins with no such byte
gap_not : (p : ℕ) (z gap rest : Text) → begins_gap p ≡ false → IsGap gap rest → p ∷ z ≡ gap ++ rest → ⊥
gap_not p z gap rest not_gap h same =
    let g = gap_byte gap rest h in
    let whole : p ∷ z ≡ g.byte ∷ (g.others ++ rest) = same ∙ ap (λ w. w ++ rest) g.is in
    both_ways (begins_gap p) not_gap (ap begins_gap (head_is p g.byte z (g.others ++ rest) whole) ∙ g.begins)

stands_no_gap : (numbers : Numbers) (operand : Bool) (code : ℕ) (z gap rest : Text) → Stands numbers operand code z
    → z ≡ gap ++ rest
    → IsGap gap rest → ⊥
stands_no_gap numbers _ _ _ gap rest (stray operand z s) same h = s.no_gap gap rest same h
stands_no_gap numbers _ _ _ gap rest (open_string operand z open_here) same h = gap_not 34 z gap rest refl h same
stands_no_gap numbers _ _ _ gap rest (open_pattern z open_here) same h = gap_not 47 z gap rest refl h same
stands_no_gap numbers _ _ _ gap rest (no_constant operand text left token none constant) same h =
    gap_or_token numbers operand Number gap rest text left h (sym same) token
stands_no_gap numbers _ _ _ gap rest (point operand b z whole digit) same h = gap_not 46 (b ∷ z) gap rest refl h same

string_told : (numbers : Numbers) (operand : Bool) (kind : TokenKind) (z text rest : Text) → 34 ∷ z ≡ text ++ rest
    → IsToken numbers operand kind text rest → StringEnds z rest
string_told numbers operand kind z [] rest same h = absurd (no_token_empty numbers operand kind rest h)
string_told numbers operand kind z (b ∷ text) rest same h =
    let is34 : b ≡ 34 = sym (head_is 34 b z (text ++ rest) same) in
    let family : family_of kind ≡ a_string = sym (family_told numbers operand kind b text rest h)
    ∙ ap (family_at numbers operand) is34
    in
    let q = as_string numbers operand kind (b ∷ text) rest family h in
    subst (λ w. StringEnds w rest) (ap (λ w. w ++ rest) (sym (tail_is b 34 text q.0 q.1))
    ∙ sym (tail_is 34 b z (text ++ rest) same)) q.2

pattern_told : (numbers : Numbers) (kind : TokenKind) (z text rest : Text) → 47 ∷ z ≡ text ++ rest
    → IsToken numbers true kind text rest
    → PatternEnds Outside z rest
pattern_told numbers kind z [] rest same h = absurd (no_token_empty numbers true kind rest h)
pattern_told numbers kind z (b ∷ text) rest same h =
    let is47 : b ≡ 47 = sym (head_is 47 b z (text ++ rest) same) in
    let family : family_of kind ≡ a_pattern = sym (family_told numbers true kind b text rest h)
    ∙ ap (family_at numbers true) is47 in
    let q = as_pattern numbers true kind (b ∷ text) rest family h in
    subst (λ w. PatternEnds Outside w rest) (ap (λ w. w ++ rest) (sym (tail_is b 47 text q.0 q.1))
    ∙ sym (tail_is 47 b z (text ++ rest) same)) q.3

-- whole numbers have no point
pub point_no_token : (operand : Bool) (kind : TokenKind) (z text rest : Text) → 46 ∷ z ≡ text ++ rest
    → IsToken Whole operand kind text rest → ⊥
point_no_token operand kind z [] rest same h = no_token_empty Whole operand kind rest h
point_no_token operand kind z (b ∷ text) rest same h =
    let is46 : b ≡ 46 = sym (head_is 46 b z (text ++ rest) same) in
    let family : family_of kind ≡ a_sign = sym (family_told Whole operand kind b text rest h)
    ∙ ap (family_at Whole operand) is46 in
    let sign_is = as_sign Whole operand kind (b ∷ text) rest family h in
    both_ways (eqb b 46) (sign_first (λ c. eqb c 46) refl refl b text sign_is) (eq-eqb b 46 is46)

stands_no_token : (numbers : Numbers) (operand : Bool) (code : ℕ) (kind : TokenKind) (z text rest : Text)
    → Stands numbers operand code z
    → z ≡ text ++ rest → IsFirst numbers operand kind text rest → ⊥
stands_no_token numbers _ _ kind _ text rest (stray operand z s) same h =
    stray_no_token numbers operand kind z text rest s same h.token
stands_no_token numbers _ _ kind _ text rest (open_string operand z open_here) same h =
    open_here rest (string_told numbers operand kind z text rest same h.token)
stands_no_token numbers _ _ kind _ text rest (open_pattern z open_here) same h =
    open_here rest (pattern_told numbers kind z text rest same h.token)
stands_no_token numbers _ _ kind _ text rest (no_constant operand t r token none constant) same h =
    let len = token_lengths numbers operand Number kind t text r rest same token none h.token h.longest in
    let texts : t ≡ text = same_front t text r rest same len in
    let rests : r ≡ rest = same_rest t text r rest same len in
    let one : IsToken numbers operand Number text rest = subst (IsNumber numbers) texts token in
    let kinds : Number ≡ kind = same_kind numbers operand Number kind text rest one h.token in
    let is : IsConstant numbers Number text rest = subst (λ k. IsConstant numbers k text rest) (sym kinds) h.constant in
    both_ways (is_constant numbers text rest)
    (ap (λ w. is_constant numbers w rest) (sym texts) ∙ ap (is_constant numbers t) (sym rests) ∙ constant) is
stands_no_token numbers _ _ kind _ text rest (point operand b z whole digit) same h =
    point_no_token operand kind (b ∷ z) text rest same (subst (λ n. IsToken n operand kind text rest) whole h.token)

stands_not_at_end : (numbers : Numbers) (operand : Bool) (code : ℕ) (z : Text) → Stands numbers operand code z
    → z ≡ [] → ⊥
stands_not_at_end numbers _ _ _ (stray operand z s) same = s.byte same
stands_not_at_end numbers _ _ _ (open_string operand z open_here) same = absurd cc
stands_not_at_end numbers _ _ _ (open_pattern z open_here) same = absurd cc
stands_not_at_end numbers _ _ _ (no_constant operand text rest token none constant) same =
    no_token_at_end numbers operand Number text rest token (sym same)
stands_not_at_end numbers _ _ _ (point operand b z whole digit) same = absurd cc

no_way_on : (numbers : Numbers) (front z : Text) (tokens all : List Token) (code : ℕ)
    → ReadsOn numbers front tokens z all
    → Stands numbers (operand_after tokens) code z → ⊥
no_way_on numbers _ _ _ _ code (all_read front tokens) stands = stands_not_at_end numbers
    (operand_after tokens) code [] stands refl
no_way_on numbers _ _ _ _ code (on_gap front gap rest tokens all is more) stands = stands_no_gap numbers
    (operand_after tokens) code
    (gap ++ rest) gap rest stands refl is
no_way_on numbers _ _ _ _ code (on_token front text rest tokens all kind first more) stands =
    stands_no_token numbers (operand_after tokens) code kind (text ++ rest) text rest stands refl first

-- a script that is refused has no reading
pub refused_unread : (numbers : Numbers) (script : Text) (code : ℕ) (place : Place) (tokens : List Token)
    → Refuses numbers script code place
    → Reads numbers script tokens → ⊥
refused_unread numbers script code place tokens refused read =
    no_way_on numbers refused.front refused.rest refused.tokens tokens code
    (follow numbers script refused.front refused.rest refused.tokens tokens refused.read refused.parts
    (way_of numbers script tokens read)) refused.stands
