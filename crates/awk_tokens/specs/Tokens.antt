-- What a token is, and which one stands first in a text
-- (POSIX.1-2017 XCU awk, "Lexical Conventions": the longest token at each place is taken).
use Rattle.std.specs.Prelude.{◌≡◌, ◌≢◌, ℕ, ◌+◌, ◌-◌, ◌*◌, Bool, true, false, not, ◌&&◌, ◌||◌, if◌then◌else◌, ◌==◌}
use Rattle.std.specs.Prelude.{nat_le, [], ◌∷◌, ◌++◌, length, slice_index, slice_range, fold, is_ok}
use Rattle.std.specs.Char.{is_ascii_digit}
use Rattle.std.specs.List.{list_all}
use Rattle.awk_numbers.specs.Numerals.{number, without_sign}
use Rattle.awk_numbers.specs.declared.number.Numbers.{Numbers}
use Rattle.awk_numbers.specs.declared.number.Numbers.TheVariants.{Whole, Double}
use Rattle.awk_tokens.specs.Bytes.{Text}
use Rattle.awk_tokens.specs.Signs.{is_sign}
use Rattle.awk_tokens.specs.Words.{is_name, word_kind}
use Rattle.awk_tokens.specs.Strings.{StringEnds}
use Rattle.awk_tokens.specs.Patterns.{PatternEnds}
use Rattle.awk_tokens.specs.declared.scan.ErePart.TheVariants.{Outside}
use Rattle.awk_tokens.specs.declared.kinds.TokenKind.{TokenKind}
use Rattle.awk_tokens.specs.declared.kinds.TokenKind.TheVariants.{Number, Quoted, Pattern, Keyword, Builtin, Refused}
use Rattle.awk_tokens.specs.declared.kinds.TokenKind.TheVariants.{Name, CallName, Sign}

-- ---- numerals

-- one or more digits
abbrev pub is_number : Text → Bool
is_number [] = false
is_number (b ∷ z) = is_ascii_digit b && list_all is_ascii_digit z

-- digits, and at most one point among or around them; 46 is `.`
pub data IsMantissa : Text → Type 0 where
  whole : (digits : Text) → is_number digits ≡ true → IsMantissa digits
  pointed : (front behind : Text) → is_number (front ++ behind) ≡ true → IsMantissa (front ++ 46 ∷ behind)

-- `e` or `E`, a sign or none, and digits; or nothing
abbrev pub is_exponent : Text → Bool
is_exponent [] = true
is_exponent (e ∷ z) = (e == 101 || e == 69) && is_number (without_sign z)

-- a number in base ten, without a sign
pub record IsNumeral (text : Text) : Type 0 where
  pub mantissa : Text
  pub exponent : Text
  pub parts : text ≡ mantissa ++ exponent
  pub is_mantissa : IsMantissa mantissa
  pub is_exponent : is_exponent exponent ≡ true

-- the text is a number as the profile has them: whole ones have neither a point nor an exponent
abbrev pub IsNumber : Numbers → Text → Type 0
IsNumber Whole text = is_number text ≡ true
IsNumber Double text = IsNumeral text

-- ---- tokens

-- a word or a name of this kind
abbrev pub IsWord : Numbers → TokenKind → Text → Text → Type 0
IsWord numbers kind text rest = (is_name text ≡ true) × (word_kind numbers text rest ≡ kind)

-- The text is a token of this kind where this rest stands behind it. The flag says whether an
-- operand may begin there: a `/` then begins an expression, and is no sign.
abbrev pub IsToken : Numbers → Bool → TokenKind → Text → Text → Type 0
IsToken numbers operand Number text rest = IsNumber numbers text
IsToken numbers operand Quoted text rest = (body : Text) × (text ≡ 34 ∷ body) × StringEnds (body ++ rest) rest
IsToken numbers operand Pattern text rest =
    (body : Text) × (text ≡ 47 ∷ body) × (operand ≡ true) × PatternEnds Outside (body ++ rest) rest
IsToken numbers operand Sign text rest = (is_sign text ≡ true) × (operand ≡ true → slice_index text 0 ≢ 47)
IsToken numbers operand Keyword text rest = IsWord numbers Keyword text rest
IsToken numbers operand Builtin text rest = IsWord numbers Builtin text rest
IsToken numbers operand Refused text rest = IsWord numbers Refused text rest
IsToken numbers operand Name text rest = IsWord numbers Name text rest
IsToken numbers operand CallName text rest = IsWord numbers CallName text rest

-- no longer front of what stands there is a token of any kind
abbrev pub NoLonger : Numbers → Bool → Text → Text → Type 0
NoLonger numbers operand text rest =
    (kind : TokenKind) (more left : Text) → rest ≡ more ++ left → IsToken numbers operand kind (text ++ more) left →
    more ≡ []

-- ---- constants

abbrev pub value_of : Text → ℕ
value_of digits = fold (λ n b. 10 * n + (b - 48)) 0 digits

-- `e` or `E`, a sign or none, and a digit
abbrev pub begins_exponent : Text → Bool
begins_exponent z =
    let is_e = slice_index z 0 == 101 || slice_index z 0 == 69 in
    let is_signed = slice_index z 1 == 43 || slice_index z 1 == 45 in
    is_e && (is_ascii_digit (slice_index z 1) || (is_signed && is_ascii_digit (slice_index z 2)))

-- the digits are a number of 64 bits before this rest: no point and no exponent follows
abbrev pub is_whole : Text → Text → Bool
is_whole digits rest =
    nat_le (value_of digits) 9223372036854775807 && (not (slice_index rest 0 == 46) && not (begins_exponent rest))

-- whether the profile has the number: of whole ones one that is a whole number before this rest, of doubles one that is
-- not beyond the largest, whatever the rest
abbrev pub is_constant : Numbers → Text → Text → Bool
is_constant Whole digits rest = is_whole digits rest
is_constant Double numeral rest = is_ok (number numeral)

abbrev pub IsConstant : Numbers → TokenKind → Text → Text → Type 0
IsConstant numbers Number text rest = is_constant numbers text rest ≡ true
IsConstant numbers kind text rest = Unit {0}

-- the token that stands first: the longest, and where it is a number one of the profile
pub record IsFirst (numbers : Numbers) (operand : Bool) (kind : TokenKind) (text rest : Text) : Type 0 where
  pub token : IsToken numbers operand kind text rest
  pub longest : NoLonger numbers operand text rest
  pub constant : IsConstant numbers kind text rest

-- ---- what a token carries

-- a `\/` is `/`, and every other escape stays as it is; the flag says that a `\` stands before
abbrev pub unslashed : Bool → Text → Text
unslashed false [] = []
unslashed true [] = 92 ∷ []
unslashed false (b ∷ z) = if b == 92 then unslashed true z else b ∷ unslashed false z
unslashed true (b ∷ z) = if b == 47 then 47 ∷ unslashed false z else 92 ∷ b ∷ unslashed false z

-- without the first and the last byte
abbrev pub between : Text → Text
between text = slice_range text 1 (length text - 1)

abbrev pub text_of : TokenKind → Text → Text
text_of Quoted text = between text
text_of Pattern text = unslashed false (between text)
text_of kind text = text
