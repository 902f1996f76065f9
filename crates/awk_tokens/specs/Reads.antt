-- The lexical rule: how a script is read as tokens
-- (POSIX.1-2017 XCU awk, "Lexical Conventions").
use Rattle.std.specs.Prelude.{◌≡◌, ◌≢◌, ℕ, Bool, true, false, not, ◌||◌, ◌==◌, List, [], ◌∷◌, ◌++◌, length, slice_index}
use Rattle.std.specs.Prelude.{codes, fold}
use Rattle.std.specs.Char.{is_ascii_digit}
use Rattle.std.specs.List.{list_all}
use Rattle.std.specs.Str.{bytes_eq}
use Rattle.awk_numbers.specs.declared.number.Numbers.{Numbers}
use Rattle.awk_numbers.specs.declared.number.Numbers.TheVariants.{Whole}
use Rattle.awk_text.specs.declared.place.Place.{Place}
use Rattle.awk_tokens.specs.Bytes.{Text, is_blank, begins_name}
use Rattle.awk_tokens.specs.Signs.{is_sign}
use Rattle.awk_tokens.specs.Strings.{StringEnds}
use Rattle.awk_tokens.specs.Patterns.{PatternEnds}
use Rattle.awk_tokens.specs.Places.{place_after}
use Rattle.awk_tokens.specs.Tokens.{IsToken, NoLonger, IsFirst, is_constant, text_of}
use Rattle.awk_tokens.specs.declared.scan.ErePart.TheVariants.{Outside}
use Rattle.awk_tokens.specs.declared.token.Token.{Token}
use Rattle.awk_tokens.specs.declared.kinds.TokenKind.{TokenKind}
use Rattle.awk_tokens.specs.declared.kinds.TokenKind.TheVariants.{Number, Quoted, Pattern, Keyword, Builtin, Refused}
use Rattle.awk_tokens.specs.declared.kinds.TokenKind.TheVariants.{Name, CallName, Sign}

-- What separates tokens, before this rest: a blank, a `\` with a newline, or a comment, which goes
-- up to a newline or the end. 92 is `\`, 10 is the newline, 35 is `#`.
pub data IsGap : Text → Text → Type 0 where
  blank : (b : ℕ) (rest : Text) → is_blank b ≡ true → IsGap (b ∷ []) rest
  joined : (rest : Text) → IsGap (92 ∷ 10 ∷ []) rest
  comment : (line rest : Text) → list_all (λ b. not (b == 10)) line ≡ true → (rest ≢ [] → slice_index rest 0 ≡ 10) →
      IsGap (35 ∷ line) rest

-- whether a token ends an operand, so that no operand may begin directly after it
abbrev pub ends_operand : TokenKind → Text → Bool
ends_operand Number text = true
ends_operand Quoted text = true
ends_operand Pattern text = true
ends_operand Keyword text = bytes_eq text (codes "getline")
ends_operand Builtin text = true
ends_operand Refused text = false
ends_operand Name text = true
ends_operand CallName text = true
ends_operand Sign text = bytes_eq text (codes ")")
    || (bytes_eq text (codes "]") || (bytes_eq text (codes "++") || bytes_eq text (codes "--")))

-- whether an operand may begin after these tokens: the last one decides
abbrev pub operand_after : List Token → Bool
operand_after tokens = fold (λ before token. not (ends_operand token.kind token.text)) true tokens

-- the token of this kind and these bytes that stands behind this front of a script
abbrev pub token_of : Text → TokenKind → Text → Token
token_of front kind text =
    record {
      kind = kind;
      text = text_of kind text;
      start = length front;
      place = place_after front;
      end =
          place_after (front ++ text);
    }

-- The front of a script is read as these tokens, and this rest of it is left: slices in order, each
-- the longest token at its place, with separators between them.
pub data ReadsTo (numbers : Numbers) : Text → List Token → Text → Type 0 where
  begun : (script : Text) → ReadsTo numbers [] [] script
  a_gap : (front gap rest : Text) (tokens : List Token) → ReadsTo numbers front tokens (gap ++ rest) → IsGap gap rest →
      ReadsTo numbers (front ++ gap) tokens rest
  a_token : (front text rest : Text) (tokens : List Token) (kind : TokenKind) →
      ReadsTo numbers front tokens (text ++ rest) →
      IsFirst numbers (operand_after tokens) kind text rest
      → ReadsTo numbers (front ++ text) (tokens ++ token_of front kind text ∷ []) rest

-- the whole script is read as these tokens
abbrev pub Reads : Numbers → Text → List Token → Type 0
Reads numbers script tokens = ReadsTo numbers script tokens []

-- the script is read as no other tokens
abbrev pub IsOnly : Numbers → Text → List Token → Type 0
IsOnly numbers script tokens = (others : List Token) → Reads numbers script others → others ≡ tokens

-- the script is read as no tokens at all
abbrev pub IsUnread : Numbers → Text → Type 0
IsUnread numbers script = (tokens : List Token) → Reads numbers script tokens → ⊥

-- ---- refusals

-- A byte that begins no token and no separator. 34 is `"`, 46 is `.`.
pub record IsStray (z : Text) : Type 0 where
  pub byte : z ≢ []
  pub no_gap : (gap rest : Text) → z ≡ gap ++ rest → IsGap gap rest → ⊥
  pub no_number : is_ascii_digit (slice_index z 0) ≡ false
  pub no_fraction : slice_index z 0 ≡ 46 → is_ascii_digit (slice_index z 1) ≡ false
  pub no_name : begins_name (slice_index z 0) ≡ false
  pub no_string : slice_index z 0 ≢ 34
  pub no_sign : (sign rest : Text) → z ≡ sign ++ rest → is_sign sign ≡ false

-- The refusal of this code stands at the front of the text. The flag says whether an operand may
-- begin there.
pub data Stands (numbers : Numbers) : Bool → ℕ → Text → Type 0 where
  stray : (operand : Bool) (z : Text) → IsStray z → Stands numbers operand 1 z
  open_string : (operand : Bool) (z : Text) → ((rest : Text) → StringEnds z rest → ⊥) →
      Stands numbers operand 2 (34 ∷ z)
  open_pattern : (z : Text) → ((rest : Text) → PatternEnds Outside z rest → ⊥) → Stands numbers true 2 (47 ∷ z)
  no_constant : (operand : Bool) (text rest : Text) → IsToken numbers operand Number text rest →
      NoLonger numbers operand text rest →
      is_constant numbers text rest ≡ false → Stands numbers operand 3 (text ++ rest)
  -- whole numbers have no point
  point : (operand : Bool) (b : ℕ) (z : Text) → numbers ≡ Whole → is_ascii_digit b ≡ true →
      Stands numbers operand 3 (46 ∷ b ∷ z)

-- the script is refused by this code at this place, and all before it is read
pub record Refuses (numbers : Numbers) (script : Text) (code : ℕ) (place : Place) : Type 0 where
  pub front : Text
  pub rest : Text
  pub tokens : List Token
  pub parts : script ≡ front ++ rest
  pub read : ReadsTo numbers front tokens rest
  pub stands : Stands numbers (operand_after tokens) code rest
  pub placed : place ≡ place_after front
