-- A script that is read text by text, by its profile: no token and no separator goes from one of its texts into the
-- next.
use Rattle.std.specs.Prelude.{◌≡◌, ℕ, List, [], ◌∷◌, ◌++◌, map, All}
use Rattle.awk_numbers.specs.declared.number.Numbers.{Numbers}
use Rattle.awk_text.specs.declared.place.Place.{Place}
use Rattle.awk_tokens.specs.Bytes.{Text}
use Rattle.awk_tokens.specs.Places.{place_after}
use Rattle.awk_tokens.specs.Reads.{Reads, Refuses}
use Rattle.awk_tokens.specs.declared.token.Token.{Token}
use Rattle.awk_tokens.specs.declared.kinds.TokenKind.{TokenKind}
use Rattle.awk_tokens.specs.declared.kinds.TokenKind.TheVariants.{Sign}
use Rattle.awk_sources.specs.Joined.{lead}

-- what a token is to the grammar, wherever it stands
abbrev pub Word : Type 0
Word = TokenKind × Text

abbrev pub word_of : Token → Word
word_of token = (token.kind, token.text)

abbrev pub newline : Word
newline = (Sign, 10 ∷ [])

-- the text is a script of its own to the lexical rule
abbrev pub IsRead : Numbers → Text → Type 0
IsRead numbers text = (tokens : List Token) × Reads numbers text tokens

-- Each of the texts is read by itself, and these are the words of them all, with a newline between one and the next.
pub data ReadsEach (numbers : Numbers) : List Text → List Word → Type 0 where
  last : (text : Text) (tokens : List Token) → Reads numbers text tokens → ReadsEach numbers (text ∷ [])
      (map word_of tokens)
  more : (text next : Text) (texts : List Text) (tokens : List Token) (words : List Word) → Reads numbers text tokens →
      ReadsEach numbers (next ∷ texts) words →
      ReadsEach numbers (text ∷ next ∷ texts) (map word_of tokens ++ newline ∷ words)

-- the whole is read as the texts are, one by one
pub record IsReadByText (numbers : Numbers) (texts : List Text) (whole : Text) : Type 0 where
  pub words : List Word
  pub each : ReadsEach numbers texts words
  pub tokens : List Token
  pub reads : Reads numbers whole tokens
  pub same : map word_of tokens ≡ words

-- One of the texts is refused by this code, as a script of its own would be, and those before it are read. The place is
-- that in the whole.
pub record RefusesText (numbers : Numbers) (texts : List Text) (code : ℕ) (place : Place) : Type 0 where
  pub before : List Text
  pub text : Text
  pub after : List Text
  pub parts : texts ≡ before ++ text ∷ after
  pub read : All (IsRead numbers) before
  pub at : Place
  pub refused : Refuses numbers text code at
  pub placed : place ≡ place_after (lead before ++ refused.front)
