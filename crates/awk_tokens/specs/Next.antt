-- What the step of the reading answers: the token that stands first in what is left of a script.
use Rattle.std.specs.Prelude.{◌≡◌, ℕ, ◌<◌, Bool, ◌++◌, length}
use Rattle.awk_numbers.specs.declared.number.Numbers.{Numbers}
use Rattle.awk_text.specs.declared.place.Place.{Place}
use Rattle.awk_tokens.specs.Bytes.{Text}
use Rattle.awk_tokens.specs.Places.{place_after}
use Rattle.awk_tokens.specs.Tokens.{IsFirst}
use Rattle.awk_tokens.specs.Reads.{token_of}
use Rattle.awk_tokens.specs.declared.token.Token.{Token}

-- the token is the first of the text, of this length, where the text stands at this start and place
pub record IsNext (numbers : Numbers) (operand : Bool) (z : Text) (start : ℕ) (place : Place) (token : Token) (len : ℕ)
    : Type 0 where
  pub text : Text
  pub rest : Text
  pub parts : z ≡ text ++ rest
  pub len_is : len ≡ length text
  pub moves : 0 < len
  pub first : IsFirst numbers operand token.kind text rest
  pub token_is : (front : Text) → start ≡ length front → place ≡ place_after front → token
      ≡ token_of front token.kind text
