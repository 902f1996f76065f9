-- The law of the two profiles.
use Rattle.std.specs.Prelude.{◌≢◌, List, All}
use Rattle.awk_numbers.specs.declared.number.Numbers.TheVariants.{Whole, Double}
use Rattle.awk_tokens.specs.Bytes.{Text}
use Rattle.awk_tokens.specs.Reads.{Reads}
use Rattle.awk_tokens.specs.declared.kinds.TokenKind.TheVariants.{Refused}
use Rattle.awk_tokens.specs.declared.token.Token.{Token}

-- a script that profile whole reads without a word of doubles alone is read as the same tokens in profile double
abbrev pub Restricts : Type 0
Restricts = (script : Text) (tokens : List Token) → All (λ t. t.kind ≢ Refused) tokens → Reads Whole script tokens →
    Reads Double script tokens
