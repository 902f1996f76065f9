-- Where a script is refused: at the token where so many were left.
use Rattle.std.specs.Prelude.{ℕ, ◌-◌, List, length, slice_get, Option, Some, None}
use Rattle.awk_text.specs.declared.place.Place.{Place}
use Rattle.awk_tokens.specs.declared.token.Token.{Token}
use Rattle.awk_tokens.specs.declared.syntax_error.SyntaxError.{SyntaxError}
use Rattle.awk_tree.specs.declared.fault.ParseError.{ParseError}
use Rattle.awk_tree.specs.declared.fault.ParseError.TheVariants.{Memory, Unexpected, TooDeep}

-- directly behind the last token; without a token, the first place of a script
abbrev pub end_of : Option Token → Place
end_of (Some last) = last.end
end_of None = record { line = 1; column = 1 }

-- where this token is, or where the last one ends
abbrev pub place_at : Option Token → Option Token → Place
place_at (Some token) last = token.place
place_at None last = end_of last

-- where so many tokens are left
abbrev pub place_of : List Token → ℕ → Place
place_of tokens left = place_at (slice_get tokens (length tokens - left)) (slice_get tokens (length tokens - 1))

abbrev pub refusal : List Token → ParseError → SyntaxError
refusal tokens Memory = record { code = 9; place = record { line = 0; column = 0 } }
refusal tokens (Unexpected left) = record { code = 4; place = place_of tokens left }
refusal tokens (TooDeep left) = record { code = 5; place = place_of tokens left }
