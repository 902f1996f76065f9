-- What a `Tokens` shows, and what it keeps of the next token.
use Rattle.std.specs.Prelude.{◌≡◌, List}
use Rattle.awk_tokens.specs.declared.token.Token.{Token}
use Rattle.awk_tree.specs.Terminals.{look, ahead}
use Rattle.awk_expressions.specs.declared.tokens.Tokens.TheInside.{Inside}

abbrev pub tokens_of : Inside → List Token
tokens_of t = t.rest.now

abbrev pub IsCursor : Inside → Type 0
IsCursor t = (t.next ≡ look t.rest.now) × (t.seen ≡ ahead t.rest.now)
