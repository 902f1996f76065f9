-- What an element of a pattern stands for.
use Rattle.std.specs.Prelude.{ℕ, Bool, true}
use Rattle.box_policy.specs.declared.tokens.Sort.{Sort}
use Rattle.box_policy.specs.declared.tokens.Sort.TheVariants.{Component, Command, Name}
use Rattle.box_policy.specs.declared.tokens.Token.{Token}
use Rattle.box_policy.specs.declared.tokens.Element.{Element}
use Rattle.box_policy.specs.declared.tokens.Element.TheVariants.{One, Any, Run, All}
use Rattle.box_policy.specs.Division.{Symbol}
use Rattle.box_policy.specs.Patterns.{one, run, is_name_byte, is_word_byte}
use Rattle.box_policy.specs.Tokens.{is_token, on_bytes}

-- the bytes that `*` stands for in a pattern of this sort
abbrev pub class_of : Sort → ℕ → Bool
class_of Component b = true
class_of Command b = is_word_byte b
class_of Name b = is_name_byte b

-- the tokens that a subject of this sort has: all in a path, and bytes in a text
abbrev pub is_read : Sort → Token → Bool
is_read Component token = true
is_read Command token = on_bytes (λ _. true) token
is_read Name token = on_bytes (λ _. true) token

abbrev pub symbol_of : Sort → Element → Symbol Token
symbol_of sort (One token) = one (is_token token)
symbol_of sort Any = one (on_bytes (class_of sort))
symbol_of sort Run = run (on_bytes (class_of sort))
symbol_of sort All = run (is_read sort)
