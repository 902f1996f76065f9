-- What a walk over a subject reads, and the patterns of paths as patterns of that.
use Rattle.std.specs.Prelude.{ℕ, Bool, true, false, ◌&&◌, if◌then◌else◌, List, [], ◌∷◌, ◌++◌, map, codes, ◌==◌, ◌+◌}
use Rattle.std.specs.Prelude.{length}
use Rattle.std.specs.Str.{bytes_eq}
use Rattle.box_policy.specs.declared.tokens.Sort.{Sort}
use Rattle.box_policy.specs.declared.tokens.Sort.TheVariants.{Component, Command}
use Rattle.box_policy.specs.declared.tokens.Token.{Token}
use Rattle.box_policy.specs.declared.tokens.Token.TheVariants.{Open, Byte, Close}
use Rattle.box_policy.specs.Division.{Symbol}
use Rattle.box_policy.specs.Patterns.{one, run, symbols}

-- it is a byte that passes the test
abbrev pub on_bytes : (ℕ → Bool) → Token → Bool
on_bytes test Open = false
on_bytes test (Byte b) = test b
on_bytes test Close = false

abbrev pub is_open : Token → Bool
is_open Open = true
is_open (Byte b) = false
is_open Close = false

abbrev pub is_close : Token → Bool
is_close Open = false
is_close (Byte b) = false
is_close Close = true

-- it is this token
abbrev pub is_token : Token → Token → Bool
is_token Open other = is_open other
is_token (Byte b) other = on_bytes (λ c. c == b) other
is_token Close other = is_close other

-- the same for the bytes among the tokens
abbrev pub lifted : Symbol ℕ → Symbol Token
lifted symbol = record { is_run = symbol.is_run; test = on_bytes symbol.test }

-- the component `**` is any run of tokens, and any other is one that opens, has the symbols' bytes and closes
abbrev pub piece_symbols : List ℕ → List (Symbol Token)
piece_symbols piece =
    if bytes_eq piece (codes "**") then run (λ _. true) ∷ []
    else one is_open ∷ (map lifted (symbols Component piece) ++ (one is_close ∷ []))

-- the components of a pattern, one after another
abbrev pub flat : List (List ℕ) → List (Symbol Token)
flat [] = []
flat (piece ∷ pieces) = piece_symbols piece ++ flat pieces

-- the components of a subject, one after another
abbrev pub stream : List (List ℕ) → List Token
stream [] = []
stream (name ∷ names) = Open ∷ (map Byte name ++ (Close ∷ stream names))

-- the most places that the components of a pattern take
abbrev pub width : List (List ℕ) → ℕ
width [] = 0
width (piece ∷ pieces) = length piece + 2 + width pieces

-- a command's pattern begins with `**`
abbrev pub starts_all : Sort → List ℕ → Bool
starts_all Command (b ∷ c ∷ bs) = b == 42 && c == 42
starts_all _ _ = false
