-- What the hints of a script are.
use Rattle.std.specs.Prelude.{◌≡◌, Bool, true, false, List, [], ◌∷◌, ◌++◌, All, codes, map}
use Rattle.std.specs.Str.{bytes_eq}
use Rattle.awk_numbers.specs.declared.number.Numbers.{Numbers}
use Rattle.awk_numbers.specs.declared.number.Numbers.TheVariants.{Whole}
use Rattle.awk_tokens.specs.declared.kinds.TokenKind.TheVariants as kind
use Rattle.awk_tokens.specs.declared.token.Token.{Token}
use Rattle.awk_hints.specs.Causes.{Causes, is_gawk_name, is_between_numbers, names_int}
use Rattle.awk_hints.specs.declared.hint.Hint.{Hint}
use Rattle.awk_hints.specs.declared.hint.HintKind.{HintKind}
use Rattle.awk_hints.specs.declared.hint.HintKind.TheVariants as h

-- What is told of a token between others: it causes all of that. A name that means something to gawk is told as such;
-- a division of whole numbers is told that sets what it divides, or is no quotient of two numbers and, as the flag
-- says, is sure to stand for no argument of int.
pub record AreTold (numbers : Numbers) (before : List Token) (t : Token) (after : List Token) (excused : Bool)
    (kinds : List HintKind) : Type 0 where
  pub caused : All (Causes numbers t) kinds
  pub names : t.kind ≡ kind.Name → is_gawk_name t.text ≡ true → kinds ≡ h.GawkName ∷ []
  pub sets : numbers ≡ Whole → t.kind ≡ kind.Sign → bytes_eq t.text (codes "/=") ≡ true → kinds ≡ h.Division ∷ []
  pub divides : numbers ≡ Whole → t.kind ≡ kind.Sign → bytes_eq t.text (codes "/") ≡ true → excused ≡ false →
      is_between_numbers before after ≡ false → kinds ≡ h.Division ∷ []

-- a hint of this token
abbrev pub hint_of : Token → HintKind → Hint
hint_of t kind = record { place = t.place; text = t.text; kind = kind }

-- Of these tokens, which begin those of the script, just these hints are told, in their order. That a division may be
-- the argument of int is so only where the script names int.
pub data Tells (numbers : Numbers) (tokens : List Token) : List Token → List Hint → Type 0 where
  begun : Tells numbers tokens [] []
  next : (before : List Token) (t : Token) (after : List Token) (hints : List Hint) (excused : Bool)
      (kinds : List HintKind) → tokens ≡ before ++ t ∷ after → Tells numbers tokens before hints →
      (excused ≡ true → names_int tokens ≡ true) → AreTold numbers before t after excused kinds →
      Tells numbers tokens (before ++ t ∷ []) (hints ++ map (hint_of t) kinds)
