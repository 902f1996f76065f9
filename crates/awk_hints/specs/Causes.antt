-- Which tokens cause which hints, by the numbers that the script has.
use Rattle.std.specs.Prelude.{◌≡◌, ◌⊎◌, ◌&&◌, ◌||◌, ◌-◌, ℕ, Bool, true, false, List, [], ◌∷◌, codes, length, slice_get}
use Rattle.std.specs.Prelude.{Option, Some, None}
use Rattle.std.specs.List.{list_any}
use Rattle.std.specs.Str.{bytes_eq}
use Rattle.awk_numbers.specs.declared.number.Numbers.{Numbers}
use Rattle.awk_numbers.specs.declared.number.Numbers.TheVariants.{Whole}
use Rattle.awk_tokens.specs.declared.kinds.TokenKind.{TokenKind}
use Rattle.awk_tokens.specs.declared.kinds.TokenKind.TheVariants as kind
use Rattle.awk_tokens.specs.declared.token.Token.{Token}
use Rattle.awk_hints.specs.declared.hint.HintKind.{HintKind}
use Rattle.awk_hints.specs.declared.hint.HintKind.TheVariants as h

abbrev pub Text : Type 0
Text = List ℕ

-- the texts of signs that divide
abbrev pub is_division : Text → Bool
is_division text = bytes_eq text (codes "/=") || bytes_eq text (codes "/")

-- the names that mean something to gawk
abbrev pub gawk_names : List Text
gawk_names =
    codes "ARGIND" ∷ codes "BEGINFILE" ∷ codes "ENDFILE" ∷ codes "ERRNO" ∷ codes "FIELDWIDTHS" ∷ codes "FPAT"
    ∷ codes "FUNCTAB" ∷ codes "IGNORECASE" ∷ codes "PROCINFO" ∷ codes "RT" ∷ codes "SYMTAB" ∷ []

unfoldable pub is_gawk_name : Text → Bool
is_gawk_name name = list_any (bytes_eq name) gawk_names

-- a name, of a function or of anything else
pub data IsNamed (t : Token) : Type 0 where
  as_function : t.kind ≡ kind.CallName → IsNamed t
  as_variable : t.kind ≡ kind.Name → IsNamed t

-- What a token is that a hint of each kind tells of. Of whole numbers alone a division drops the fraction.
unfoldable pub Causes : Numbers → Token → HintKind → Type 0
Causes numbers t h.Division = (numbers ≡ Whole) × (t.kind ≡ kind.Sign) × (is_division t.text ≡ true)
Causes numbers t (h.Fraction letter) = t.kind ≡ kind.Quoted
Causes numbers t h.Star = t.kind ≡ kind.Quoted
Causes numbers t h.WideCharacter = t.kind ≡ kind.Quoted
Causes numbers t h.EarlyStart = (t.kind ≡ kind.Number) ⊎ (t.kind ≡ kind.Sign)
Causes numbers t h.LongSeparator = (t.kind ≡ kind.Name) × (bytes_eq t.text (codes "RS") ≡ true)
Causes numbers t h.GawkName = (t.kind ≡ kind.Name) × (is_gawk_name t.text ≡ true)
Causes numbers t (h.GawkEscape letter) = t.kind ≡ kind.Pattern
Causes numbers t h.HexNumber = t.kind ≡ kind.Number
Causes numbers t h.UnsetField = t.kind ≡ kind.Sign
Causes numbers t h.Assignment = (t.kind ≡ kind.Sign) × (bytes_eq t.text (codes "=") ≡ true)
Causes numbers t h.SetOnce = IsNamed t
Causes numbers t h.ReadOnce = IsNamed t
Causes numbers t h.OnlyRead = IsNamed t
Causes numbers t h.Uncalled = IsNamed t
Causes numbers t h.Unused = IsNamed t

-- what may be told of a format
abbrev pub is_of_format : HintKind → Bool
is_of_format h.Division = false
is_of_format (h.Fraction letter) = true
is_of_format h.Star = true
is_of_format h.WideCharacter = true
is_of_format h.EarlyStart = false
is_of_format h.LongSeparator = false
is_of_format h.GawkName = false
is_of_format (h.GawkEscape letter) = false
is_of_format h.HexNumber = false
is_of_format h.UnsetField = false
is_of_format h.Assignment = false
is_of_format h.SetOnce = false
is_of_format h.ReadOnce = false
is_of_format h.OnlyRead = false
is_of_format h.Uncalled = false
is_of_format h.Unused = false

-- what may be told of an ERE
abbrev pub is_of_pattern : HintKind → Bool
is_of_pattern h.Division = false
is_of_pattern (h.Fraction letter) = false
is_of_pattern h.Star = false
is_of_pattern h.WideCharacter = false
is_of_pattern h.EarlyStart = false
is_of_pattern h.LongSeparator = false
is_of_pattern h.GawkName = false
is_of_pattern (h.GawkEscape letter) = true
is_of_pattern h.HexNumber = false
is_of_pattern h.UnsetField = false
is_of_pattern h.Assignment = false
is_of_pattern h.SetOnce = false
is_of_pattern h.ReadOnce = false
is_of_pattern h.OnlyRead = false
is_of_pattern h.Uncalled = false
is_of_pattern h.Unused = false

-- what may be told of a name by all that the script does with it
abbrev pub is_of_name : HintKind → Bool
is_of_name h.Division = false
is_of_name (h.Fraction letter) = false
is_of_name h.Star = false
is_of_name h.WideCharacter = false
is_of_name h.EarlyStart = false
is_of_name h.LongSeparator = false
is_of_name h.GawkName = false
is_of_name (h.GawkEscape letter) = false
is_of_name h.HexNumber = false
is_of_name h.UnsetField = false
is_of_name h.Assignment = false
is_of_name h.SetOnce = true
is_of_name h.ReadOnce = true
is_of_name h.OnlyRead = true
is_of_name h.Uncalled = true
is_of_name h.Unused = true

-- ---- what is never passed over

abbrev pub is_number_kind : TokenKind → Bool
is_number_kind kind.Number = true
is_number_kind kind.Quoted = false
is_number_kind kind.Pattern = false
is_number_kind kind.Keyword = false
is_number_kind kind.Builtin = false
is_number_kind kind.Refused = false
is_number_kind kind.Name = false
is_number_kind kind.CallName = false
is_number_kind kind.Sign = false

-- whether a number stands there
abbrev pub is_number : Option Token → Bool
is_number None = false
is_number (Some t) = is_number_kind t.kind

-- whether it has numbers on both sides
abbrev pub is_between_numbers : List Token → List Token → Bool
is_between_numbers before after = is_number (slice_get before (length before - 1)) && is_number (slice_get after 0)

abbrev pub is_int_word : TokenKind → Text → Bool
is_int_word kind.Number text = false
is_int_word kind.Quoted text = false
is_int_word kind.Pattern text = false
is_int_word kind.Keyword text = false
is_int_word kind.Builtin text = bytes_eq text (codes "int")
is_int_word kind.Refused text = false
is_int_word kind.Name text = false
is_int_word kind.CallName text = false
is_int_word kind.Sign text = false

-- whether the built-in function int stands among these
abbrev pub names_int : List Token → Bool
names_int tokens = list_any (λ t. is_int_word t.kind t.text) tokens
