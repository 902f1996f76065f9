-- The words of the language, and the kinds of words and names
-- (POSIX.1-2017 XCU awk, "Lexical Conventions", rules 7 to 9).
use Rattle.std.specs.Prelude.{ℕ, Bool, true, false, ◌&&◌, if◌then◌else◌, ◌==◌, List, [], ◌∷◌, ◌++◌, map, codes}
use Rattle.std.specs.Prelude.{slice_index, Option, Some, None, option_map}
use Rattle.std.specs.List.{list_any, list_all}
use Rattle.std.specs.Str.{bytes_eq}
use Rattle.awk_numbers.specs.declared.number.Numbers.{Numbers}
use Rattle.awk_numbers.specs.declared.number.Numbers.TheVariants.{Whole, Double}
use Rattle.awk_tokens.specs.Bytes.{Text, begins_name, continues_name}
use Rattle.awk_tokens.specs.declared.kinds.TokenKind.{TokenKind}
use Rattle.awk_tokens.specs.declared.kinds.TokenKind.TheVariants as kind
use Rattle.awk_tokens.specs.declared.terminals.Terminal.{Terminal}
use Rattle.awk_tokens.specs.declared.terminals.Terminal.TheVariants as w
use Rattle.awk_tokens.specs.declared.words.Parameters.{Parameters}
use Rattle.awk_tokens.specs.declared.words.Parameters.TheVariants as takes
use Rattle.awk_tokens.specs.declared.words.Builtin.{Builtin}
use Rattle.awk_tokens.specs.declared.words.Builtin.TheVariants as b
use Rattle.awk_tokens.specs.declared.words.Jump.{Jump}
use Rattle.awk_tokens.specs.declared.words.Jump.TheVariants as j

-- ---- the table of words: how each is spelled, and what it is to the grammar

-- the words of the grammar but the ones below; `func` is the same word as `function`
abbrev pub keywords : List (Text × Terminal)
keywords =
    (codes "BEGIN", w.BeginWord) ∷ (codes "END", w.EndWord) ∷ (codes "delete", w.Delete) ∷ (codes "do", w.Do)
    ∷ (codes "else", w.Else) ∷ (codes "exit", w.Exit)
    ∷ (codes "for", w.For) ∷ (codes "func", w.Function) ∷ (codes "function", w.Function) ∷ (codes "getline", w.Getline)
    ∷ (codes "if", w.If) ∷ (codes "in", w.In)
    ∷ (codes "print", w.Print) ∷ (codes "printf", w.Printf) ∷ (codes "return", w.Return) ∷ (codes "while", w.While) ∷ []

-- the words that are a statement alone
abbrev pub jump_text : Jump → Text
jump_text j.Break = codes "break"
jump_text j.Continue = codes "continue"
jump_text j.Next = codes "next"
jump_text j.NextFile = codes "nextfile"

abbrev pub jumps : List Jump
jumps = j.Break ∷ j.Continue ∷ j.Next ∷ j.NextFile ∷ []

-- the built-in functions, with the parameters of each
abbrev pub builtin_entry : Builtin → Text × Parameters
builtin_entry b.Atan2 = (codes "atan2", takes.Two)
builtin_entry b.Close = (codes "close", takes.One)
builtin_entry b.Cos = (codes "cos", takes.One)
builtin_entry b.Exp = (codes "exp", takes.One)
builtin_entry b.Fflush = (codes "fflush", takes.AtMostOne)
builtin_entry b.Gsub = (codes "gsub", takes.Replaced true)
builtin_entry b.Index = (codes "index", takes.Two)
builtin_entry b.Int = (codes "int", takes.One)
builtin_entry b.Length = (codes "length", takes.Measured)
builtin_entry b.Log = (codes "log", takes.One)
builtin_entry b.Match = (codes "match", takes.Two)
builtin_entry b.Rand = (codes "rand", takes.Zero)
builtin_entry b.Sin = (codes "sin", takes.One)
builtin_entry b.Split = (codes "split", takes.Pieces)
builtin_entry b.Sprintf = (codes "sprintf", takes.OneOrMore)
builtin_entry b.Sqrt = (codes "sqrt", takes.One)
builtin_entry b.Srand = (codes "srand", takes.AtMostOne)
builtin_entry b.Sub = (codes "sub", takes.Replaced false)
builtin_entry b.Substr = (codes "substr", takes.TwoOrThree)
builtin_entry b.System = (codes "system", takes.One)
builtin_entry b.Tolower = (codes "tolower", takes.One)
builtin_entry b.Toupper = (codes "toupper", takes.One)

abbrev pub builtins : List Builtin
builtins =
    b.Atan2 ∷ b.Close ∷ b.Cos ∷ b.Exp ∷ b.Fflush ∷ b.Gsub ∷ b.Index ∷ b.Int ∷ b.Length ∷ b.Log ∷ b.Match ∷ b.Rand
    ∷ b.Sin ∷ b.Split ∷ b.Sprintf ∷ b.Sqrt ∷ b.Srand ∷ b.Sub ∷ b.Substr ∷ b.System ∷ b.Tolower ∷ b.Toupper ∷ []

-- whether only doubles have it: whole numbers keep its word, and refuse it
abbrev pub is_of_doubles : Builtin → Bool
is_of_doubles b.Atan2 = true
is_of_doubles b.Cos = true
is_of_doubles b.Exp = true
is_of_doubles b.Log = true
is_of_doubles b.Rand = true
is_of_doubles b.Sin = true
is_of_doubles b.Sqrt = true
is_of_doubles b.Srand = true
is_of_doubles other = false

abbrev pub builtin_text : Builtin → Text
builtin_text which = (builtin_entry which).0

abbrev pub parameters : Builtin → Parameters
parameters which = (builtin_entry which).1

-- the same words in both profiles of numbers
abbrev pub words : List (Text × Terminal)
words = keywords ++ (map (λ which. (jump_text which, w.Jump which)) jumps
    ++ map (λ which. (builtin_text which, w.Builtin which)) builtins)

-- ---- what is told by the table

-- what a list of words has beside a word first
abbrev pub lookup : List (Text × Terminal) → Text → Option Terminal
lookup [] word = None
lookup (entry ∷ entries) word = if bytes_eq entry.0 word then Some entry.1 else lookup entries word

-- what a word of the language is to the grammar
abbrev pub reserved : Text → Option Terminal
reserved word = lookup words word

abbrev pub builtin_kind : Numbers → Builtin → TokenKind
builtin_kind Whole which = if is_of_doubles which then kind.Refused else kind.Builtin
builtin_kind Double which = kind.Builtin

-- the kind of a word of the language
abbrev pub kind_of : Numbers → Terminal → TokenKind
kind_of numbers (w.Builtin which) = builtin_kind numbers which
kind_of numbers other = kind.Keyword

abbrev pub keyword_of : Option Terminal → Terminal
keyword_of None = w.Refused
keyword_of (Some (w.Builtin which)) = w.Refused
keyword_of (Some other) = other

abbrev pub builtin_of : Option Terminal → Terminal
builtin_of None = w.Refused
builtin_of (Some (w.Builtin which)) = w.Builtin which
builtin_of (Some other) = w.Refused

-- what a token of the kind `Keyword` is to the grammar
abbrev pub as_keyword : Text → Terminal
as_keyword text = keyword_of (reserved text)

-- what a token of the kind `Builtin` is to the grammar
abbrev pub as_builtin : Text → Terminal
as_builtin text = builtin_of (reserved text)

abbrev pub is_among : List Text → Text → Bool
is_among texts text = list_any (λ t. bytes_eq t text) texts

-- ---- names

-- a letter or `_`, then letters, digits and `_`
abbrev pub is_name : Text → Bool
is_name [] = false
is_name (c ∷ z) = begins_name c && list_all continues_name z

-- the kind of another name: 40 is `(`
abbrev pub name_kind : Text → TokenKind
name_kind rest = if slice_index rest 0 == 40 then kind.CallName else kind.Name

abbrev pub kind_or : Option TokenKind → TokenKind → TokenKind
kind_or None other = other
kind_or (Some found) other = found

-- the kind of a word or name, before this rest
abbrev pub word_kind : Numbers → Text → Text → TokenKind
word_kind numbers word rest = kind_or (option_map (kind_of numbers) (reserved word)) (name_kind rest)
