-- What a token is to the grammar (POSIX.1-2017 XCU awk, "Grammar": its terminal symbols).
use Rattle.std.specs.Prelude.{ℕ, Bool, true, false, if◌then◌else◌, ◌==◌, List, [], ◌∷◌, codes}
use Rattle.std.specs.Str.{bytes_eq}
use Rattle.awk_text.specs.declared.place.Place.{Place}
use Rattle.awk_tokens.specs.Words as words
use Rattle.awk_tokens.specs.declared.token.Token.{Token}
use Rattle.awk_tokens.specs.declared.kinds.TokenKind.{TokenKind}
use Rattle.awk_tokens.specs.declared.kinds.TokenKind.TheVariants as kind
use Rattle.awk_tokens.specs.declared.terminals.Assignment.{Assignment}
use Rattle.awk_tokens.specs.declared.terminals.Assignment.TheVariants as set
use Rattle.awk_tokens.specs.declared.terminals.Step.{Step}
use Rattle.awk_tokens.specs.declared.terminals.Step.TheVariants as step
use Rattle.awk_tokens.specs.declared.terminals.Terminal.{Terminal}
use Rattle.awk_tokens.specs.declared.terminals.Terminal.TheVariants as w
use Rattle.awk_tokens.specs.declared.words.Builtin.{Builtin}
use Rattle.awk_tokens.specs.declared.words.Builtin.TheVariants as b
use Rattle.awk_tree.specs.Tree.{Text}

-- ---- how each sign is spelled; awk_tokens has the words

abbrev pub assignment_text : Assignment → Text
assignment_text set.Set = codes "="
assignment_text set.Add = codes "+="
assignment_text set.Subtract = codes "-="
assignment_text set.Multiply = codes "*="
assignment_text set.Divide = codes "/="
assignment_text set.Remainder = codes "%="
assignment_text set.Power = codes "^="

abbrev pub step_text : Step → Text
step_text step.Increment = codes "++"
step_text step.Decrement = codes "--"

-- `sub`, and with true `gsub`
abbrev pub substituting : Bool → Builtin
substituting true = b.Gsub
substituting false = b.Sub

-- the signs of one byte, by their bytes; 10 is the newline
abbrev pub singles : List (ℕ × Terminal)
singles =
    (10, w.Newline) ∷ (33, w.Not) ∷ (36, w.Dollar) ∷ (37, w.Percent) ∷ (40, w.OpenParen) ∷ (41, w.CloseParen)
    ∷ (42, w.Star) ∷ (43, w.Plus) ∷ (44, w.Comma) ∷ (45, w.Minus) ∷ (47, w.Slash)
    ∷ (58, w.Colon) ∷ (59, w.Semicolon) ∷ (60, w.Less) ∷ (61, w.Assign set.Set) ∷ (62, w.Greater) ∷ (63, w.Question)
    ∷ (91, w.OpenBracket) ∷ (93, w.CloseBracket) ∷ (94, w.Caret)
    ∷ (123, w.OpenBrace) ∷ (124, w.Bar) ∷ (125, w.CloseBrace) ∷ (126, w.Tilde) ∷ []

-- the signs of two bytes
abbrev pub doubles : List (Text × Terminal)
doubles =
    (codes "+=", w.Assign set.Add) ∷ (codes "-=", w.Assign set.Subtract) ∷ (codes "*=", w.Assign set.Multiply)
    ∷ (codes "/=", w.Assign set.Divide) ∷ (codes "%=", w.Assign set.Remainder)
    ∷ (codes "^=", w.Assign set.Power) ∷ (codes "==", w.Equal) ∷ (codes "<=", w.LessOrEqual)
    ∷ (codes ">=", w.GreaterOrEqual) ∷ (codes "!=", w.NotEqual) ∷ (codes "!~", w.NotTilde)
    ∷ (codes "++", w.Step step.Increment) ∷ (codes "--", w.Step step.Decrement) ∷ (codes "&&", w.And)
    ∷ (codes "||", w.Or) ∷ (codes ">>", w.Append) ∷ []

abbrev pub word_in : List (Text × Terminal) → Text → Terminal
word_in [] text = w.Refused
word_in (entry ∷ entries) text = if bytes_eq entry.0 text then entry.1 else word_in entries text

abbrev pub byte_in : List (ℕ × Terminal) → ℕ → Terminal
byte_in [] byte = w.Refused
byte_in (entry ∷ entries) byte = if entry.0 == byte then entry.1 else byte_in entries byte

abbrev pub sign_of : Text → Terminal
sign_of (c ∷ []) = byte_in singles c
sign_of text = word_in doubles text

-- what a token of this kind and text is
unfoldable pub terminal_of : TokenKind → Text → Terminal
terminal_of kind.Number text = w.Number
terminal_of kind.Quoted text = w.Quoted
terminal_of kind.Pattern text = w.Pattern
terminal_of kind.Keyword text = words.as_keyword text
terminal_of kind.Builtin text = words.as_builtin text
terminal_of kind.Refused text = w.Refused
terminal_of kind.Name text = w.Name
terminal_of kind.CallName text = w.CallName
terminal_of kind.Sign text = sign_of text

abbrev pub terminal : Token → Terminal
terminal t = terminal_of t.kind t.text

-- ---- the tokens of the canonical spelling

abbrev pub nowhere : Place
nowhere = record { line = 0; column = 0 }

abbrev pub token : TokenKind → Text → Token
token kind text = record { kind = kind; text = text; start = 0; place = nowhere; end = nowhere }

abbrev pub sign : Text → Token
sign text = token kind.Sign text

abbrev pub keyword : Text → Token
keyword text = token kind.Keyword text

-- ---- whether two are the same. The number of each:

abbrev pub number_of : Terminal → ℕ
number_of w.End = 0
number_of w.Newline = 1
number_of w.Semicolon = 2
number_of w.CloseBrace = 3
number_of w.OpenBrace = 4
number_of w.OpenParen = 5
number_of w.CloseParen = 6
number_of w.OpenBracket = 7
number_of w.CloseBracket = 8
number_of w.Comma = 9
number_of w.Number = 10
number_of w.Quoted = 11
number_of w.Pattern = 12
number_of w.Name = 13
number_of w.CallName = 14
number_of (w.Builtin which) = 15
number_of w.Plus = 16
number_of w.Minus = 17
number_of w.Star = 18
number_of w.Slash = 19
number_of w.Percent = 20
number_of w.Caret = 21
number_of w.Not = 22
number_of w.Greater = 23
number_of w.Less = 24
number_of w.Bar = 25
number_of w.BarGetline = 26
number_of w.Question = 27
number_of w.Colon = 28
number_of w.Tilde = 29
number_of w.Dollar = 30
number_of (w.Assign which) = 31
number_of w.Equal = 32
number_of w.LessOrEqual = 33
number_of w.GreaterOrEqual = 34
number_of w.NotEqual = 35
number_of w.NotTilde = 36
number_of (w.Step which) = 37
number_of w.And = 38
number_of w.Or = 39
number_of w.Append = 40
number_of w.BeginWord = 41
number_of w.EndWord = 42
number_of (w.Jump which) = 43
number_of w.Delete = 44
number_of w.Do = 45
number_of w.Else = 46
number_of w.Exit = 47
number_of w.For = 48
number_of w.Function = 49
number_of w.Getline = 50
number_of w.If = 51
number_of w.In = 52
number_of w.Print = 53
number_of w.Printf = 54
number_of w.Return = 55
number_of w.While = 56
number_of w.Refused = 57

-- the same form of terminal, whatever built-in, jump, assignment or step it is
abbrev pub is : Terminal → Terminal → Bool
is one other = number_of one == number_of other

-- ---- the next token

-- to an expression, a newline, `;`, `}` and the end are all alike
abbrev pub calm : Terminal → Terminal
calm w.Newline = w.End
calm w.Semicolon = w.End
calm w.CloseBrace = w.End
calm other = other

-- a `|` before `getline` is not the one of an output command
abbrev pub seen : Terminal → Bool → Terminal
seen w.Bar true = w.BarGetline
seen other before_getline = calm other

abbrev pub look : List Token → Terminal
look [] = w.End
look (t ∷ ts) = terminal t

-- the next token, as an expression sees it
abbrev pub ahead : List Token → Terminal
ahead [] = w.End
ahead (t ∷ ts) = seen (terminal t) (is (look ts) w.Getline)
