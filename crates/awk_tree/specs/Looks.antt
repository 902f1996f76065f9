-- What a rule of the grammar sees of the tokens that come next, and what it makes of the trees that it has
-- (POSIX.1-2017 XCU awk, "Grammar"). Both ways to say the grammar stand on it: the rules that read (Expressions,
-- Statements), and those that spell (awk_parse).
use Rattle.std.specs.Prelude.{Bool, true, false, ◌&&◌, ◌||◌, if◌then◌else◌, List, [], ◌∷◌, Option, Some, None}
use Rattle.awk_tokens.specs.declared.token.Token.{Token}
use Rattle.awk_tree.specs.declared.names.Name.{Name}
use Rattle.awk_tree.specs.declared.names.Member.{Member}
use Rattle.awk_tree.specs.declared.operators.Arithmetic.{Arithmetic}
use Rattle.awk_tree.specs.declared.operators.Arithmetic.TheVariants as arithmetic
use Rattle.awk_tokens.specs.declared.terminals.Assignment.{Assignment}
use Rattle.awk_tree.specs.declared.operators.Comparison.{Comparison}
use Rattle.awk_tree.specs.declared.operators.Comparison.TheVariants as c
use Rattle.awk_tree.specs.declared.operators.Redirect.{Redirect}
use Rattle.awk_tree.specs.declared.operators.Redirect.TheVariants as to
use Rattle.awk_tree.specs.declared.operators.Sign.{Sign}
use Rattle.awk_tree.specs.declared.operators.Sign.TheVariants as prefix
use Rattle.awk_tokens.specs.declared.terminals.Step.{Step}
use Rattle.awk_tree.specs.declared.expressions.Term.{Term}
use Rattle.awk_tree.specs.declared.expressions.Piped.{Piped}
use Rattle.awk_tokens.specs.declared.terminals.Terminal.{Terminal}
use Rattle.awk_tokens.specs.declared.terminals.Terminal.TheVariants as w
use Rattle.awk_tree.specs.Tree as t
use Rattle.awk_tree.specs.Tree.{Tree, trees_of, terms_of, pipes_of}
use Rattle.awk_tree.specs.Terminals.{terminal, is, look}

-- ---- what a terminal is to a rule

abbrev pub sign : Terminal → Option Sign
sign w.Not = Some prefix.Not
sign w.Plus = Some prefix.Plus
sign w.Minus = Some prefix.Minus
sign other = None

abbrev pub step : Terminal → Option Step
step (w.Step which) = Some which
step other = None

abbrev pub is_factor_sign : Terminal → Bool
is_factor_sign w.Star = true
is_factor_sign w.Slash = true
is_factor_sign w.Percent = true
is_factor_sign other = false

abbrev pub is_term_sign : Terminal → Bool
is_term_sign w.Plus = true
is_term_sign w.Minus = true
is_term_sign other = false

abbrev pub arithmetic_of : Terminal → Arithmetic
arithmetic_of w.Star = arithmetic.Multiply
arithmetic_of w.Slash = arithmetic.Divide
arithmetic_of w.Percent = arithmetic.Remainder
arithmetic_of w.Minus = arithmetic.Subtract
arithmetic_of other = arithmetic.Add

-- what a later operand of a concatenation begins with: no `+` and no `-`
abbrev pub begins_part : Terminal → Bool
begins_part w.Number = true
begins_part w.Quoted = true
begins_part w.Pattern = true
begins_part w.Name = true
begins_part w.CallName = true
begins_part (w.Builtin which) = true
begins_part w.Dollar = true
begins_part w.Not = true
begins_part w.OpenParen = true
begins_part (w.Step which) = true
begins_part w.Getline = true
begins_part other = false

-- In the list of a print, `>` outside parentheses is a redirection: the flag says so.
abbrev pub comparison : Bool → Terminal → Option Comparison
comparison in_print w.Less = Some c.Less
comparison in_print w.LessOrEqual = Some c.LessOrEqual
comparison in_print w.Equal = Some c.Equal
comparison in_print w.NotEqual = Some c.NotEqual
comparison in_print w.Greater = if in_print then None else Some c.Greater
comparison in_print w.GreaterOrEqual = Some c.GreaterOrEqual
comparison in_print other = None

-- `~`, or with true `!~`
abbrev pub matching : Terminal → Option Bool
matching w.Tilde = Some false
matching w.NotTilde = Some true
matching other = None

abbrev pub assignment : Terminal → Option Assignment
assignment (w.Assign how) = Some how
assignment other = None

-- whether the list of a print ends here
abbrev pub ends_print : Terminal → Bool
ends_print w.End = true
ends_print w.Greater = true
ends_print w.Append = true
ends_print w.Bar = true
ends_print other = false

abbrev pub redirect : Terminal → Option Redirect
redirect w.Greater = Some to.Write
redirect w.Append = Some to.Append
redirect w.Bar = Some to.Command
redirect other = None

-- ---- what stands next

-- newlines that mean nothing
abbrev pub skip : List Token → List Token
skip [] = []
skip (t ∷ ts) = if is (look (t ∷ ts)) w.Newline then skip ts else t ∷ ts

-- newlines and `;` that mean nothing
abbrev pub past : List Token → List Token
past [] = []
past (t ∷ ts) = if is (look (t ∷ ts)) w.Newline || is (look (t ∷ ts)) w.Semicolon then past ts else t ∷ ts

-- whether `else` comes next, behind newlines and `;`
abbrev pub else_next : List Token → Bool
else_next ts = is (look (past ts)) w.Else

-- NAME in NAME ) comes next
abbrev pub each_next : List Token → Bool
each_next (a ∷ b ∷ c ∷ d ∷ ts) =
    is (terminal a) w.Name && (is (terminal b) w.In && (is (terminal c) w.Name && is (terminal d) w.CloseParen))
each_next other = false

-- whether an item without a `}` may end here
abbrev pub ends_item : List Token → Bool
ends_item [] = true
ends_item (u ∷ ts) = is (look (u ∷ ts)) w.Newline || is (look (u ∷ ts)) w.Semicolon

-- ---- nodes

abbrev pub name_of : Token → Name
name_of token = record { text = token.text; place = token.place }

abbrev pub is_lvalue : Tree → Bool
is_lvalue (t.name n) = true
is_lvalue (t.element n xs) = true
is_lvalue (t.field p x) = true
is_lvalue other = false

abbrev pub listed : Option Tree → List Tree
listed None = []
listed (Some x) = x ∷ []

-- a chain of one operand is that operand
abbrev pub product_of : Tree → List (Term Tree) → Tree
product_of left [] = left
product_of left (x ∷ xs) = t.product left (terms_of (x ∷ xs))

abbrev pub sum_of : Tree → List (Term Tree) → Tree
sum_of left [] = left
sum_of left (x ∷ xs) = t.sum left (terms_of (x ∷ xs))

abbrev pub concat_of : Tree → List Tree → Tree
concat_of left [] = left
concat_of left (x ∷ xs) = t.concat left (trees_of (x ∷ xs))

abbrev pub pipe_of : Tree → List (Piped Tree) → Tree
pipe_of left [] = left
pipe_of left (x ∷ xs) = t.pipe left (pipes_of (x ∷ xs))

abbrev pub member_of : Tree → List Member → Tree
member_of left [] = left
member_of left (m ∷ ms) = t.member left (m ∷ ms)

abbrev pub and_of : Tree → List Tree → Tree
and_of left [] = left
and_of left (x ∷ xs) = t.and left (trees_of (x ∷ xs))

abbrev pub or_of : Tree → List Tree → Tree
or_of left [] = left
or_of left (x ∷ xs) = t.or left (trees_of (x ∷ xs))
