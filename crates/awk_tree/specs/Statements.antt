-- How statements, items and scripts are read: one rule of the grammar after the other
-- (POSIX.1-2017 XCU awk, "Grammar" and "Actions").
use Rattle.std.specs.Prelude.{ℕ, zero, suc, Bool, true, false, ◌&&◌, if◌then◌else◌, List, [], ◌∷◌, length, Option, Some}
use Rattle.std.specs.Prelude.{None, Ok}
use Rattle.awk_text.specs.declared.place.Place.{Place}
use Rattle.awk_tokens.specs.declared.token.Token.{Token}
use Rattle.awk_tree.specs.Looks.{each_next, else_next, ends_item, ends_print, name_of, past, redirect, skip}
use Rattle.awk_tree.specs.declared.names.Name.{Name}
use Rattle.awk_tree.specs.declared.operators.Redirect.{Redirect}
use Rattle.awk_tree.specs.declared.statements.Printed.{Printed}
use Rattle.awk_tree.specs.declared.statements.Redirection.{Redirection}
use Rattle.awk_tree.specs.declared.goals.Goal.{Goal}
use Rattle.awk_tree.specs.declared.goals.Goal.TheVariants as goal
use Rattle.awk_tree.specs.declared.goals.Nested.{Nested}
use Rattle.awk_tree.specs.declared.goals.Nested.TheVariants as nested
use Rattle.awk_tokens.specs.declared.terminals.Terminal.{Terminal}
use Rattle.awk_tokens.specs.declared.terminals.Terminal.TheVariants as w
use Rattle.awk_tree.specs.Tree as t
use Rattle.awk_tree.specs.Tree.{Tree, Statement, statements_of, Condition, Entry}
use Rattle.awk_tree.specs.Terminals.{is, look}
use Rattle.awk_tree.specs.Input.{Parser, ◌>>=◌, ◌>>◌, pure, refuse, deep, inside, any, choice, by_look, one, exactly}
use Rattle.awk_tree.specs.Input.{skipped, many}
use Rattle.awk_tree.specs.Expressions.{commas, list, expression, grouped, expr_rest, cat, expr}

-- ---- lists

abbrev pub is_several : {A : Type 0} → List A → Bool
is_several [] = false
is_several (x ∷ xs) = true

-- as many as there are up to where a list ends, with what means nothing before each; the number
-- bounds the turns
unfoldable pub until_from : {A : Type 0} → (List Token → List Token) → (List Token → Bool) → Parser A → ℕ →
    Parser (List A)
until_from gap ends part zero = λ ts. if ends (gap ts) then Ok ([], gap ts) else refuse (gap ts)
until_from gap ends part (suc n) = λ ts. if ends (gap ts) then Ok ([], gap ts)
    else (part >>= λ x. until_from gap ends part n >>= λ xs. pure (x ∷ xs)) (gap ts)

abbrev pub many_until : {A : Type 0} → (List Token → List Token) → (List Token → Bool) → Parser A → Parser (List A)
many_until gap ends part = λ ts. until_from gap ends part (length ts) ts

-- ---- simple statements

-- a simple statement ends with `;`, a newline, or before `}`
abbrev pub ended_by : Statement → Terminal → Parser Statement
ended_by x w.Semicolon = any >> pure x
ended_by x w.Newline = any >> pure x
ended_by x w.CloseBrace = pure x
ended_by x other = refuse

unfoldable pub ended : Statement → Parser Statement
ended x = by_look (ended_by x)

-- where as many levels are left as `depth` says, and `inner` reads an expression that is nested one
-- level deeper
module _ (depth : ℕ) (inner : Goal → Parser Tree) where
  -- an expression at the level of the statement
  abbrev here : Bool → Parser Tree
  here in_print = expression depth inner in_print

  -- [ expr ], where the statement ends behind it
  unfoldable pub perhaps_here : Parser (Option Tree)
  perhaps_here = choice (λ kind. if is kind w.End then pure None else (here false >>= λ x. pure (Some x)))

  -- ---- print and printf

  -- , expr
  unfoldable pub next_printed : Parser Tree
  next_printed = one w.Comma >> skipped (here true)

  unfoldable pub more_printed : Parser (List Tree)
  more_printed = many (is w.Comma) next_printed

  unfoldable pub printed_rest : Tree → Parser (Printed Tree)
  printed_rest x = more_printed >>= λ xs. pure (record { is_grouped = false; items = x ∷ xs })

  -- a list of two or more in parentheses is the whole list where it ends the list
  unfoldable pub printed_from : Place → Tree → List Tree → Parser (Printed Tree)
  printed_from place x xs = choice (λ kind.
      if is_several xs && ends_print kind then pure (record { is_grouped = true; items = x ∷ xs })
      else (grouped depth inner true place x xs >>= expr_rest depth inner true >>= printed_rest))

  unfoldable pub printed_paren : Parser (Printed Tree)
  printed_paren = one w.OpenParen >>= λ token. inner (goal.Expr false) >>= λ x. commas depth inner
      >>= λ xs. one w.CloseParen >> printed_from token.place x xs

  -- expr { , expr }
  unfoldable pub printed : Parser (Printed Tree)
  printed = choice (λ kind. if is kind w.OpenParen then printed_paren else (here true >>= printed_rest))

  unfoldable pub printed_or_none : Parser (Printed Tree)
  printed_or_none =
      choice (λ kind. if ends_print kind then pure (record { is_grouped = false; items = [] }) else printed)

  abbrev pub redirection_by : Option Redirect → Parser (Option (Redirection Tree))
  redirection_by (Some how) =
      any >>= λ token. cat depth inner >>= λ x. pure (Some (record { how = how; place = token.place; target = x }))
  redirection_by None = pure None

  -- [ (> | >> | |) cat ]
  unfoldable pub redirection : Parser (Option (Redirection Tree))
  redirection = choice (λ kind. redirection_by (redirect kind))

  unfoldable pub print : Parser Statement
  print = one w.Print >>= λ token. printed_or_none >>= λ xs. redirection >>= λ r. pure (t.print token.place xs r)

  unfoldable pub printf : Parser Statement
  printf = one w.Printf >>= λ token. printed >>= λ xs. redirection >>= λ r. pure (t.printf token.place xs r)

  -- ---- the other simple statements

  -- delete NAME | delete NAME [ list ]
  unfoldable pub delete : Parser Statement
  delete = one w.Delete >> (one w.Name >>= λ token. choice (λ kind.
      if is kind w.OpenBracket
      then (one w.OpenBracket
      >> (list depth inner >>= λ xs. one w.CloseBracket >> pure (t.delete (name_of token) xs)))
      else pure (t.delete_all (name_of token))))

  abbrev pub simple_by : Terminal → Parser Statement
  simple_by w.Print = print
  simple_by w.Printf = printf
  simple_by w.Delete = delete
  simple_by (w.Jump which) = any >>= λ token. pure (t.jump token.place which)
  simple_by w.Exit = any >>= λ token. perhaps_here >>= λ x. pure (t.exit token.place x)
  simple_by w.Return = any >>= λ token. perhaps_here >>= λ x. pure (t.return token.place x)
  simple_by other = here false >>= λ x. pure (t.plain x)

  unfoldable pub simple : Parser Statement
  simple = choice simple_by

  -- ---- parts of the statements that hold others

  -- ( expr )
  unfoldable pub condition : Parser Tree
  condition = one w.OpenParen >> (inner (goal.Expr false) >>= λ x. one w.CloseParen >> pure x)

  -- [ expr ] and the sign behind it
  unfoldable pub perhaps_until : Terminal → Parser (Option Tree)
  perhaps_until end = by_look
      (λ kind. if is kind end then (any >> pure None)
      else (inner (goal.Expr false) >>= λ x. exactly end >> pure (Some x)))

-- ---- statements that hold others. `body` reads a statement that is nested one level deeper.

module _ (depth : ℕ) (inner : Goal → Parser Tree) (body : Nested → Parser Statement) where
  -- an `else` belongs to the nearest `if`
  unfoldable pub else_rest : Tree → Statement → Parser Statement
  else_rest x s = λ ts. if else_next ts then (any >> (body nested.Body >>= λ u. pure (t.if_else x s u))) (past ts)
      else Ok (t.if_then x s, ts)

  -- if ( expr ) body [ else body ]
  unfoldable pub if_of : Parser Statement
  if_of = one w.If >> (condition depth inner >>= λ x. body nested.Body >>= λ s. else_rest x s)

  -- while ( expr ) body
  unfoldable pub while_of : Parser Statement
  while_of = one w.While >> (condition depth inner >>= λ x. body nested.Body >>= λ s. pure (t.while_do x s))

  -- do body while ( expr )
  unfoldable pub do_of : Parser Statement
  do_of = one w.Do >> (body nested.Body >>= λ s. skipped (one w.While)
      >> (condition depth inner >>= λ x. ended (t.do_while s x)))

  -- [ expr ] ; [ expr ] ; [ expr ] ) body
  unfoldable pub loop_rest : Parser Statement
  loop_rest = perhaps_until depth inner w.Semicolon >>= λ x. perhaps_until depth inner w.Semicolon
      >>= λ y. perhaps_until depth inner w.CloseParen >>= λ z. body nested.Body >>= λ s. pure (t.for_loop x y z s)

  -- NAME in NAME ) body
  unfoldable pub each_rest : Place → Parser Statement
  each_rest place = one w.Name >>= λ key. one w.In
      >> (one w.Name >>= λ array. one w.CloseParen
      >> (body nested.Body >>= λ s. pure (t.for_each place (name_of key) (name_of array) s)))

  -- behind the `(` of a for
  unfoldable pub for_rest : Place → Parser Statement
  for_rest place = λ ts. if each_next ts then each_rest place ts else loop_rest ts

  -- for ( NAME in NAME ) body | for ( [ expr ] ; [ expr ] ; [ expr ] ) body
  unfoldable pub for_of : Parser Statement
  for_of = one w.For >>= λ token. one w.OpenParen >> inside depth (for_rest token.place)

  abbrev pub statement_by : Terminal → Parser Statement
  statement_by w.Semicolon = any >> pure t.empty
  statement_by w.OpenBrace = any >> body nested.Braces
  statement_by w.If = if_of
  statement_by w.While = while_of
  statement_by w.Do = do_of
  statement_by w.For = for_of
  statement_by other = simple depth inner >>= ended

  unfoldable pub statement_here : Parser Statement
  statement_here = by_look statement_by

  -- ---- blocks

  -- as many as there are up to a `}`, with newlines before each
  unfoldable pub statements : Parser (List Statement)
  statements = many_until skip (λ ts. is (look ts) w.CloseBrace) statement_here

  -- { statement } }
  unfoldable pub braces : Parser (List Statement)
  braces = statements >>= λ xs. exactly w.CloseBrace >> pure xs

  abbrev pub nested_in : Nested → Parser Statement
  nested_in nested.Braces = braces >>= λ xs. pure (t.block (statements_of xs))
  nested_in nested.Body = skipped statement_here

-- with statements nested no deeper than the number
unfoldable pub statement : ℕ → Nested → Parser Statement
statement zero which = deep
statement (suc depth) which = nested_in depth (expr depth) (statement depth) which

-- ---- items

-- how deep parts may nest
abbrev pub levels : ℕ
levels = 200

-- { statement }
unfoldable pub action : Parser (List Statement)
action = one w.OpenBrace >> braces levels (expr levels) (statement levels)

unfoldable pub whole_expr : Parser Tree
whole_expr = expression levels (expr levels) false

-- expr | expr , expr
unfoldable pub pattern : Parser Condition
pattern = whole_expr >>= λ x.
    choice (λ kind. if is kind w.Comma then (one w.Comma >> (skipped whole_expr >>= λ y. pure (t.range x y)))
    else pure (t.single x))

unfoldable pub shown : Condition → Parser Entry
shown c = λ ts. if ends_item ts then Ok (t.shown c, ts) else refuse ts

-- pattern | pattern action
unfoldable pub rule_of : Parser Entry
rule_of =
    pattern >>= λ c. choice (λ kind. if is kind w.OpenBrace then (action >>= λ xs. pure (t.rule c xs)) else shown c)

-- , NAME
unfoldable pub next_param : Parser Name
next_param = one w.Comma >> (skipped (one w.Name) >>= λ token. pure (name_of token))

unfoldable pub more_params : Parser (List Name)
more_params = many (is w.Comma) next_param

-- [ NAME { , NAME } ]
unfoldable pub params : Parser (List Name)
params = choice (λ kind. if is kind w.CloseParen then pure []
    else (one w.Name >>= λ token. more_params >>= λ ps. pure (name_of token ∷ ps)))

-- a CALLNAME counts as the name
unfoldable pub function_name : Parser Name
function_name = choice
    (λ kind. if is kind w.CallName then (any >>= λ token. pure (name_of token))
    else (one w.Name >>= λ token. pure (name_of token)))

-- function NAME ( params ) action
unfoldable pub function_of : Parser Entry
function_of = one w.Function
    >> (function_name >>= λ f. one w.OpenParen
    >> (params >>= λ ps. one w.CloseParen >> (skipped action >>= λ xs. pure (t.function f ps xs))))

abbrev pub item_by : Terminal → Parser Entry
item_by w.BeginWord = any >> (action >>= λ xs. pure (t.at_begin xs))
item_by w.EndWord = any >> (action >>= λ xs. pure (t.at_end xs))
item_by w.Function = function_of
item_by w.OpenBrace = action >>= λ xs. pure (t.always xs)
item_by other = rule_of

unfoldable pub item : Parser Entry
item = choice item_by

abbrev pub is_done : List Token → Bool
is_done [] = true
is_done (u ∷ ts) = false

-- a whole script: as many items as there are, with newlines and `;` before each
unfoldable pub script : Parser (List Entry)
script = many_until past is_done item
