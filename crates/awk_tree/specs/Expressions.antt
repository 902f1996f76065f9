-- How expressions are read: one rule of the grammar after the other
-- (POSIX.1-2017 XCU awk, "Grammar" and "Expressions in awk", whose table of precedence the levels follow).
use Rattle.std.specs.Prelude.{ℕ, zero, suc, Bool, false, if◌then◌else◌, List, [], ◌∷◌, Option, Some, None}
use Rattle.awk_text.specs.declared.place.Place.{Place}
use Rattle.awk_tree.specs.Looks.{and_of, arithmetic_of, assignment, begins_part, comparison, concat_of, is_factor_sign}
use Rattle.awk_tree.specs.Looks.{is_lvalue, is_term_sign, listed, matching, member_of, name_of, or_of, pipe_of}
use Rattle.awk_tree.specs.Looks.{product_of, sign, step, sum_of}
use Rattle.awk_tree.specs.declared.names.Member.{Member}
use Rattle.awk_tokens.specs.declared.terminals.Assignment.{Assignment}
use Rattle.awk_tokens.specs.Words as words
use Rattle.awk_tokens.specs.declared.words.Parameters.{Parameters}
use Rattle.awk_tokens.specs.declared.words.Parameters.TheVariants as takes
use Rattle.awk_tokens.specs.declared.words.Builtin.{Builtin}
use Rattle.awk_tokens.specs.declared.words.Builtin.TheVariants as b
use Rattle.awk_tree.specs.declared.operators.Comparison.{Comparison}
use Rattle.awk_tree.specs.declared.operators.Sign.{Sign}
use Rattle.awk_tokens.specs.declared.terminals.Step.{Step}
use Rattle.awk_tree.specs.declared.expressions.Term.{Term}
use Rattle.awk_tree.specs.declared.expressions.Piped.{Piped}
use Rattle.awk_tree.specs.declared.goals.Goal.{Goal}
use Rattle.awk_tree.specs.declared.goals.Goal.TheVariants as goal
use Rattle.awk_tokens.specs.declared.terminals.Terminal.{Terminal}
use Rattle.awk_tokens.specs.declared.terminals.Terminal.TheVariants as w
use Rattle.awk_tree.specs.Tree as t
use Rattle.awk_tree.specs.Tree.{Tree, trees_of, perhaps_of}
use Rattle.awk_tree.specs.Terminals.{terminal, is}
use Rattle.awk_tree.specs.Input.{Parser, ◌>>=◌, ◌>>◌, pure, refuse, deep, inside, any, choice, one, skipped, many}

-- ---- rules without an expression in them

-- in NAME
unfoldable pub in_name : Parser Member
in_name = one w.In >>= λ word. one w.Name >>= λ token. pure (record { place = word.place; array = name_of token })

unfoldable pub in_names : Parser (List Member)
in_names = many (is w.In) in_name

unfoldable pub in_rest : Tree → Parser Tree
in_rest left = in_names >>= λ ms. pure (member_of left ms)

-- ---- rules, where as many levels are left as `depth` says, and `inner` reads what is nested one
-- level deeper

module _ (depth : ℕ) (inner : Goal → Parser Tree) where
  -- an expression in brackets of any kind
  abbrev whole : Parser Tree
  whole = inner (goal.Expr false)

  -- , expr
  unfoldable pub next_in_list : Parser Tree
  next_in_list = one w.Comma >> skipped whole

  unfoldable pub commas : Parser (List Tree)
  commas = many (is w.Comma) next_in_list

  -- list = expr { , expr }
  unfoldable pub list : Parser (List Tree)
  list = whole >>= λ x. commas >>= λ xs. pure (x ∷ xs)

  -- [ , expr ]
  unfoldable pub perhaps_next : Parser (Option Tree)
  perhaps_next = choice (λ kind. if is kind w.Comma then (next_in_list >>= λ x. pure (Some x)) else pure None)

  -- [ list ] )
  unfoldable pub list_or_none : Parser (List Tree)
  list_or_none = choice (λ kind. if is kind w.CloseParen then pure [] else list)

  -- ( [ list ] )
  unfoldable pub arguments : Parser (List Tree)
  arguments = one w.OpenParen >> (inside depth list_or_none >>= λ xs. one w.CloseParen >> pure xs)

  -- NAME | NAME [ list ]
  unfoldable pub named : Parser Tree
  named = one w.Name >>= λ token. choice (λ kind.
      if is kind w.OpenBracket
      then (one w.OpenBracket
      >> (list >>= λ xs. one w.CloseBracket >> pure (t.element (name_of token) (trees_of xs))))
      else pure (t.name (name_of token)))

  -- $ operand
  unfoldable pub field_of : Parser Tree
  field_of = one w.Dollar >>= λ token. inner goal.Operand >>= λ x. pure (t.field token.place x)

  abbrev pub lvalue_by : Terminal → Parser Tree
  lvalue_by w.Name = named
  lvalue_by w.Dollar = field_of
  lvalue_by other = refuse

  unfoldable pub lvalue : Parser Tree
  lvalue = choice lvalue_by

  -- the lvalue of a getline
  abbrev pub target_by : Terminal → Parser (Option Tree)
  target_by w.Name = named >>= λ x. pure (Some x)
  target_by w.Dollar = field_of >>= λ x. pure (Some x)
  target_by other = pure None

  unfoldable pub target : Parser (Option Tree)
  target = choice target_by

  -- the file of a getline
  unfoldable pub source : Parser (Option Tree)
  source =
      choice (λ kind. if is kind w.Less then (one w.Less >> (inner goal.File >>= λ x. pure (Some x))) else pure None)

  -- getline [ lvalue ] [ < file ]
  unfoldable pub getline : Parser Tree
  getline = one w.Getline >>= λ token. target >>= λ x. source
      >>= λ y. pure (t.getline token.place (perhaps_of x) (perhaps_of y))

  -- ---- built-in functions, behind their word

  -- ( )
  unfoldable pub of_none : Place → Builtin → Parser Tree
  of_none place which =
      one w.OpenParen >> (inside depth (one w.CloseParen) >> pure (t.builtin place which (trees_of [])))

  -- ( expr )
  unfoldable pub one_argument : Parser Tree
  one_argument = one w.OpenParen >> (whole >>= λ x. one w.CloseParen >> pure x)

  unfoldable pub of_one : Place → Builtin → Parser Tree
  of_one place which = one_argument >>= λ x. pure (t.builtin place which (trees_of (x ∷ [])))

  -- ( expr , expr )
  unfoldable pub of_two : Place → Builtin → Parser Tree
  of_two place which = one w.OpenParen
      >> (whole >>= λ x. next_in_list >>= λ y. one w.CloseParen >> pure (t.builtin place which (trees_of (x ∷ y ∷ []))))

  -- [ , expr ] )
  unfoldable pub last_next : Parser (Option Tree)
  last_next = perhaps_next >>= λ x. one w.CloseParen >> pure x

  -- ( expr , expr [ , expr ] )
  unfoldable pub of_two_or_three : Place → Builtin → Parser Tree
  of_two_or_three place which = one w.OpenParen
      >> (whole >>= λ x. next_in_list >>= λ y. last_next
      >>= λ z. pure (t.builtin place which (trees_of (x ∷ y ∷ listed z))))

  -- ( list )
  unfoldable pub of_list : Place → Builtin → Parser Tree
  of_list place which =
      one w.OpenParen >> (list >>= λ xs. one w.CloseParen >> pure (t.builtin place which (trees_of xs)))

  -- [ expr ] )
  unfoldable pub one_or_none : Parser (List Tree)
  one_or_none = choice (λ kind. if is kind w.CloseParen then pure [] else (whole >>= λ x. pure (x ∷ [])))

  -- ( [ expr ] )
  unfoldable pub of_one_or_none : Place → Builtin → Parser Tree
  of_one_or_none place which = one w.OpenParen
      >> (inside depth one_or_none >>= λ xs. one w.CloseParen >> pure (t.builtin place which (trees_of xs)))

  -- length | length ( ) | length ( expr )
  unfoldable pub length_of : Place → Parser Tree
  length_of place =
      choice (λ kind. if is kind w.OpenParen then of_one_or_none place b.Length else pure (t.bare_length place))

  -- ( expr , NAME [ , expr ] )
  unfoldable pub split_of : Place → Parser Tree
  split_of place = one w.OpenParen
      >> (whole >>= λ x. one w.Comma
      >> (skipped (one w.Name) >>= λ token. last_next >>= λ y. pure (t.split place x (name_of token) (perhaps_of y))))

  -- [ , lvalue ]
  unfoldable pub perhaps_lvalue : Parser (Option Tree)
  perhaps_lvalue = choice
      (λ kind. if is kind w.Comma then (one w.Comma >> (skipped (inner goal.Lvalue) >>= λ x. pure (Some x)))
      else pure None)

  -- [ , lvalue ] )
  unfoldable pub last_lvalue : Parser (Option Tree)
  last_lvalue = perhaps_lvalue >>= λ x. one w.CloseParen >> pure x

  -- ( expr , expr [ , lvalue ] )
  unfoldable pub substitute_of : Place → Bool → Parser Tree
  substitute_of place all = one w.OpenParen
      >> (whole >>= λ x. next_in_list >>= λ y. last_lvalue >>= λ z. pure (t.substitute place all x y (perhaps_of z)))

  abbrev pub parameters_by : Place → Builtin → Parameters → Parser Tree
  parameters_by place which takes.Zero = of_none place which
  parameters_by place which takes.One = of_one place which
  parameters_by place which takes.AtMostOne = of_one_or_none place which
  parameters_by place which takes.Two = of_two place which
  parameters_by place which takes.TwoOrThree = of_two_or_three place which
  parameters_by place which takes.OneOrMore = of_list place which
  parameters_by place which takes.Measured = length_of place
  parameters_by place which takes.Pieces = split_of place
  parameters_by place which (takes.Replaced all) = substitute_of place all

  abbrev pub builtin_by : Place → Builtin → Parser Tree
  builtin_by place which = parameters_by place which (words.parameters which)

  unfoldable pub builtin : Builtin → Parser Tree
  builtin which = any >>= λ token. builtin_by token.place which

  -- ---- operands

  -- ( expr )
  unfoldable pub in_paren : Parser Tree
  in_paren = one w.OpenParen >>= λ token. whole >>= λ x. one w.CloseParen >> pure (t.paren token.place x)

  -- CALLNAME ( [ list ] )
  unfoldable pub call_of : Parser Tree
  call_of = one w.CallName >>= λ token. arguments >>= λ xs. pure (t.call (name_of token) (trees_of xs))

  abbrev pub prim_by : Terminal → Parser Tree
  prim_by w.Number = any >>= λ token. pure (t.number token.place token.text)
  prim_by w.Quoted = any >>= λ token. pure (t.quoted token.place token.text)
  prim_by w.Pattern = any >>= λ token. pure (t.pattern token.place token.text)
  prim_by w.Name = named
  prim_by w.Dollar = field_of
  prim_by w.OpenParen = in_paren
  prim_by w.CallName = call_of
  prim_by (w.Builtin which) = builtin which
  prim_by w.Getline = getline
  prim_by other = refuse

  unfoldable pub prim : Parser Tree
  prim = choice prim_by

  -- (++ | --) lvalue
  unfoldable pub step_before : Step → Parser Tree
  step_before which = any >>= λ token. inner goal.Lvalue >>= λ x. pure (t.before token.place which x)

  -- (! | + | -) and what stands after it
  unfoldable pub signed_by : Sign → Goal → Parser Tree
  signed_by which rest = any >>= λ token. inner rest >>= λ x. pure (t.signed token.place which x)

  -- dol = (! | + | -) dol | (++ | --) lvalue | prim
  abbrev pub step_or_prim : Option Step → Parser Tree
  step_or_prim (Some which) = step_before which
  step_or_prim None = prim

  abbrev pub operand_by : Option Sign → Terminal → Parser Tree
  operand_by (Some which) kind = signed_by which goal.Operand
  operand_by None kind = step_or_prim (step kind)

  unfoldable pub operand : Parser Tree
  operand = choice (λ kind. operand_by (sign kind) kind)

  -- inc = (++ | --) lvalue | lvalue (++ | --) | prim
  abbrev pub after_by : Tree → Option Step → Parser Tree
  after_by left (Some which) =
      if is_lvalue left then (any >>= λ token. pure (t.after left token.place which)) else pure left
  after_by left None = pure left

  unfoldable pub step_after : Tree → Parser Tree
  step_after left = choice (λ kind. after_by left (step kind))

  abbrev pub inc_by : Option Step → Parser Tree
  inc_by (Some which) = step_before which
  inc_by None = prim >>= step_after

  unfoldable pub inc : Parser Tree
  inc = choice (λ kind. inc_by (step kind))

  -- pow = inc [ ^ unary ]
  unfoldable pub power_rest : Tree → Parser Tree
  power_rest left = choice
      (λ kind. if is kind w.Caret
      then (one w.Caret >>= λ token. inner goal.Unary >>= λ x. pure (t.power left token.place x)) else pure left)

  -- unary = (! | + | -) unary | pow
  abbrev pub unary_by : Option Sign → Parser Tree
  unary_by (Some which) = signed_by which goal.Unary
  unary_by None = inc >>= power_rest

  unfoldable pub unary : Parser Tree
  unary = choice (λ kind. unary_by (sign kind))

  -- ---- chains, each from its first operand on

  -- mul = unary { (* | / | %) unary }
  unfoldable pub factor : Parser (Term Tree)
  factor = any >>= λ token. unary
      >>= λ x. pure (record { operator = arithmetic_of (terminal token); place = token.place; operand = x })

  unfoldable pub factors : Parser (List (Term Tree))
  factors = many is_factor_sign factor

  unfoldable pub product_rest : Tree → Parser Tree
  product_rest left = factors >>= λ xs. pure (product_of left xs)

  -- add = mul { (+ | -) mul }
  unfoldable pub addend : Parser (Term Tree)
  addend = any >>= λ token. unary >>= product_rest
      >>= λ x. pure (record { operator = arithmetic_of (terminal token); place = token.place; operand = x })

  unfoldable pub addends : Parser (List (Term Tree))
  addends = many is_term_sign addend

  unfoldable pub sum_rest : Tree → Parser Tree
  sum_rest left = addends >>= λ xs. pure (sum_of left xs)

  -- cat = add { add }
  unfoldable pub part : Parser Tree
  part = unary >>= product_rest >>= sum_rest

  unfoldable pub parts : Parser (List Tree)
  parts = many begins_part part

  unfoldable pub concat_rest : Tree → Parser Tree
  concat_rest left = parts >>= λ xs. pure (concat_of left xs)

  unfoldable pub cat : Parser Tree
  cat = part >>= concat_rest

  -- pipe = cat { | getline [ lvalue ] }
  unfoldable pub one_pipe : Parser (Piped Tree)
  one_pipe = any >> (one w.Getline >>= λ token. target >>= λ x. pure (record { place = token.place; target = x }))

  unfoldable pub pipes : Parser (List (Piped Tree))
  pipes = many (is w.BarGetline) one_pipe

  unfoldable pub pipe_rest : Tree → Parser Tree
  pipe_rest left = pipes >>= λ xs. pure (pipe_of left xs)

  unfoldable pub pipe : Parser Tree
  pipe = cat >>= pipe_rest

  -- cmp = pipe [ (< | <= | != | == | > | >=) pipe ]
  abbrev pub compare_by : Tree → Option Comparison → Parser Tree
  compare_by left (Some how) = any >>= λ token. pipe >>= λ x. pure (t.compare left token.place how x)
  compare_by left None = pure left

  unfoldable pub compare_rest : Bool → Tree → Parser Tree
  compare_rest in_print left = choice (λ kind. compare_by left (comparison in_print kind))

  unfoldable pub cmp : Bool → Parser Tree
  cmp in_print = pipe >>= compare_rest in_print

  -- match = cmp [ (~ | !~) cmp ]
  abbrev pub match_by : Bool → Tree → Option Bool → Parser Tree
  match_by in_print left (Some unlike) =
      any >>= λ token. cmp in_print >>= λ x. pure (t.matched left token.place unlike x)
  match_by in_print left None = pure left

  unfoldable pub match_rest : Bool → Tree → Parser Tree
  match_rest in_print left = choice (λ kind. match_by in_print left (matching kind))

  -- from the first unary of a chain on, up to `in`
  unfoldable pub unary_rest : Bool → Tree → Parser Tree
  unary_rest in_print left = product_rest left >>= sum_rest >>= concat_rest >>= pipe_rest >>= compare_rest in_print
      >>= match_rest in_print >>= in_rest

  -- what stands in parentheses: an operand, or the list of two or more before `in`
  abbrev pub grouped : Bool → Place → Tree → List Tree → Parser Tree
  grouped in_print place x [] = power_rest (t.paren place x) >>= unary_rest in_print
  grouped in_print place x (y ∷ xs) =
      in_name >>= λ m. in_names >>= λ ms. pure (t.group place (trees_of (x ∷ y ∷ xs)) (m ∷ ms))

  unfoldable pub from_paren : Bool → Parser Tree
  from_paren in_print =
      one w.OpenParen >>= λ token. whole >>= λ x. commas >>= λ xs. one w.CloseParen >> grouped in_print token.place x xs

  -- isin = match { in NAME } | ( list ) in NAME { in NAME }
  unfoldable pub isin : Bool → Parser Tree
  isin in_print = choice (λ kind. if is kind w.OpenParen then from_paren in_print else (unary >>= unary_rest in_print))

  -- lvalue (= | += | ..) expr, or what stands there
  abbrev pub assigned_by : Bool → Tree → Option Assignment → Parser Tree
  assigned_by in_print left (Some how) = if is_lvalue left
      then (any >>= λ token. inner (goal.Expr in_print) >>= λ x. pure (t.assign left token.place how x)) else pure left
  assigned_by in_print left None = pure left

  unfoldable pub assigned : Bool → Tree → Parser Tree
  assigned in_print left = choice (λ kind. assigned_by in_print left (assignment kind))

  -- and = isin { && isin }. After the expression on the right of an assignment no `&&`, `||` or `?`
  -- is left to stand, so an assignment is the last of its chains.
  unfoldable pub conjunct : Bool → Parser Tree
  conjunct in_print = isin in_print >>= assigned in_print

  unfoldable pub next_conjunct : Bool → Parser Tree
  next_conjunct in_print = one w.And >> skipped (conjunct in_print)

  unfoldable pub conjuncts : Bool → Parser (List Tree)
  conjuncts in_print = many (is w.And) (next_conjunct in_print)

  unfoldable pub and_rest : Bool → Tree → Parser Tree
  and_rest in_print left = conjuncts in_print >>= λ xs. pure (and_of left xs)

  -- or = and { || and }
  unfoldable pub next_disjunct : Bool → Parser Tree
  next_disjunct in_print = one w.Or >> (skipped (conjunct in_print) >>= and_rest in_print)

  unfoldable pub disjuncts : Bool → Parser (List Tree)
  disjuncts in_print = many (is w.Or) (next_disjunct in_print)

  unfoldable pub or_rest : Bool → Tree → Parser Tree
  or_rest in_print left = disjuncts in_print >>= λ xs. pure (or_of left xs)

  -- ? expr :
  unfoldable pub then_branch : Bool → Parser Tree
  then_branch in_print = one w.Question >> (inner (goal.Expr in_print) >>= λ x. one w.Colon >> pure x)

  -- cond = or [ ? expr : expr ]
  unfoldable pub choose_rest : Bool → Tree → Parser Tree
  choose_rest in_print left =
      choice (λ kind. if is kind w.Question
      then (then_branch in_print >>= λ x. inner (goal.Expr in_print) >>= λ y. pure (t.choose left x y)) else pure left)

  -- from the first operand of a chain on, to the end of an expression
  unfoldable pub expr_rest : Bool → Tree → Parser Tree
  expr_rest in_print left = assigned in_print left >>= and_rest in_print >>= or_rest in_print >>= choose_rest in_print

  unfoldable pub expression : Bool → Parser Tree
  expression in_print = isin in_print >>= expr_rest in_print

  abbrev pub level : Goal → Parser Tree
  level (goal.Expr in_print) = expression in_print
  level goal.Unary = unary
  level goal.Operand = operand
  level goal.Lvalue = lvalue
  level goal.File = inc

-- with expressions nested no deeper than the number
unfoldable pub expr : ℕ → Goal → Parser Tree
expr zero which = deep
expr (suc depth) which = level depth (expr depth) which
