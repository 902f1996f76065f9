-- A program as plain data: a variable of the script is its name, a parameter its place among those of
-- its function, a function its place among the functions, and a constant is what it stands for.
use Rattle.std.specs.Prelude.{ℕ, Bool, List, [], ◌∷◌, Option}
use Rattle.awk_numbers.specs.declared.number.Number.{Number}
use Rattle.awk_text.specs.declared.place.Place.{Place}
use Rattle.awk_program.specs.declared.builtins.Builtin.{Builtin}
use Rattle.awk_program.specs.declared.jumps.Jump.{Jump}
use Rattle.awk_program.specs.declared.operators.Comparison.{Comparison}
use Rattle.awk_program.specs.declared.operators.Extent.{Extent}
use Rattle.awk_program.specs.declared.operators.Operator.{Operator}
use Rattle.awk_program.specs.declared.operators.Sign.{Sign}
use Rattle.awk_program.specs.declared.operators.Step.{Step}
use Rattle.awk_program.specs.declared.operators.StepValue.{StepValue}
use Rattle.awk_program.specs.declared.expressions.Term.{Term}
use Rattle.awk_program.specs.declared.expressions.Joined.{Joined}
use Rattle.awk_program.specs.declared.statements.Redirection.{Redirection}
use Rattle.awk_program.specs.declared.program.GlobalName.{GlobalName}
use Rattle.awk_program.specs.Slots.{Text}

pub data Variable : Type 0 where
  global : Text → Variable
  parameter : ℕ → Variable

-- ---- expressions

mutual
  pub data Expression : Type 0 where
    number : Number → Expression
    text : Text → Expression
    pattern : Place → Text → Expression
    read : Reference → Expression
    assign : Place → Reference → Expression → Expression
    change : Place → Operator → Reference → Expression → Expression
    step : Place → Step → StepValue → Reference → Expression
    not : Expression → Expression
    signed : Place → Sign → Expression → Expression
    -- an operand of which a text is wanted: of a number with a fraction the text that CONVFMT makes of it
    as_text : Place → Expression → Expression
    chain : Expression → Terms → Expression
    concat : Expression → Joins → Expression
    compare : Place → Comparison → Expression → Expression → Expression
    matched : Place → Expression → Ere → Expression
    member : Expression → List Variable → Expression
    group : Place → Expressions → List Variable → Expression
    and : Expression → Expressions → Expression
    or : Expression → Expressions → Expression
    choose : Expression → Expression → Expression → Expression
    call : Place → ℕ → Arguments → Expression
    getline : Place → Reference → Expression
    getline_file : Place → Reference → Expression → Expression
    pipe : Expression → Pipes → Expression
    builtin : Place → Builtin → Expressions → Expression
    -- how many elements an array has
    count : Variable → Expression
    locate : Place → Expression → Ere → Expression
    split : Place → Expression → Place → Variable → Ere → Expression
    substitute : Place → Extent → Ere → Expression → Reference → Expression

  -- whatever is read or set
  pub data Reference : Type 0 where
    variable : Variable → Reference
    element : Place → Variable → Expressions → Reference
    field : Place → Expression → Reference

  -- what stands where a pattern is wanted
  pub data Ere : Type 0 where
    constant : Place → Text → Ere
    computed : Expression → Ere

  pub data Expressions : Type 0 where
    none : Expressions
    more : Expression → Expressions → Expressions

  pub data Terms : Type 0 where
    no_terms : Terms
    term : Operator → Place → Expression → Terms → Terms

  pub data Joins : Type 0 where
    no_joins : Joins
    join : Place → Expression → Joins → Joins

  pub data Pipes : Type 0 where
    no_pipes : Pipes
    piped : Place → Reference → Pipes → Pipes

  pub data Arguments : Type 0 where
    no_arguments : Arguments
    by_value : Expression → Arguments → Arguments
    by_name : Variable → Arguments → Arguments
    by_nothing : Arguments → Arguments

abbrev pub expressions_of : List Expression → Expressions
expressions_of [] = none
expressions_of (x ∷ xs) = more x (expressions_of xs)

abbrev pub terms_of : List (Term Expression) → Terms
terms_of [] = no_terms
terms_of (t ∷ ts) = term t.operator t.place t.operand (terms_of ts)

abbrev pub joins_of : List (Joined Expression) → Joins
joins_of [] = no_joins
joins_of (t ∷ ts) = join t.place t.operand (joins_of ts)

-- ---- statements

mutual
  pub data Statement : Type 0 where
    plain : Expression → Statement
    print : Place → List Expression → Option (Redirection Expression) → Statement
    printf : Place → Expression → List Expression → Option (Redirection Expression) → Statement
    delete : Place → Variable → List Expression → Statement
    delete_all : Variable → Statement
    jump : Jump → Statement
    exit : Place → Option Expression → Statement
    return : Option Expression → Statement
    block : Statements → Statement
    if_then : Expression → Statement → Statement
    if_else : Expression → Statement → Statement → Statement
    while_do : Expression → Statement → Statement
    do_while : Statement → Expression → Statement
    for_loop : Option Expression → Option Expression → Option Expression → Statement → Statement
    for_each : Place → Variable → Variable → Statement → Statement

  pub data Statements : Type 0 where
    no_more : Statements
    then_also : Statement → Statements → Statements

abbrev pub statements_of : List Statement → Statements
statements_of [] = no_more
statements_of (x ∷ xs) = then_also x (statements_of xs)

-- ---- rules and functions

-- the records that an action is done for
pub data When : Type 0 where
  always : When
  holds : Expression → When
  range : Expression → Expression → When

pub record Rule : Type 0 where
  pub when : When
  pub action : List Statement

pub record Function : Type 0 where
  pub name : Text
  -- of each parameter whether it is an array
  pub parameters : List Bool
  pub body : List Statement

pub record Program : Type 0 where
  -- the variables of the whole script, awk's own first
  pub variables : List GlobalName
  pub functions : List Function
  -- the actions of BEGIN, the rules for each record, and the actions of END
  pub begin : List (List Statement)
  pub rules : List Rule
  pub end : List (List Statement)
