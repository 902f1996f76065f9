-- The tree of a script, as plain data: a case for each form of the grammar
-- (POSIX.1-2017 XCU awk, "Grammar").
use Rattle.std.specs.Prelude.{ℕ, Bool, List, [], ◌∷◌, Option, Some, None}
use Rattle.awk_text.specs.declared.place.Place.{Place}
use Rattle.awk_tree.specs.declared.names.Name.{Name}
use Rattle.awk_tree.specs.declared.names.Member.{Member}
use Rattle.awk_tree.specs.declared.operators.Arithmetic.{Arithmetic}
use Rattle.awk_tokens.specs.declared.terminals.Assignment.{Assignment}
use Rattle.awk_tokens.specs.declared.words.Builtin.{Builtin}
use Rattle.awk_tokens.specs.declared.words.Jump.{Jump}
use Rattle.awk_tree.specs.declared.operators.Comparison.{Comparison}
use Rattle.awk_tree.specs.declared.operators.Sign.{Sign}
use Rattle.awk_tokens.specs.declared.terminals.Step.{Step}
use Rattle.awk_tree.specs.declared.expressions.Term.{Term}
use Rattle.awk_tree.specs.declared.expressions.Piped.{Piped}
use Rattle.awk_tree.specs.declared.statements.Printed.{Printed}
use Rattle.awk_tree.specs.declared.statements.Redirection.{Redirection}

abbrev pub Text : Type 0
Text = List ℕ

-- ---- expressions

mutual
  pub data Tree : Type 0 where
    number : Place → Text → Tree
    quoted : Place → Text → Tree
    pattern : Place → Text → Tree
    name : Name → Tree
    element : Name → Trees → Tree
    field : Place → Tree → Tree
    paren : Place → Tree → Tree
    call : Name → Trees → Tree
    builtin : Place → Builtin → Trees → Tree
    bare_length : Place → Tree
    split : Place → Tree → Name → Perhaps → Tree
    substitute : Place → Bool → Tree → Tree → Perhaps → Tree
    getline : Place → Perhaps → Perhaps → Tree
    before : Place → Step → Tree → Tree
    after : Tree → Place → Step → Tree
    signed : Place → Sign → Tree → Tree
    power : Tree → Place → Tree → Tree
    product : Tree → Terms → Tree
    sum : Tree → Terms → Tree
    concat : Tree → Trees → Tree
    pipe : Tree → Pipes → Tree
    compare : Tree → Place → Comparison → Tree → Tree
    matched : Tree → Place → Bool → Tree → Tree
    group : Place → Trees → List Member → Tree
    member : Tree → List Member → Tree
    and : Tree → Trees → Tree
    or : Tree → Trees → Tree
    choose : Tree → Tree → Tree → Tree
    assign : Tree → Place → Assignment → Tree → Tree

  pub data Trees : Type 0 where
    none : Trees
    more : Tree → Trees → Trees

  -- a part that may be absent
  pub data Perhaps : Type 0 where
    absent : Perhaps
    present : Tree → Perhaps

  pub data Terms : Type 0 where
    no_terms : Terms
    term : Arithmetic → Place → Tree → Terms → Terms

  pub data Pipes : Type 0 where
    no_pipes : Pipes
    piped : Place → Perhaps → Pipes → Pipes

abbrev pub trees_of : List Tree → Trees
trees_of [] = none
trees_of (x ∷ xs) = more x (trees_of xs)

abbrev pub perhaps_of : Option Tree → Perhaps
perhaps_of None = absent
perhaps_of (Some x) = present x

abbrev pub terms_of : List (Term Tree) → Terms
terms_of [] = no_terms
terms_of (t ∷ ts) = term t.operator t.place t.operand (terms_of ts)

abbrev pub pipes_of : List (Piped Tree) → Pipes
pipes_of [] = no_pipes
pipes_of (p ∷ ps) = piped p.place (perhaps_of p.target) (pipes_of ps)

-- ---- statements

mutual
  pub data Statement : Type 0 where
    empty : Statement
    plain : Tree → Statement
    print : Place → Printed Tree → Option (Redirection Tree) → Statement
    printf : Place → Printed Tree → Option (Redirection Tree) → Statement
    delete : Name → List Tree → Statement
    delete_all : Name → Statement
    jump : Place → Jump → Statement
    exit : Place → Option Tree → Statement
    return : Place → Option Tree → Statement
    block : Statements → Statement
    if_then : Tree → Statement → Statement
    if_else : Tree → Statement → Statement → Statement
    while_do : Tree → Statement → Statement
    do_while : Statement → Tree → Statement
    for_each : Place → Name → Name → Statement → Statement
    for_loop : Option Tree → Option Tree → Option Tree → Statement → Statement

  pub data Statements : Type 0 where
    no_more : Statements
    then_also : Statement → Statements → Statements

abbrev pub statements_of : List Statement → Statements
statements_of [] = no_more
statements_of (x ∷ xs) = then_also x (statements_of xs)

-- ---- items. An action is the statements between its braces.

pub data Condition : Type 0 where
  single : Tree → Condition
  range : Tree → Tree → Condition

pub data Entry : Type 0 where
  at_begin : List Statement → Entry
  at_end : List Statement → Entry
  always : List Statement → Entry
  shown : Condition → Entry
  rule : Condition → List Statement → Entry
  function : Name → List Name → List Statement → Entry
