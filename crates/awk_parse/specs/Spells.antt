-- Which tokens spell which expression: the grammar of POSIX.1-2017 XCU awk ("Grammar", "Expressions in
-- awk"), a case for each form of each of its lines. `Spells n rule us x rest` says that the tokens us, where
-- the tokens rest follow, spell the tree x by this rule, n levels deep. What follows plays a part only
-- where the grammar says whose a sign is.
use Rattle.std.specs.Prelude.{◌≡◌, ℕ, suc, ◌<◌, Bool, true, false, List, [], ◌∷◌, ◌++◌, Option, Some, None}
use Rattle.awk_tokens.specs.declared.token.Token.{Token}
use Rattle.awk_tree.specs.Looks.{and_of, arithmetic_of, assignment, begins_part, comparison, concat_of, is_factor_sign}
use Rattle.awk_tree.specs.Looks.{is_lvalue, is_term_sign, listed, matching, member_of, name_of, or_of, pipe_of}
use Rattle.awk_tree.specs.Looks.{product_of, sign, step, sum_of}
use Rattle.awk_tree.specs.declared.names.Member.{Member}
use Rattle.awk_tokens.specs.declared.terminals.Assignment.{Assignment}
use Rattle.awk_tokens.specs.Words.{parameters}
use Rattle.awk_tokens.specs.declared.words.Parameters.{Parameters}
use Rattle.awk_tokens.specs.declared.words.Parameters.TheVariants as takes
use Rattle.awk_tokens.specs.declared.words.Builtin.{Builtin}
use Rattle.awk_tokens.specs.declared.words.Builtin.TheVariants as b
use Rattle.awk_tree.specs.declared.operators.Comparison.{Comparison}
use Rattle.awk_tree.specs.declared.operators.Sign.{Sign}
use Rattle.awk_tokens.specs.declared.terminals.Step.{Step}
use Rattle.awk_tree.specs.declared.expressions.Term.{Term}
use Rattle.awk_tree.specs.declared.expressions.Piped.{Piped}
use Rattle.awk_tokens.specs.declared.terminals.Terminal.TheVariants as w
use Rattle.awk_tree.specs.Tree as tree
use Rattle.awk_tree.specs.Tree.{Tree, trees_of, perhaps_of}
use Rattle.awk_tree.specs.Terminals.{substituting}
use Rattle.awk_tree.specs.Terminals.{terminal, is, ahead}
use Rattle.awk_parse.specs.Rules as rule
use Rattle.awk_parse.specs.Rules.{Rule}

-- at this level one more may be opened: nesting is at most 200
abbrev pub Opens : ℕ → Type 0
Opens n = n < 200

-- newlines alone
abbrev pub Newlines : List Token → Type 0
Newlines [] = Unit {0}
Newlines (t ∷ ts) = (terminal t ≡ w.Newline) × Newlines ts

-- what can be called with nothing in its parentheses, and what with one argument
abbrev pub takes_none : Parameters → Bool
takes_none takes.Zero = true
takes_none takes.AtMostOne = true
takes_none takes.Measured = true
takes_none other = false

abbrev pub takes_one : Parameters → Bool
takes_one takes.One = true
takes_one takes.AtMostOne = true
takes_one takes.Measured = true
takes_one other = false

-- { in NAME }
pub data Names : List Token → List Member → List Token → Type 0 where
  no_name : (rest : List Token) → Names [] [] rest
  one_name : (t u : Token) (vs : List Token) (ms : List Member) (rest : List Token) → terminal t ≡ w.In → terminal u
      ≡ w.Name → Names vs ms rest
      → Names ((t ∷ u ∷ []) ++ vs) (record { place = t.place; array = name_of u } ∷ ms) rest

mutual
  pub data Spells : ℕ → Rule → List Token → Tree → List Token → Type 0 where
    -- prim = NUMBER | STRING | ERE | lvalue | ( expr ) | CALLNAME ( [ list ] )
    a_number : (n : ℕ) (t : Token) (rest : List Token) → terminal t ≡ w.Number →
        Spells n rule.prim (t ∷ []) (tree.number t.place t.text) rest
    a_string : (n : ℕ) (t : Token) (rest : List Token) → terminal t ≡ w.Quoted →
        Spells n rule.prim (t ∷ []) (tree.quoted t.place t.text) rest
    an_ere : (n : ℕ) (t : Token) (rest : List Token) → terminal t ≡ w.Pattern →
        Spells n rule.prim (t ∷ []) (tree.pattern t.place t.text) rest
    an_lvalue : (n : ℕ) (us : List Token) (x : Tree) (rest : List Token) → Spells n rule.lvalue us x rest →
        Spells n rule.prim us x rest
    a_paren : (n : ℕ) (o c : Token) (us : List Token) (x : Tree) (rest : List Token) → terminal o ≡ w.OpenParen →
        terminal c ≡ w.CloseParen
        → Opens n → Spells (suc n) (rule.expr false) us x (c ∷ rest) →
        Spells n rule.prim (o ∷ us ++ c ∷ []) (tree.paren o.place x) rest
    a_call : (n : ℕ) (t o c : Token) (us : List Token) (xs : List Tree) (rest : List Token) → terminal t ≡ w.CallName →
        terminal o ≡ w.OpenParen → terminal c ≡ w.CloseParen
        → Opens n → Arguments (suc n) us xs (c ∷ rest) →
        Spells n rule.prim (t ∷ o ∷ us ++ c ∷ []) (tree.call (name_of t) (trees_of xs)) rest
    -- | length, where no ( follows
    a_bare_length : (n : ℕ) (t : Token) (rest : List Token) → terminal t ≡ w.Builtin b.Length →
        is (ahead rest) w.OpenParen ≡ false → Spells n rule.prim (t ∷ []) (tree.bare_length t.place) rest
    -- | a built-in function of no argument, or of at most one, as rand ( ) and length ( )
    a_call_of_none : (n : ℕ) (which : Builtin) (t o c : Token) (rest : List Token) → takes_none (parameters which)
        ≡ true → terminal t ≡ w.Builtin which → terminal o ≡ w.OpenParen → terminal c ≡ w.CloseParen
        → Opens n → Spells n rule.prim (t ∷ o ∷ c ∷ []) (tree.builtin t.place which (trees_of [])) rest
    -- | one of one argument, as close ( expr )
    a_call_of_one : (n : ℕ) (which : Builtin) (t o c : Token) (us : List Token) (x : Tree) (rest : List Token) →
        takes_one (parameters which) ≡ true → terminal t ≡ w.Builtin which → terminal o ≡ w.OpenParen → terminal c
        ≡ w.CloseParen
        → Opens n → Spells (suc n) (rule.expr false) us x (c ∷ rest) →
        Spells n rule.prim (t ∷ o ∷ us ++ c ∷ []) (tree.builtin t.place which (trees_of (x ∷ []))) rest
    -- | one of two arguments, as index ( expr , expr )
    a_call_of_two : (n : ℕ) (which : Builtin) (t o c : Token) (us vs : List Token) (x y : Tree) (rest : List Token) →
        parameters which ≡ takes.Two → terminal t ≡ w.Builtin which → terminal o ≡ w.OpenParen → terminal c
        ≡ w.CloseParen
        → Opens n → Spells (suc n) (rule.expr false) us x (vs ++ c ∷ rest) → Next (suc n) vs y (c ∷ rest) →
        Spells n rule.prim (t ∷ o ∷ us ++ vs ++ c ∷ []) (tree.builtin t.place which (trees_of (x ∷ y ∷ []))) rest
    -- | one of two or three, as substr ( expr , expr [ , expr ] )
    a_call_of_two_or_three : (n : ℕ) (which : Builtin) (t o c : Token) (us vs ws : List Token) (x y : Tree)
        (z : Option Tree) (rest : List Token) → parameters which ≡ takes.TwoOrThree → terminal t ≡ w.Builtin which →
        terminal o ≡ w.OpenParen → terminal c ≡ w.CloseParen
        → Opens n → Spells (suc n) (rule.expr false) us x (vs ++ (ws ++ c ∷ rest)) →
        Next (suc n) vs y (ws ++ c ∷ rest) → Further (suc n) ws z (c ∷ rest)
        → Spells n rule.prim (t ∷ o ∷ us ++ vs ++ ws ++ c ∷ [])
        (tree.builtin t.place which (trees_of (x ∷ y ∷ listed z))) rest
    -- | one of one or more, as sprintf ( list )
    a_call_of_some : (n : ℕ) (which : Builtin) (t o c : Token) (us : List Token) (xs : List Tree) (rest : List Token) →
        parameters which ≡ takes.OneOrMore → terminal t ≡ w.Builtin which → terminal o ≡ w.OpenParen → terminal c
        ≡ w.CloseParen
        → Opens n → Listed (suc n) us xs (c ∷ rest) →
        Spells n rule.prim (t ∷ o ∷ us ++ c ∷ []) (tree.builtin t.place which (trees_of xs)) rest
    -- | split ( expr , NAME [ , expr ] )
    a_split : (n : ℕ) (t o u m c : Token) (us ns vs : List Token) (x : Tree) (y : Option Tree) (rest : List Token) →
        terminal t ≡ w.Builtin b.Split → terminal o ≡ w.OpenParen → terminal u ≡ w.Comma → Newlines ns → terminal m
        ≡ w.Name → terminal c ≡ w.CloseParen
        → Opens n → Spells (suc n) (rule.expr false) us x (u ∷ ns ++ m ∷ vs ++ c ∷ rest) →
        Further (suc n) vs y (c ∷ rest)
        → Spells n rule.prim (t ∷ o ∷ us ++ u ∷ ns ++ m ∷ vs ++ c ∷ [])
        (tree.split t.place x (name_of m) (perhaps_of y)) rest
    -- | sub ( expr , expr [ , lvalue ] ), and so gsub
    a_substitute : (n : ℕ) (all : Bool) (t o c : Token) (us vs ws : List Token) (x y : Tree) (z : Option Tree)
        (rest : List Token) → terminal t ≡ w.Builtin (substituting all) → terminal o ≡ w.OpenParen → terminal c
        ≡ w.CloseParen
        → Opens n → Spells (suc n) (rule.expr false) us x (vs ++ (ws ++ c ∷ rest)) →
        Next (suc n) vs y (ws ++ c ∷ rest) → Into (suc n) ws z (c ∷ rest)
        → Spells n rule.prim (t ∷ o ∷ us ++ vs ++ ws ++ c ∷ []) (tree.substitute t.place all x y (perhaps_of z)) rest
    -- | getline [ lvalue ] [ < inc ]
    a_getline : (n : ℕ) (t : Token) (us vs : List Token) (x y : Option Tree) (rest : List Token) → terminal t
        ≡ w.Getline → Target n us x (vs ++ rest) → Source n vs y rest
        → Spells n rule.prim (t ∷ us ++ vs) (tree.getline t.place (perhaps_of x) (perhaps_of y)) rest
    -- lvalue = NAME | NAME [ list ] | $ dol
    a_name : (n : ℕ) (t : Token) (rest : List Token) → terminal t ≡ w.Name → is (ahead rest) w.OpenBracket ≡ false →
        Spells n rule.lvalue (t ∷ []) (tree.name (name_of t)) rest
    an_element : (n : ℕ) (t o c : Token) (us : List Token) (xs : List Tree) (rest : List Token) → terminal t ≡ w.Name →
        terminal o ≡ w.OpenBracket → terminal c ≡ w.CloseBracket
        → Opens n → Listed (suc n) us xs (c ∷ rest) →
        Spells n rule.lvalue (t ∷ o ∷ us ++ c ∷ []) (tree.element (name_of t) (trees_of xs)) rest
    a_field : (n : ℕ) (t : Token) (us : List Token) (x : Tree) (rest : List Token) → terminal t ≡ w.Dollar → Opens n →
        Spells (suc n) rule.dol us x rest → Spells n rule.lvalue (t ∷ us) (tree.field t.place x) rest
    -- dol = (! | + | -) dol | (++ | --) lvalue | prim
    a_signed_dol : (n : ℕ) (which : Sign) (t : Token) (us : List Token) (x : Tree) (rest : List Token) →
        sign (terminal t) ≡ Some which → Opens n → Spells (suc n) rule.dol us x rest →
        Spells n rule.dol (t ∷ us) (tree.signed t.place which x) rest
    a_step_dol : (n : ℕ) (which : Step) (t : Token) (us : List Token) (x : Tree) (rest : List Token) → step (terminal t)
        ≡ Some which → Opens n → Spells (suc n) rule.lvalue us x rest →
        Spells n rule.dol (t ∷ us) (tree.before t.place which x) rest
    only_prim : (n : ℕ) (us : List Token) (x : Tree) (rest : List Token) → Spells n rule.prim us x rest →
        Spells n rule.dol us x rest
    -- inc = (++ | --) lvalue | lvalue (++ | --) | prim. A `++` or `--` after an lvalue belongs to it.
    a_step_before : (n : ℕ) (which : Step) (t : Token) (us : List Token) (x : Tree) (rest : List Token) →
        step (terminal t) ≡ Some which → Opens n → Spells (suc n) rule.lvalue us x rest →
        Spells n rule.inc (t ∷ us) (tree.before t.place which x) rest
    a_step_after : (n : ℕ) (which : Step) (t : Token) (us : List Token) (x : Tree) (rest : List Token) →
        Spells n rule.prim us x (t ∷ rest) → is_lvalue x ≡ true → step (terminal t) ≡ Some which
        → Spells n rule.inc (us ++ t ∷ []) (tree.after x t.place which) rest
    no_step : (n : ℕ) (us : List Token) (x : Tree) (rest : List Token) → Spells n rule.prim us x rest →
        (is_lvalue x ≡ true → step (ahead rest) ≡ None) → Spells n rule.inc us x rest
    -- pow = inc [ ^ unary ]
    only_inc : (n : ℕ) (us : List Token) (x : Tree) (rest : List Token) → Spells n rule.inc us x rest →
        Spells n rule.pow us x rest
    a_power : (n : ℕ) (t : Token) (us vs : List Token) (x y : Tree) (rest : List Token) → terminal t ≡ w.Caret →
        Spells n rule.inc us x (t ∷ vs ++ rest) → Opens n → Spells (suc n) rule.unary vs y rest
        → Spells n rule.pow (us ++ t ∷ vs) (tree.power x t.place y) rest
    -- unary = (! | + | -) unary | pow
    a_signed : (n : ℕ) (which : Sign) (t : Token) (us : List Token) (x : Tree) (rest : List Token) → sign (terminal t)
        ≡ Some which → Opens n → Spells (suc n) rule.unary us x rest →
        Spells n rule.unary (t ∷ us) (tree.signed t.place which x) rest
    only_pow : (n : ℕ) (us : List Token) (x : Tree) (rest : List Token) → Spells n rule.pow us x rest →
        Spells n rule.unary us x rest
    -- mul = unary { (* | / | %) unary }. A chain of one operand is that operand, here and below.
    a_product : (n : ℕ) (us vs : List Token) (x : Tree) (xs : List (Term Tree)) (rest : List Token) →
        Spells n rule.unary us x (vs ++ rest) → Factors n vs xs rest →
        Spells n rule.mul (us ++ vs) (product_of x xs) rest
    -- add = mul { (+ | -) mul }
    a_sum : (n : ℕ) (us vs : List Token) (x : Tree) (xs : List (Term Tree)) (rest : List Token) →
        Spells n rule.mul us x (vs ++ rest) → Addends n vs xs rest → Spells n rule.add (us ++ vs) (sum_of x xs) rest
    -- cat = add { add }
    a_concat : (n : ℕ) (us vs : List Token) (x : Tree) (xs : List Tree) (rest : List Token) →
        Spells n rule.add us x (vs ++ rest) → Parts n vs xs rest → Spells n rule.cat (us ++ vs) (concat_of x xs) rest
    -- pipe = cat { | getline [ lvalue ] }
    a_pipe : (n : ℕ) (us vs : List Token) (x : Tree) (xs : List (Piped Tree)) (rest : List Token) →
        Spells n rule.cat us x (vs ++ rest) → Pipes n vs xs rest → Spells n rule.pipe (us ++ vs) (pipe_of x xs) rest
    -- cmp = pipe [ (< | <= | != | == | > | >=) pipe ]
    only_pipe : (n : ℕ) (p : Bool) (us : List Token) (x : Tree) (rest : List Token) → Spells n rule.pipe us x rest →
        Spells n (rule.cmp p) us x rest
    a_comparison : (n : ℕ) (p : Bool) (how : Comparison) (t : Token) (us vs : List Token) (x y : Tree)
        (rest : List Token) → comparison p (terminal t) ≡ Some how → Spells n rule.pipe us x (t ∷ vs ++ rest) →
        Spells n rule.pipe vs y rest
        → Spells n (rule.cmp p) (us ++ t ∷ vs) (tree.compare x t.place how y) rest
    -- match = cmp [ (~ | !~) cmp ]
    only_cmp : (n : ℕ) (p : Bool) (us : List Token) (x : Tree) (rest : List Token) → Spells n (rule.cmp p) us x rest →
        Spells n (rule.match p) us x rest
    a_match : (n : ℕ) (p unlike : Bool) (t : Token) (us vs : List Token) (x y : Tree) (rest : List Token) →
        matching (terminal t) ≡ Some unlike → Spells n (rule.cmp p) us x (t ∷ vs ++ rest) →
        Spells n (rule.cmp p) vs y rest
        → Spells n (rule.match p) (us ++ t ∷ vs) (tree.matched x t.place unlike y) rest
    -- isin = match { in NAME } | ( list ) in NAME { in NAME }, with two or more in the list
    a_member : (n : ℕ) (p : Bool) (us vs : List Token) (x : Tree) (ms : List Member) (rest : List Token) →
        Spells n (rule.match p) us x (vs ++ rest) → Names vs ms rest →
        Spells n (rule.isin p) (us ++ vs) (member_of x ms) rest
    a_group : (n : ℕ) (p : Bool) (o c : Token) (us vs : List Token) (x y : Tree) (zs : List Tree) (m : Member)
        (ms : List Member) (rest : List Token) → terminal o ≡ w.OpenParen → terminal c ≡ w.CloseParen
        → Opens n → Listed (suc n) us (x ∷ y ∷ zs) (c ∷ vs ++ rest) → Names vs (m ∷ ms) rest →
        Spells n (rule.isin p) (o ∷ us ++ c ∷ vs) (tree.group o.place (trees_of (x ∷ y ∷ zs)) (m ∷ ms)) rest
    -- set = lvalue (= | += | -= | *= | /= | %= | ^=) expr
    an_assignment : (n : ℕ) (p : Bool) (how : Assignment) (t : Token) (us vs : List Token) (x y : Tree)
        (rest : List Token) → assignment (terminal t) ≡ Some how → is_lvalue x ≡ true →
        Spells n (rule.isin p) us x (t ∷ vs ++ rest)
        → Opens n → Spells (suc n) (rule.expr p) vs y rest →
        Spells n (rule.set p) (us ++ t ∷ vs) (tree.assign x t.place how y) rest
    -- and = isin { && isin }, or { isin && } set
    an_and : (n : ℕ) (p last : Bool) (us vs : List Token) (x : Tree) (xs : List Tree) (rest : List Token) →
        Spells n (rule.isin p) us x (vs ++ rest) → Ands n p last vs xs rest →
        Spells n (rule.and p last) (us ++ vs) (and_of x xs) rest
    only_set : (n : ℕ) (p : Bool) (us : List Token) (x : Tree) (rest : List Token) → Spells n (rule.set p) us x rest →
        Spells n (rule.and p true) us x rest
    -- or = and { || and }, only the last with an assignment
    an_or : (n : ℕ) (p last : Bool) (us vs : List Token) (x : Tree) (xs : List Tree) (rest : List Token) →
        Spells n (rule.and p false) us x (vs ++ rest) → Ors n p last vs xs rest →
        Spells n (rule.or p last) (us ++ vs) (or_of x xs) rest
    only_and : (n : ℕ) (p : Bool) (us : List Token) (x : Tree) (rest : List Token) →
        Spells n (rule.and p true) us x rest → Spells n (rule.or p true) us x rest
    -- cond = or [ ? expr : expr ]
    only_or : (n : ℕ) (p : Bool) (us : List Token) (x : Tree) (rest : List Token) →
        Spells n (rule.or p false) us x rest → Spells n (rule.cond p) us x rest
    a_choice : (n : ℕ) (p : Bool) (t u : Token) (us vs ws : List Token) (x y z : Tree) (rest : List Token) → terminal t
        ≡ w.Question → terminal u ≡ w.Colon → Spells n (rule.or p false) us x (t ∷ (vs ++ u ∷ (ws ++ rest)))
        → Opens n → Spells (suc n) (rule.expr p) vs y (u ∷ ws ++ rest) → Spells (suc n) (rule.expr p) ws z rest →
        Spells n (rule.cond p) (us ++ t ∷ (vs ++ u ∷ ws)) (tree.choose x y z) rest
    -- expr = { and || } { isin && } set | cond
    only_cond : (n : ℕ) (p : Bool) (us : List Token) (x : Tree) (rest : List Token) → Spells n (rule.cond p) us x rest →
        Spells n (rule.expr p) us x rest
    an_assigning : (n : ℕ) (p : Bool) (us : List Token) (x : Tree) (rest : List Token) →
        Spells n (rule.or p true) us x rest → Spells n (rule.expr p) us x rest

  -- { (* | / | %) unary }
  pub data Factors : ℕ → List Token → List (Term Tree) → List Token → Type 0 where
    no_factor : (n : ℕ) (rest : List Token) → Factors n [] [] rest
    one_factor : (n : ℕ) (t : Token) (us vs : List Token) (x : Tree) (xs : List (Term Tree)) (rest : List Token) →
        is_factor_sign (terminal t) ≡ true → Spells n rule.unary us x (vs ++ rest) → Factors n vs xs rest
        → Factors n ((t ∷ us) ++ vs)
        (record { operator = arithmetic_of (terminal t); place = t.place; operand = x } ∷ xs) rest

  -- { (+ | -) mul }
  pub data Addends : ℕ → List Token → List (Term Tree) → List Token → Type 0 where
    no_addend : (n : ℕ) (rest : List Token) → Addends n [] [] rest
    one_addend : (n : ℕ) (t : Token) (us vs : List Token) (x : Tree) (xs : List (Term Tree)) (rest : List Token) →
        is_term_sign (terminal t) ≡ true → Spells n rule.mul us x (vs ++ rest) → Addends n vs xs rest
        → Addends n ((t ∷ us) ++ vs)
        (record { operator = arithmetic_of (terminal t); place = t.place; operand = x } ∷ xs) rest

  -- { add }, which don't begin with + or -
  pub data Parts : ℕ → List Token → List Tree → List Token → Type 0 where
    no_part : (n : ℕ) (rest : List Token) → Parts n [] [] rest
    one_part : (n : ℕ) (us vs : List Token) (x : Tree) (xs : List Tree) (rest : List Token) →
        begins_part (ahead (us ++ (vs ++ rest))) ≡ true → Spells n rule.add us x (vs ++ rest) → Parts n vs xs rest →
        Parts n (us ++ vs) (x ∷ xs) rest

  -- { | getline [ lvalue ] }
  pub data Pipes : ℕ → List Token → List (Piped Tree) → List Token → Type 0 where
    no_pipe : (n : ℕ) (rest : List Token) → Pipes n [] [] rest
    one_pipe : (n : ℕ) (t u : Token) (us vs : List Token) (x : Option Tree) (xs : List (Piped Tree)) (rest : List Token)
        → terminal t ≡ w.Bar → terminal u ≡ w.Getline → Target n us x (vs ++ rest) → Pipes n vs xs rest
        → Pipes n ((t ∷ u ∷ us) ++ vs) (record { place = u.place; target = x } ∷ xs) rest

  -- [ lvalue ] of a getline: a NAME or `$` begins one
  pub data Target : ℕ → List Token → Option Tree → List Token → Type 0 where
    no_target : (n : ℕ) (rest : List Token) → is (ahead rest) w.Name ≡ false → is (ahead rest) w.Dollar ≡ false →
        Target n [] None rest
    a_target : (n : ℕ) (us : List Token) (x : Tree) (rest : List Token) → Spells n rule.lvalue us x rest →
        Target n us (Some x) rest

  -- [ < inc ] of a getline: a `<` belongs to it
  pub data Source : ℕ → List Token → Option Tree → List Token → Type 0 where
    no_source : (n : ℕ) (rest : List Token) → is (ahead rest) w.Less ≡ false → Source n [] None rest
    a_source : (n : ℕ) (t : Token) (us : List Token) (x : Tree) (rest : List Token) → terminal t ≡ w.Less → Opens n →
        Spells (suc n) rule.inc us x rest → Source n (t ∷ us) (Some x) rest

  -- { && isin }; with true, { && isin } && set
  pub data Ands : ℕ → Bool → Bool → List Token → List Tree → List Token → Type 0 where
    no_and : (n : ℕ) (p : Bool) (rest : List Token) → Ands n p false [] [] rest
    one_and : (n : ℕ) (p last : Bool) (t : Token) (ns us vs : List Token) (x : Tree) (xs : List Tree)
        (rest : List Token) → terminal t ≡ w.And → Newlines ns → Spells n (rule.isin p) us x (vs ++ rest) →
        Ands n p last vs xs rest
        → Ands n p last ((t ∷ ns ++ us) ++ vs) (x ∷ xs) rest
    last_and : (n : ℕ) (p : Bool) (t : Token) (ns us : List Token) (x : Tree) (rest : List Token) → terminal t ≡ w.And →
        Newlines ns → Spells n (rule.set p) us x rest → Ands n p true (t ∷ ns ++ us) (x ∷ []) rest

  -- { || and }; with true, the last operand's last operand is an assignment
  pub data Ors : ℕ → Bool → Bool → List Token → List Tree → List Token → Type 0 where
    no_or : (n : ℕ) (p : Bool) (rest : List Token) → Ors n p false [] [] rest
    one_or : (n : ℕ) (p last : Bool) (t : Token) (ns us vs : List Token) (x : Tree) (xs : List Tree) (rest : List Token)
        → terminal t ≡ w.Or → Newlines ns → Spells n (rule.and p false) us x (vs ++ rest) → Ors n p last vs xs rest
        → Ors n p last ((t ∷ ns ++ us) ++ vs) (x ∷ xs) rest
    last_or : (n : ℕ) (p : Bool) (t : Token) (ns us : List Token) (x : Tree) (rest : List Token) → terminal t ≡ w.Or →
        Newlines ns → Spells n (rule.and p true) us x rest → Ors n p true (t ∷ ns ++ us) (x ∷ []) rest

  -- list = expr { , expr }
  pub data Listed : ℕ → List Token → List Tree → List Token → Type 0 where
    a_list : (n : ℕ) (us vs : List Token) (x : Tree) (xs : List Tree) (rest : List Token) →
        Spells n (rule.expr false) us x (vs ++ rest) → Commas n vs xs rest → Listed n (us ++ vs) (x ∷ xs) rest

  -- { , expr }
  pub data Commas : ℕ → List Token → List Tree → List Token → Type 0 where
    no_comma : (n : ℕ) (rest : List Token) → Commas n [] [] rest
    one_comma : (n : ℕ) (us vs : List Token) (x : Tree) (xs : List Tree) (rest : List Token) →
        Next n us x (vs ++ rest) → Commas n vs xs rest → Commas n (us ++ vs) (x ∷ xs) rest

  -- , expr
  pub data Next : ℕ → List Token → Tree → List Token → Type 0 where
    next : (n : ℕ) (t : Token) (ns us : List Token) (x : Tree) (rest : List Token) → terminal t ≡ w.Comma →
        Newlines ns → Spells n (rule.expr false) us x rest → Next n (t ∷ ns ++ us) x rest

  -- [ , expr ]
  pub data Further : ℕ → List Token → Option Tree → List Token → Type 0 where
    no_further : (n : ℕ) (rest : List Token) → Further n [] None rest
    further : (n : ℕ) (us : List Token) (x : Tree) (rest : List Token) → Next n us x rest → Further n us (Some x) rest

  -- [ , lvalue ]
  pub data Into : ℕ → List Token → Option Tree → List Token → Type 0 where
    no_into : (n : ℕ) (rest : List Token) → Into n [] None rest
    into : (n : ℕ) (t : Token) (ns us : List Token) (x : Tree) (rest : List Token) → terminal t ≡ w.Comma →
        Newlines ns → Spells n rule.lvalue us x rest → Into n (t ∷ ns ++ us) (Some x) rest

  -- [ list ]
  pub data Arguments : ℕ → List Token → List Tree → List Token → Type 0 where
    no_argument : (n : ℕ) (rest : List Token) → Arguments n [] [] rest
    some_arguments : (n : ℕ) (us : List Token) (xs : List Tree) (rest : List Token) → Listed n us xs rest →
        Arguments n us xs rest
