-- Which tokens spell which statement, item and script: the grammar of POSIX.1-2017 XCU awk ("Grammar",
-- "Actions"), a case for each form of each of its lines. As for expressions, the tokens us, where
-- the tokens rest follow, spell something n levels deep.
use Rattle.std.specs.Prelude.{◌≡◌, ℕ, zero, suc, true, false, List, [], ◌∷◌, ◌++◌, Option, Some, None, ◌⊎◌}
use Rattle.awk_tokens.specs.declared.token.Token.{Token}
use Rattle.awk_tree.specs.Looks.{else_next, ends_item, ends_print, name_of, redirect}
use Rattle.awk_tree.specs.declared.names.Name.{Name}
use Rattle.awk_tree.specs.declared.operators.Redirect.{Redirect}
use Rattle.awk_tree.specs.declared.statements.Printed.{Printed}
use Rattle.awk_tree.specs.declared.statements.Redirection.{Redirection}
use Rattle.awk_tokens.specs.declared.terminals.Terminal.TheVariants as w
use Rattle.awk_tokens.specs.declared.words.Jump.{Jump}
use Rattle.awk_tree.specs.Tree as tree
use Rattle.awk_tree.specs.Tree.{Tree, Statement, statements_of, Condition, Entry}
use Rattle.awk_tree.specs.Terminals.{terminal, is, look, ahead}
use Rattle.awk_parse.specs.Rules as rule
use Rattle.awk_parse.specs.Spells.{Opens, Newlines, Spells, Listed}

-- newlines and `;` alone
abbrev pub Gap : List Token → Type 0
Gap [] = Unit {0}
Gap (t ∷ ts) = ((terminal t ≡ w.Newline) ⊎ (terminal t ≡ w.Semicolon)) × Gap ts

-- the end of a simple statement: `;`, a newline, or nothing before `}`
pub data Ends : List Token → List Token → Type 0 where
  by_semicolon : (t : Token) (rest : List Token) → terminal t ≡ w.Semicolon → Ends (t ∷ []) rest
  by_newline : (t : Token) (rest : List Token) → terminal t ≡ w.Newline → Ends (t ∷ []) rest
  before_brace : (rest : List Token) → look rest ≡ w.CloseBrace → Ends [] rest

-- [ expr ]
pub data Perhaps : ℕ → List Token → Option Tree → List Token → Type 0 where
  no_expr : (n : ℕ) (rest : List Token) → Perhaps n [] None rest
  some_expr : (n : ℕ) (us : List Token) (x : Tree) (rest : List Token) → Spells n (rule.expr false) us x rest →
      Perhaps n us (Some x) rest

-- { , expr } in the list of a print, where `>` outside parentheses is no comparison
pub data Items : ℕ → List Token → List Tree → List Token → Type 0 where
  no_item : (n : ℕ) (rest : List Token) → Items n [] [] rest
  one_item : (n : ℕ) (t : Token) (ns us vs : List Token) (x : Tree) (xs : List Tree) (rest : List Token) → terminal t
      ≡ w.Comma → Newlines ns → Spells n (rule.expr true) us x (vs ++ rest) → Items n vs xs rest →
      Items n ((t ∷ ns ++ us) ++ vs) (x ∷ xs) rest

-- the list of a print: one or more expressions, or two or more in parentheses where the list ends behind these
pub data PrintList : ℕ → List Token → Printed Tree → List Token → Type 0 where
  plain_list : (n : ℕ) (us vs : List Token) (x : Tree) (xs : List Tree) (rest : List Token) →
      Spells n (rule.expr true) us x (vs ++ rest) → Items n vs xs rest →
      PrintList n (us ++ vs) (record { is_grouped = false; items = x ∷ xs }) rest
  grouped_list : (n : ℕ) (o c : Token) (us : List Token) (x y : Tree) (zs : List Tree) (rest : List Token) → terminal o
      ≡ w.OpenParen → terminal c ≡ w.CloseParen → Opens n → Listed (suc n) us (x ∷ y ∷ zs) (c ∷ rest) →
      ends_print (ahead rest) ≡ true
      → PrintList n (o ∷ us ++ c ∷ []) (record { is_grouped = true; items = x ∷ y ∷ zs }) rest

-- [ (> | >> | |) cat ]. A `|` before `getline` is none.
pub data Redirected : ℕ → List Token → Option (Redirection Tree) → List Token → Type 0 where
  no_redirection : (n : ℕ) (rest : List Token) → redirect (ahead rest) ≡ None → Redirected n [] None rest
  redirected : (n : ℕ) (how : Redirect) (t : Token) (us : List Token) (x : Tree) (rest : List Token) →
      redirect (ahead (t ∷ us ++ rest)) ≡ Some how → Spells n rule.cat us x rest →
      Redirected n (t ∷ us) (Some (record { how = how; place = t.place; target = x })) rest

-- a simple statement, without its end
pub data Simple : ℕ → List Token → Statement → List Token → Type 0 where
  an_expression : (n : ℕ) (us : List Token) (x : Tree) (rest : List Token) → Spells n (rule.expr false) us x rest →
      Simple n us (tree.plain x) rest
  -- print [ list ] [ redirection ], printf list [ redirection ]
  an_empty_print : (n : ℕ) (t : Token) (vs : List Token) (r : Option (Redirection Tree)) (rest : List Token) →
      terminal t ≡ w.Print → Redirected n vs r rest →
      Simple n (t ∷ vs) (tree.print t.place (record { is_grouped = false; items = [] }) r) rest
  a_print : (n : ℕ) (t : Token) (us vs : List Token) (xs : Printed Tree) (r : Option (Redirection Tree))
      (rest : List Token) → terminal t ≡ w.Print → PrintList n us xs (vs ++ rest) → Redirected n vs r rest →
      Simple n (t ∷ us ++ vs) (tree.print t.place xs r) rest
  a_printf : (n : ℕ) (t : Token) (us vs : List Token) (xs : Printed Tree) (r : Option (Redirection Tree))
      (rest : List Token) → terminal t ≡ w.Printf → PrintList n us xs (vs ++ rest) → Redirected n vs r rest →
      Simple n (t ∷ us ++ vs) (tree.printf t.place xs r) rest
  -- delete NAME, where no [ follows; delete NAME [ list ]
  a_delete_all : (n : ℕ) (t m : Token) (rest : List Token) → terminal t ≡ w.Delete → terminal m ≡ w.Name →
      is (ahead rest) w.OpenBracket ≡ false → Simple n (t ∷ m ∷ []) (tree.delete_all (name_of m)) rest
  a_delete : (n : ℕ) (t m o c : Token) (us : List Token) (xs : List Tree) (rest : List Token) → terminal t ≡ w.Delete →
      terminal m ≡ w.Name → terminal o ≡ w.OpenBracket → terminal c ≡ w.CloseBracket
      → Opens n → Listed (suc n) us xs (c ∷ rest) →
      Simple n (t ∷ m ∷ o ∷ us ++ c ∷ []) (tree.delete (name_of m) xs) rest
  -- a word alone, as break
  a_jump : (n : ℕ) (which : Jump) (t : Token) (rest : List Token) → terminal t ≡ w.Jump which →
      Simple n (t ∷ []) (tree.jump t.place which) rest
  -- exit [ expr ], return [ expr ]
  an_exit : (n : ℕ) (t : Token) (us : List Token) (x : Option Tree) (rest : List Token) → terminal t ≡ w.Exit →
      Perhaps n us x rest → Simple n (t ∷ us) (tree.exit t.place x) rest
  a_return : (n : ℕ) (t : Token) (us : List Token) (x : Option Tree) (rest : List Token) → terminal t ≡ w.Return →
      Perhaps n us x rest → Simple n (t ∷ us) (tree.return t.place x) rest

-- ( expr ): the parenthesis opens a level round the expression
pub data Test : ℕ → List Token → Tree → List Token → Type 0 where
  a_test : (n : ℕ) (o c : Token) (us : List Token) (x : Tree) (rest : List Token) → terminal o ≡ w.OpenParen →
      terminal c ≡ w.CloseParen → Opens n → Spells (suc n) (rule.expr false) us x (c ∷ rest) →
      Test n (o ∷ us ++ c ∷ []) x rest

mutual
  pub data SpellsStatement : ℕ → List Token → Statement → List Token → Type 0 where
    an_empty : (n : ℕ) (t : Token) (rest : List Token) → terminal t ≡ w.Semicolon →
        SpellsStatement n (t ∷ []) tree.empty rest
    a_simple : (n : ℕ) (us vs : List Token) (s : Statement) (rest : List Token) → Simple n us s (vs ++ rest) →
        Ends vs rest → SpellsStatement n (us ++ vs) s rest
    a_block : (n : ℕ) (o c : Token) (us : List Token) (xs : List Statement) (rest : List Token) → terminal o
        ≡ w.OpenBrace → terminal c ≡ w.CloseBrace → Opens n → Block (suc n) us xs (c ∷ rest) →
        SpellsStatement n (o ∷ us ++ c ∷ []) (tree.block (statements_of xs)) rest
    -- if ( expr ) body [ else body ]: an else belongs to the nearest if
    an_if : (n : ℕ) (t : Token) (us vs : List Token) (x : Tree) (s : Statement) (rest : List Token) → terminal t
        ≡ w.If → Test n us x (vs ++ rest) → Body n vs s rest → else_next rest ≡ false →
        SpellsStatement n (t ∷ us ++ vs) (tree.if_then x s) rest
    an_if_else : (n : ℕ) (t u : Token) (us vs gs ws : List Token) (x : Tree) (s z : Statement) (rest : List Token) →
        terminal t ≡ w.If → terminal u ≡ w.Else → Test n us x (vs ++ (gs ++ u ∷ (ws ++ rest))) →
        Body n vs s (gs ++ u ∷ (ws ++ rest)) → Gap gs → Body n ws z rest
        → SpellsStatement n (t ∷ us ++ vs ++ gs ++ u ∷ ws) (tree.if_else x s z) rest
    a_while : (n : ℕ) (t : Token) (us vs : List Token) (x : Tree) (s : Statement) (rest : List Token) → terminal t
        ≡ w.While → Test n us x (vs ++ rest) → Body n vs s rest →
        SpellsStatement n (t ∷ us ++ vs) (tree.while_do x s) rest
    a_do : (n : ℕ) (t u : Token) (us ns vs ws : List Token) (s : Statement) (x : Tree) (rest : List Token) → terminal t
        ≡ w.Do → terminal u ≡ w.While → Body n us s (ns ++ u ∷ (vs ++ (ws ++ rest))) → Newlines ns →
        Test n vs x (ws ++ rest) → Ends ws rest
        → SpellsStatement n (t ∷ us ++ ns ++ u ∷ vs ++ ws) (tree.do_while s x) rest
    -- for ( [ expr ] ; [ expr ] ; [ expr ] ) body
    a_for : (n : ℕ) (t o a b c : Token) (us vs ws bs : List Token) (x y z : Option Tree) (s : Statement)
        (rest : List Token) → terminal t ≡ w.For → terminal o ≡ w.OpenParen → terminal a ≡ w.Semicolon → terminal b
        ≡ w.Semicolon → terminal c ≡ w.CloseParen
        → Opens n → Perhaps (suc n) us x (a ∷ (vs ++ b ∷ (ws ++ c ∷ (bs ++ rest)))) →
        Perhaps (suc n) vs y (b ∷ (ws ++ c ∷ (bs ++ rest))) → Perhaps (suc n) ws z (c ∷ (bs ++ rest)) →
        Body n bs s rest
        → SpellsStatement n (t ∷ o ∷ us ++ a ∷ vs ++ b ∷ ws ++ c ∷ bs) (tree.for_loop x y z s) rest
    -- for ( NAME in NAME ) body
    a_for_in : (n : ℕ) (t o k i a c : Token) (bs : List Token) (s : Statement) (rest : List Token) → terminal t
        ≡ w.For → terminal o ≡ w.OpenParen → terminal k ≡ w.Name → terminal i ≡ w.In → terminal a ≡ w.Name → terminal c
        ≡ w.CloseParen
        → Opens n → Body n bs s rest →
        SpellsStatement n (t ∷ o ∷ k ∷ i ∷ a ∷ c ∷ bs) (tree.for_each t.place (name_of k) (name_of a) s) rest

  -- a body opens a level; newlines before it are nothing
  pub data Body : ℕ → List Token → Statement → List Token → Type 0 where
    a_body : (n : ℕ) (ns us : List Token) (s : Statement) (rest : List Token) → Opens n → Newlines ns →
        SpellsStatement (suc n) us s rest → Body n (ns ++ us) s rest

  -- the statements of a block, up to its `}`; newlines before each and before the `}` are nothing
  pub data Block : ℕ → List Token → List Statement → List Token → Type 0 where
    no_statement : (n : ℕ) (ns rest : List Token) → Newlines ns → Block n ns [] rest
    one_statement : (n : ℕ) (ns us vs : List Token) (s : Statement) (xs : List Statement) (rest : List Token) →
        Newlines ns → SpellsStatement n us s (vs ++ rest) → Block n vs xs rest →
        Block n ((ns ++ us) ++ vs) (s ∷ xs) rest

-- an action, at level 0
pub data Action : List Token → List Statement → List Token → Type 0 where
  an_action : (o c : Token) (us : List Token) (xs : List Statement) (rest : List Token) → terminal o ≡ w.OpenBrace →
      terminal c ≡ w.CloseBrace → Block zero us xs (c ∷ rest) → Action (o ∷ us ++ c ∷ []) xs rest

-- pattern = expr | expr , expr
pub data Pattern : List Token → Condition → List Token → Type 0 where
  one_expr : (us : List Token) (x : Tree) (rest : List Token) → Spells zero (rule.expr false) us x rest →
      Pattern us (tree.single x) rest
  two_exprs : (t : Token) (us ns vs : List Token) (x y : Tree) (rest : List Token) → terminal t ≡ w.Comma →
      Spells zero (rule.expr false) us x (t ∷ ns ++ vs ++ rest) → Newlines ns →
      Spells zero (rule.expr false) vs y rest → Pattern (us ++ t ∷ ns ++ vs) (tree.range x y) rest

-- { , NAME }
pub data MoreParams : List Token → List Name → List Token → Type 0 where
  no_more : (rest : List Token) → MoreParams [] [] rest
  one_more : (t u : Token) (ns vs : List Token) (ps : List Name) (rest : List Token) → terminal t ≡ w.Comma →
      Newlines ns → terminal u ≡ w.Name → MoreParams vs ps rest →
      MoreParams ((t ∷ ns ++ u ∷ []) ++ vs) (name_of u ∷ ps) rest

-- [ NAME { , NAME } ]
pub data Params : List Token → List Name → List Token → Type 0 where
  no_params : (rest : List Token) → Params [] [] rest
  some_params : (t : Token) (vs : List Token) (ps : List Name) (rest : List Token) → terminal t ≡ w.Name →
      MoreParams vs ps rest → Params (t ∷ vs) (name_of t ∷ ps) rest

-- item = BEGIN action | END action | pattern | pattern action | action | function NAME ( params ) action.
-- An action's `{` stands on the line of its pattern; a function's may stand behind newlines. A
-- pattern without an action is followed by a newline, a `;` or the end.
pub data SpellsItem : List Token → Entry → List Token → Type 0 where
  a_begin : (t : Token) (us : List Token) (xs : List Statement) (rest : List Token) → terminal t ≡ w.BeginWord →
      Action us xs rest → SpellsItem (t ∷ us) (tree.at_begin xs) rest
  an_end : (t : Token) (us : List Token) (xs : List Statement) (rest : List Token) → terminal t ≡ w.EndWord →
      Action us xs rest → SpellsItem (t ∷ us) (tree.at_end xs) rest
  a_pattern : (us : List Token) (c : Condition) (rest : List Token) → Pattern us c rest → ends_item rest ≡ true →
      SpellsItem us (tree.shown c) rest
  a_rule : (us vs : List Token) (c : Condition) (xs : List Statement) (rest : List Token) → Pattern us c (vs ++ rest) →
      Action vs xs rest → SpellsItem (us ++ vs) (tree.rule c xs) rest
  only_action : (us : List Token) (xs : List Statement) (rest : List Token) → Action us xs rest →
      SpellsItem us (tree.always xs) rest
  a_function : (t f o c : Token) (us ns vs : List Token) (ps : List Name) (xs : List Statement) (rest : List Token) →
      terminal t ≡ w.Function → (terminal f ≡ w.Name) ⊎ (terminal f ≡ w.CallName) → terminal o ≡ w.OpenParen →
      terminal c ≡ w.CloseParen
      → Params us ps (c ∷ (ns ++ (vs ++ rest))) → Newlines ns → Action vs xs rest →
      SpellsItem (t ∷ f ∷ o ∷ us ++ c ∷ (ns ++ vs)) (tree.function (name_of f) ps xs) rest

-- a script: any number of items, newlines and `;` before, between and behind them
pub data SpellsScript : List Token → List Entry → Type 0 where
  no_items : (gs : List Token) → Gap gs → SpellsScript gs []
  an_item : (gs us vs : List Token) (x : Entry) (xs : List Entry) → Gap gs → SpellsItem us x vs → SpellsScript vs xs →
      SpellsScript (gs ++ us ++ vs) (x ∷ xs)
