-- The laws of print and printf.
use Rattle.std.proofs.Common.{◌≡◌, ℕ, suc, Bool, true, false, cond, Option, Some, None, List, [], ◌∷◌, ◌++◌, map}
use Rattle.std.proofs.Common.{option_map, codes, refl, sym, ap, subst, ◌∙◌, ◌&&◌}
use Rattle.awk_tokens.specs.declared.token.Token.{Token}
use Rattle.awk_tree.specs.Looks.{is_lvalue, name_of}
use Rattle.awk_tree.specs.Looks as looks
use Rattle.awk_tree.specs.declared.goals.Goal.{Goal}
use Rattle.awk_tree.specs.declared.goals.Goal.TheVariants as goal
use Rattle.awk_tokens.specs.declared.terminals.Terminal.{Terminal}
use Rattle.awk_tokens.specs.declared.terminals.Terminal.TheVariants as w
use Rattle.awk_tree.specs.Tree as tree
use Rattle.awk_tree.specs.Tree.{Tree, Trees, trees_of, perhaps_of}
use Rattle.awk_tree.specs.Terminals.{terminal, terminal_of, is, sign, keyword, ahead}
use Rattle.awk_tree.specs.Input.{Parser, ◌>>=◌, any, one, pure}
use Rattle.awk_tree.specs.Expressions as e
use Rattle.awk_tree.specs.Canon.{canon, bare}
use Rattle.awk_parse.specs.Rules as rule
use Rattle.awk_parse.specs.Rules.{Rule}
use Rattle.awk_parse.specs.Spells as g
use Rattle.awk_parse.specs.Spells.{Spells, Opens, Newlines, Listed, Commas, Next, Arguments}
use Rattle.awk_parse.proofs.Law.{Near, Form, Read, At, Law, LawOn, done_is, then_at, seq_at, Both, both, pair, pure_on}
use Rattle.awk_parse.proofs.Law.{pure_at, weaker_at, choice_at, choice_on, if_at, this, any_at, one_law}
use Rattle.awk_parse.proofs.Many.{chain}
use Rattle.awk_parse.proofs.Words.{a_keyword, opening, closing, opening_law, closing_law}
use Rattle.awk_tree.specs.declared.operators.Redirect.{Redirect}
use Rattle.awk_tree.specs.declared.operators.Redirect.TheVariants as to
use Rattle.awk_tree.specs.declared.statements.Printed.{Printed}
use Rattle.awk_tree.specs.declared.statements.Redirection.{Redirection}
use Rattle.awk_tree.specs.Tree.{Statement}
use Rattle.awk_tree.specs.Terminals.{look, seen}
use Rattle.awk_tree.specs.Statements as st
use Rattle.awk_tree.specs.Canon.{canon_printed, canon_redirection, redirect_text, bare_printed, bare_redirection}
use Rattle.awk_parse.specs.SpellsScripts as r
use Rattle.awk_parse.specs.SpellsScripts.{Simple, PrintList, Items, Redirected}
use Rattle.awk_parse.proofs.TerminalLemmas.{both_true, steady, ahead_is}
use Rattle.awk_parse.proofs.Law.{on_on, if_left, bind_ok, any_is}
use Rattle.awk_parse.proofs.Operands.{tree_form, whole, Inner, canon_commas-of, commas, commas_law}
use Rattle.awk_parse.proofs.Builtins.{prefixed}
use Rattle.awk_parse.proofs.Primaries.{knowing, known}
use Rattle.awk_parse.proofs.Chains.{cat_law}
use Rattle.awk_parse.proofs.Depths.{full, expression_law, grouping, grouped_at, expr_rest_law}
use Rattle.awk_parse.proofs.SimpleLaws.{simple_form, plain_law, delete_law, jump_at, exit_at, return_at, printed_form}
use Rattle.awk_parse.proofs.SimpleLaws.{more_printed_law}

abbrev redirect_terminal : Redirect → Terminal
redirect_terminal to.Write = w.Greater
redirect_terminal to.Append = w.Append
redirect_terminal to.Command = w.Bar

redirect_found : (k : Terminal) (how : Redirect) → looks.redirect k ≡ Some how → k ≡ redirect_terminal how
redirect_found w.Greater to.Write h = refl
redirect_found w.Append to.Append h = refl
redirect_found w.Bar to.Command h = refl
redirect_found _ how h = absurd cc

-- a `|` that is seen as such is one, and no getline follows
bar_alone : (v : Terminal) (b : Bool) → seen v b ≡ w.Bar → (v ≡ w.Bar) × (b ≡ false)
bar_alone w.Bar true h = absurd cc
bar_alone w.Bar false h = (refl, refl)
bar_alone w.Newline b h = absurd cc
bar_alone w.Semicolon b h = absurd cc
bar_alone w.CloseBrace b h = absurd cc
bar_alone _ b h = absurd cc

getline_seen : (v : Terminal) (b : Bool) → is (seen v b) w.Getline ≡ is v w.Getline
getline_seen w.Bar true = refl
getline_seen w.Bar false = refl
getline_seen _ b = refl

getline_ahead : (ts : List Token) → is (ahead ts) w.Getline ≡ is (look ts) w.Getline
getline_ahead [] = refl
getline_ahead (t ∷ ts) = getline_seen (terminal t) (is (look ts) w.Getline)

several_bare : (xs : List Tree) → st.is_several (map bare xs) ≡ st.is_several xs
several_bare [] = refl
several_bare (x ∷ xs) = refl

several_is : (xs : List Tree) → st.is_several xs ≡ true → (y : Tree) × (ys : List Tree) × (xs ≡ y ∷ ys)
several_is [] h = absurd cc
several_is (y ∷ ys) h = (y, ys, refl)

module _ (n depth : ℕ) (inner : Goal → Parser Tree) (deeper : Inner n depth inner) where
  abbrev list_form : Form (Printed Tree)
  list_form = record { plain = canon_printed; bare = bare_printed; spells = PrintList n }

  abbrev here : Form Tree
  here = full n depth inner deeper true

  abbrev printed_items : Form (List Tree)
  printed_items = chain (printed_form n depth inner deeper) (Items n) (is w.Comma)

  rest_spells : (us : List Token) (q : Tree × List Tree) (rest : List Token) → Both here printed_items us q rest
      → PrintList n us (record { is_grouped = false; items = q.0 ∷ q.1 }) rest
  rest_spells _ _ _ (both us vs rest x xs (h, _) (i, _)) = r.plain_list n us vs x xs rest h i

  printed_rest_law : LawOn Near Near here list_form (st.printed_rest depth inner)
  unfolding st.printed_rest
  printed_rest_law x ts =
      seq_at Near Near Near here printed_items list_form (st.more_printed depth inner)
      (λ x xs. pure (record { is_grouped = false; items = x ∷ xs })) x ts (more_printed_law n depth inner deeper ts)
      (pure_on Near (pair here printed_items) list_form (λ q. record { is_grouped = false; items = q.0 ∷ q.1 })
      (λ q. ap (λ (m : List Token). canon q.0 ++ m) (canon_commas-of q.1)) (λ q. refl) rest_spells)

  abbrev groups : Form (((Token × Tree) × List Tree) × Token)
  groups = grouping n depth inner deeper true

  Whole_list : (((Token × Tree) × List Tree) × Token) → List Token → Type 0
  Whole_list q rest = (st.is_several q.0.1 && looks.ends_print (ahead rest)) ≡ true

  group_spells : (us : List Token) (q : ((Token × Tree) × List Tree) × Token) (rest : List Token)
      → (Both (pair (pair opening (whole n false)) (commas n depth inner deeper)) closing us q rest) × Whole_list q rest
      → PrintList n us (record { is_grouped = true; items = q.0.0.1 ∷ q.0.1 }) rest
  unfolding Whole_list
  group_spells _ _ _ (
    both _ _ rest _ _ (both _ vs _ _ xs (both _ us _ _ x (this o _ h) (opens, k, _)) (l, _))
        (this c _ j),
    known_list,
  ) =
      let two = both_true (st.is_several xs) (looks.ends_print (ahead rest)) known_list in
      let found = several_is xs two.0 in
      let list : Listed (suc n) (us ++ vs) (x ∷ found.0 ∷ found.1) (c ∷ rest) =
      subst (λ (m : List Tree). Listed (suc n) (us ++ vs) (x ∷ m) (c ∷ rest)) found.2
      (g.a_list (suc n) us vs x xs (c ∷ rest) k l) in
      subst (λ (m : List Tree). PrintList n (o ∷ (us ++ vs) ++ c ∷ []) (record { is_grouped = true; items = x ∷ m })
      rest) (sym found.2) (r.grouped_list n o c (us ++ vs) x found.0 found.1 rest h j opens list two.1)

  printed_from_law : LawOn Near Near groups list_form (λ q. st.printed_from depth inner q.0.0.0.place q.0.0.1 q.0.1)
  unfolding st.printed_from Whole_list
  printed_from_law q ts =
      choice_on Near groups list_form (λ q kind. cond (st.is_several q.0.1 && looks.ends_print kind)
      (pure (record { is_grouped = true; items = q.0.0.1 ∷ q.0.1 }))
      (e.grouped depth inner true q.0.0.0.place q.0.0.1 q.0.1 >>= e.expr_rest depth inner true
      >>= st.printed_rest depth inner)) q ts
      (if_left Near Near groups list_form (λ q. st.is_several q.0.1 && looks.ends_print (ahead ts))
      (λ q. pure (record { is_grouped = true; items = q.0.0.1 ∷ q.0.1 }))
      (λ q. e.grouped depth inner true q.0.0.0.place q.0.0.1 q.0.1 >>= e.expr_rest depth inner true
      >>= st.printed_rest depth inner) q ts
      (ap (λ (b : Bool). b && looks.ends_print (ahead ts)) (several_bare q.0.1))
      (λ h. known Near Near groups list_form Whole_list
      (λ q. pure (record { is_grouped = true; items = q.0.0.1 ∷ q.0.1 })) q ts h
      (pure_on Near (knowing groups Whole_list) list_form (λ q. record { is_grouped = true; items = q.0.0.1 ∷ q.0.1 })
      (λ q. ap (λ (m : List Token). (sign (codes "(") ∷ (canon q.0.0.1 ++ m)) ++ sign (codes ")") ∷ [])
      (canon_commas-of q.0.1)) (λ q. refl) group_spells q ts))
      (λ _. on_on Near Near Near groups here list_form (λ q. e.grouped depth inner true q.0.0.0.place q.0.0.1 q.0.1
      >>= e.expr_rest depth inner true) (st.printed_rest depth inner)
      (on_on Near Near Near groups (tree_form (λ us x rest. Spells n (rule.isin true) us x rest)) here
      (λ q. e.grouped depth inner true q.0.0.0.place q.0.0.1 q.0.1) (e.expr_rest depth inner true)
      (λ q ts. grouped_at n depth inner deeper true q.0.0.0 q.1 q.0.0.1 q.0.1 ts)
      (expr_rest_law n depth inner deeper true)) printed_rest_law q ts))

  printed_paren_law : Law Near Near list_form (st.printed_paren depth inner)
  unfolding st.printed_paren
  printed_paren_law ts =
      then_at Near Near Near opening list_form (one w.OpenParen) (λ o. inner (goal.Expr false)
      >>= λ x. e.commas depth inner >>= λ xs. one w.CloseParen >>= λ _. st.printed_from depth inner o.place x xs) ts
      (opening_law Near ts)
      (λ o ts. seq_at Near Near Near opening (whole n false) list_form (inner (goal.Expr false))
      (λ o x. e.commas depth inner >>= λ xs. one w.CloseParen >>= λ _. st.printed_from depth inner o.place x xs) o
      ts (deeper.wholes false ts)
      (λ q ts. seq_at Near Near Near (pair opening (whole n false)) (commas n depth inner deeper) list_form
      (e.commas depth inner) (λ q xs. one w.CloseParen >>= λ _. st.printed_from depth inner q.0.place q.1 xs) q ts
      (commas_law n depth inner deeper ts)
      (λ q ts. seq_at Near Near Near (pair (pair opening (whole n false)) (commas n depth inner deeper)) closing
      list_form (one w.CloseParen) (λ q _. st.printed_from depth inner q.0.0.place q.0.1 q.1) q ts
      (closing_law Near ts) printed_from_law)))

  printed_law : Law Near Near list_form (st.printed depth inner)
  unfolding st.printed
  printed_law ts =
      choice_at Near list_form (λ kind. cond (is kind w.OpenParen) (st.printed_paren depth inner)
      (e.expression depth inner true >>= st.printed_rest depth inner)) ts
      (if_at Near Near list_form (is (ahead ts) w.OpenParen) (st.printed_paren depth inner)
      (e.expression depth inner true >>= st.printed_rest depth inner) ts (λ _. printed_paren_law ts)
      (λ _. then_at Near Near Near here list_form (e.expression depth inner true) (st.printed_rest depth inner) ts
      (expression_law n depth inner deeper true ts) printed_rest_law))

  -- [ list ]
  data MaybeList : List Token → Printed Tree → List Token → Type 0 where
    no_list : (rest : List Token) → MaybeList [] (record { is_grouped = false; items = [] }) rest
    some_list : (us : List Token) (xs : Printed Tree) (rest : List Token) → PrintList n us xs rest
        → MaybeList us xs rest

  abbrev maybe_form : Form (Printed Tree)
  maybe_form = record { plain = canon_printed; bare = bare_printed; spells = MaybeList }

  printed_or_none_law : Law Near Near maybe_form (st.printed_or_none depth inner)
  unfolding st.printed_or_none
  printed_or_none_law ts =
      choice_at Near maybe_form (λ kind. cond (looks.ends_print kind) (pure (record { is_grouped = false; items = [] }))
      (st.printed depth inner)) ts
      (if_at Near Near maybe_form (looks.ends_print (ahead ts)) (pure (record { is_grouped = false; items = [] }))
      (st.printed depth inner) ts (λ _. pure_at Near maybe_form (record { is_grouped = false; items = [] }) ts refl
      refl (no_list ts))
      (λ _. weaker_at Near Near list_form maybe_form (st.printed depth inner) ts (λ _. refl) (λ _. refl) some_list
      (printed_law ts)))

  -- ---- redirections

  abbrev to_form : Form (Option (Redirection Tree))
  to_form = record { plain = canon_redirection; bare = option_map bare_redirection; spells = Redirected n }

  abbrev cat_form : Form Tree
  cat_form = tree_form (λ us x rest. Spells n rule.cat us x rest)

  steady_to : (how : Redirect) (k : Terminal) → steady k ≡ true → looks.redirect k ≡ Some how
      → terminal (sign (redirect_text how)) ≡ k → (ts : List Token) → ahead ts ≡ k
      → At Near Near to_form (any >>= λ t. e.cat depth inner
      >>= λ x. pure (Some (record { how = how; place = t.place; target = x }))) ts
  steady_to how k fixed is_redirect spelled ts sees =
      prefixed k (λ _. sign (redirect_text how)) any cat_form (e.cat depth inner) to_form
      (λ t x. Some (record { how = how; place = t.place; target = x })) (λ t x. refl) (λ t x. refl)
      (λ t us x rest h j. r.redirected n how t us x rest (ap looks.redirect (ahead_is k t (us ++ rest) fixed h)
      ∙ is_redirect) j) (cat_law n depth inner deeper) ts (any_at k (λ _. sign (redirect_text how)) fixed
      (λ _ _. spelled) Near ts sees)

  to_command : (ts : List Token) → ahead ts ≡ w.Bar
      → At Near Near to_form (any >>= λ t. e.cat depth inner
      >>= λ x. pure (Some (record { how = to.Command; place = t.place; target = x }))) ts
  unfolding any terminal_of
  to_command ts sees y s h =
      let i = bind_ok (any ts) (λ t. e.cat depth inner
      >>= λ x. pure (Some (record { how = to.Command; place = t.place; target = x }))) y s h in
      let t = i.0 in
      let m = i.1 in
      let p = any_is ts t m i.2 in
      let a = bind_ok (e.cat depth inner m)
      (λ x. pure (Some (record { how = to.Command; place = t.place; target = x }))) y s i.3 in
      let x = a.0 in
      let q = cat_law n depth inner deeper m x a.1 a.2 in
      let d = done_is (Some (record { how = to.Command; place = t.place; target = x })) y a.1 s a.3 in
      let alone = bar_alone (terminal t) (is (look m) w.Getline) (sym (ap ahead p) ∙ sees) in
      subst (λ (z : Option (Redirection Tree)). Read Near Near to_form (any >>= λ t. e.cat depth inner
      >>= λ x. pure (Some (record { how = to.Command; place = t.place; target = x }))) ts z s) d.0
      (subst (λ (v : List Token). Read Near Near to_form (any >>= λ t. e.cat depth inner
      >>= λ x. pure (Some (record { how = to.Command; place = t.place; target = x }))) ts
      (Some (record { how = to.Command; place = t.place; target = x })) v) d.1 (record {
        used = t ∷ q.used;
        parts = p ∙ ap (λ (v : List Token). t ∷ v) q.parts;
        spelled = r.redirected n to.Command t q.used x a.1 (ap (λ (v : List Token). looks.redirect (ahead v))
            (sym (p ∙ ap (λ (v : List Token). t ∷ v) q.parts)) ∙ ap looks.redirect sees) q.spelled;
        seen = λ u like. sees
            ∙ sym (ap (seen w.Bar) (sym (getline_ahead (canon x ++ u)) ∙ ap (λ (k : Terminal). is k w.Getline)
            (sym (q.seen u like)) ∙ getline_ahead m ∙ alone.1));
        reads = λ u like. rw (q.reads u like) refl;
      }))

  to_at : (o : Option Redirect) (ts : List Token) → looks.redirect (ahead ts) ≡ o
      → At Near Near to_form (st.redirection_by depth inner o) ts
  unfolding terminal_of
  to_at (Some to.Write) ts sees = steady_to to.Write w.Greater refl refl refl ts
      (redirect_found (ahead ts) to.Write sees)
  to_at (Some to.Append) ts sees = steady_to to.Append w.Append refl refl refl ts
      (redirect_found (ahead ts) to.Append sees)
  to_at (Some to.Command) ts sees = to_command ts (redirect_found (ahead ts) to.Command sees)
  to_at None ts sees = pure_at Near to_form None ts refl refl (r.no_redirection n ts sees)

  redirection_law : Law Near Near to_form (st.redirection depth inner)
  unfolding st.redirection
  redirection_law ts = choice_at Near to_form (λ kind. st.redirection_by depth inner (looks.redirect kind)) ts
      (to_at (looks.redirect (ahead ts)) ts refl)

  -- ---- print and printf

  abbrev print_word : Form Token
  print_word = a_keyword w.Print (codes "print")

  abbrev printf_word : Form Token
  printf_word = a_keyword w.Printf (codes "printf")

  print_spells : (us : List Token) (q : (Token × Printed Tree) × Option (Redirection Tree)) (rest : List Token)
      → Both (pair print_word maybe_form) to_form us q rest → Simple n us (tree.print q.0.0.place q.0.1 q.1) rest
  print_spells _ _ _ (both _ vs rest _ z (both _ _ _ _ _ (this t _ h) (no_list _)) k) =
      r.an_empty_print n t vs z rest h k
  print_spells _ _ _ (both _ vs rest _ z (both _ _ _ _ _ (this t _ h) (some_list us xs _ i)) k) =
      r.a_print n t us vs xs z rest h i k

  pub print_law : Law Near Near (simple_form n depth inner deeper) (st.print depth inner)
  unfolding st.print terminal_of
  print_law ts =
      then_at Near Near Near print_word (simple_form n depth inner deeper) (one w.Print)
      (λ t. st.printed_or_none depth inner >>= λ xs. st.redirection depth inner
      >>= λ z. pure (tree.print t.place xs z)) ts (one_law w.Print (λ _. keyword (codes "print")) refl refl
      (λ _ _. refl) Near ts)
      (λ t ts. seq_at Near Near Near print_word maybe_form (simple_form n depth inner deeper)
      (st.printed_or_none depth inner) (λ t xs. st.redirection depth inner >>= λ z. pure (tree.print t.place xs z))
      t ts (printed_or_none_law ts)
      (λ q ts. seq_at Near Near Near (pair print_word maybe_form) to_form (simple_form n depth inner deeper)
      (st.redirection depth inner) (λ q z. pure (tree.print q.0.place q.1 z)) q ts (redirection_law ts)
      (pure_on Near (pair (pair print_word maybe_form) to_form) (simple_form n depth inner deeper)
      (λ q. tree.print q.0.0.place q.0.1 q.1) (λ q. refl) (λ q. refl) print_spells)))

  printf_spells : (us : List Token) (q : (Token × Printed Tree) × Option (Redirection Tree)) (rest : List Token)
      → Both (pair printf_word list_form) to_form us q rest → Simple n us (tree.printf q.0.0.place q.0.1 q.1) rest
  printf_spells _ _ _ (both _ vs rest _ z (both _ us _ _ xs (this t _ h) i) k) = r.a_printf n t us vs xs z rest h i k

  pub printf_law : Law Near Near (simple_form n depth inner deeper) (st.printf depth inner)
  unfolding st.printf terminal_of
  printf_law ts =
      then_at Near Near Near printf_word (simple_form n depth inner deeper) (one w.Printf) (λ t. st.printed depth inner
      >>= λ xs. st.redirection depth inner >>= λ z. pure (tree.printf t.place xs z)) ts
      (one_law w.Printf (λ _. keyword (codes "printf")) refl refl (λ _ _. refl) Near ts)
      (λ t ts. seq_at Near Near Near printf_word list_form (simple_form n depth inner deeper) (st.printed depth inner)
      (λ t xs. st.redirection depth inner >>= λ z. pure (tree.printf t.place xs z)) t ts (printed_law ts)
      (λ q ts. seq_at Near Near Near (pair printf_word list_form) to_form (simple_form n depth inner deeper)
      (st.redirection depth inner) (λ q z. pure (tree.printf q.0.place q.1 z)) q ts (redirection_law ts)
      (pure_on Near (pair (pair printf_word list_form) to_form) (simple_form n depth inner deeper)
      (λ q. tree.printf q.0.0.place q.0.1 q.1) (λ q. refl) (λ q. refl) printf_spells)))

  -- ---- all simple statements

  simple_at : (k : Terminal) (ts : List Token) → ahead ts ≡ k → At Near Near (simple_form n depth inner deeper)
      (st.simple_by depth inner k) ts
  simple_at w.Print ts sees = print_law ts
  simple_at w.Printf ts sees = printf_law ts
  simple_at w.Delete ts sees = delete_law n depth inner deeper ts
  simple_at (w.Jump which) ts sees = jump_at n depth inner deeper which ts sees
  simple_at w.Exit ts sees = exit_at n depth inner deeper ts sees
  simple_at w.Return ts sees = return_at n depth inner deeper ts sees
  simple_at _ ts sees = plain_law n depth inner deeper ts

  pub simple_law : Law Near Near (simple_form n depth inner deeper) (st.simple depth inner)
  unfolding st.simple
  simple_law ts = choice_at Near (simple_form n depth inner deeper) (st.simple_by depth inner) ts
      (simple_at (ahead ts) ts refl)
