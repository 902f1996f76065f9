-- What is spelled is read: simple statements, and their end.
use Rattle.std.proofs.Common.{◌≡◌, ℕ, suc, true, false, ◌&&◌, List, [], ◌∷◌, ◌++◌, Option, Some, Ok, refl, sym, ap, ◌∙◌}
use Rattle.std.proofs.Common.{append_assoc, arith, inl, inr}
use Rattle.awk_text.specs.declared.place.Place.{Place}
use Rattle.awk_tokens.specs.declared.token.Token.{Token}
use Rattle.awk_tokens.specs.declared.terminals.Terminal.{Terminal}
use Rattle.awk_tokens.specs.declared.terminals.Terminal.TheVariants as w
use Rattle.awk_tree.specs.Looks.{ends_print, name_of, redirect}
use Rattle.awk_tree.specs.declared.operators.Redirect.{Redirect}
use Rattle.awk_tree.specs.declared.statements.Printed.{Printed}
use Rattle.awk_tree.specs.declared.statements.Redirection.{Redirection}
use Rattle.awk_tree.specs.declared.goals.Goal.{Goal}
use Rattle.awk_tree.specs.declared.goals.Goal.TheVariants as goal
use Rattle.awk_tree.specs.Tree as tree
use Rattle.awk_tree.specs.Tree.{Tree, Statement}
use Rattle.awk_tree.specs.Terminals.{terminal, is, ahead}
use Rattle.awk_tree.specs.Input.{Parser, Outcome, and_then, ◌>>=◌, one, any, pure, refuse}
use Rattle.awk_tree.specs.Expressions as e
use Rattle.awk_tree.specs.Statements as st
use Rattle.awk_parse.specs.Rules as rule
use Rattle.awk_parse.specs.Spells as g
use Rattle.awk_parse.specs.Spells.{Spells, Opens, Newlines, Listed}
use Rattle.awk_parse.specs.SpellsScripts as r
use Rattle.awk_parse.specs.SpellsScripts.{Ends, Perhaps, Items, PrintList, Redirected, Simple}
use Rattle.awk_parse.proofs.TerminalLemmas.{steady, ahead_is, is-true}
use Rattle.awk_parse.proofs.Law.{bind_ok, chosen, decided}
use Rattle.awk_parse.proofs.ReadSteps.{one_reads, follows, is_not, Turns, stop, turn_on, many_reads, after_cat}
use Rattle.awk_parse.proofs.ReadSteps.{after_expr}
use Rattle.awk_parse.proofs.Starts.{begins_expression}
use Rattle.awk_parse.proofs.Looks.{begins_simple, expression_begins}
use Rattle.awk_parse.proofs.EndLaws.{ahead_look}
use Rattle.awk_parse.proofs.Firsts.{Heads, heads_append, heads_ahead, heads_more, unary_steady, first}
use Rattle.awk_parse.proofs.ReadOperands.{Reaches, commas_turns, commas_follow, list_reads, lines_reads}
use Rattle.awk_parse.proofs.ReadChains.{cat_reads}
use Rattle.awk_parse.proofs.ReadDepths.{expression_reads}

-- ---- where a simple statement ends

pub ends_end : (us rest : List Token) → Ends us rest → ahead (us ++ rest) ≡ w.End
ends_end _ _ (r.by_semicolon t rest h) = rw h refl
ends_end _ _ (r.by_newline t rest h) = rw h refl
ends_end _ _ (r.before_brace rest h) = ahead_look rest w.CloseBrace h (λ _. refl)

pub ended_reads : (s : Statement) (us rest : List Token) → Ends us rest → st.ended s (us ++ rest) ≡ Ok (s, rest)
unfolding st.ended any
ended_reads s _ _ (r.by_semicolon t rest h) = rw h refl
ended_reads s _ _ (r.by_newline t rest h) = rw h refl
ended_reads s _ _ (r.before_brace rest h) = rw h refl

-- ---- what a print's list is followed by

redirects_end : (how : Redirect) (k : Terminal) → redirect k ≡ Some how → ends_print k ≡ true
redirects_end how w.Greater h = refl
redirects_end how w.Append h = refl
redirects_end how w.Bar h = refl
redirects_end how _ h = absurd cc

print_ends : (k : Terminal) → ends_print k ≡ true → (after_expr true k ≡ false) × (is w.Comma k ≡ false)
print_ends w.End h = (refl, refl)
print_ends w.Greater h = (refl, refl)
print_ends w.Append h = (refl, refl)
print_ends w.Bar h = (refl, refl)
print_ends _ h = absurd cc

begun_ends : (k : Terminal) → begins_expression k ≡ true → ends_print k ≡ false
begun_ends w.End h = absurd cc
begun_ends w.Greater h = absurd cc
begun_ends w.Append h = absurd cc
begun_ends w.Bar h = absurd cc
begun_ends _ h = refl

redirected_ends : (n : ℕ) (us : List Token) (x : Option (Redirection Tree)) (rest : List Token) → Redirected n us x rest
    → ahead rest ≡ w.End → ends_print (ahead (us ++ rest)) ≡ true
redirected_ends _ _ _ _ (r.no_redirection n rest _) f = ap ends_print f
redirected_ends _ _ _ _ (r.redirected n how t us x rest h _) f = redirects_end how (ahead (t ∷ us ++ rest)) h

items_follow : (n : ℕ) (us : List Token) (xs : List Tree) (rest : List Token) → Items n us xs rest
    → ends_print (ahead rest) ≡ true → after_expr true (ahead (us ++ rest)) ≡ false
items_follow _ _ _ _ (r.no_item n rest) f = let q = print_ends (ahead rest) f in q.0
items_follow _ _ _ _ (r.one_item n t ns us vs x xs rest h _ _ _) f = follows (after_expr true) w.Comma t
    (((ns ++ us) ++ vs) ++ rest) refl h

-- ---- what it begins with

pub simple_first : (n : ℕ) (us : List Token) (s : Statement) (rest : List Token) → Simple n us s rest
    → Heads begins_simple us
simple_first _ _ _ _ (r.an_expression n us x rest s) = heads_more begins_expression begins_simple us expression_begins
    (first n (rule.expr false) us x rest s)
simple_first _ _ _ _ (r.an_empty_print n t vs x rest h _) = ap begins_simple h
simple_first _ _ _ _ (r.a_print n t us vs xs x rest h _ _) = ap begins_simple h
simple_first _ _ _ _ (r.a_printf n t us vs xs x rest h _ _) = ap begins_simple h
simple_first _ _ _ _ (r.a_delete_all n t m rest h _ _) = ap begins_simple h
simple_first _ _ _ _ (r.a_delete n t m o c us xs rest h _ _ _ _ _) = ap begins_simple h
simple_first _ _ _ _ (r.a_jump n which t rest h) = ap begins_simple h
simple_first _ _ _ _ (r.an_exit n t us x rest h _) = ap begins_simple h
simple_first _ _ _ _ (r.a_return n t us x rest h _) = ap begins_simple h

print_first : (n : ℕ) (us : List Token) (xs : Printed Tree) (rest : List Token) → PrintList n us xs rest
    → Heads begins_expression us
print_first _ _ _ _ (r.plain_list n us vs x xs rest s _) = heads_append begins_expression us vs
    (first n (rule.expr true) us x (vs ++ rest) s)
print_first _ _ _ _ (r.grouped_list n o c us x y zs rest h _ _ _ _) = ap begins_expression h

module _ (n depth : ℕ) (inner : Goal → Parser Tree) (deeper : Reaches n depth inner) where
  -- ---- print

  next_printed_reads : (t : Token) (ns us : List Token) (x : Tree) (rest : List Token) → terminal t ≡ w.Comma
      → Newlines ns → Spells n (rule.expr true) us x rest → after_expr true (ahead rest) ≡ false
      → st.next_printed depth inner ((t ∷ ns ++ us) ++ rest) ≡ Ok (x, rest)
  unfolding st.next_printed
  next_printed_reads t ns us x rest h l s f =
      rw (one_reads w.Comma t ((ns ++ us) ++ rest) refl refl h, lines_reads n true ns us x rest l s)
      (expression_reads n depth inner deeper true us x rest s f)

  items_turns : (us : List Token) (xs : List Tree) (rest : List Token) → Items n us xs rest
      → ends_print (ahead rest) ≡ true → Turns (is w.Comma) (st.next_printed depth inner) (us ++ rest) xs rest
  items_turns _ _ _ (r.no_item _ rest) f = let q = print_ends (ahead rest) f in stop rest q.1
  items_turns _ _ _ (r.one_item _ t ns us vs x xs rest h l s k) f =
      turn_on (is w.Comma) (st.next_printed depth inner) (t ∷ ns ++ us) vs rest x xs (omega arith)
      (follows (is w.Comma) w.Comma t ((ns ++ us) ++ (vs ++ rest)) refl h)
      (next_printed_reads t ns us x (vs ++ rest) h l s (items_follow n vs xs rest k f)) (items_turns vs xs rest k f)

  printed_rest_reads : (us : List Token) (x : Tree) (xs : List Tree) (rest : List Token) → Items n us xs rest
      → ends_print (ahead rest) ≡ true → st.printed_rest depth inner x (us ++ rest)
      ≡ Ok (record { is_grouped = false; items = x ∷ xs }, rest)
  unfolding st.printed_rest st.more_printed
  printed_rest_reads us x xs rest k f = rw (many_reads (is w.Comma) (st.next_printed depth inner) (us ++ rest) xs rest
      (items_turns us xs rest k f)) refl

  -- a list in parentheses that goes on with `in` is not all that is printed
  not_ended : (place : Place) (x : Tree) (xs : List Tree) (ts : List Token) (l : Tree) (k : List Token)
      → e.grouped depth inner true place x xs ts ≡ Ok (l, k) → (st.is_several xs && ends_print (ahead ts)) ≡ false
  unfolding e.in_name one
  not_ended place x [] ts l k h = refl
  not_ended place x (y ∷ xs) ts l k h =
      let a = bind_ok (e.in_name ts) (λ m. e.in_names >>= λ ms. pure (tree.group place (tree.trees_of (x ∷ y ∷ xs))
      (m ∷ ms))) l k h in
      let b = bind_ok (one w.In ts) (λ word. one w.Name >>= λ token. pure
      (record { place = word.place; array = name_of token })) a.0 a.1 a.2 in
      elim (chosen (is (ahead ts) w.In) (any ts) (refuse ts) (Ok (b.0, b.1)) b.2) [
        | inl y ↦ let same = is-true (ahead ts) w.In refl y.0 in ap ends_print same
        | inr m ↦ absurd cc
      ]

  printed_paren_is : (ts : List Token) (o c : Token) (x l y : Tree) (xs : List Tree) (m1 m2 m3 m4 m5 m6 : List Token)
      → one w.OpenParen ts ≡ Ok (o, m1) → inner (goal.Expr false) m1 ≡ Ok (x, m2)
      → e.commas depth inner m2 ≡ Ok (xs, m3) → one w.CloseParen m3 ≡ Ok (c, m4)
      → e.grouped depth inner true o.place x xs m4 ≡ Ok (l, m5) → e.expr_rest depth inner true l m5 ≡ Ok (y, m6)
      → st.printed_paren depth inner ts ≡ st.printed_rest depth inner y m6
  unfolding st.printed_paren st.printed_from
  printed_paren_is ts o c x l y xs m1 m2 m3 m4 m5 m6 h1 h2 h3 h4 h5 h6 =
      rw (h1, h2, h3, h4, not_ended o.place x xs m4 l m5 h5, h5, h6) refl

  paren_printed : (ts : List Token) (x : Tree) (r : List Token) → is (ahead ts) w.OpenParen ≡ true
      → e.expression depth inner true ts ≡ Ok (x, r) → st.printed_paren depth inner ts ≡ st.printed_rest depth inner x r
  unfolding e.expression e.isin e.from_paren
  paren_printed ts x r sees h =
      let from : and_then (e.from_paren depth inner true ts) (e.expr_rest depth inner true) ≡ Ok (x, r) =
      rw (sym (from_is ts sees)) h in
      let a = bind_ok (e.from_paren depth inner true ts) (e.expr_rest depth inner true) x r from in
      let b = bind_ok (one w.OpenParen ts) (λ o. inner (goal.Expr false) >>= λ y. e.commas depth inner
      >>= λ ys. one w.CloseParen >>= λ _. e.grouped depth inner true o.place y ys) a.0 a.1 a.2 in
      let c = bind_ok (inner (goal.Expr false) b.1) (λ y. e.commas depth inner >>= λ ys. one w.CloseParen
      >>= λ _. e.grouped depth inner true (b.0).place y ys) a.0 a.1 b.3 in
      let d = bind_ok (e.commas depth inner c.1) (λ ys. one w.CloseParen >>= λ _. e.grouped depth inner true
      (b.0).place c.0 ys) a.0 a.1 c.3 in
      let f = bind_ok (one w.CloseParen d.1) (λ _. e.grouped depth inner true (b.0).place c.0 d.0) a.0 a.1 d.3 in
      printed_paren_is ts b.0 f.0 c.0 a.0 x d.0 b.1 c.1 d.1 f.1 a.1 r b.2 c.2 d.2 f.2 f.3 a.3 where
        from_is : (ts : List Token) → is (ahead ts) w.OpenParen ≡ true
            → e.isin depth inner true ts ≡ e.from_paren depth inner true ts
        from_is ts sees = rw sees refl

  grouped_reads : (o c : Token) (us : List Token) (x y : Tree) (zs : List Tree) (rest : List Token)
      → terminal o ≡ w.OpenParen → terminal c ≡ w.CloseParen → Opens n → Listed (suc n) us (x ∷ y ∷ zs) (c ∷ rest)
      → ends_print (ahead rest) ≡ true
      → st.printed_paren depth inner (o ∷ (us ++ (c ∷ rest))) ≡ Ok (
        record { is_grouped = true; items = x ∷ y ∷ zs },
        rest,
      )
  unfolding st.printed_paren st.printed_from e.commas
  grouped_reads o c _ _ y zs rest h j opens (g.a_list _ us vs x _ _ s k) f =
      let stops = follows (after_expr false) w.CloseParen c rest refl j in
      rw (
        append_assoc us vs (c ∷ rest),
        one_reads w.OpenParen o (us ++ (vs ++ (c ∷ rest))) refl refl h,
        deeper.wholes false us x (vs ++ (c ∷ rest)) opens s (commas_follow (suc n) vs (y ∷ zs) (c ∷ rest) k stops),
        many_reads (is w.Comma) (e.next_in_list depth inner) (vs ++ (c ∷ rest)) (y ∷ zs) (c ∷ rest)
            (commas_turns n depth inner deeper vs (y ∷ zs) (c ∷ rest) opens k stops
            (follows (is w.Comma) w.CloseParen c rest refl j)),
        one_reads w.CloseParen c rest refl refl j,
        f,
      ) refl

  printed_reads : (us : List Token) (xs : Printed Tree) (rest : List Token) → PrintList n us xs rest
      → ends_print (ahead rest) ≡ true → st.printed depth inner (us ++ rest) ≡ Ok (xs, rest)
  unfolding st.printed
  printed_reads _ _ _ (r.plain_list _ us vs x xs rest s k) f =
      let h = expression_reads n depth inner deeper true us x (vs ++ rest) s (items_follow n vs xs rest k f) in
      let more = printed_rest_reads vs x xs rest k f in
      elim (decided (is (ahead (us ++ (vs ++ rest))) w.OpenParen)) [
        | inl y ↦ rw (append_assoc us vs rest, y) (paren_printed (us ++ (vs ++ rest)) x (vs ++ rest) y h ∙ more)
        | inr m ↦ rw (append_assoc us vs rest, m, h) more
      ]
  printed_reads _ _ _ (r.grouped_list _ o c us x y zs rest h j opens l ends) f =
      rw (append_assoc us (c ∷ []) rest, ahead_is w.OpenParen o (us ++ (c ∷ rest)) refl h)
      (grouped_reads o c us x y zs rest h j opens l ends)

  redirection_reads : (us : List Token) (x : Option (Redirection Tree)) (rest : List Token) → Redirected n us x rest
      → ahead rest ≡ w.End → st.redirection depth inner (us ++ rest) ≡ Ok (x, rest)
  unfolding st.redirection any
  redirection_reads _ _ _ (r.no_redirection _ rest h) f = rw h refl
  redirection_reads _ _ _ (r.redirected _ how t us x rest h s) f =
      rw (h, cat_reads n depth inner deeper us x rest s (ap after_cat f)) refl

  print_reads : (t : Token) (us vs : List Token) (xs : Printed Tree) (x : Option (Redirection Tree)) (rest : List Token)
      → terminal t ≡ w.Print → PrintList n us xs (vs ++ rest) → Redirected n vs x rest → ahead rest ≡ w.End
      → st.print depth inner (t ∷ (us ++ (vs ++ rest))) ≡ Ok (tree.print t.place xs x, rest)
  unfolding st.print st.printed_or_none
  print_reads t us vs xs x rest h k l f =
      rw (
        one_reads w.Print t (us ++ (vs ++ rest)) refl refl h,
        begun_ends (ahead (us ++ (vs ++ rest))) (heads_ahead begins_expression us (vs ++ rest) unary_steady
            (print_first n us xs (vs ++ rest) k)),
        printed_reads us xs (vs ++ rest) k (redirected_ends n vs x rest l f),
        redirection_reads vs x rest l f,
      ) refl

  empty_print_reads : (t : Token) (vs : List Token) (x : Option (Redirection Tree)) (rest : List Token)
      → terminal t ≡ w.Print → Redirected n vs x rest → ahead rest ≡ w.End
      → st.print depth inner (t ∷ (vs ++ rest)) ≡ Ok (
        tree.print t.place (record { is_grouped = false; items = [] }) x,
        rest,
      )
  unfolding st.print st.printed_or_none
  empty_print_reads t vs x rest h l f = rw (
    one_reads w.Print t (vs ++ rest) refl refl h,
    redirected_ends n vs x rest l f,
    redirection_reads vs x rest l f,
  ) refl

  printf_reads : (t : Token) (us vs : List Token) (xs : Printed Tree) (x : Option (Redirection Tree))
      (rest : List Token) → terminal t ≡ w.Printf → PrintList n us xs (vs ++ rest) → Redirected n vs x rest
      → ahead rest ≡ w.End
      → st.printf depth inner (t ∷ (us ++ (vs ++ rest))) ≡ Ok (tree.printf t.place xs x, rest)
  unfolding st.printf
  printf_reads t us vs xs x rest h k l f =
      rw (
        one_reads w.Printf t (us ++ (vs ++ rest)) refl refl h,
        printed_reads us xs (vs ++ rest) k
            (redirected_ends n vs x rest l f),
        redirection_reads vs x rest l f,
      ) refl

  -- ---- the others

  delete_all_reads : (t m : Token) (rest : List Token) → terminal t ≡ w.Delete → terminal m ≡ w.Name
      → is (ahead rest) w.OpenBracket ≡ false → st.delete depth inner (t ∷ m ∷ rest) ≡ Ok (
        tree.delete_all (name_of m),
        rest,
      )
  unfolding st.delete
  delete_all_reads t m rest h k alone = rw (
    one_reads w.Delete t (m ∷ rest) refl refl h,
    one_reads w.Name m rest refl refl k,
    alone,
  ) refl

  delete_reads : (t m o c : Token) (us : List Token) (xs : List Tree) (rest : List Token) → terminal t ≡ w.Delete
      → terminal m ≡ w.Name → terminal o ≡ w.OpenBracket → terminal c ≡ w.CloseBracket → Opens n
      → Listed (suc n) us xs (c ∷ rest)
      → st.delete depth inner (t ∷ m ∷ o ∷ (us ++ (c ∷ rest))) ≡ Ok (tree.delete (name_of m) xs, rest)
  unfolding st.delete
  delete_reads t m o c us xs rest h k i j opens l =
      rw (
        one_reads w.Delete t (m ∷ o ∷ (us ++ (c ∷ rest))) refl refl h,
        one_reads w.Name m (o ∷ (us ++ (c ∷ rest))) refl refl k,
        ahead_is w.OpenBracket o (us ++ (c ∷ rest)) refl i,
        one_reads w.OpenBracket o (us ++ (c ∷ rest)) refl refl i,
        list_reads n depth inner deeper us xs (c ∷ rest) opens l (follows (after_expr false) w.CloseBracket c rest refl
            j) (follows (is w.Comma) w.CloseBracket c rest refl j),
        one_reads w.CloseBracket c rest refl refl j,
      ) refl

  perhaps_reads : (us : List Token) (x : Option Tree) (rest : List Token) → Perhaps n us x rest → ahead rest ≡ w.End
      → st.perhaps_here depth inner (us ++ rest) ≡ Ok (x, rest)
  unfolding st.perhaps_here
  perhaps_reads _ _ _ (r.no_expr _ rest) f = rw f refl
  perhaps_reads _ _ _ (r.some_expr _ us x rest s) f =
      rw (
        is_not begins_expression (ahead (us ++ rest)) w.End refl (heads_ahead begins_expression us rest unary_steady
            (first n (rule.expr false) us x rest s)) refl,
        expression_reads n depth inner deeper false us x rest s (ap (after_expr false) f),
      ) refl

  plain_by : (k : Terminal) (ts : List Token) → begins_expression k ≡ true → st.simple_by depth inner k ts
      ≡ and_then (e.expression depth inner false ts) (λ x. pure (tree.plain x))
  plain_by w.Print ts h = absurd cc
  plain_by w.Printf ts h = absurd cc
  plain_by w.Delete ts h = absurd cc
  plain_by (w.Jump which) ts h = absurd cc
  plain_by w.Exit ts h = absurd cc
  plain_by w.Return ts h = absurd cc
  plain_by _ ts h = refl

  by_simple : (k : Terminal) (t : Token) (ts : List Token) (v : Outcome Statement) → steady k ≡ true → terminal t ≡ k
      → st.simple_by depth inner k (t ∷ ts) ≡ v → st.simple depth inner (t ∷ ts) ≡ v
  unfolding st.simple
  by_simple k t ts v s h q = rw (ahead_is k t ts s h) q

  pub simple_reads : (us : List Token) (s : Statement) (rest : List Token) → Simple n us s rest → ahead rest ≡ w.End
      → st.simple depth inner (us ++ rest) ≡ Ok (s, rest)
  unfolding any st.simple
  simple_reads _ _ _ (r.an_expression _ us x rest s) f =
      rw (
        plain_by (ahead (us ++ rest)) (us ++ rest) (heads_ahead begins_expression us rest unary_steady
            (first n (rule.expr false) us x rest s)),
        expression_reads n depth inner deeper false us x rest s
            (ap (after_expr false) f),
      ) refl
  simple_reads _ _ _ (r.an_empty_print _ t vs x rest h l) f = by_simple w.Print t (vs ++ rest)
      (Ok (tree.print t.place (record { is_grouped = false; items = [] }) x, rest)) refl h
      (empty_print_reads t vs x rest h l f)
  simple_reads _ _ _ (r.a_print _ t us vs xs x rest h k l) f =
      rw (append_assoc us vs rest) (by_simple w.Print t (us ++ (vs ++ rest)) (Ok (tree.print t.place xs x, rest)) refl h
      (print_reads t us vs xs x rest h k l f))
  simple_reads _ _ _ (r.a_printf _ t us vs xs x rest h k l) f =
      rw (append_assoc us vs rest) (by_simple w.Printf t (us ++ (vs ++ rest)) (Ok (tree.printf t.place xs x, rest)) refl
      h (printf_reads t us vs xs x rest h k l f))
  simple_reads _ _ _ (r.a_delete_all _ t m rest h k alone) f = by_simple w.Delete t (m ∷ rest)
      (Ok (tree.delete_all (name_of m), rest)) refl h (delete_all_reads t m rest h k alone)
  simple_reads _ _ _ (r.a_delete _ t m o c us xs rest h k i j opens l) f =
      rw (append_assoc us (c ∷ []) rest) (by_simple w.Delete t (m ∷ o ∷ (us ++ (c ∷ rest)))
      (Ok (tree.delete (name_of m) xs, rest)) refl h (delete_reads t m o c us xs rest h k i j opens l))
  simple_reads _ _ _ (r.a_jump _ which t rest h) f = by_simple (w.Jump which) t rest
      (Ok (tree.jump t.place which, rest)) refl h refl
  simple_reads _ _ _ (r.an_exit _ t us x rest h k) f = by_simple w.Exit t (us ++ rest) (Ok (tree.exit t.place x, rest))
      refl h (rw (perhaps_reads us x rest k f) refl)
  simple_reads _ _ _ (r.a_return _ t us x rest h k) f = by_simple w.Return t (us ++ rest)
      (Ok (tree.return t.place x, rest)) refl h (rw (perhaps_reads us x rest k f) refl)
