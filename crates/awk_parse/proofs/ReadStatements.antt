-- What is spelled is read: statements that hold others, blocks, and both at each depth.
use Rattle.std.proofs.Common.{◌≡◌, ℕ, zero, suc, ◌+◌, ◌<◌, true, false, ◌&&◌, ◌||◌, List, [], ◌∷◌, ◌++◌, length, Option}
use Rattle.std.proofs.Common.{Ok, refl, sym, ap, ◌∙◌, append_assoc, arith, ◌⊎◌, inl, inr}
use Rattle.std.proofs.lemmas.List.{length-append}
use Rattle.awk_tokens.specs.declared.token.Token.{Token}
use Rattle.awk_tokens.specs.declared.terminals.Terminal.{Terminal}
use Rattle.awk_tokens.specs.declared.terminals.Terminal.TheVariants as w
use Rattle.awk_tree.specs.Looks.{each_next, else_next, name_of, past, skip, step}
use Rattle.awk_tree.specs.declared.goals.Goal.{Goal}
use Rattle.awk_tree.specs.declared.goals.Goal.TheVariants as goal
use Rattle.awk_tree.specs.declared.goals.Nested.{Nested}
use Rattle.awk_tree.specs.declared.goals.Nested.TheVariants as nested
use Rattle.awk_tree.specs.Tree as tree
use Rattle.awk_tree.specs.Tree.{Tree, Statement, statements_of}
use Rattle.awk_tree.specs.Terminals.{terminal, is, look, ahead}
use Rattle.awk_tree.specs.Input.{Parser, Outcome, and_then, exactly, any}
use Rattle.awk_tree.specs.Expressions as e
use Rattle.awk_tree.specs.Statements as st
use Rattle.awk_parse.specs.Rules as rule
use Rattle.awk_parse.specs.Spells as g
use Rattle.awk_parse.specs.Spells.{Spells, Opens, Newlines}
use Rattle.awk_parse.specs.SpellsScripts as r
use Rattle.awk_parse.specs.SpellsScripts.{Gap, Ends, Perhaps, Simple, Test, SpellsStatement, Body, Block}
use Rattle.awk_parse.proofs.TerminalLemmas.{both_true, single, ahead_is, is-true}
use Rattle.awk_parse.proofs.Law.{done_is, decided}
use Rattle.awk_parse.proofs.ReadSteps.{one_reads, skip_reads, follows, is_not, Untils, end_until, turn_until}
use Rattle.awk_parse.proofs.ReadSteps.{until_reads, after_expr}
use Rattle.awk_parse.proofs.Starts.{begins_expression}
use Rattle.awk_parse.proofs.Looks.{begins_simple, begins_statement, simple_begins, no_newline, no_brace}
use Rattle.awk_parse.proofs.Firsts.{Heads, heads_append, heads_look, heads_more, first}
use Rattle.awk_parse.proofs.ReadOperands.{Reaches, three_parts}
use Rattle.awk_parse.proofs.ReadDepths.{reaches}
use Rattle.awk_parse.proofs.ReadSimple.{ends_end, ended_reads, simple_first, simple_reads}

-- ---- tokens as they stand

exactly_reads : (k : Terminal) (t : Token) (ts : List Token) → is k k ≡ true → terminal t ≡ k
    → exactly k (t ∷ ts) ≡ Ok (t, ts)
unfolding exactly any
exactly_reads k t ts i h = rw (h, i) refl

-- newlines and `;` that mean nothing
pub past_reads : (gs ts : List Token) → Gap gs → (is (look ts) w.Newline || is (look ts) w.Semicolon) ≡ false
    → past (gs ++ ts) ≡ ts
past_reads [] [] l h = refl
past_reads [] (t ∷ ts) l h = rw h refl
past_reads (t ∷ gs) ts l h = rw (gone t l.0) (past_reads gs ts l.1 h) where
  gone : (t : Token) → (terminal t ≡ w.Newline) ⊎ (terminal t ≡ w.Semicolon)
      → (is (terminal t) w.Newline || is (terminal t) w.Semicolon) ≡ true
  gone t (inl h) = rw h refl
  gone t (inr h) = rw h refl

-- ---- NAME in NAME

-- four tokens that a for-each has behind its `(`
abbrev IsEach : List Token → Type 0
IsEach ts = (k : Token) × (i : Token) × (a : Token) × (c : Token) × (r : List Token) × (ts ≡ k ∷ i ∷ a ∷ c ∷ r)
    × (terminal k ≡ w.Name) × (terminal i ≡ w.In) × (terminal a ≡ w.Name) × (terminal c ≡ w.CloseParen)

each_parts : (ts : List Token) → each_next ts ≡ true → IsEach ts
each_parts [] h = absurd cc
each_parts (k ∷ []) h = absurd cc
each_parts (k ∷ i ∷ []) h = absurd cc
each_parts (k ∷ i ∷ a ∷ []) h = absurd cc
each_parts (k ∷ i ∷ a ∷ c ∷ r) h =
    let p = both_true (is (terminal k) w.Name) (is (terminal i) w.In
    && (is (terminal a) w.Name && is (terminal c) w.CloseParen)) h in
    let q = both_true (is (terminal i) w.In) (is (terminal a) w.Name && is (terminal c) w.CloseParen) p.1 in
    let s = both_true (is (terminal a) w.Name) (is (terminal c) w.CloseParen) q.1 in (
      k,
      i,
      a,
      c,
      r,
      refl,
      is-true (terminal k) w.Name refl p.0,
      is-true (terminal i) w.In refl q.0,
      is-true (terminal a) w.Name refl s.0,
      is-true (terminal c) w.CloseParen refl s.1,
    )

-- it is spelled as an expression, up to the `)`
each_spelled : (n : ℕ) (k i a c : Token) (r : List Token) → terminal k ≡ w.Name → terminal i ≡ w.In
    → terminal a ≡ w.Name
    → Spells n (rule.expr false) (k ∷ i ∷ a ∷ []) (tree.member (tree.name (name_of k))
    (record { place = i.place; array = name_of a } ∷ [])) (c ∷ r)
each_spelled n k i a c r hk hi ha =
    let rest : List Token = i ∷ a ∷ c ∷ r in
    let x : Tree = tree.name (name_of k) in
    let name : Spells n rule.lvalue (k ∷ []) x rest =
    g.a_name n k rest hk (follows (λ v. is v w.OpenBracket) w.In i (a ∷ c ∷ r) refl hi) in
    let inc : Spells n rule.inc (k ∷ []) x rest = g.no_step n (k ∷ []) x rest (g.an_lvalue n (k ∷ []) x rest name)
    (λ _. ap step (ahead_is w.In i (a ∷ c ∷ r) refl hi)) in
    let mul : Spells n rule.mul (k ∷ []) x rest = g.a_product n (k ∷ []) [] x [] rest
    (g.only_pow n (k ∷ []) x rest (g.only_inc n (k ∷ []) x rest inc)) (g.no_factor n rest) in
    let cat : Spells n rule.cat (k ∷ []) x rest = g.a_concat n (k ∷ []) [] x [] rest
    (g.a_sum n (k ∷ []) [] x [] rest mul (g.no_addend n rest)) (g.no_part n rest) in
    let match : Spells n (rule.match false) (k ∷ []) x rest = g.only_cmp n false (k ∷ []) x rest
    (g.only_pipe n false (k ∷ []) x rest (g.a_pipe n (k ∷ []) [] x [] rest cat (g.no_pipe n rest))) in
    let ms = record { place = i.place; array = name_of a } ∷ [] in
    let used : List Token = k ∷ i ∷ a ∷ [] in
    let y : Tree = tree.member x ms in
    let isin : Spells n (rule.isin false) used y (c ∷ r) = g.a_member n false (k ∷ []) (i ∷ a ∷ []) x ms (c ∷ r) match
    (g.one_name i a [] [] (c ∷ r) hi ha (g.no_name (c ∷ r))) in
    let and : Spells n (rule.and false false) used y (c ∷ r) = g.an_and n false false used [] y [] (c ∷ r) isin
    (g.no_and n false (c ∷ r)) in
    g.only_cond n false used y (c ∷ r) (g.only_or n false used y (c ∷ r) (g.an_or n false false used [] y [] (c ∷ r) and
    (g.no_or n false (c ∷ r))))

-- ---- what it begins with

statement_first : (n : ℕ) (us : List Token) (s : Statement) (rest : List Token) → SpellsStatement n us s rest
    → Heads begins_statement us
statement_first _ _ _ _ (r.an_empty n t rest h) = ap begins_statement h
statement_first _ _ _ _ (r.a_simple n us vs s rest k _) = heads_append begins_statement us vs
    (heads_more begins_simple begins_statement us simple_begins (simple_first n us s (vs ++ rest) k))
statement_first _ _ _ _ (r.a_block n o c us xs rest h _ _ _) = ap begins_statement h
statement_first _ _ _ _ (r.an_if n t us vs x s rest h _ _ _) = ap begins_statement h
statement_first _ _ _ _ (r.an_if_else n t u us vs gs ws x s z rest h _ _ _ _ _) = ap begins_statement h
statement_first _ _ _ _ (r.a_while n t us vs x s rest h _ _) = ap begins_statement h
statement_first _ _ _ _ (r.a_do n t u us ns vs ws s x rest h _ _ _ _ _) = ap begins_statement h
statement_first _ _ _ _ (r.a_for n t o a b c us vs ws bs x y z s rest h _ _ _ _ _ _ _ _ _) = ap begins_statement h
statement_first _ _ _ _ (r.a_for_in n t o k i a c bs s rest h _ _ _ _ _ _ _) = ap begins_statement h

-- newlines before a statement mean nothing
lines_statement : (n : ℕ) (ns us : List Token) (s : Statement) (rest : List Token) → Newlines ns
    → SpellsStatement n us s rest → skip ((ns ++ us) ++ rest) ≡ us ++ rest
lines_statement n ns us s rest l k =
    let begun = heads_look begins_statement us rest (statement_first n us s rest k) in
    rw (append_assoc ns us rest) (skip_reads ns (us ++ rest) l (no_newline (look (us ++ rest)) begun))

-- what is read one level deeper
pub record Holds (n : ℕ) (body : Nested → Parser Statement) : Type 0 where
  pub bodies : (us : List Token) (s : Statement) (rest : List Token) → Body n us s rest → body nested.Body (us ++ rest)
      ≡ Ok (s, rest)
  pub blocks : (c : Token) (us : List Token) (xs : List Statement) (rest : List Token) → terminal c ≡ w.CloseBrace
      → Opens n → Block (suc n) us xs (c ∷ rest) → body nested.Braces (us ++ (c ∷ rest))
      ≡ Ok (tree.block (statements_of xs), rest)

module _ (n depth : ℕ) (inner : Goal → Parser Tree) (deeper : Reaches n depth inner) (body : Nested → Parser Statement)
    (holds : Holds n body) where
  test_reads : (us : List Token) (x : Tree) (rest : List Token) → Test n us x rest
      → st.condition depth inner (us ++ rest) ≡ Ok (x, rest)
  unfolding st.condition
  test_reads _ _ _ (r.a_test _ o c us x rest h j opens s) =
      rw (
        append_assoc us (c ∷ []) rest,
        one_reads w.OpenParen o (us ++ (c ∷ rest)) refl refl h,
        deeper.wholes false us x (c ∷ rest) opens s (follows (after_expr false) w.CloseParen c rest refl j),
        one_reads w.CloseParen c rest refl refl j,
      ) refl

  -- ---- if

  if_reads : (t : Token) (us vs : List Token) (x : Tree) (s : Statement) (rest : List Token) → terminal t ≡ w.If
      → Test n us x (vs ++ rest) → Body n vs s rest → else_next rest ≡ false
      → st.if_of depth inner body (t ∷ (us ++ (vs ++ rest))) ≡ Ok (tree.if_then x s, rest)
  unfolding st.if_of st.else_rest
  if_reads t us vs x s rest h k b none = rw (
    one_reads w.If t (us ++ (vs ++ rest)) refl refl h,
    test_reads us x (vs ++ rest) k,
    holds.bodies vs s rest b,
    none,
  ) refl

  else_reads : (u : Token) (gs ws : List Token) (x : Tree) (s z : Statement) (rest : List Token) → terminal u ≡ w.Else
      → Gap gs → Body n ws z rest → st.else_rest depth inner body x s (gs ++ (u ∷ (ws ++ rest)))
      ≡ Ok (tree.if_else x s z, rest)
  unfolding st.else_rest any
  else_reads u gs ws x s z rest h l b = rw (past_reads gs (u ∷ (ws ++ rest)) l (rw h refl), h, holds.bodies ws z rest b)
      refl

  if_else_reads : (t u : Token) (us vs gs ws : List Token) (x : Tree) (s z : Statement) (rest : List Token)
      → terminal t ≡ w.If → terminal u ≡ w.Else → Test n us x (vs ++ (gs ++ (u ∷ (ws ++ rest))))
      → Body n vs s (gs ++ (u ∷ (ws ++ rest))) → Gap gs → Body n ws z rest
      → st.if_of depth inner body (t ∷ (us ++ (vs ++ (gs ++ (u ∷ (ws ++ rest)))))) ≡ Ok (tree.if_else x s z, rest)
  unfolding st.if_of
  if_else_reads t u us vs gs ws x s z rest h i k a l b =
      let m : List Token = gs ++ (u ∷ (ws ++ rest)) in
      rw (one_reads w.If t (us ++ (vs ++ m)) refl refl h, test_reads us x (vs ++ m) k, holds.bodies vs s m a)
      (else_reads u gs ws x s z rest i l b)

  -- ---- while, do

  while_reads : (t : Token) (us vs : List Token) (x : Tree) (s : Statement) (rest : List Token) → terminal t ≡ w.While
      → Test n us x (vs ++ rest) → Body n vs s rest → st.while_of depth inner body (t ∷ (us ++ (vs ++ rest)))
      ≡ Ok (tree.while_do x s, rest)
  unfolding st.while_of
  while_reads t us vs x s rest h k b = rw (
    one_reads w.While t (us ++ (vs ++ rest)) refl refl h,
    test_reads us x (vs ++ rest) k,
    holds.bodies vs s rest b,
  ) refl

  do_reads : (t u : Token) (us ns vs ws : List Token) (s : Statement) (x : Tree) (rest : List Token) → terminal t ≡ w.Do
      → terminal u ≡ w.While → Body n us s (ns ++ (u ∷ (vs ++ (ws ++ rest)))) → Newlines ns → Test n vs x (ws ++ rest)
      → Ends ws rest
      → st.do_of depth inner body (t ∷ (us ++ (ns ++ (u ∷ (vs ++ (ws ++ rest)))))) ≡ Ok (tree.do_while s x, rest)
  unfolding st.do_of
  do_reads t u us ns vs ws s x rest h i b l k ends =
      let m : List Token = vs ++ (ws ++ rest) in
      rw (
        one_reads w.Do t (us ++ (ns ++ (u ∷ m))) refl refl h,
        holds.bodies us s (ns ++ (u ∷ m)) b,
        skip_reads ns (u ∷ m) l (ap (λ (v : Terminal). is v w.Newline) i),
        one_reads w.While u m refl refl i,
        test_reads vs x (ws ++ rest) k,
      )
      (ended_reads (tree.do_while s x) ws rest ends)

  -- ---- for

  until_sign : (end : Terminal) (a : Token) (us : List Token) (x : Option Tree) (rest : List Token) → terminal a ≡ end
      → is end end ≡ true → single end ≡ true → begins_expression end ≡ false → after_expr false (ahead (a ∷ rest))
      ≡ false → Opens n → Perhaps (suc n) us x (a ∷ rest)
      → st.perhaps_until depth inner end (us ++ (a ∷ rest)) ≡ Ok (x, rest)
  unfolding st.perhaps_until any
  until_sign end a _ _ rest h same alone un f opens (r.no_expr _ _) = rw (h, same) refl
  until_sign end a _ _ rest h same alone un f opens (r.some_expr _ us x _ s) =
      rw (
        is_not begins_expression (look (us ++ (a ∷ rest))) end alone (heads_look begins_expression us (a ∷ rest)
            (first (suc n) (rule.expr false) us x (a ∷ rest) s)) un,
        deeper.wholes false us x (a ∷ rest) opens s f,
        exactly_reads end a rest same h,
      ) refl

  semicolon_stops : (a : Token) (rest : List Token) → terminal a ≡ w.Semicolon → after_expr false (ahead (a ∷ rest))
      ≡ false
  semicolon_stops a rest h = rw h refl

  -- what comes before a `;` is no NAME in NAME )
  not_each : (a : Token) (us : List Token) (x : Option Tree) (rest : List Token) → terminal a ≡ w.Semicolon → Opens n
      → Perhaps (suc n) us x (a ∷ rest) → IsEach (us ++ (a ∷ rest)) → ⊥
  not_each a _ _ rest h opens (r.no_expr _ _) (k, i, b, c, m, same, hk, _, _, _) =
      let both : w.Semicolon ≡ w.Name = sym h ∙ ap look same ∙ hk in cc
  not_each a _ _ rest h opens (r.some_expr _ us x _ s) (k, i, b, c, m, same, hk, hi, hb, hc) =
      let one_way = deeper.wholes false us x (a ∷ rest) opens s (semicolon_stops a rest h) in
      let y : Tree = tree.member (tree.name (name_of k)) (record { place = i.place; array = name_of b } ∷ []) in
      let other = deeper.wholes false (k ∷ i ∷ b ∷ []) y (c ∷ m) opens (each_spelled (suc n) k i b c m hk hi hb)
      (follows (after_expr false) w.CloseParen c m refl hc) in
      let d = done_is x y (a ∷ rest) (c ∷ m) (sym one_way ∙ ap (inner (goal.Expr false)) same ∙ other) in
      let both : w.Semicolon ≡ w.CloseParen = sym h ∙ ap look d.1 ∙ hc in cc

  loop_reads : (a b c : Token) (us vs ws bs : List Token) (x y z : Option Tree) (s : Statement) (rest : List Token)
      → terminal a ≡ w.Semicolon → terminal b ≡ w.Semicolon → terminal c ≡ w.CloseParen → Opens n
      → Perhaps (suc n) us x (a ∷ (vs ++ (b ∷ (ws ++ (c ∷ (bs ++ rest))))))
      → Perhaps (suc n) vs y (b ∷ (ws ++ (c ∷ (bs ++ rest)))) → Perhaps (suc n) ws z (c ∷ (bs ++ rest))
      → Body n bs s rest
      → st.loop_rest depth inner body (us ++ (a ∷ (vs ++ (b ∷ (ws ++ (c ∷ (bs ++ rest)))))))
      ≡ Ok (tree.for_loop x y z s, rest)
  unfolding st.loop_rest
  loop_reads a b c us vs ws bs x y z s rest ha hb hc opens p q k body_is =
      let third : List Token = c ∷ (bs ++ rest) in
      let second : List Token = b ∷ (ws ++ third) in
      rw (
        until_sign w.Semicolon a us x (vs ++ second) ha refl refl refl (semicolon_stops a (vs ++ second) ha) opens p,
        until_sign w.Semicolon b vs y (ws ++ third) hb refl refl refl (semicolon_stops b (ws ++ third) hb) opens q,
        until_sign w.CloseParen c ws z (bs ++ rest) hc refl refl refl (follows (after_expr false) w.CloseParen c
            (bs ++ rest) refl hc) opens k,
        holds.bodies bs s rest body_is,
      ) refl

  for_opens : (t o : Token) (ts : List Token) (v : Outcome Statement) → terminal t ≡ w.For → terminal o ≡ w.OpenParen
      → Opens n → st.for_rest depth inner body t.place ts ≡ v → st.for_of depth inner body (t ∷ o ∷ ts) ≡ v
  unfolding st.for_of
  for_opens t o ts v h k opens q = rw (
    one_reads w.For t (o ∷ ts) refl refl h,
    one_reads w.OpenParen o ts refl refl k,
    deeper.opens opens,
  ) q

  for_reads : (t o a b c : Token) (us vs ws bs : List Token) (x y z : Option Tree) (s : Statement) (rest : List Token)
      → terminal t ≡ w.For → terminal o ≡ w.OpenParen → terminal a ≡ w.Semicolon → terminal b ≡ w.Semicolon
      → terminal c ≡ w.CloseParen → Opens n
      → Perhaps (suc n) us x (a ∷ (vs ++ (b ∷ (ws ++ (c ∷ (bs ++ rest))))))
      → Perhaps (suc n) vs y (b ∷ (ws ++ (c ∷ (bs ++ rest)))) → Perhaps (suc n) ws z (c ∷ (bs ++ rest))
      → Body n bs s rest
      → st.for_of depth inner body (t ∷ o ∷ (us ++ (a ∷ (vs ++ (b ∷ (ws ++ (c ∷ (bs ++ rest))))))))
      ≡ Ok (tree.for_loop x y z s, rest)
  unfolding st.for_rest
  for_reads t o a b c us vs ws bs x y z s rest h k ha hb hc opens p q l body_is =
      let second : List Token = vs ++ (b ∷ (ws ++ (c ∷ (bs ++ rest)))) in
      let ts : List Token = us ++ (a ∷ second) in
      for_opens t o ts (Ok (tree.for_loop x y z s, rest)) h k opens (elim (decided (each_next ts)) [
        | inl each ↦ absurd (not_each a us x second ha opens p (each_parts ts each))
        | inr none ↦ rw none (loop_reads a b c us vs ws bs x y z s rest ha hb hc opens p q l body_is)
      ])

  each_reads : (t o k i a c : Token) (bs : List Token) (s : Statement) (rest : List Token) → terminal t ≡ w.For
      → terminal o ≡ w.OpenParen → terminal k ≡ w.Name → terminal i ≡ w.In → terminal a ≡ w.Name
      → terminal c ≡ w.CloseParen → Opens n → Body n bs s rest
      → st.for_of depth inner body (t ∷ o ∷ k ∷ i ∷ a ∷ c ∷ (bs ++ rest))
      ≡ Ok (tree.for_each t.place (name_of k) (name_of a) s, rest)
  unfolding st.for_rest st.each_rest
  each_reads t o k i a c bs s rest h j hk hi ha hc opens body_is =
      let m : List Token = bs ++ rest in
      let each : each_next (k ∷ i ∷ a ∷ c ∷ m) ≡ true = rw (hk, hi, ha, hc) refl in
      for_opens t o (k ∷ i ∷ a ∷ c ∷ m) (Ok (tree.for_each t.place (name_of k) (name_of a) s, rest)) h j opens
      (rw (
        each,
        one_reads w.Name k (i ∷ a ∷ c ∷ m) refl refl hk,
        one_reads w.In i (a ∷ c ∷ m) refl refl hi,
        one_reads w.Name a (c ∷ m) refl refl ha,
        one_reads w.CloseParen c m refl refl hc,
        holds.bodies bs s rest body_is,
      ) refl)

  -- ---- statements

  simple_by : (k : Terminal) (ts : List Token) → begins_simple k ≡ true → st.statement_by depth inner body k ts
      ≡ and_then (st.simple depth inner ts) st.ended
  simple_by w.Semicolon ts h = absurd cc
  simple_by w.OpenBrace ts h = absurd cc
  simple_by w.If ts h = absurd cc
  simple_by w.While ts h = absurd cc
  simple_by w.Do ts h = absurd cc
  simple_by w.For ts h = absurd cc
  simple_by _ ts h = refl

  by_look : (k : Terminal) (t : Token) (ts : List Token) (v : Outcome Statement) → terminal t ≡ k
      → st.statement_by depth inner body k (t ∷ ts) ≡ v → st.statement_here depth inner body (t ∷ ts) ≡ v
  unfolding st.statement_here
  by_look k t ts v h q = rw h q

  pub statement_reads : (us : List Token) (s : Statement) (rest : List Token) → SpellsStatement n us s rest
      → st.statement_here depth inner body (us ++ rest) ≡ Ok (s, rest)
  unfolding st.statement_here any
  statement_reads _ _ _ (r.an_empty _ t rest h) = by_look w.Semicolon t rest (Ok (tree.empty, rest)) h refl
  statement_reads _ _ _ (r.a_simple _ us vs s rest k ends) =
      rw (
        append_assoc us vs rest,
        simple_by (look (us ++ (vs ++ rest))) (us ++ (vs ++ rest)) (heads_look begins_simple us (vs ++ rest)
            (simple_first n us s (vs ++ rest) k)),
        simple_reads n depth inner deeper us s (vs ++ rest) k (ends_end vs rest ends),
      ) (ended_reads s vs rest ends)
  statement_reads _ _ _ (r.a_block _ o c us xs rest h j opens k) =
      rw (append_assoc us (c ∷ []) rest) (by_look w.OpenBrace o (us ++ (c ∷ rest))
      (Ok (tree.block (statements_of xs), rest)) h (holds.blocks c us xs rest j opens k))
  statement_reads _ _ _ (r.an_if _ t us vs x s rest h k b none) =
      rw (append_assoc us vs rest) (by_look w.If t (us ++ (vs ++ rest)) (Ok (tree.if_then x s, rest)) h
      (if_reads t us vs x s rest h k b none))
  statement_reads _ _ _ (r.an_if_else _ t u us vs gs ws x s z rest h i k a l b) =
      rw (three_parts us vs gs (u ∷ ws) rest) (by_look w.If t (us ++ (vs ++ (gs ++ (u ∷ (ws ++ rest)))))
      (Ok (tree.if_else x s z, rest)) h (if_else_reads t u us vs gs ws x s z rest h i k a l b))
  statement_reads _ _ _ (r.a_while _ t us vs x s rest h k b) =
      rw (append_assoc us vs rest) (by_look w.While t (us ++ (vs ++ rest)) (Ok (tree.while_do x s, rest)) h
      (while_reads t us vs x s rest h k b))
  statement_reads _ _ _ (r.a_do _ t u us ns vs ws s x rest h i b l k ends) =
      rw (three_parts us ns (u ∷ vs) ws rest) (by_look w.Do t (us ++ (ns ++ (u ∷ (vs ++ (ws ++ rest)))))
      (Ok (tree.do_while s x, rest)) h (do_reads t u us ns vs ws s x rest h i b l k ends))
  statement_reads _ _ _ (r.a_for _ t o a b c us vs ws bs x y z s rest h k ha hb hc opens p q l body_is) =
      rw (three_parts us (a ∷ vs) (b ∷ ws) (c ∷ bs) rest)
      (by_look w.For t (o ∷ (us ++ (a ∷ (vs ++ (b ∷ (ws ++ (c ∷ (bs ++ rest))))))))
      (Ok (tree.for_loop x y z s, rest)) h
      (for_reads t o a b c us vs ws bs x y z s rest h k ha hb hc opens p q l body_is))
  statement_reads _ _ _ (r.a_for_in _ t o k i a c bs s rest h j hk hi ha hc opens body_is) =
      by_look w.For t (o ∷ k ∷ i ∷ a ∷ c ∷ (bs ++ rest)) (Ok (tree.for_each t.place (name_of k) (name_of a) s, rest)) h
      (each_reads t o k i a c bs s rest h j hk hi ha hc opens body_is)

  -- ---- blocks

  shorter : (ns us vs rest : List Token) → Heads begins_statement us
      → length (vs ++ rest) < length (((ns ++ us) ++ vs) ++ rest)
  shorter ns [] vs rest h = absurd h
  shorter ns (t ∷ us) vs rest h = omega (
    arith,
    length-append ns (t ∷ us),
    length-append (ns ++ t ∷ us) vs,
    length-append ((ns ++ t ∷ us) ++ vs) rest,
    length-append vs rest,
  )

  block_untils : (us : List Token) (xs : List Statement) (rest : List Token) → Block n us xs rest
      → look rest ≡ w.CloseBrace → Untils skip (λ ts. is (look ts) w.CloseBrace) (st.statement_here depth inner body)
      (us ++ rest) xs rest
  block_untils _ _ _ (r.no_statement _ ns rest l) h =
      end_until (ns ++ rest) rest (skip_reads ns rest l (ap (λ (v : Terminal). is v w.Newline) h))
      (ap (λ (v : Terminal). is v w.CloseBrace) h)
  block_untils _ _ _ (r.one_statement _ ns us vs s xs rest l k more) h =
      let begun = statement_first n us s (vs ++ rest) k in
      let opened = no_brace (look (us ++ (vs ++ rest))) (heads_look begins_statement us (vs ++ rest) begun) in
      turn_until (((ns ++ us) ++ vs) ++ rest) (us ++ (vs ++ rest)) (vs ++ rest) rest s xs
      (ap skip (append_assoc (ns ++ us) vs rest) ∙ lines_statement n ns us s (vs ++ rest) l k) opened
      (statement_reads us s (vs ++ rest) k) (shorter ns us vs rest begun) (block_untils vs xs rest more h)

  pub braces_reads : (c : Token) (us : List Token) (xs : List Statement) (rest : List Token) → terminal c ≡ w.CloseBrace
      → Block n us xs (c ∷ rest) → st.braces depth inner body (us ++ (c ∷ rest)) ≡ Ok (xs, rest)
  unfolding st.braces st.statements
  braces_reads c us xs rest h k =
      rw (
        until_reads skip (λ ts. is (look ts) w.CloseBrace) (st.statement_here depth inner body) (us ++ (c ∷ rest)) xs
            (c ∷ rest) (block_untils us xs (c ∷ rest) k h),
        exactly_reads w.CloseBrace c rest refl h,
      ) refl

  pub body_reads : (ns us : List Token) (s : Statement) (rest : List Token) → Newlines ns → SpellsStatement n us s rest
      → st.nested_in depth inner body nested.Body ((ns ++ us) ++ rest) ≡ Ok (s, rest)
  body_reads ns us s rest l k = rw (lines_statement n ns us s rest l k) (statement_reads us s rest k)

-- ---- at each depth

no_body : (n : ℕ) (body : Nested → Parser Statement) (us : List Token) (s : Statement) (rest : List Token) → n ≡ 200
    → Body n us s rest → body nested.Body (us ++ rest) ≡ Ok (s, rest)
no_body _ body _ _ _ h (r.a_body n ns us s rest o _ _) = absurd (omega (arith, h, o))

pub holds_at : (n depth : ℕ) → n + depth ≡ 200 → Holds n (st.statement depth)
unfolding st.statement
holds_at n zero h = record {
  bodies = λ us s rest b. no_body n (st.statement zero) us s rest (omega (arith, h)) b;
  blocks = λ c us xs rest _ o _. absurd (omega (arith, h, o));
}
holds_at n (suc depth) h =
    let same : suc n + depth ≡ 200 = omega (arith, h) in
    let d = reaches (suc n) depth same in
    let b = holds_at (suc n) depth same in
    record {
      bodies = λ us s rest k. body_of us s rest d b k;
      blocks = λ c us xs rest j o k. rw (braces_reads (suc n) depth (e.expr depth) d (st.statement depth) b c us xs rest
          j k) refl;
    } where
      body_of : (us : List Token) (s : Statement) (rest : List Token) → Reaches (suc n) depth (e.expr depth)
          → Holds (suc n) (st.statement depth) → Body n us s rest
          → st.nested_in depth (e.expr depth) (st.statement depth) nested.Body (us ++ rest) ≡ Ok (s, rest)
      body_of _ _ _ d b (r.a_body _ ns us s rest _ l k) = body_reads (suc n) depth (e.expr depth) d (st.statement depth)
          b ns us s rest l k
