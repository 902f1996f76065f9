-- No `else` follows what is read as an open statement: the `if` that ends it has looked for one.
use Rattle.std.proofs.Common.{◌≡◌, ◌∙◌, sym, ℕ, zero, suc, ◌+◌, ◌==◌, Bool, true, false, if◌then◌else◌, List, Ok, Err}
use Rattle.std.proofs.Common.{refl, subst}
use Rattle.awk_tokens.specs.declared.token.Token.{Token}
use Rattle.awk_text.specs.declared.place.Place.{Place}
use Rattle.awk_tree.specs.Looks.{each_next, else_next, name_of, past, skip}
use Rattle.awk_tree.specs.declared.goals.Goal.{Goal}
use Rattle.awk_tree.specs.declared.goals.Nested.{Nested}
use Rattle.awk_tree.specs.declared.goals.Nested.TheVariants as nested
use Rattle.awk_tokens.specs.declared.terminals.Terminal.{Terminal}
use Rattle.awk_tokens.specs.declared.terminals.Terminal.TheVariants as w
use Rattle.awk_tree.specs.Terminals.{is, look, ahead}
use Rattle.awk_tree.specs.Tree as t
use Rattle.awk_tree.specs.Tree.{Tree, Statement, statements_of}
use Rattle.awk_tree.specs.Input.{Outcome, Parser, and_then, ◌>>=◌, ◌>>◌, pure, deep, any, one}
use Rattle.awk_tree.specs.Expressions.{expr, expression, list}
use Rattle.awk_tree.specs.Statements as st
use Rattle.awk_statements.specs.Open.{is_open}

-- how many statements stand one in another at the end
abbrev pub tail_depth : Statement → ℕ
tail_depth (t.if_else x s u) = 1 + tail_depth u
tail_depth (t.while_do x s) = 1 + tail_depth s
tail_depth (t.for_each p key array s) = 1 + tail_depth s
tail_depth (t.for_loop x y z s) = 1 + tail_depth s
tail_depth other = 0

-- what is read is not open
abbrev Shut : Outcome Statement → Type 0
Shut (Ok p) = is_open p.0 ≡ false
Shut (Err e) = Unit {0}

-- no `else` follows it where it is open
abbrev pub Closed : Outcome Statement → Type 0
Closed (Ok p) = is_open p.0 ≡ true → else_next p.1 ≡ false
Closed (Err e) = Unit {0}

then_shut : {A : Type 0} (o : Outcome A) (k : A → Parser Statement) → ((x : A) (ts : List Token) → Shut (k x ts))
    → Shut (and_then o k)
then_shut (Ok p) k h = h p.0 p.1
then_shut (Err e) k h = tt

then_closed : {A : Type 0} (o : Outcome A) (k : A → Parser Statement) → ((x : A) (ts : List Token) → Closed (k x ts))
    → Closed (and_then o k)
then_closed (Ok p) k h = h p.0 p.1
then_closed (Err e) k h = tt

shut_closed : (o : Outcome Statement) → Shut o → Closed o
shut_closed (Ok p) h = λ shown. let no : false ≡ true = sym h ∙ shown in absurd cc
shut_closed (Err e) h = tt

either_shut : (b : Bool) (p q : Parser Statement) (ts : List Token) → Shut (p ts) → Shut (q ts)
    → Shut ((if b then p else q) ts)
either_shut true p q ts h k = h
either_shut false p q ts h k = k

-- ---- statements that hold no other

ended_shut : (s : Statement) → is_open s ≡ false → (kind : Terminal) (ts : List Token) → Shut (st.ended_by s kind ts)
ended_shut s h w.Semicolon ts = then_shut (any ts) (λ _. pure s) (λ _ _. h)
ended_shut s h w.Newline ts = then_shut (any ts) (λ _. pure s) (λ _ _. h)
ended_shut s h w.CloseBrace ts = h
ended_shut s h _ ts = tt

ended_here : (s : Statement) → is_open s ≡ false → (ts : List Token) → Shut (st.ended s ts)
unfolding st.ended
ended_here s h ts = ended_shut s h (look ts) ts

then_ended : (o : Outcome Statement) → Shut o → Shut (and_then o st.ended)
then_ended (Ok p) h = ended_here p.0 h p.1
then_ended (Err e) h = tt

module _ (depth : ℕ) (inner : Goal → Parser Tree) where
  print_shut : (ts : List Token) → Shut (st.print depth inner ts)
  unfolding st.print
  print_shut ts =
      then_shut (one w.Print ts) (λ token. st.printed_or_none depth inner >>= λ xs. st.redirection depth inner
      >>= λ r. pure (t.print token.place xs r))
      (λ token ts. then_shut (st.printed_or_none depth inner ts) (λ xs. st.redirection depth inner
      >>= λ r. pure (t.print token.place xs r))
      (λ xs ts. then_shut (st.redirection depth inner ts) (λ r. pure (t.print token.place xs r)) (λ _ _. refl)))

  printf_shut : (ts : List Token) → Shut (st.printf depth inner ts)
  unfolding st.printf
  printf_shut ts = then_shut (one w.Printf ts) _ (λ token ts. then_shut (st.printed depth inner ts) _
      (λ xs ts. then_shut (st.redirection depth inner ts) _ (λ _ _. refl)))

  element_shut : (token : Token) (ts : List Token)
      → Shut ((one w.OpenBracket >> (list depth inner >>= λ xs. one w.CloseBracket
      >> pure (t.delete (name_of token) xs))) ts)
  element_shut token ts =
      then_shut (one w.OpenBracket ts) _ (λ _ ts. then_shut (list depth inner ts) _
      (λ xs ts. then_shut (one w.CloseBracket ts) _ (λ _ _. refl)))

  delete_shut : (ts : List Token) → Shut (st.delete depth inner ts)
  unfolding st.delete
  delete_shut ts =
      then_shut (one w.Delete ts) _ (λ _ ts. then_shut (one w.Name ts) _
      (λ token ts. either_shut (is (ahead ts) w.OpenBracket) _ (pure (t.delete_all (name_of token))) ts
      (element_shut token ts) refl))

  simple_by_shut : (kind : Terminal) (ts : List Token) → Shut (st.simple_by depth inner kind ts)
  simple_by_shut w.Print ts = print_shut ts
  simple_by_shut w.Printf ts = printf_shut ts
  simple_by_shut w.Delete ts = delete_shut ts
  simple_by_shut (w.Jump which) ts = then_shut (any ts) _ (λ _ _. refl)
  simple_by_shut w.Exit ts = then_shut (any ts) _ (λ token ts. then_shut (st.perhaps_here depth inner ts) _
      (λ _ _. refl))
  simple_by_shut w.Return ts = then_shut (any ts) _ (λ token ts. then_shut (st.perhaps_here depth inner ts) _
      (λ _ _. refl))
  simple_by_shut _ ts = then_shut (expression depth inner false ts) _ (λ _ _. refl)

  simple_shut : (ts : List Token) → Shut (st.simple depth inner ts)
  unfolding st.simple
  simple_shut ts = simple_by_shut (ahead ts) ts

-- ---- statements that hold others

chosen : (b : Bool) (o p : Outcome Statement) → Closed o → Closed p → Closed (if b then o else p)
chosen true o p h k = h
chosen false o p h k = k

-- a statement that is open where its last part is
within : (f : Statement → Statement) → ((s : Statement) → is_open (f s) ≡ true → is_open s ≡ true)
    → (o : Outcome Statement) → Closed o → Closed (and_then o (λ s. pure (f s)))
within f g (Ok p) h = λ shown. h (g p.0 shown)
within f g (Err e) h = tt

module _ (depth : ℕ) (inner : Goal → Parser Tree) (body : Nested → Parser Statement)
    (closed : (which : Nested) (ts : List Token) → Closed (body which ts)) where
  body_within : (f : Statement → Statement) → ((s : Statement) → is_open (f s) ≡ true → is_open s ≡ true)
      → (ts : List Token) → Closed ((body nested.Body >>= λ s. pure (f s)) ts)
  body_within f g ts = within f g (body nested.Body ts) (closed nested.Body ts)

  else_closed : (x : Tree) (s : Statement) (ts : List Token) (b : Bool) → else_next ts ≡ b
      → Closed (if b then (any >> (body nested.Body >>= λ u. pure (t.if_else x s u))) (past ts) else Ok (
        t.if_then x s,
        ts,
      ))
  else_closed x s ts true h = then_closed (any (past ts)) _ (λ _ ts. body_within (λ u. t.if_else x s u)
      (λ _ shown. shown) ts)
  else_closed x s ts false h = λ _. h

  else_rest_closed : (x : Tree) (s : Statement) (ts : List Token) → Closed (st.else_rest depth inner body x s ts)
  unfolding st.else_rest
  else_rest_closed x s ts = else_closed x s ts (else_next ts) refl

  if_closed : (ts : List Token) → Closed (st.if_of depth inner body ts)
  unfolding st.if_of
  if_closed ts = then_closed (one w.If ts) _ (λ _ ts. then_closed (st.condition depth inner ts) _
      (λ x ts. then_closed (body nested.Body ts) _ (λ s ts. else_rest_closed x s ts)))

  while_closed : (ts : List Token) → Closed (st.while_of depth inner body ts)
  unfolding st.while_of
  while_closed ts = then_closed (one w.While ts) _ (λ _ ts. then_closed (st.condition depth inner ts) _
      (λ x ts. body_within (λ s. t.while_do x s) (λ _ shown. shown) ts))

  do_closed : (ts : List Token) → Closed (st.do_of depth inner body ts)
  unfolding st.do_of
  do_closed ts =
      then_closed (one w.Do ts) _ (λ _ ts. then_closed (body nested.Body ts) _
      (λ s ts. then_closed (one w.While (skip ts)) _
      (λ _ ts. then_closed (st.condition depth inner ts) _ (λ x ts. shut_closed (st.ended (t.do_while s x) ts)
      (ended_here (t.do_while s x) refl ts)))))

  loop_closed : (ts : List Token) → Closed (st.loop_rest depth inner body ts)
  unfolding st.loop_rest
  loop_closed ts =
      then_closed (st.perhaps_until depth inner w.Semicolon ts) _
      (λ x ts. then_closed (st.perhaps_until depth inner w.Semicolon ts) _
      (λ y ts. then_closed (st.perhaps_until depth inner w.CloseParen ts) _
      (λ z ts. body_within (λ s. t.for_loop x y z s) (λ _ shown. shown) ts)))

  each_closed : (place : Place) (ts : List Token) → Closed (st.each_rest depth inner body place ts)
  unfolding st.each_rest
  each_closed place ts =
      then_closed (one w.Name ts) _ (λ key ts. then_closed (one w.In ts) _ (λ _ ts. then_closed (one w.Name ts) _
      (λ array ts. then_closed (one w.CloseParen ts) _
      (λ _ ts. body_within (λ s. t.for_each place (name_of key) (name_of array) s) (λ _ shown. shown) ts))))

  for_rest_closed : (place : Place) (ts : List Token) → Closed (st.for_rest depth inner body place ts)
  unfolding st.for_rest
  for_rest_closed place ts = chosen (each_next ts) _ _ (each_closed place ts) (loop_closed ts)

  for_closed : (ts : List Token) → Closed (st.for_of depth inner body ts)
  unfolding st.for_of
  for_closed ts =
      then_closed (one w.For ts) _ (λ token ts. then_closed (one w.OpenParen ts) _
      (λ _ ts. chosen (depth == 0) (deep ts) (st.for_rest depth inner body token.place ts) tt
      (for_rest_closed token.place ts)))

  statement_by_closed : (kind : Terminal) (ts : List Token) → Closed (st.statement_by depth inner body kind ts)
  statement_by_closed w.Semicolon ts = then_closed (any ts) _ (λ _ ts. shut_closed (Ok (t.empty, ts)) refl)
  statement_by_closed w.OpenBrace ts = then_closed (any ts) _ (λ _ ts. closed nested.Braces ts)
  statement_by_closed w.If ts = if_closed ts
  statement_by_closed w.While ts = while_closed ts
  statement_by_closed w.Do ts = do_closed ts
  statement_by_closed w.For ts = for_closed ts
  statement_by_closed _ ts = shut_closed _ (then_ended (st.simple depth inner ts) (simple_shut depth inner ts))

  here_closed : (ts : List Token) → Closed (st.statement_here depth inner body ts)
  unfolding st.statement_here
  here_closed ts = statement_by_closed (look ts) ts

  nested_closed : (which : Nested) (ts : List Token) → Closed (st.nested_in depth inner body which ts)
  nested_closed nested.Braces ts = then_closed (st.braces depth inner body ts) _
      (λ xs ts. shut_closed (Ok (t.block (statements_of xs), ts)) refl)
  nested_closed nested.Body ts = here_closed (skip ts)

statement_closed : (depth : ℕ) (which : Nested) (ts : List Token) → Closed (st.statement depth which ts)
unfolding st.statement
statement_closed zero which ts = tt
statement_closed (suc depth) which ts = nested_closed depth (expr depth) (st.statement depth)
    (λ inner ts. statement_closed depth inner ts) which ts

pub none_behind : (depth : ℕ) (which : Nested) (ts rest : List Token) (s : Statement)
    → st.statement depth which ts ≡ Ok (s, rest) → is_open s ≡ true → else_next rest ≡ false
none_behind depth which ts rest s read = subst Closed read (statement_closed depth which ts)
