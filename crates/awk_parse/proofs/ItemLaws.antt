-- The laws of actions, patterns, functions and items, and of whole scripts.
use Rattle.std.proofs.Common.{◌≡◌, ℕ, zero, ◌≤◌, true, false, cond, List, [], ◌∷◌, ◌++◌, length, map, Ok, codes, refl}
use Rattle.std.proofs.Common.{sym, ap, subst, ◌∙◌, ◌⊎◌, inl, inr, arith, append_assoc}
use Rattle.std.proofs.lemmas.List.{append-nil}
use Rattle.std.specs.List.{flat_map}
use Rattle.awk_tokens.specs.declared.token.Token.{Token}
use Rattle.awk_tokens.specs.declared.kinds.TokenKind.TheVariants as kind
use Rattle.awk_tree.specs.Looks.{ends_item, name_of, past, skip}
use Rattle.awk_tree.specs.declared.names.Name.{Name}
use Rattle.awk_tokens.specs.declared.terminals.Terminal.{Terminal}
use Rattle.awk_tokens.specs.declared.terminals.Terminal.TheVariants as w
use Rattle.awk_tree.specs.Tree as tree
use Rattle.awk_tree.specs.Tree.{Tree, Statement, Condition, Entry}
use Rattle.awk_tree.specs.Terminals.{terminal, terminal_of, is, ahead, sign, keyword, token}
use Rattle.awk_tree.specs.Input.{◌>>=◌, any, one, pure, refuse, choice, skipped}
use Rattle.awk_tree.specs.Expressions.{expr}
use Rattle.awk_tree.specs.Statements as st
use Rattle.awk_tree.specs.Statements.{is_done}
use Rattle.awk_tree.specs.Canon.{canon, word, canon_action, canon_condition, canon_names, canon_params, canon_entry}
use Rattle.awk_tree.specs.Canon.{line_end, bare_name, bare_statement, bare_condition, bare_entry}
use Rattle.awk_parse.specs.Spells.{Newlines}
use Rattle.awk_parse.specs.SpellsScripts as r
use Rattle.awk_parse.specs.SpellsScripts.{Gap, Block, Action, Pattern, MoreParams, Params, SpellsItem, SpellsScript}
use Rattle.awk_parse.proofs.TerminalLemmas.{is-true, steady, terminal_is}
use Rattle.awk_parse.proofs.Law.{Eye, Near, Behind, Form, Read, At, Law, GoesAt, bind_ok, chosen, done_is, any_is}
use Rattle.awk_parse.proofs.Law.{then_at, seq_at, last_at, Both, both, pair, pure_on, pure_at, choice_at, choice_on}
use Rattle.awk_parse.proofs.Law.{if_at, if_on, This, this, any_at, one_law, lines, behind, skipped_law}
use Rattle.awk_parse.proofs.Many.{chain, many_law}
use Rattle.awk_parse.proofs.Starts.{begins_expression, Starts, starts, starts_append}
use Rattle.awk_parse.proofs.Words.{a_keyword, a_name, comma, opening, closing, comma_law, name_law, opening_law}
use Rattle.awk_parse.proofs.Words.{closing_law}
use Rattle.awk_parse.proofs.Operands.{Closed, closed, no_line}
use Rattle.awk_parse.proofs.Builtins.{prefixed}
use Rattle.awk_parse.proofs.Depths.{full, expression_law, at_depth}
use Rattle.awk_parse.proofs.EndLaws.{ahead_look}
use Rattle.awk_parse.proofs.Looks.{Elses, Blind, gap_token, past_parts}
use Rattle.awk_parse.proofs.Until.{listing, Stops, until_law}
use Rattle.awk_parse.proofs.Steps.{took}
use Rattle.awk_parse.proofs.StatementLaws.{picked}
use Rattle.awk_parse.proofs.Blocks.{open_brace, braces_form, braces_law, within_depth, canon_statements-of}

-- ---- actions

abbrev action_form : Form (List Statement)
action_form = record { plain = canon_action; bare = map bare_statement; spells = Action }

action_spells : (us vs : List Token) (t : Token) (xs : List Statement) (rest : List Token)
    → This w.OpenBrace us t (vs ++ rest) → Closed w.CloseBrace (Block zero) vs xs rest → Action (us ++ vs) xs rest
action_spells _ _ _ _ _ (this o _ h) (closed c us xs rest k b) = r.an_action o c us xs rest h k b

open_brace_law : (o : Eye) → Law Near o open_brace (one w.OpenBrace)
unfolding terminal_of
open_brace_law o = one_law w.OpenBrace (λ _. sign (codes "{")) refl refl (λ _ _. refl) o

action_law : (o : Eye) → Law Near o action_form st.action
unfolding st.action
action_law o ts =
    then_at Near Elses o open_brace action_form (one w.OpenBrace) (λ _. st.braces 200 (expr 200) (st.statement 200)) ts
    (open_brace_law Elses ts)
    (λ t ts. last_at Elses o open_brace (braces_form 0) action_form (st.braces 200 (expr 200) (st.statement 200))
    (λ _ xs. ap (λ (m : List Token). sign (codes "{") ∷ m ++ sign (codes "}") ∷ []) (canon_statements-of xs))
    (λ _. refl) action_spells t ts
    (braces_law 0 200 (expr 200) (at_depth 0 200 refl) (st.statement 200) (within_depth 0 200 refl) o ts))

action_line : (xs : List Statement) (s : List Token) → skip (canon_action xs ++ s) ≡ canon_action xs ++ s
unfolding terminal_of
action_line xs s = refl

-- ---- patterns

abbrev expr_form : Form Tree
expr_form = full 0 200 (expr 200) (at_depth 0 200 refl) false

abbrev condition_form : Form Condition
condition_form = record { plain = canon_condition; bare = bare_condition; spells = Pattern }

expr_law : Law Near Near expr_form st.whole_expr
unfolding st.whole_expr
expr_law ts = expression_law 0 200 (expr 200) (at_depth 0 200 refl) false ts

range_parts : (us ns vs : List Token) (t : Token) → (us ++ t ∷ []) ++ (ns ++ vs) ≡ (us ++ t ∷ ns) ++ vs
range_parts us ns vs t = simp append_assoc

range_spells : (us : List Token) (q : (Tree × Token) × Tree) (rest : List Token)
    → Both (pair expr_form comma) (behind expr_form) us q rest → Pattern us (tree.range q.0.0 q.1) rest
range_spells _ _ _ (both _ _ rest _ y (both us _ _ x _ (k, _) (this t _ h)) (lines ns vs _ _ l (j, _))) =
    subst (λ (m : List Token). Pattern m (tree.range x y) rest) (sym (range_parts us ns vs t))
    (r.two_exprs t us ns vs x y rest h k l j)

range_on : (x : Tree) (ts : List Token)
    → GoesAt Near Near expr_form condition_form (λ x. one w.Comma >>= λ _. skipped st.whole_expr
    >>= λ y. pure (tree.range x y)) x ts
range_on x ts =
    seq_at Near Behind Near expr_form comma condition_form (one w.Comma) (λ x _. skipped st.whole_expr
    >>= λ y. pure (tree.range x y)) x ts (comma_law Behind ts)
    (λ q ts. seq_at Behind Near Near (pair expr_form comma) (behind expr_form) condition_form (skipped st.whole_expr)
    (λ q y. pure (tree.range q.0 y)) q ts (skipped_law Near expr_form st.whole_expr no_line expr_law ts)
    (pure_on Near (pair (pair expr_form comma) (behind expr_form)) condition_form (λ q. tree.range q.0.0 q.1)
    (λ q. sym (append_assoc (canon q.0.0) (sign (codes ",") ∷ []) (canon q.1))) (λ q. refl) range_spells))

pattern_law : Law Near Near condition_form st.pattern
unfolding st.pattern
pattern_law ts =
    then_at Near Near Near expr_form condition_form st.whole_expr
    (λ x. choice (λ kind. cond (is kind w.Comma) (one w.Comma >>= λ _. skipped st.whole_expr
    >>= λ y. pure (tree.range x y)) (pure (tree.single x)))) ts (expr_law ts)
    (λ x ts. choice_on Near expr_form condition_form
    (λ x kind. cond (is kind w.Comma) (one w.Comma >>= λ _. skipped st.whole_expr >>= λ y. pure (tree.range x y))
    (pure (tree.single x))) x ts
    (if_on Near Near expr_form condition_form (is (ahead ts) w.Comma) (λ x. one w.Comma >>= λ _. skipped st.whole_expr
    >>= λ y. pure (tree.range x y)) (λ x. pure (tree.single x)) x ts (λ _. range_on x ts)
    (λ _. pure_on Near expr_form condition_form (λ x. tree.single x) (λ _. refl) (λ _. refl)
    (λ us x rest k. r.one_expr us x rest k.0) x ts)))

-- ---- items

-- the canonical spelling of an item, without the newline behind it
abbrev entry_plain : Entry → List Token
entry_plain (tree.at_begin xs) = keyword (codes "BEGIN") ∷ canon_action xs
entry_plain (tree.at_end xs) = keyword (codes "END") ∷ canon_action xs
entry_plain (tree.always xs) = canon_action xs
entry_plain (tree.shown c) = canon_condition c
entry_plain (tree.rule c xs) = canon_condition c ++ canon_action xs
entry_plain (tree.function f ps xs) = keyword (codes "function") ∷ word f ∷ sign (codes "(") ∷ canon_params ps
    ++ sign (codes ")") ∷ canon_action xs

abbrev item_form : Form Entry
item_form = record { plain = entry_plain; bare = bare_entry; spells = SpellsItem }

-- by whether an item may end there
abbrev Ended : Eye
Ended ts us = ends_item us ≡ true

ends_ahead : (us : List Token) → ends_item us ≡ true → ahead us ≡ w.End
ends_ahead [] h = refl
ends_ahead (t ∷ us) h =
    elim (gap_token t h) [
      | inl k ↦ ahead_look (t ∷ us) w.Newline k (λ _. refl)
      | inr k ↦ ahead_look (t ∷ us) w.Semicolon k (λ _. refl)
    ]

-- ---- rules

shown_on : (c : Condition) (ts : List Token) → GoesAt Near Ended condition_form item_form st.shown c ts
unfolding st.shown
shown_on c ts y rest h =
    elim (chosen (ends_item ts) (Ok (tree.shown c, ts)) (refuse ts) (Ok (y, rest)) h) [
      | inl k ↦
          let d = done_is (tree.shown c) y ts rest k.1 in
          record {
            used = [];
            parts = d.1;
            spelled = λ us j. subst (λ (z : Entry). SpellsItem (us ++ []) z rest) d.0
                (subst (λ (m : List Token). SpellsItem (us ++ []) (tree.shown c) m) d.1
                (subst (λ (m : List Token). SpellsItem m (tree.shown c) ts) (sym (append-nil us))
                (r.a_pattern us c ts j k.0)));
            more = [];
            whole = ap entry_plain (sym d.0) ∙ sym (append-nil (canon_condition c));
            seen = λ s like. ends_ahead ts k.0 ∙ sym (ends_ahead s like);
            reads = λ s like. subst (λ (z : Entry). st.shown (bare_condition c) s ≡ Ok (bare_entry z, s)) d.0
                (rw like refl);
          }
      | inr k ↦ absurd cc
    ]

rule_spells : (us : List Token) (q : Condition × List Statement) (rest : List Token)
    → Both condition_form action_form us q rest → SpellsItem us (tree.rule q.0 q.1) rest
rule_spells _ _ _ (both us vs rest c xs k j) = r.a_rule us vs c xs rest k j

rule_law : Law Near Ended item_form st.rule_of
unfolding st.rule_of
rule_law ts =
    then_at Near Near Ended condition_form item_form st.pattern
    (λ c. choice (λ kind. cond (is kind w.OpenBrace) (st.action >>= λ xs. pure (tree.rule c xs)) (st.shown c))) ts
    (pattern_law ts)
    (λ c ts. choice_on Ended condition_form item_form (λ c kind. cond (is kind w.OpenBrace)
    (st.action >>= λ xs. pure (tree.rule c xs)) (st.shown c)) c ts
    (if_on Near Ended condition_form item_form (is (ahead ts) w.OpenBrace)
    (λ c. st.action >>= λ xs. pure (tree.rule c xs)) st.shown c ts
    (λ _. seq_at Near Ended Ended condition_form action_form item_form st.action (λ c xs. pure (tree.rule c xs)) c ts
    (action_law Ended ts)
    (pure_on Ended (pair condition_form action_form) item_form (λ q. tree.rule q.0 q.1) (λ q. refl)
    (λ q. refl) rule_spells))
    (λ _. shown_on c ts)))

-- ---- functions

-- , NAME
data NextParam : List Token → Name → List Token → Type 0 where
  next_param : (t u : Token) (ns rest : List Token) → terminal t ≡ w.Comma → Newlines ns → terminal u ≡ w.Name
      → NextParam (t ∷ ns ++ u ∷ []) (name_of u) rest

abbrev param_form : Form Name
param_form = record { plain = λ p. sign (codes ",") ∷ word p ∷ []; bare = bare_name; spells = NextParam }

param_spells : (us : List Token) (q : Token × Token) (rest : List Token) → Both comma (behind a_name) us q rest
    → NextParam us (name_of q.1) rest
param_spells _ _ _ (both _ _ rest _ _ (this t _ h) (lines ns _ _ _ l (this u _ k))) = next_param t u ns rest h l k

next_param_law : Law Near Near param_form st.next_param
unfolding st.next_param terminal_of
next_param_law ts =
    then_at Near Behind Near comma param_form (one w.Comma) (λ _. skipped (one w.Name) >>= λ u. pure (name_of u)) ts
    (comma_law Behind ts)
    (λ t ts. seq_at Behind Near Near comma (behind a_name) param_form (skipped (one w.Name)) (λ _ u. pure (name_of u)) t
    ts (skipped_law Near a_name (one w.Name) (λ u s. refl) (name_law Near) ts)
    (pure_on Near (pair comma (behind a_name)) param_form (λ q. name_of q.1) (λ q. refl) (λ q. refl) param_spells))

params_cons : (us vs : List Token) (p : Name) (ps : List Name) (rest : List Token)
    → is w.Comma (ahead (us ++ (vs ++ rest))) ≡ true → NextParam us p (vs ++ rest) → MoreParams vs ps rest
    → MoreParams (us ++ vs) (p ∷ ps) rest
params_cons _ vs _ ps rest _ (next_param t u ns _ h l k) m = r.one_more t u ns vs ps rest h l k m

more_params_law : Law Near Near (chain param_form MoreParams (is w.Comma)) st.more_params
unfolding st.more_params
more_params_law = many_law param_form MoreParams (is w.Comma) (λ rest. r.no_more rest) params_cons (λ p. omega arith)
    st.next_param (λ ts go. next_param_law ts)

canon_names-of : (ps : List Name) → canon_names ps ≡ flat_map param_form.plain ps
canon_names-of [] = refl
canon_names-of (p ∷ ps) = ap (λ (m : List Token). sign (codes ",") ∷ word p ∷ m) (canon_names-of ps)

abbrev params_form : Form (List Name)
params_form = record { plain = canon_params; bare = map bare_name; spells = Params }

params_law : Law Near Near params_form st.params
unfolding st.params
params_law ts =
    choice_at Near params_form (λ kind. cond (is kind w.CloseParen) (pure []) (one w.Name >>= λ t. st.more_params
    >>= λ ps. pure (name_of t ∷ ps))) ts
    (if_at Near Near params_form (is (ahead ts) w.CloseParen) (pure []) (one w.Name >>= λ t. st.more_params
    >>= λ ps. pure (name_of t ∷ ps)) ts (λ _. pure_at Near params_form [] ts refl refl (r.no_params ts))
    (λ _. prefixed w.Name (λ t. token kind.Name t.text) (one w.Name) (chain param_form MoreParams (is w.Comma))
    st.more_params params_form (λ t ps. name_of t ∷ ps) (λ t ps. ap (λ (m : List Token). word (name_of t) ∷ m)
    (canon_names-of ps)) (λ t ps. refl)
    (λ t us ps rest h j. r.some_params t us ps rest h j.0) more_params_law ts (name_law Near ts)))

-- the name of a function, a NAME or a CALLNAME
data Titled : List Token → Name → List Token → Type 0 where
  titled : (f : Token) (rest : List Token) → (terminal f ≡ w.Name) ⊎ (terminal f ≡ w.CallName)
      → Titled (f ∷ []) (name_of f) rest

abbrev title_form : Form Name
title_form = record { plain = λ f. word f ∷ []; bare = bare_name; spells = Titled }

title_of : (o : Eye) (ts : List Token) (f : Token) (m : List Token) (y : Name) (rest : List Token) → ts ≡ f ∷ m
    → (terminal f ≡ w.Name) ⊎ (terminal f ≡ w.CallName) → name_of f ≡ y → m ≡ rest
    → Read Blind o title_form st.function_name ts y rest
unfolding st.function_name one any terminal_of
title_of o ts f m y rest p k made same =
    subst (λ (z : Name). Read Blind o title_form st.function_name ts z rest) made
    (subst (λ (v : List Token). Read Blind o title_form st.function_name ts (name_of f) v) same
    (record { used = f ∷ []; parts = p; spelled = titled f m k; seen = λ s like. tt; reads = λ s like. refl }))

title_law : (o : Eye) → Law Blind o title_form st.function_name
unfolding st.function_name
title_law o ts y rest h =
    elim (chosen (is (ahead ts) w.CallName) ((any >>= λ t. pure (name_of t)) ts)
    ((one w.Name >>= λ t. pure (name_of t)) ts) (Ok (y, rest))
    (picked (is (ahead ts) w.CallName) (any >>= λ t. pure (name_of t)) (one w.Name >>= λ t. pure (name_of t)) ts
    (Ok (y, rest)) h)) [
      | inl k ↦
          let a = bind_ok (any ts) (λ t. pure (name_of t)) y rest k.1 in
          let p = any_is ts a.0 a.1 a.2 in
          let d = done_is (name_of a.0) y a.1 rest a.3 in
          let q = title_of o ts a.0 a.1 y rest p
          (inr (terminal_is w.CallName a.0 a.1 refl (sym (ap ahead p) ∙ is-true (ahead ts) w.CallName refl k.0)))
          d.0 d.1 in
          record { used = q.used; parts = q.parts; spelled = q.spelled; seen = q.seen; reads = q.reads }
      | inr k ↦
          let a = bind_ok (one w.Name ts) (λ t. pure (name_of t)) y rest k.1 in
          let p = took w.Name refl refl ts a.0 a.1 a.2 in
          let d = done_is (name_of a.0) y a.1 rest a.3 in
          let q = title_of o ts a.0 a.1 y rest p.0 (inl p.1) d.0 d.1 in
          record { used = q.used; parts = q.parts; spelled = q.spelled; seen = q.seen; reads = q.reads }
    ]

abbrev function_word : Form Token
function_word = a_keyword w.Function (codes "function")

function_word_law : (o : Eye) → Law Near o function_word (one w.Function)
unfolding terminal_of
function_word_law o = one_law w.Function (λ _. keyword (codes "function")) refl refl (λ _ _. refl) o

abbrev function_head : Form ((((Token × Name) × Token) × List Name) × Token)
function_head = pair (pair (pair (pair function_word title_form) opening) params_form) closing

function_spells : (us : List Token) (q : ((((Token × Name) × Token) × List Name) × Token) × List Statement)
    (rest : List Token) → Both function_head (behind action_form) us q rest
    → SpellsItem us (tree.function q.0.0.0.0.1 q.0.0.1 q.1) rest
function_spells _ _ _
    (both _ _ rest _ xs (both _ _ _ _ _ (both _ us _ _ ps (both _ _ _ _ _ (both _ _ _ _ _ (this t _ h) (titled f _ e))
    (this o _ k)) p) (this c _ j)) (lines ns vs _ _ l a)) =
    subst (λ (m : List Token). SpellsItem m (tree.function (name_of f) ps xs) rest)
    (sym (append_assoc (t ∷ f ∷ o ∷ us) (c ∷ []) (ns ++ vs)))
    (r.a_function t f o c us ns vs ps xs rest h e k j (subst (λ (m : List Token). Params us ps (c ∷ m))
    (append_assoc ns vs rest) p) l a)

function_law : Law Near Ended item_form st.function_of
unfolding st.function_of
function_law ts =
    then_at Near Blind Ended function_word item_form (one w.Function) (λ _. st.function_name >>= λ f. one w.OpenParen
    >>= λ _. st.params >>= λ ps. one w.CloseParen >>= λ _. skipped st.action >>= λ xs. pure (tree.function f ps xs))
    ts (function_word_law Blind ts)
    (λ t ts. seq_at Blind Near Ended function_word title_form item_form st.function_name (λ _ f. one w.OpenParen
    >>= λ _. st.params >>= λ ps. one w.CloseParen >>= λ _. skipped st.action >>= λ xs. pure (tree.function f ps xs))
    t ts (title_law Near ts)
    (λ q ts. seq_at Near Near Ended (pair function_word title_form) opening item_form (one w.OpenParen)
    (λ q _. st.params >>= λ ps. one w.CloseParen >>= λ _. skipped st.action >>= λ xs. pure
    (tree.function q.1 ps xs)) q ts (opening_law Near ts)
    (λ q ts. seq_at Near Near Ended (pair (pair function_word title_form) opening) params_form item_form st.params
    (λ q ps. one w.CloseParen >>= λ _. skipped st.action >>= λ xs. pure (tree.function q.0.1 ps xs)) q ts
    (params_law ts)
    (λ q ts. seq_at Near Behind Ended (pair (pair (pair function_word title_form) opening) params_form) closing
    item_form (one w.CloseParen) (λ q _. skipped st.action >>= λ xs. pure (tree.function q.0.0.1 q.1 xs)) q ts
    (closing_law Behind ts)
    (λ q ts. seq_at Behind Ended Ended function_head (behind action_form) item_form (skipped st.action)
    (λ q xs. pure (tree.function q.0.0.0.1 q.0.1 xs)) q ts (skipped_law Ended action_form st.action action_line
    (action_law Ended) ts)
    (pure_on Ended (pair function_head (behind action_form)) item_form (λ q. tree.function q.0.0.0.0.1 q.0.0.1 q.1)
    (λ q. sym (append_assoc (keyword (codes "function") ∷ word q.0.0.0.0.1 ∷ sign (codes "(") ∷ canon_params q.0.0.1)
    (sign (codes ")") ∷ []) (canon_action q.1))) (λ q. refl) function_spells))))))

-- ---- all items

-- a word, and an action behind it
worded_at : (k : Terminal) (text : List ℕ) (mk : List Statement → Entry) → steady k ≡ true → terminal (keyword text) ≡ k
    → ((xs : List Statement) → entry_plain (mk xs) ≡ keyword text ∷ canon_action xs)
    → ((xs : List Statement) → bare_entry (mk xs) ≡ mk (map bare_statement xs))
    → ((t : Token) (us : List Token) (xs : List Statement) (rest : List Token) → terminal t ≡ k → Action us xs rest
    → SpellsItem (t ∷ us) (mk xs) rest) → (ts : List Token) → ahead ts ≡ k
    → At Near Ended item_form (any >>= λ _. st.action >>= λ xs. pure (mk xs)) ts
worded_at k text mk fixed spelled plain_is bare_is spells ts sees =
    then_at Near Near Ended (a_keyword k text) item_form any (λ _. st.action >>= λ xs. pure (mk xs)) ts
    (any_at k (λ _. keyword text) fixed (λ _ _. spelled) Near ts sees)
    (λ t ts. seq_at Near Ended Ended (a_keyword k text) action_form item_form st.action (λ _ xs. pure (mk xs)) t ts
    (action_law Ended ts)
    (pure_on Ended (pair (a_keyword k text) action_form) item_form (λ q. mk q.1) (λ q. plain_is q.1) (λ q. bare_is q.1)
    made)) where
      made : (us : List Token) (q : Token × List Statement) (rest : List Token)
          → Both (a_keyword k text) action_form us q rest → SpellsItem us (mk q.1) rest
      made _ _ _ (both _ us rest _ xs (this t _ h) j) = spells t us xs rest h j

item_at : (k : Terminal) (ts : List Token) → ahead ts ≡ k → At Near Ended item_form (st.item_by k) ts
unfolding terminal_of
item_at w.BeginWord ts sees = worded_at w.BeginWord (codes "BEGIN") tree.at_begin refl refl (λ _. refl) (λ _. refl)
    (λ t us xs rest h j. r.a_begin t us xs rest h j) ts sees
item_at w.EndWord ts sees = worded_at w.EndWord (codes "END") tree.at_end refl refl (λ _. refl) (λ _. refl)
    (λ t us xs rest h j. r.an_end t us xs rest h j) ts sees
item_at w.Function ts sees = function_law ts
item_at w.OpenBrace ts sees =
    then_at Near Ended Ended action_form item_form st.action (λ xs. pure (tree.always xs)) ts (action_law Ended ts)
    (pure_on Ended action_form item_form (λ xs. tree.always xs) (λ _. refl) (λ _. refl)
    (λ us xs rest h. r.only_action us xs rest h))
item_at _ ts sees = rule_law ts

item_law : Law Near Ended item_form st.item
unfolding st.item
item_law ts = choice_at Ended item_form st.item_by ts (item_at (ahead ts) ts refl)

-- ---- scripts

entry_is : (x : Entry) → canon_entry x ≡ entry_plain x ++ line_end
entry_is (tree.at_begin xs) = refl
entry_is (tree.at_end xs) = refl
entry_is (tree.always xs) = refl
entry_is (tree.shown c) = refl
entry_is (tree.rule c xs) = refl
entry_is (tree.function f ps xs) = refl

condition_starts : (c : Condition) → Starts (canon_condition c)
condition_starts (tree.single x) = starts x
condition_starts (tree.range x y) = starts_append (canon x) _ (starts x)

no_gap : (k : Terminal) → begins_expression k ≡ true → (is k w.Newline ≡ false) × (is k w.Semicolon ≡ false)
no_gap w.Newline h = absurd cc
no_gap w.Semicolon h = absurd cc
no_gap _ h = (refl, refl)

-- no newline and no `;` comes first, but a token
abbrev Stands : List Token → Type 0
Stands us = (past us ≡ us) × (is_done us ≡ false)

stands_expression : (a b : List Token) → Starts a → Stands (a ++ b)
stands_expression [] b h = absurd h
stands_expression (t ∷ ts) b h = let g = no_gap (terminal t) h in (rw (g.0, g.1) refl, refl)

entry_stands : (x : Entry) (s : List Token) → Stands (entry_plain x ++ s)
unfolding terminal_of
entry_stands (tree.at_begin xs) s = (refl, refl)
entry_stands (tree.at_end xs) s = (refl, refl)
entry_stands (tree.always xs) s = (refl, refl)
entry_stands (tree.shown c) s = stands_expression (canon_condition c) s (condition_starts c)
entry_stands (tree.rule c xs) s = stands_expression (canon_condition c ++ canon_action xs) s
    (starts_append (canon_condition c) _ (condition_starts c))
entry_stands (tree.function f ps xs) s = (refl, refl)

not_none : (us : List Token) → is_done us ≡ false → 1 ≤ length us
not_none [] h = absurd cc
not_none (t ∷ us) h = omega arith

entry_some : (x : Entry) → 1 ≤ length (canon_entry x)
entry_some x = subst (λ (m : List Token). 1 ≤ length m) (sym (entry_is x)) (let q = entry_stands x line_end in
    not_none (entry_plain x ++ line_end) q.1)

all_read : (us : List Token) → is_done us ≡ true → us ≡ []
all_read [] h = refl
all_read (t ∷ us) h = absurd cc

-- a script, and nothing behind it
abbrev Scripted : List Token → List Entry → List Token → Type 0
Scripted us xs rest = (rest ≡ []) × SpellsScript us xs

script_cons : (gs us vs : List Token) (x : Entry) (xs : List Entry) (rest : List Token) → Gap gs
    → SpellsItem us x (vs ++ rest) → Scripted vs xs rest → Scripted ((gs ++ us) ++ vs) (x ∷ xs) rest
script_cons gs us vs x xs rest g k (none, l) = (
  none,
  r.an_item gs us vs x xs g (subst (λ (m : List Token). SpellsItem us x m)
      (ap (λ (m : List Token). vs ++ m) none ∙ append-nil vs) k) l,
)

abbrev pub script_form : Form (List Entry)
script_form = listing item_form canon_entry line_end past is_done Scripted Near Ended Blind

abbrev script_stops : Eye
script_stops = Stops item_form canon_entry line_end past is_done Scripted Near Ended Blind

pub script_law : Law Blind script_stops script_form st.script
unfolding st.script terminal_of
script_law =
    until_law item_form canon_entry line_end past is_done Scripted Near Ended Blind entry_is entry_some Gap past_parts
    (λ s. refl) entry_stands (λ m s like. refl) (λ ts us like. tt) (λ ts s h k. tt)
    (λ gs rest g h. (all_read rest h, r.no_items gs g)) script_cons st.item item_law
