-- What is spelled is read: items and scripts.
use Rattle.std.proofs.Common.{◌≡◌, ◌≤◌, Bool, true, false, ◌||◌, List, [], ◌∷◌, ◌++◌, length, Ok, refl, sym, ap, ◌∙◌}
use Rattle.std.proofs.Common.{append_assoc, arith, ◌⊎◌, inl, inr}
use Rattle.std.proofs.lemmas.List.{length-append, append-nil}
use Rattle.awk_tokens.specs.declared.token.Token.{Token}
use Rattle.awk_tokens.specs.declared.terminals.Terminal.{Terminal}
use Rattle.awk_tokens.specs.declared.terminals.Terminal.TheVariants as w
use Rattle.awk_tree.specs.Looks.{ends_item, name_of, past}
use Rattle.awk_tree.specs.declared.names.Name.{Name}
use Rattle.awk_tree.specs.Tree as tree
use Rattle.awk_tree.specs.Tree.{Tree, Statement, Condition, Entry}
use Rattle.awk_tree.specs.Terminals.{terminal, seen, is, look, ahead}
use Rattle.awk_tree.specs.Input.{Outcome, any}
use Rattle.awk_tree.specs.Expressions as e
use Rattle.awk_tree.specs.Statements as st
use Rattle.awk_parse.specs.Rules as rule
use Rattle.awk_parse.specs.Spells.{Newlines}
use Rattle.awk_parse.specs.SpellsScripts as r
use Rattle.awk_parse.specs.SpellsScripts.{Gap, Action, Pattern, MoreParams, Params, SpellsItem, SpellsScript}
use Rattle.awk_parse.proofs.TerminalLemmas.{steady, ahead_is, is-true}
use Rattle.awk_parse.proofs.ReadSteps.{one_reads, skip_reads, follows, Turns, stop, turn_on, many_reads, Untils}
use Rattle.awk_parse.proofs.ReadSteps.{end_until, turn_until, until_reads, after_expr}
use Rattle.awk_parse.proofs.Starts.{begins_expression}
use Rattle.awk_parse.proofs.Firsts.{Heads, heads_append, heads_ahead, heads_more, unary_steady, first}
use Rattle.awk_parse.proofs.ReadOperands.{lines_reads}
use Rattle.awk_parse.proofs.ReadDepths.{expression_reads, reaches}
use Rattle.awk_parse.proofs.ReadStatements.{past_reads, braces_reads, holds_at}

-- ---- actions

action_reads : (us : List Token) (xs : List Statement) (rest : List Token) → Action us xs rest
    → st.action (us ++ rest) ≡ Ok (xs, rest)
unfolding st.action
action_reads _ _ _ (r.an_action o c us xs rest h j k) =
    rw (append_assoc us (c ∷ []) rest, one_reads w.OpenBrace o (us ++ (c ∷ rest)) refl refl h)
    (braces_reads 0 200 (e.expr 200) (reaches 0 200 refl) (st.statement 200) (holds_at 0 200 refl) c us xs rest j k)

action_first : (us : List Token) (xs : List Statement) (rest : List Token) → Action us xs rest
    → Heads (λ k. is k w.OpenBrace) us
action_first _ _ _ (r.an_action o c us xs rest h _ _) = ap (λ (k : Terminal). is k w.OpenBrace) h

-- what comes before an action is seen to end there
action_ahead : (us : List Token) (xs : List Statement) (rest : List Token) → Action us xs rest
    → ahead (us ++ rest) ≡ w.OpenBrace
action_ahead _ _ _ (r.an_action o c us xs rest h _ _) = ahead_is w.OpenBrace o ((us ++ (c ∷ [])) ++ rest) refl h

-- ---- patterns

item_ends : (ts : List Token) → ends_item ts ≡ true → ahead ts ≡ w.End
item_ends [] h = refl
item_ends (t ∷ ts) h = by (terminal t) (is (look ts) w.Getline) h where
  by : (k : Terminal) (b : Bool) → (is k w.Newline || is k w.Semicolon) ≡ true → seen k b ≡ w.End
  by w.Newline b h = refl
  by w.Semicolon b h = refl
  by _ b h = absurd cc

range_parts : (us ns vs rest : List Token) (t : Token) → ((us ++ (t ∷ ns)) ++ vs) ++ rest ≡ us
    ++ (t ∷ ((ns ++ vs) ++ rest))
range_parts us ns vs rest t = simp append_assoc

pattern_reads : (us : List Token) (c : Condition) (rest : List Token) → Pattern us c rest
    → after_expr false (ahead rest) ≡ false → is (ahead rest) w.Comma ≡ false → st.pattern (us ++ rest) ≡ Ok (c, rest)
unfolding st.pattern st.whole_expr
pattern_reads _ _ _ (r.one_expr us x rest s) f none =
    rw (expression_reads 0 200 (e.expr 200) (reaches 0 200 refl) false us x rest s f, none) refl
pattern_reads _ _ _ (r.two_exprs t us ns vs x y rest h s l k) f none =
    let m : List Token = (ns ++ vs) ++ rest in
    rw (
      range_parts us ns vs rest t,
      expression_reads 0 200 (e.expr 200) (reaches 0 200 refl) false us x (t ∷ m) s
          (follows (after_expr false) w.Comma t m refl h),
      ahead_is w.Comma t m refl h,
      one_reads w.Comma t m refl refl h,
      lines_reads 0 false ns vs y rest l k,
      expression_reads 0 200 (e.expr 200) (reaches 0 200 refl) false vs y rest k f,
    ) refl

pattern_first : (us : List Token) (c : Condition) (rest : List Token) → Pattern us c rest → Heads begins_expression us
pattern_first _ _ _ (r.one_expr us x rest s) = first 0 (rule.expr false) us x rest s
pattern_first _ _ _ (r.two_exprs t us ns vs x y rest _ s _ _) = heads_append begins_expression (us ++ (t ∷ ns)) vs
    (heads_append begins_expression us (t ∷ ns) (first 0 (rule.expr false) us x (t ∷ ns ++ vs ++ rest) s))

-- ---- parameters

next_param_reads : (t u : Token) (ns rest : List Token) → terminal t ≡ w.Comma → Newlines ns → terminal u ≡ w.Name
    → st.next_param ((t ∷ ns ++ u ∷ []) ++ rest) ≡ Ok (name_of u, rest)
unfolding st.next_param
next_param_reads t u ns rest h l k =
    rw (
      append_assoc ns (u ∷ []) rest,
      one_reads w.Comma t (ns ++ (u ∷ rest)) refl refl h,
      skip_reads ns (u ∷ rest) l (ap (λ (v : Terminal). is v w.Newline) k),
      one_reads w.Name u rest refl refl k,
    ) refl

params_turns : (us : List Token) (ps : List Name) (rest : List Token) → MoreParams us ps rest
    → is w.Comma (ahead rest) ≡ false → Turns (is w.Comma) st.next_param (us ++ rest) ps rest
params_turns _ _ _ (r.no_more rest) f = stop rest f
params_turns _ _ _ (r.one_more t u ns vs ps rest h l k more) f =
    turn_on (is w.Comma) st.next_param (t ∷ ns ++ u ∷ []) vs rest (name_of u) ps (omega arith)
    (follows (is w.Comma) w.Comma t ((ns ++ (u ∷ [])) ++ (vs ++ rest)) refl h)
    (next_param_reads t u ns (vs ++ rest) h l k) (params_turns vs ps rest more f)

params_reads : (c : Token) (us : List Token) (ps : List Name) (rest : List Token) → terminal c ≡ w.CloseParen
    → Params us ps (c ∷ rest) → st.params (us ++ (c ∷ rest)) ≡ Ok (ps, c ∷ rest)
unfolding st.params st.more_params
params_reads c _ _ rest j (r.no_params _) = rw (ahead_is w.CloseParen c rest refl j) refl
params_reads c _ _ rest j (r.some_params t vs ps _ h k) =
    rw (
      ahead_is w.Name t (vs ++ (c ∷ rest)) refl h,
      one_reads w.Name t (vs ++ (c ∷ rest)) refl refl h,
      many_reads (is w.Comma) st.next_param (vs ++ (c ∷ rest)) ps (c ∷ rest)
          (params_turns vs ps (c ∷ rest) k (follows (is w.Comma) w.CloseParen c rest refl j)),
    ) refl

function_name_reads : (f : Token) (rest : List Token) → (terminal f ≡ w.Name) ⊎ (terminal f ≡ w.CallName)
    → st.function_name (f ∷ rest) ≡ Ok (name_of f, rest)
unfolding st.function_name any
function_name_reads f rest (inl h) = rw (ahead_is w.Name f rest refl h, one_reads w.Name f rest refl refl h) refl
function_name_reads f rest (inr h) = rw (ahead_is w.CallName f rest refl h) refl

function_reads : (t f o c : Token) (us ns vs : List Token) (ps : List Name) (xs : List Statement) (rest : List Token)
    → terminal t ≡ w.Function → (terminal f ≡ w.Name) ⊎ (terminal f ≡ w.CallName) → terminal o ≡ w.OpenParen
    → terminal c ≡ w.CloseParen
    → Params us ps (c ∷ (ns ++ (vs ++ rest))) → Newlines ns → Action vs xs rest
    → st.function_of (t ∷ f ∷ o ∷ (us ++ (c ∷ (ns ++ (vs ++ rest))))) ≡ Ok (tree.function (name_of f) ps xs, rest)
unfolding st.function_of
function_reads t f o c us ns vs ps xs rest h i k j p l a =
    let m : List Token = ns ++ (vs ++ rest) in
    rw (
      one_reads w.Function t (f ∷ o ∷ (us ++ (c ∷ m))) refl refl h,
      function_name_reads f (o ∷ (us ++ (c ∷ m))) i,
      one_reads w.OpenParen o (us ++ (c ∷ m)) refl refl k,
      params_reads c us ps m j p,
      one_reads w.CloseParen c m refl refl j,
      skip_reads ns (vs ++ rest) l (opened vs rest a),
      action_reads vs xs rest a,
    ) refl where
      opened : (vs rest : List Token) → Action vs xs rest → is (look (vs ++ rest)) w.Newline ≡ false
      opened _ _ (r.an_action o c us _ rest h _ _) = ap (λ (k : Terminal). is k w.Newline) h

function_parts : (us ns vs rest : List Token) (c : Token) → (us ++ (c ∷ (ns ++ vs))) ++ rest ≡ us
    ++ (c ∷ (ns ++ (vs ++ rest)))
function_parts us ns vs rest c = simp append_assoc

-- ---- items

abbrev begins_item : Terminal → Bool
begins_item w.BeginWord = true
begins_item w.EndWord = true
begins_item w.Function = true
begins_item w.OpenBrace = true
begins_item other = begins_expression other

expression_item : (k : Terminal) → begins_expression k ≡ true → begins_item k ≡ true
expression_item w.BeginWord h = refl
expression_item w.EndWord h = refl
expression_item w.Function h = refl
expression_item w.OpenBrace h = refl
expression_item _ h = h

brace_item : (k : Terminal) → is k w.OpenBrace ≡ true → begins_item k ≡ true
brace_item k h = ap begins_item (is-true k w.OpenBrace refl h)

item_first : (us : List Token) (x : Entry) (rest : List Token) → SpellsItem us x rest → Heads begins_item us
item_first _ _ _ (r.a_begin t us xs rest h _) = ap begins_item h
item_first _ _ _ (r.an_end t us xs rest h _) = ap begins_item h
item_first _ _ _ (r.a_pattern us c rest k _) = heads_more begins_expression begins_item us expression_item
    (pattern_first us c rest k)
item_first _ _ _ (r.a_rule us vs c xs rest k _) = heads_append begins_item us vs
    (heads_more begins_expression begins_item us expression_item (pattern_first us c (vs ++ rest) k))
item_first _ _ _ (r.only_action us xs rest a) = heads_more (λ k. is k w.OpenBrace) begins_item us brace_item
    (action_first us xs rest a)
item_first _ _ _ (r.a_function t f o c us ns vs ps xs rest h _ _ _ _ _ _) = ap begins_item h

rule_by : (k : Terminal) (ts : List Token) → begins_expression k ≡ true → st.item_by k ts ≡ st.rule_of ts
rule_by w.BeginWord ts h = absurd cc
rule_by w.EndWord ts h = absurd cc
rule_by w.Function ts h = absurd cc
rule_by w.OpenBrace ts h = absurd cc
rule_by _ ts h = refl

by_item : (k : Terminal) (t : Token) (ts : List Token) (v : Outcome Entry) → steady k ≡ true → terminal t ≡ k
    → st.item_by k (t ∷ ts) ≡ v → st.item (t ∷ ts) ≡ v
unfolding st.item
by_item k t ts v s h q = rw (ahead_is k t ts s h) q

shown_reads : (us : List Token) (c : Condition) (rest : List Token) → Pattern us c rest → ends_item rest ≡ true
    → st.rule_of (us ++ rest) ≡ Ok (tree.shown c, rest)
unfolding st.rule_of st.shown
shown_reads us c rest k ends =
    let e : ahead rest ≡ w.End = item_ends rest ends in
    rw (pattern_reads us c rest k (ap (after_expr false) e) (ap (λ (v : Terminal). is v w.Comma) e), e, ends) refl

rule_reads : (us vs : List Token) (c : Condition) (xs : List Statement) (rest : List Token) → Pattern us c (vs ++ rest)
    → Action vs xs rest → st.rule_of (us ++ (vs ++ rest)) ≡ Ok (tree.rule c xs, rest)
unfolding st.rule_of
rule_reads us vs c xs rest k a =
    let e : ahead (vs ++ rest) ≡ w.OpenBrace = action_ahead vs xs rest a in
    rw (
      pattern_reads us c (vs ++ rest) k (ap (after_expr false) e) (ap (λ (v : Terminal). is v w.Comma) e),
      e,
      action_reads vs xs rest a,
    ) refl

pub item_reads : (us : List Token) (x : Entry) (rest : List Token) → SpellsItem us x rest
    → st.item (us ++ rest) ≡ Ok (x, rest)
unfolding st.item any
item_reads _ _ _ (r.a_begin t us xs rest h a) = by_item w.BeginWord t (us ++ rest) (Ok (tree.at_begin xs, rest)) refl h
    (rw (action_reads us xs rest a) refl)
item_reads _ _ _ (r.an_end t us xs rest h a) = by_item w.EndWord t (us ++ rest) (Ok (tree.at_end xs, rest)) refl h
    (rw (action_reads us xs rest a) refl)
item_reads _ _ _ (r.a_pattern us c rest k ends) =
    rw (rule_by (ahead (us ++ rest)) (us ++ rest) (heads_ahead begins_expression us rest unary_steady
    (pattern_first us c rest k))) (shown_reads us c rest k ends)
item_reads _ _ _ (r.a_rule us vs c xs rest k a) =
    rw (
      append_assoc us vs rest,
      rule_by (ahead (us ++ (vs ++ rest))) (us ++ (vs ++ rest))
          (heads_ahead begins_expression us (vs ++ rest) unary_steady (pattern_first us c (vs ++ rest) k)),
    )
    (rule_reads us vs c xs rest k a)
item_reads _ _ _ (r.only_action us xs rest a) = rw (action_ahead us xs rest a, action_reads us xs rest a) refl
item_reads _ _ _ (r.a_function t f o c us ns vs ps xs rest h i k j p l a) =
    rw (function_parts us ns vs rest c) (by_item w.Function t (f ∷ o ∷ (us ++ (c ∷ (ns ++ (vs ++ rest)))))
    (Ok (tree.function (name_of f) ps xs, rest)) refl h (function_reads t f o c us ns vs ps xs rest h i k j p l a))

-- ---- scripts

item_stands : (us rest : List Token) → Heads begins_item us
    → ((is (look (us ++ rest)) w.Newline || is (look (us ++ rest)) w.Semicolon) ≡ false)
    × (st.is_done (us ++ rest) ≡ false) × (1 ≤ length us)
item_stands [] rest h = absurd h
item_stands (t ∷ us) rest h = (by (terminal t) h, refl, omega arith) where
  by : (k : Terminal) → begins_item k ≡ true → (is k w.Newline || is k w.Semicolon) ≡ false
  by w.Newline h = absurd cc
  by w.Semicolon h = absurd cc
  by _ h = refl

script_untils : (ts : List Token) (xs : List Entry) → SpellsScript ts xs → Untils past st.is_done st.item ts xs []
script_untils _ _ (r.no_items gs l) = end_until gs [] (ap past (sym (append-nil gs)) ∙ past_reads gs [] l refl) refl
script_untils _ _ (r.an_item gs us vs x xs l k more) =
    let q = item_stands us vs (item_first us x vs k) in
    turn_until ((gs ++ us) ++ vs) (us ++ vs) vs [] x xs (ap past (append_assoc gs us vs) ∙ past_reads gs
    (us ++ vs) l q.0) q.1 (item_reads us x vs k)
    (omega (arith, q.2, length-append gs us, length-append (gs ++ us) vs)) (script_untils vs xs more)

pub script_reads : (ts : List Token) (xs : List Entry) → SpellsScript ts xs → st.script ts ≡ Ok (xs, [])
unfolding st.script
script_reads ts xs h = until_reads past st.is_done st.item ts xs [] (script_untils ts xs h)
