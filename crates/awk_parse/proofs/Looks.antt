-- What is told of tokens as they stand: what a statement begins with, and whether an `else` comes next.
use Rattle.std.proofs.Common.{◌≡◌, ◌≢◌, ℕ, ◌≤◌, Bool, true, false, ◌||◌, List, [], ◌∷◌, ◌++◌, length, refl, sym, ap}
use Rattle.std.proofs.Common.{◌∙◌, ◌⊎◌, inl, inr, arith}
use Rattle.awk_tokens.specs.declared.token.Token.{Token}
use Rattle.awk_tokens.specs.declared.terminals.Terminal.{Terminal}
use Rattle.awk_tokens.specs.declared.terminals.Terminal.TheVariants as w
use Rattle.awk_tree.specs.Looks.{else_next, past, skip}
use Rattle.awk_tree.specs.Tree as tree
use Rattle.awk_tree.specs.Tree.{Tree, Statement}
use Rattle.awk_tree.specs.Terminals.{terminal, terminal_of, is, look, ahead}
use Rattle.awk_tree.specs.Canon.{canon, canon_statement}
use Rattle.awk_parse.specs.SpellsScripts as r
use Rattle.awk_parse.specs.SpellsScripts.{Simple, Gap, SpellsStatement}
use Rattle.awk_parse.proofs.TerminalLemmas.{is-true, steady, terminal_is, ahead_is}
use Rattle.awk_parse.proofs.Law.{Eye, decided}
use Rattle.awk_parse.proofs.Starts.{begins_expression, Starts, starts, jump_is}

-- ---- how two lists of tokens are alike

-- by the next token, as it stands
abbrev pub Looks : Eye
Looks ts us = look ts ≡ look us

-- by whether an `else` comes next
abbrev pub Elses : Eye
Elses ts us = else_next ts ≡ else_next us

-- whatever they are
abbrev pub Blind : Eye
Blind ts us = Unit {0}

-- ---- the next token as it stands, and as it is seen

look_is : (k : Terminal) (us : List Token) → steady k ≡ true → ahead us ≡ k → look us ≡ k
look_is k [] s h = absurd (let both : false ≡ true = ap steady h ∙ s in cc)
look_is k (t ∷ ts) s h = terminal_is k t ts s h

pub ahead_looks : (k : Terminal) (us : List Token) → steady k ≡ true → look us ≡ k → ahead us ≡ k
ahead_looks k [] s h = absurd (let both : false ≡ true = ap steady h ∙ s in cc)
ahead_looks k (t ∷ ts) s h = ahead_is k t ts s h

-- where what stands is seen, what is seen alike stands alike
pub near_looks : (ts us : List Token) → ahead ts ≡ ahead us → steady (look us) ≡ true → look ts ≡ look us
near_looks ts us h s = look_is (look us) ts s (h ∙ ahead_looks (look us) us s refl)

pub near_same : (k : Terminal) (ts us : List Token) → steady k ≡ true → look ts ≡ k → ahead ts ≡ ahead us
    → look ts ≡ look us
near_same k ts us s h near = h ∙ sym (look_is k us s (sym near ∙ ahead_looks k ts s h))

-- ---- what a statement begins with

abbrev pub begins_simple : Terminal → Bool
begins_simple w.Print = true
begins_simple w.Printf = true
begins_simple w.Delete = true
begins_simple (w.Jump which) = true
begins_simple w.Exit = true
begins_simple w.Return = true
begins_simple other = begins_expression other

abbrev pub begins_statement : Terminal → Bool
begins_statement w.Semicolon = true
begins_statement w.OpenBrace = true
begins_statement w.If = true
begins_statement w.While = true
begins_statement w.Do = true
begins_statement w.For = true
begins_statement other = begins_simple other

abbrev pub Begins : List Token → Type 0
Begins [] = ⊥
Begins (t ∷ ts) = begins_statement (terminal t) ≡ true

pub simple_begins : (k : Terminal) → begins_simple k ≡ true → begins_statement k ≡ true
simple_begins w.Semicolon h = refl
simple_begins w.OpenBrace h = refl
simple_begins w.If h = refl
simple_begins w.While h = refl
simple_begins w.Do h = refl
simple_begins w.For h = refl
simple_begins _ h = h

pub expression_begins : (k : Terminal) → begins_expression k ≡ true → begins_simple k ≡ true
expression_begins w.Print h = refl
expression_begins w.Printf h = refl
expression_begins w.Delete h = refl
expression_begins (w.Jump which) h = refl
expression_begins w.Exit h = refl
expression_begins w.Return h = refl
expression_begins _ h = h

pub simple_steady : (k : Terminal) → begins_simple k ≡ true → steady k ≡ true
simple_steady w.End h = absurd cc
simple_steady w.Newline h = absurd cc
simple_steady w.Semicolon h = absurd cc
simple_steady w.CloseBrace h = absurd cc
simple_steady w.Bar h = absurd cc
simple_steady w.BarGetline h = absurd cc
simple_steady _ h = refl

pub no_newline : (k : Terminal) → begins_statement k ≡ true → is k w.Newline ≡ false
no_newline w.Newline h = absurd cc
no_newline _ h = refl

pub no_brace : (k : Terminal) → begins_statement k ≡ true → is k w.CloseBrace ≡ false
no_brace w.CloseBrace h = absurd cc
no_brace _ h = refl

expression_begin : (a b : List Token) → Starts a → begins_simple (look (a ++ b)) ≡ true
expression_begin [] b h = absurd h
expression_begin (t ∷ ts) b h = expression_begins (terminal t) h

begin_list : (a b : List Token) → Starts a → Begins (a ++ b)
begin_list [] b h = absurd h
begin_list (t ∷ ts) b h = simple_begins (terminal t) (expression_begins (terminal t) h)

pub begins : (x : Statement) → Begins (canon_statement x)
unfolding terminal_of
begins tree.empty = refl
begins (tree.plain x) = begin_list (canon x) _ (starts x)
begins (tree.print p xs z) = refl
begins (tree.printf p xs z) = refl
begins (tree.delete n xs) = refl
begins (tree.delete_all n) = refl
begins (tree.jump p which) = ap begins_statement (jump_is which)
begins (tree.exit p x) = refl
begins (tree.return p x) = refl
begins (tree.block xs) = refl
begins (tree.if_then x s) = refl
begins (tree.if_else x s u) = refl
begins (tree.while_do x s) = refl
begins (tree.do_while s x) = refl
begins (tree.for_each p k a s) = refl
begins (tree.for_loop x y z s) = refl

pub begins_some : (a : List Token) → Begins a → 1 ≤ length a
begins_some [] h = absurd h
begins_some (t ∷ ts) h = omega arith

pub skip_begins : (a s : List Token) → Begins a → skip (a ++ s) ≡ a ++ s
skip_begins [] s h = absurd h
skip_begins (t ∷ ts) s h = let l = no_newline (terminal t) h in rw l refl

pub brace_begins : (a s : List Token) → Begins a → is (look (a ++ s)) w.CloseBrace ≡ false
brace_begins [] s h = absurd h
brace_begins (t ∷ ts) s h = no_brace (terminal t) h

begins_look : (a s : List Token) → Begins a → begins_statement (look (a ++ s)) ≡ true
begins_look [] s h = absurd h
begins_look (t ∷ ts) s h = h

-- a simple statement, by its first token
pub simple_look : (n : ℕ) (us : List Token) (x : Statement) (rest s : List Token) → Simple n us x rest
    → begins_simple (look (canon_statement x ++ s)) ≡ true
unfolding terminal_of
simple_look _ _ _ _ s (r.an_expression n us x rest _) = plain_look (canon x) _ s (starts x) where
  plain_look : (a b s : List Token) → Starts a → begins_simple (look ((a ++ b) ++ s)) ≡ true
  plain_look [] b s h = absurd h
  plain_look (t ∷ ts) b s h = expression_begins (terminal t) h
simple_look _ _ _ _ s (r.an_empty_print n t vs z rest _ _) = refl
simple_look _ _ _ _ s (r.a_print n t us vs xs z rest _ _ _) = refl
simple_look _ _ _ _ s (r.a_printf n t us vs xs z rest _ _ _) = refl
simple_look _ _ _ _ s (r.a_delete_all n t m rest _ _ _) = refl
simple_look _ _ _ _ s (r.a_delete n t m o c us xs rest _ _ _ _ _ _) = refl
simple_look _ _ _ _ s (r.a_jump n which t rest _) = ap begins_simple (jump_is which)
simple_look _ _ _ _ s (r.an_exit n t us x rest _ _) = refl
simple_look _ _ _ _ s (r.a_return n t us x rest _ _) = refl

-- ---- the empty statement

semicolon_or : (x : Statement) (s : List Token) → (x ≡ tree.empty)
    ⊎ (is (look (canon_statement x ++ s)) w.Semicolon ≡ false)
unfolding terminal_of
semicolon_or tree.empty s = inl refl
semicolon_or (tree.plain x) s = inr (plain_look (canon x) _ s (starts x)) where
  no_semicolon : (k : Terminal) → begins_expression k ≡ true → is k w.Semicolon ≡ false
  no_semicolon w.Semicolon h = absurd cc
  no_semicolon _ h = refl

  plain_look : (a b s : List Token) → Starts a → is (look ((a ++ b) ++ s)) w.Semicolon ≡ false
  plain_look [] b s h = absurd h
  plain_look (t ∷ ts) b s h = no_semicolon (terminal t) h
semicolon_or (tree.print p xs z) s = inr refl
semicolon_or (tree.printf p xs z) s = inr refl
semicolon_or (tree.delete n xs) s = inr refl
semicolon_or (tree.delete_all n) s = inr refl
semicolon_or (tree.jump p which) s = inr (ap (λ (k : Terminal). is k w.Semicolon) (jump_is which))
semicolon_or (tree.exit p x) s = inr refl
semicolon_or (tree.return p x) s = inr refl
semicolon_or (tree.block xs) s = inr refl
semicolon_or (tree.if_then x a) s = inr refl
semicolon_or (tree.if_else x a u) s = inr refl
semicolon_or (tree.while_do x a) s = inr refl
semicolon_or (tree.do_while a x) s = inr refl
semicolon_or (tree.for_each p k a b) s = inr refl
semicolon_or (tree.for_loop x y z a) s = inr refl

not_simple : (n : ℕ) (us : List Token) (x : Statement) (rest : List Token) → Simple n us x rest → x ≢ tree.empty
not_simple _ _ _ _ (r.an_expression n us x rest _) h = absurd cc
not_simple _ _ _ _ (r.an_empty_print n t vs z rest _ _) h = absurd cc
not_simple _ _ _ _ (r.a_print n t us vs xs z rest _ _ _) h = absurd cc
not_simple _ _ _ _ (r.a_printf n t us vs xs z rest _ _ _) h = absurd cc
not_simple _ _ _ _ (r.a_delete_all n t m rest _ _ _) h = absurd cc
not_simple _ _ _ _ (r.a_delete n t m o c us xs rest _ _ _ _ _ _) h = absurd cc
not_simple _ _ _ _ (r.a_jump n which t rest _) h = absurd cc
not_simple _ _ _ _ (r.an_exit n t us x rest _ _) h = absurd cc
not_simple _ _ _ _ (r.a_return n t us x rest _ _) h = absurd cc

-- it is one `;`
lone : (n : ℕ) (us : List Token) (x : Statement) (rest : List Token) → SpellsStatement n us x rest → x ≡ tree.empty
    → (t : Token) × (us ≡ t ∷ []) × (terminal t ≡ w.Semicolon)
lone _ _ _ _ (r.an_empty n t rest h) e = (t, refl, h)
lone _ _ _ _ (r.a_simple n us vs s rest k _) e = absurd (not_simple n us s (vs ++ rest) k e)
lone _ _ _ _ (r.a_block n o c us xs rest _ _ _ _) e = absurd cc
lone _ _ _ _ (r.an_if n t us vs x s rest _ _ _ _) e = absurd cc
lone _ _ _ _ (r.an_if_else n t u us vs gs ws x s z rest _ _ _ _ _ _) e = absurd cc
lone _ _ _ _ (r.a_while n t us vs x s rest _ _ _) e = absurd cc
lone _ _ _ _ (r.a_do n t u us ns vs ws s x rest _ _ _ _ _ _) e = absurd cc
lone _ _ _ _ (r.a_for n t o a b c us vs ws bs x y z s rest _ _ _ _ _ _ _ _ _ _) e = absurd cc
lone _ _ _ _ (r.a_for_in n t o k i a c bs s rest _ _ _ _ _ _ _ _) e = absurd cc

-- ---- whether an `else` comes next

else_here : (us : List Token) → is (look us) w.Newline ≡ false → is (look us) w.Semicolon ≡ false
    → else_next us ≡ is (look us) w.Else
else_here [] a b = refl
else_here (t ∷ ts) a b = rw (a, b) refl

else_behind : (t : Token) (m : List Token) → terminal t ≡ w.Semicolon → else_next (t ∷ m) ≡ else_next m
else_behind t m h = rw h refl

pub else_skip : (ts : List Token) → else_next ts ≡ else_next (skip ts)
else_skip [] = refl
else_skip (t ∷ ts) =
    elim (decided (is (terminal t) w.Newline)) [
      | inl h ↦ rw h (else_skip ts)
      | inr h ↦ rw h (rw h refl)
    ]

pub no_else_at : (k : Terminal) (us : List Token) → look us ≡ k → is k w.Newline ≡ false → is k w.Semicolon ≡ false
    → is k w.Else ≡ false → else_next us ≡ false
no_else_at k us h a b c = else_here us (ap (λ (v : Terminal). is v w.Newline) h ∙ a)
    (ap (λ (v : Terminal). is v w.Semicolon) h ∙ b) ∙ ap (λ (v : Terminal). is v w.Else) h ∙ c

-- an `else` comes next before a statement just where one does before its canonical spelling
pub elses_before : (n : ℕ) (ts used rest s : List Token) (x : Statement) → ts ≡ used ++ rest
    → SpellsStatement n used x rest → look ts ≡ look (canon_statement x ++ s) → else_next rest ≡ else_next s
    → else_next ts ≡ else_next (canon_statement x ++ s)
unfolding terminal_of
elses_before n ts used rest s x parts spelled sees like =
    elim (semicolon_or x s) [
      | inl h ↦
          let l = lone n used x rest spelled h in
          let e : else_next ts ≡ else_next rest = ap else_next (parts ∙ ap (λ (m : List Token). m ++ rest) l.1)
          ∙ else_behind l.0 rest l.2 in
          e ∙ like ∙ ap (λ (z : Statement). else_next (canon_statement z ++ s)) (sym h)
      | inr h ↦
          let us = canon_statement x ++ s in
          let k = begins_look (canon_statement x) s (begins x) in
          let a = no_newline (look us) k in
          else_here ts (ap (λ (v : Terminal). is v w.Newline) sees ∙ a) (ap (λ (v : Terminal). is v w.Semicolon) sees
          ∙ h) ∙ ap (λ (v : Terminal). is v w.Else) sees ∙ sym (else_here us a h)
    ]

-- ---- newlines and `;` that mean nothing

either : (a b : Bool) → (a || b) ≡ true → (a ≡ true) ⊎ (b ≡ true)
either true b h = inl refl
either false b h = inr h

pub gap_token : (t : Token) → (is (terminal t) w.Newline || is (terminal t) w.Semicolon) ≡ true
    → (terminal t ≡ w.Newline) ⊎ (terminal t ≡ w.Semicolon)
gap_token t h =
    elim (either (is (terminal t) w.Newline) (is (terminal t) w.Semicolon) h) [
      | inl a ↦ inl (is-true (terminal t) w.Newline refl a)
      | inr b ↦ inr (is-true (terminal t) w.Semicolon refl b)
    ]

pub past_parts : (ts : List Token) → (gs : List Token) × Gap gs × (ts ≡ gs ++ past ts)
past_parts [] = ([], tt, refl)
past_parts (t ∷ ts) =
    elim (decided (is (terminal t) w.Newline || is (terminal t) w.Semicolon)) [
      | inl h ↦ let q = past_parts ts in (t ∷ q.0, (gap_token t h, q.1), rw h (ap (λ (m : List Token). t ∷ m) q.2))
      | inr h ↦ ([], tt, rw h refl)
    ]
