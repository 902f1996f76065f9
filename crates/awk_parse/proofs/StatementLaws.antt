-- The laws of statements that hold others, and of their lists.
use Rattle.std.proofs.Common.{◌≡◌, ℕ, suc, Bool, true, false, cond, Option, Some, None, List, [], ◌∷◌, ◌++◌, option_map}
use Rattle.std.proofs.Common.{Ok, codes, refl, sym, ap, subst, ◌∙◌, inl, inr, append_assoc, ◌==◌}
use Rattle.std.proofs.lemmas.List.{append-nil}
use Rattle.std.proofs.lemmas.Bool.{eq-eqb}
use Rattle.awk_tokens.specs.declared.token.Token.{Token}
use Rattle.awk_tree.specs.Looks.{each_next, else_next, name_of, past, skip}
use Rattle.awk_tree.specs.declared.goals.Goal.{Goal}
use Rattle.awk_tree.specs.declared.goals.Goal.TheVariants as goal
use Rattle.awk_tree.specs.declared.goals.Nested.{Nested}
use Rattle.awk_tree.specs.declared.goals.Nested.TheVariants as nested
use Rattle.awk_tokens.specs.declared.terminals.Terminal.{Terminal}
use Rattle.awk_tokens.specs.declared.terminals.Terminal.TheVariants as w
use Rattle.awk_tree.specs.Tree as tree
use Rattle.awk_tree.specs.Tree.{Tree, Statement, Statements, statements_of}
use Rattle.awk_tree.specs.Terminals.{number_of, terminal, terminal_of, seen, is, look, ahead, sign, keyword}
use Rattle.awk_tree.specs.Input.{Outcome, Parser, ◌>>=◌, any, one, exactly, pure, deep, inside, skipped}
use Rattle.awk_tree.specs.Statements as st
use Rattle.awk_tree.specs.Canon.{canon, bare, word, canon_perhaps, canon_statement, canon_statements, bare_statement}
use Rattle.awk_tree.specs.Canon.{end}
use Rattle.awk_parse.specs.Spells.{Opens, Newlines}
use Rattle.awk_parse.specs.SpellsScripts as r
use Rattle.awk_parse.specs.SpellsScripts.{Gap, Simple, Perhaps, Test, SpellsStatement, Body, Block}
use Rattle.awk_parse.proofs.TerminalLemmas.{is-true, single}
use Rattle.awk_parse.proofs.Law.{Eye, Near, Form, Read, Law, LawOn, Goes, bind_ok, chosen, done_is, any_is, then_at}
use Rattle.awk_parse.proofs.Law.{seq_at, Both, both, pair, via, pure_on, this, one_law, lines, behind, skip_parts}
use Rattle.awk_parse.proofs.Starts.{begins_expression, Starts, starts}
use Rattle.awk_parse.proofs.Words.{a_keyword, opening, closing, opening_law, closing_law}
use Rattle.awk_parse.proofs.Operands.{Inner, whole, Closed, closed}
use Rattle.awk_parse.proofs.SimpleLaws.{without_end}
use Rattle.awk_parse.proofs.EndLaws.{Finished, finished, open_form, ended_form, end_law}
use Rattle.awk_parse.proofs.Looks.{Elses, Blind, else_skip, no_else_at, past_parts}
use Rattle.awk_parse.proofs.Parens.{no_each}
use Rattle.awk_parse.proofs.Steps.{weaker_known_at, took, took_exactly}

-- ---- lists behind one another

do_parts : (us ns vs : List Token) (t u : Token) → ((t ∷ us) ++ (ns ++ u ∷ [])) ++ vs ≡ ((t ∷ us) ++ ns) ++ u ∷ vs
do_parts us ns vs t u = simp append_assoc

loop_parts : (us vs ws bs : List Token) (a b c : Token) → (((us ++ a ∷ []) ++ (vs ++ b ∷ [])) ++ (ws ++ c ∷ [])) ++ bs
    ≡ ((us ++ a ∷ vs) ++ b ∷ ws) ++ c ∷ bs
loop_parts us vs ws bs a b c = simp append_assoc

loop_plain : (us vs ws bs : List Token) (a b c : Token) → ((((us ++ a ∷ []) ++ vs) ++ b ∷ []) ++ ws) ++ c ∷ bs
    ≡ (((us ++ a ∷ []) ++ (vs ++ b ∷ [])) ++ (ws ++ c ∷ [])) ++ bs
loop_plain us vs ws bs a b c = simp append_assoc

loop_first : (us vs ws bs s : List Token) (a b c : Token) → (((((us ++ a ∷ []) ++ vs) ++ b ∷ []) ++ ws) ++ c ∷ bs) ++ s
    ≡ us ++ a ∷ ((((vs ++ b ∷ []) ++ ws) ++ c ∷ bs) ++ s)
loop_first us vs ws bs s a b c = simp append_assoc

loop_after : (vs ws bs rest : List Token) (b c : Token) → (vs ++ b ∷ []) ++ ((ws ++ c ∷ []) ++ (bs ++ rest)) ≡ vs
    ++ b ∷ (ws ++ c ∷ (bs ++ rest))
loop_after vs ws bs rest b c = simp append_assoc

-- ---- words

abbrev if_word : Form Token
if_word = a_keyword w.If (codes "if")

abbrev while_word : Form Token
while_word = a_keyword w.While (codes "while")

abbrev do_word : Form Token
do_word = a_keyword w.Do (codes "do")

abbrev for_word : Form Token
for_word = a_keyword w.For (codes "for")

if_word_law : (o : Eye) → Law Near o if_word (one w.If)
unfolding terminal_of
if_word_law o = one_law w.If (λ _. keyword (codes "if")) refl refl (λ _ _. refl) o

while_word_law : (o : Eye) → Law Near o while_word (one w.While)
unfolding terminal_of
while_word_law o = one_law w.While (λ _. keyword (codes "while")) refl refl (λ _ _. refl) o

do_word_law : (o : Eye) → Law Near o do_word (one w.Do)
unfolding terminal_of
do_word_law o = one_law w.Do (λ _. keyword (codes "do")) refl refl (λ _ _. refl) o

for_word_law : (o : Eye) → Law Near o for_word (one w.For)
unfolding terminal_of
for_word_law o = one_law w.For (λ _. keyword (codes "for")) refl refl (λ _ _. refl) o

-- the `while` of a do, behind newlines
while_behind : Law Elses Near (behind while_word) (skipped (one w.While))
unfolding terminal_of
while_behind ts t rest h =
    let q = while_word_law Near (skip ts) t rest h in
    let n = skip_parts ts in
    let p = took w.While refl refl (skip ts) t rest h in
    record {
      used = n.0 ++ q.used;
      parts = n.2 ∙ ap (λ (m : List Token). n.0 ++ m) q.parts ∙ sym (append_assoc n.0 q.used rest);
      spelled = lines n.0 q.used t rest n.1 q.spelled;
      seen = λ s like. else_skip ts ∙ no_else_at w.While (skip ts) (ap look p.0 ∙ p.1) refl refl refl;
      reads = λ s like. q.reads s like;
    }

-- ---- forms

module _ (n : ℕ) where
  abbrev pub statement_form : Form Statement
  statement_form = record { plain = canon_statement; bare = bare_statement; spells = SpellsStatement n }

  abbrev pub body_form : Form Statement
  body_form = record { plain = canon_statement; bare = bare_statement; spells = Body n }

  abbrev pub test_form : Form Tree
  test_form = record { plain = λ x. sign (codes "(") ∷ canon x ++ sign (codes ")") ∷ []; bare = bare; spells = Test n }

-- a block without its `{`, whose statements are a level deeper
abbrev pub inner_tokens : Statement → List Token
inner_tokens (tree.block xs) = canon_statements xs ++ sign (codes "}") ∷ []
inner_tokens other = []

pub data Inside (n : ℕ) : List Token → Statement → List Token → Type 0 where
  in_braces : (us : List Token) (xs : List Statement) (rest : List Token) → Opens n
      → Closed w.CloseBrace (Block (suc n)) us xs rest → Inside n us (tree.block (statements_of xs)) rest

abbrev pub inside_form : ℕ → Form Statement
inside_form n = record { plain = inner_tokens; bare = bare_statement; spells = Inside n }

-- what is read of statements one level deeper
pub record Within (n : ℕ) (body : Nested → Parser Statement) : Type 0 where
  pub blocks : Law Blind Elses (inside_form n) (body nested.Braces)
  pub bodies : Law Blind Elses (body_form n) (body nested.Body)

-- ---- parts in parentheses

pub picked : {A : Type 0} (b : Bool) (p q : Parser A) (ts : List Token) (z : Outcome A) → cond b p q ts ≡ z
    → cond b (p ts) (q ts) ≡ z
picked true p q ts z h = h
picked false p q ts z h = h

test_spells : (n : ℕ) (us : List Token) (q : (Token × Tree) × Token) (rest : List Token)
    → Both (pair opening (whole n false)) closing us q rest → Test n us q.0.1 rest
test_spells n _ _ _ (both _ _ rest _ _ (both _ us _ _ x (this a _ h) (opens, k, _)) (this c _ j)) =
    r.a_test n a c us x rest h j opens k

-- [ expr ] and the sign behind it
abbrev until_form : ℕ → Terminal → List ℕ → Form (Option Tree)
until_form n kind text = record {
  plain = λ x. canon_perhaps x ++ sign text ∷ [];
  bare = option_map bare;
  spells =
      Closed kind (Perhaps (suc n));
}

starts_other : (kind : Terminal) → ((k : Terminal) → begins_expression k ≡ true → is k kind ≡ false)
    → (a s : List Token) → Starts a → is (look (a ++ s)) kind ≡ false
starts_other kind other [] s h = absurd h
starts_other kind other (t ∷ ts) s h = other (terminal t) h

no_semicolon : (k : Terminal) → begins_expression k ≡ true → is k w.Semicolon ≡ false
no_semicolon w.Semicolon h = absurd cc
no_semicolon _ h = refl

no_closing : (k : Terminal) → begins_expression k ≡ true → is k w.CloseParen ≡ false
no_closing w.CloseParen h = absurd cc
no_closing _ h = refl

module _ (n depth : ℕ) (inner : Goal → Parser Tree) (deeper : Inner n depth inner) where
  pub condition_law : (o : Eye) → Law Near o (test_form n) (st.condition depth inner)
  unfolding st.condition
  condition_law o ts =
      then_at Near Near o opening (test_form n) (one w.OpenParen) (λ _. inner (goal.Expr false)
      >>= λ x. one w.CloseParen >>= λ _. pure x) ts (opening_law Near ts)
      (λ t ts. seq_at Near Near o opening (whole n false) (test_form n) (inner (goal.Expr false))
      (λ t x. one w.CloseParen >>= λ _. pure x) t ts (deeper.wholes false ts)
      (λ q ts. seq_at Near o o (pair opening (whole n false)) closing (test_form n) (one w.CloseParen) (λ q _. pure q.1)
      q ts (closing_law o ts)
      (pure_on o (pair (pair opening (whole n false)) closing) (test_form n) (λ q. q.0.1) (λ q. refl) (λ q. refl)
      (test_spells n))))

  module _ (kind : Terminal) (text : List ℕ) (alone : single kind ≡ true) (spelled_so : terminal (sign text) ≡ kind)
      (calmly : (b c : Bool) → seen kind b ≡ seen kind c)
      (other : (k : Terminal) → begins_expression k ≡ true → is k kind ≡ false) where
    -- the sign, as an expression sees it
    sign_near : (t : Token) (m s : List Token) → terminal t ≡ kind → ahead (t ∷ m) ≡ ahead (sign text ∷ s)
    sign_near t m s h =
        ap (λ (k : Terminal). seen k (is (look m) w.Getline)) h ∙ calmly (is (look m) w.Getline) (is (look s) w.Getline)
        ∙ ap (λ (k : Terminal). seen k (is (look s) w.Getline)) (sym spelled_so)

    here_again : (s : List Token) → is (look (sign text ∷ s)) kind ≡ true
    here_again s = ap (λ (k : Terminal). is k kind) spelled_so ∙ eq-eqb (number_of kind) (number_of kind) refl

    none_until : (ts : List Token) (x : Option Tree) (rest : List Token) → is (look ts) kind ≡ true
        → (any >>= λ _. pure None) ts ≡ Ok (x, rest)
        → Read Blind Blind (until_form n kind text) (st.perhaps_until depth inner kind) ts x rest
    unfolding st.perhaps_until any
    none_until ts x rest comes h =
        let a = bind_ok (any ts) (λ _. pure None) x rest h in
        let p = any_is ts a.0 a.1 a.2 in
        let d = done_is None x a.1 rest a.3 in
        subst (λ (z : Option Tree). Read Blind Blind (until_form n kind text) (st.perhaps_until depth inner kind) ts z
        rest) d.0
        (subst (λ (m : List Token). Read Blind Blind (until_form n kind text) (st.perhaps_until depth inner kind) ts
        None m) d.1 (record {
          used = a.0 ∷ [];
          parts = p;
          spelled = closed a.0 [] None a.1 (sym (ap look p) ∙ is-true (look ts) kind alone comes)
              (r.no_expr (suc n) (a.0 ∷ a.1));
          seen = λ s like. tt;
          reads = λ s like. let again = here_again s in rw again refl;
        }))

    some_until : (ts : List Token) (x : Option Tree) (rest : List Token)
        → (inner (goal.Expr false) >>= λ x. exactly kind >>= λ _. pure (Some x)) ts ≡ Ok (x, rest)
        → Read Blind Blind (until_form n kind text) (st.perhaps_until depth inner kind) ts x rest
    unfolding st.perhaps_until any exactly
    some_until ts x rest h =
        let a = bind_ok (inner (goal.Expr false) ts) (λ x. exactly kind >>= λ _. pure (Some x)) x rest h in
        let b = bind_ok (exactly kind a.1) (λ _. pure (Some a.0)) x rest a.3 in
        let q = deeper.wholes false ts a.0 a.1 a.2 in
        let p = took_exactly kind alone a.1 b.0 b.1 b.2 in
        let d = done_is (Some a.0) x b.1 rest b.3 in
        let said = subst (λ (m : List Token). (whole n false).spells q.used a.0 m) p.0 q.spelled in
        subst (λ (z : Option Tree). Read Blind Blind (until_form n kind text) (st.perhaps_until depth inner kind) ts z
        rest) d.0
        (subst (λ (m : List Token). Read Blind Blind (until_form n kind text) (st.perhaps_until depth inner kind) ts
        (Some a.0) m) d.1 (record {
          used = q.used ++ b.0 ∷ [];
          parts = q.parts ∙ ap (λ (m : List Token). q.used ++ m) p.0 ∙ sym (append_assoc q.used (b.0 ∷ []) b.1);
          spelled = closed b.0 q.used (Some a.0) b.1 p.1 (r.some_expr (suc n) q.used a.0 (b.0 ∷ b.1) said.1);
          seen = λ s like. tt;
          reads = λ s like.
              let again = here_again s in
              let first = starts_other kind other (canon a.0) (sign text ∷ s) (starts a.0) in
              rw (
                append_assoc (canon a.0) (sign text ∷ []) s,
                first,
                q.reads (sign text ∷ s) (ap ahead p.0 ∙ sign_near b.0 b.1 s p.1),
                again,
              ) refl;
        }))

    pub until_sign_law : Law Blind Blind (until_form n kind text) (st.perhaps_until depth inner kind)
    unfolding st.perhaps_until
    until_sign_law ts x rest h =
        elim (chosen (is (look ts) kind) ((any >>= λ _. pure None) ts)
        ((inner (goal.Expr false) >>= λ x. exactly kind >>= λ _. pure (Some x)) ts) (Ok (x, rest))
        (picked (is (look ts) kind) (any >>= λ _. pure None) (inner (goal.Expr false) >>= λ x. exactly kind
        >>= λ _. pure (Some x)) ts (Ok (x, rest)) h)) [
          | inl k ↦ none_until ts x rest k.0 k.1
          | inr k ↦ some_until ts x rest k.1
        ]

-- ---- statements that hold others

-- what a do is spelled by, without its end
data Doing (n : ℕ) : List Token → Statement → List Token → Type 0 where
  doing : (t u : Token) (us ns vs : List Token) (s : Statement) (x : Tree) (rest : List Token) → terminal t ≡ w.Do
      → terminal u ≡ w.While → Body n us s (ns ++ u ∷ (vs ++ rest)) → Newlines ns → Test n vs x rest
      → Doing n (((t ∷ us) ++ ns) ++ u ∷ vs) (tree.do_while s x) rest

-- what stands behind the `(` of a for that is no for over an array
abbrev behind_paren : Statement → List Token
behind_paren (tree.for_loop x y z s) = canon_perhaps x ++ end ++ canon_perhaps y ++ end ++ canon_perhaps z
    ++ sign (codes ")") ∷ canon_statement s
behind_paren other = []

data Looping (n : ℕ) : List Token → Statement → List Token → Type 0 where
  looping : (us vs ws bs : List Token) (a b c : Token) (x y z : Option Tree) (s : Statement) (rest : List Token)
      → terminal a ≡ w.Semicolon → terminal b ≡ w.Semicolon → terminal c ≡ w.CloseParen
      → Perhaps (suc n) us x (a ∷ (vs ++ b ∷ (ws ++ c ∷ (bs ++ rest))))
      → Perhaps (suc n) vs y (b ∷ (ws ++ c ∷ (bs ++ rest))) → Perhaps (suc n) ws z (c ∷ (bs ++ rest))
      → Body n bs s rest
      → Looping n (((us ++ a ∷ vs) ++ b ∷ ws) ++ c ∷ bs) (tree.for_loop x y z s) rest

abbrev loop_form : ℕ → Form Statement
loop_form n = record { plain = behind_paren; bare = bare_statement; spells = Looping n }

loop_whole : (n : ℕ) (us : List Token) (s : Statement) (rest : List Token) → Looping n us s rest
    → canon_statement s ≡ keyword (codes "for") ∷ sign (codes "(") ∷ behind_paren s
loop_whole _ _ _ _ (looping us vs ws bs a b c x y z s rest _ _ _ _ _ _ _) = refl

loop_no_each : (n : ℕ) (us : List Token) (s : Statement) (rest m : List Token) → Looping n us s rest
    → each_next (behind_paren s ++ m) ≡ false
loop_no_each _ _ _ _ m (looping us vs ws bs a b c x y z s rest _ _ _ _ _ _ _) =
    ap each_next (loop_first (canon_perhaps x) (canon_perhaps y) (canon_perhaps z) (canon_statement s) m
    (sign (codes ";")) (sign (codes ";")) (sign (codes ")")))
    ∙ no_each x ((((canon_perhaps y ++ end) ++ canon_perhaps z) ++ sign (codes ")") ∷ canon_statement s) ++ m)

loop_here : (n : ℕ) (t o : Token) (us : List Token) (s : Statement) (rest : List Token) → terminal t ≡ w.For
    → terminal o ≡ w.OpenParen → Opens n → Looping n us s rest → SpellsStatement n (t ∷ o ∷ us) s rest
loop_here n t o _ _ _ h k opens (looping us vs ws bs a b c x y z s rest ha hb hc px py pz j) =
    r.a_for n t o a b c us vs ws bs x y z s rest h k ha hb hc opens px py pz j

module _ (n depth : ℕ) (inner : Goal → Parser Tree) (deeper : Inner n depth inner) (body : Nested → Parser Statement)
    (within : Within n body) where
  -- ---- while

  while_spells : (us : List Token) (q : (Token × Tree) × Statement) (rest : List Token)
      → Both (pair while_word (test_form n)) (body_form n) us q rest
      → SpellsStatement n us (tree.while_do q.0.1 q.1) rest
  while_spells _ _ _ (both _ vs rest _ s (both _ us _ _ x (this t _ h) k) j) = r.a_while n t us vs x s rest h k j

  pub while_law : Law Near Elses (statement_form n) (st.while_of depth inner body)
  unfolding st.while_of
  while_law ts =
      then_at Near Near Elses while_word (statement_form n) (one w.While) (λ _. st.condition depth inner
      >>= λ x. body nested.Body >>= λ s. pure (tree.while_do x s)) ts (while_word_law Near ts)
      (λ t ts. seq_at Near Blind Elses while_word (test_form n) (statement_form n) (st.condition depth inner)
      (λ t x. body nested.Body >>= λ s. pure (tree.while_do x s)) t ts (condition_law n depth inner deeper Blind ts)
      (λ q ts. seq_at Blind Elses Elses (pair while_word (test_form n)) (body_form n) (statement_form n)
      (body nested.Body) (λ q s. pure (tree.while_do q.1 s)) q ts (within.bodies ts)
      (pure_on Elses (pair (pair while_word (test_form n)) (body_form n)) (statement_form n)
      (λ q. tree.while_do q.0.1 q.1) (λ q. refl) (λ q. refl) while_spells)))

  -- ---- if

  abbrev headed : Form ((Token × Tree) × Statement)
  headed = pair (pair if_word (test_form n)) (body_form n)

  else_spells : (us gs ws : List Token) (u : Token) (q : (Token × Tree) × Statement) (z : Statement) (rest : List Token)
      → Both (pair if_word (test_form n)) (body_form n) us q (gs ++ u ∷ (ws ++ rest)) → terminal u ≡ w.Else → Gap gs
      → Body n ws z rest
      → SpellsStatement n (us ++ (gs ++ u ∷ ws)) (tree.if_else q.0.1 q.1 z) rest
  else_spells _ gs ws u _ z rest (both _ vs _ _ s (both _ us _ _ x (this t _ h) k) j) e g b =
      subst (λ (m : List Token). SpellsStatement n m (tree.if_else x s z) rest)
      (append_assoc ((t ∷ us) ++ vs) gs (u ∷ ws)) (r.an_if_else n t u us vs gs ws x s z rest h e k j g b)

  then_spells : (us : List Token) (q : (Token × Tree) × Statement) (rest : List Token)
      → Both (pair if_word (test_form n)) (body_form n) us q rest → else_next rest ≡ false
      → SpellsStatement n us (tree.if_then q.0.1 q.1) rest
  then_spells _ _ _ (both _ vs rest _ s (both _ us _ _ x (this t _ h) k) j) none = r.an_if n t us vs x s rest h k j none

  with_else : (q : (Token × Tree) × Statement) (ts : List Token) (y : Statement) (rest : List Token)
      → else_next ts ≡ true → (any >>= λ _. body nested.Body >>= λ z. pure (tree.if_else q.0.1 q.1 z)) (past ts)
      ≡ Ok (y, rest)
      → Goes Elses Elses headed (statement_form n) (λ q. st.else_rest depth inner body q.0.1 q.1) q ts y rest
  unfolding st.else_rest any terminal_of
  with_else q ts y rest comes h =
      let a = bind_ok (any (past ts)) (λ _. body nested.Body >>= λ z. pure (tree.if_else q.0.1 q.1 z)) y rest h in
      let b = bind_ok (body nested.Body a.1) (λ z. pure (tree.if_else q.0.1 q.1 z)) y rest a.3 in
      let d = done_is (tree.if_else q.0.1 q.1 b.0) y b.1 rest b.3 in
      let p = any_is (past ts) a.0 a.1 a.2 in
      let found : terminal a.0 ≡ w.Else = sym (ap look p) ∙ is-true (look (past ts)) w.Else refl comes in
      let g = past_parts ts in
      let l = within.bodies a.1 b.0 b.1 b.2 in
      let split : ts ≡ g.0 ++ a.0 ∷ (l.used ++ b.1) = g.2 ∙ ap (λ (m : List Token). g.0 ++ m)
      (p ∙ ap (λ (m : List Token). a.0 ∷ m) l.parts) in
      subst (λ (z : Statement). Goes Elses Elses headed (statement_form n)
      (λ q. st.else_rest depth inner body q.0.1 q.1) q ts z rest) d.0
      (subst (λ (m : List Token). Goes Elses Elses headed (statement_form n)
      (λ q. st.else_rest depth inner body q.0.1 q.1) q ts (tree.if_else q.0.1 q.1 b.0) m) d.1 (record {
        used = g.0 ++ a.0 ∷ l.used;
        parts = split ∙ sym (append_assoc g.0 (a.0 ∷ l.used) b.1);
        spelled = λ us k. else_spells us g.0 l.used a.0 q b.0 b.1
            (subst (λ (m : List Token). Both (pair if_word (test_form n)) (body_form n) us q m) split k) found g.1
            l.spelled;
        more = keyword (codes "else") ∷ canon_statement b.0;
        whole = refl;
        seen = λ s like. comes;
        reads = λ s like. rw (l.reads s like) refl;
      }))

  without_else : (q : (Token × Tree) × Statement) (ts : List Token) (y : Statement) (rest : List Token)
      → else_next ts ≡ false → tree.if_then q.0.1 q.1 ≡ y → ts ≡ rest
      → Goes Elses Elses headed (statement_form n) (λ q. st.else_rest depth inner body q.0.1 q.1) q ts y rest
  unfolding st.else_rest
  without_else q ts y rest none made same =
      subst (λ (z : Statement). Goes Elses Elses headed (statement_form n)
      (λ q. st.else_rest depth inner body q.0.1 q.1) q ts z rest) made
      (subst (λ (m : List Token). Goes Elses Elses headed (statement_form n)
      (λ q. st.else_rest depth inner body q.0.1 q.1) q ts (tree.if_then q.0.1 q.1) m) same (record {
        used = [];
        parts = refl;
        spelled = λ us k. subst (λ (m : List Token). SpellsStatement n m (tree.if_then q.0.1 q.1) ts)
            (sym (append-nil us)) (then_spells us q ts k none);
        more = [];
        whole = sym (append-nil (headed.plain q));
        seen = λ s like. like;
        reads = λ s like. let off : else_next s ≡ false = sym like ∙ none in rw off refl;
      }))

  else_law : LawOn Elses Elses headed (statement_form n) (λ q. st.else_rest depth inner body q.0.1 q.1)
  unfolding st.else_rest
  else_law q ts y rest h =
      elim (chosen (else_next ts) ((any >>= λ _. body nested.Body >>= λ z. pure (tree.if_else q.0.1 q.1 z)) (past ts))
      (Ok (tree.if_then q.0.1 q.1, ts)) (Ok (y, rest)) h) [
        | inl k ↦ let v = with_else q ts y rest k.0 k.1 in
            record {
              used = v.used;
              parts = v.parts;
              spelled = v.spelled;
              more = v.more;
              whole = v.whole;
              seen = v.seen;
              reads = v.reads;
            }
        | inr k ↦ let d = done_is (tree.if_then q.0.1 q.1) y ts rest k.1 in
            let v = without_else q ts y rest k.0 d.0 d.1 in
            record {
              used = v.used;
              parts = v.parts;
              spelled = v.spelled;
              more = v.more;
              whole = v.whole;
              seen = v.seen;
              reads = v.reads;
            }
      ]

  pub if_law : Law Near Elses (statement_form n) (st.if_of depth inner body)
  unfolding st.if_of
  if_law ts =
      then_at Near Near Elses if_word (statement_form n) (one w.If) (λ _. st.condition depth inner
      >>= λ x. body nested.Body >>= λ s. st.else_rest depth inner body x s) ts (if_word_law Near ts)
      (λ t ts. seq_at Near Blind Elses if_word (test_form n) (statement_form n) (st.condition depth inner)
      (λ t x. body nested.Body >>= λ s. st.else_rest depth inner body x s) t ts
      (condition_law n depth inner deeper Blind ts)
      (λ q ts. seq_at Blind Elses Elses (pair if_word (test_form n)) (body_form n) (statement_form n) (body nested.Body)
      (λ q s. st.else_rest depth inner body q.1 s) q ts (within.bodies ts) else_law))

  -- ---- do

  do_spells : (us : List Token) (q : ((Token × Statement) × Token) × Tree) (rest : List Token)
      → Both (pair (pair do_word (body_form n)) (behind while_word)) (test_form n) us q rest
      → Doing n us (tree.do_while q.0.0.1 q.1) rest
  do_spells _ _ _ (both _ vs rest _ x (both _ _ _ _ _ (both _ us _ _ s (this t _ h) b) (lines ns _ _ _ l (this u _ k)))
      j) =
      subst (λ (m : List Token). Doing n m (tree.do_while s x) rest) (sym (do_parts us ns vs t u))
      (doing t u us ns vs s x rest h k (subst (λ (m : List Token). Body n us s m)
      (append_assoc ns (u ∷ []) (vs ++ rest)) b) l j)

  do_finished : (us : List Token) (s : Statement) (rest : List Token) → Finished (Doing n) us s rest
      → SpellsStatement n us s rest
  do_finished _ _ _ (finished _ ws _ rest (doing t u us ns vs s x _ h k b l j) e) =
      r.a_do n t u us ns vs ws s x rest h k b l j e

  do_whole : (us : List Token) (s : Statement) (rest : List Token) → Finished (Doing n) us s rest
      → without_end s ++ end ≡ canon_statement s
  do_whole _ _ _ (finished _ ws _ rest (doing t u us ns vs s x _ h k b l j) e) = refl

  pub do_law : Law Near Elses (statement_form n) (st.do_of depth inner body)
  unfolding st.do_of
  do_law ts =
      weaker_known_at Near Elses (ended_form (Doing n)) (statement_form n) (one w.Do >>= λ _. body nested.Body
      >>= λ s. skipped (one w.While) >>= λ _. st.condition depth inner >>= λ x. st.ended (tree.do_while s x)) ts
      do_whole (λ s. refl) do_finished
      (then_at Near Blind Elses do_word (ended_form (Doing n)) (one w.Do) (λ _. body nested.Body >>= λ s. skipped
      (one w.While) >>= λ _. st.condition depth inner >>= λ x. st.ended (tree.do_while s x)) ts
      (do_word_law Blind ts)
      (λ t ts. seq_at Blind Elses Elses do_word (body_form n) (ended_form (Doing n)) (body nested.Body)
      (λ t s. skipped (one w.While) >>= λ _. st.condition depth inner >>= λ x. st.ended (tree.do_while s x)) t ts
      (within.bodies ts)
      (λ q ts. seq_at Elses Near Elses (pair do_word (body_form n)) (behind while_word) (ended_form (Doing n))
      (skipped (one w.While)) (λ q _. st.condition depth inner >>= λ x. st.ended (tree.do_while q.1 x)) q ts
      (while_behind ts)
      (λ q ts. seq_at Near Near Elses (pair (pair do_word (body_form n)) (behind while_word)) (test_form n)
      (ended_form (Doing n)) (st.condition depth inner) (λ q x. st.ended (tree.do_while q.0.1 x)) q ts
      (condition_law n depth inner deeper Near ts)
      (via Near Elses (pair (pair (pair do_word (body_form n)) (behind while_word)) (test_form n)) (open_form (Doing n))
      (ended_form (Doing n)) (λ q. tree.do_while q.0.0.1 q.1) st.ended
      (λ q. sym (append_assoc (keyword (codes "do") ∷ canon_statement q.0.0.1) (keyword (codes "while") ∷ [])
      (sign (codes "(") ∷ canon q.1 ++ sign (codes ")") ∷ []))) (λ q. refl) do_spells (end_law (Doing n) Elses))))))

  -- ---- for

  abbrev loop_parts_form : Form (((Option Tree × Option Tree) × Option Tree) × Statement)
  loop_parts_form = pair (pair (pair (until_form n w.Semicolon (codes ";")) (until_form n w.Semicolon (codes ";")))
      (until_form n w.CloseParen (codes ")"))) (body_form n)

  loop_spells : (us : List Token) (q : ((Option Tree × Option Tree) × Option Tree) × Statement) (rest : List Token)
      → loop_parts_form.spells us q rest → Looping n us (tree.for_loop q.0.0.0 q.0.0.1 q.0.1 q.1) rest
  loop_spells _ _ _ (both _ bs rest _ s (both _ _ _ _ _ (both _ _ _ _ _ (closed a us x _ ha px) (closed b vs y _ hb py))
      (closed c ws z _ hc pz)) j) =
      subst (λ (m : List Token). Looping n m (tree.for_loop x y z s) rest) (sym (loop_parts us vs ws bs a b c))
      (looping us vs ws bs a b c x y z s rest ha hb hc (subst (λ (m : List Token). Perhaps (suc n) us x (a ∷ m))
      (loop_after vs ws bs rest b c) px)
      (subst (λ (m : List Token). Perhaps (suc n) vs y (b ∷ m)) (append_assoc ws (c ∷ []) (bs ++ rest)) py) pz j)

  semicolon_law : Law Blind Blind (until_form n w.Semicolon (codes ";")) (st.perhaps_until depth inner w.Semicolon)
  unfolding terminal_of
  semicolon_law = until_sign_law n depth inner deeper w.Semicolon (codes ";") refl refl (λ _ _. refl) no_semicolon

  closing_sign_law : Law Blind Blind (until_form n w.CloseParen (codes ")")) (st.perhaps_until depth inner w.CloseParen)
  unfolding terminal_of
  closing_sign_law = until_sign_law n depth inner deeper w.CloseParen (codes ")") refl refl (λ _ _. refl) no_closing

  loop_law : Law Blind Elses (loop_form n) (st.loop_rest depth inner body)
  unfolding st.loop_rest
  loop_law ts =
      then_at Blind Blind Elses (until_form n w.Semicolon (codes ";")) (loop_form n)
      (st.perhaps_until depth inner w.Semicolon) (λ x. st.perhaps_until depth inner w.Semicolon
      >>= λ y. st.perhaps_until depth inner w.CloseParen >>= λ z. body nested.Body
      >>= λ s. pure (tree.for_loop x y z s)) ts (semicolon_law ts)
      (λ x ts. seq_at Blind Blind Elses (until_form n w.Semicolon (codes ";")) (until_form n w.Semicolon (codes ";"))
      (loop_form n) (st.perhaps_until depth inner w.Semicolon) (λ x y. st.perhaps_until depth inner w.CloseParen
      >>= λ z. body nested.Body >>= λ s. pure (tree.for_loop x y z s)) x ts (semicolon_law ts)
      (λ q ts. seq_at Blind Blind Elses (pair (until_form n w.Semicolon (codes ";"))
      (until_form n w.Semicolon (codes ";"))) (until_form n w.CloseParen (codes ")")) (loop_form n)
      (st.perhaps_until depth inner w.CloseParen) (λ q z. body nested.Body
      >>= λ s. pure (tree.for_loop q.0 q.1 z s)) q ts (closing_sign_law ts)
      (λ q ts. seq_at Blind Elses Elses
      (pair (pair (until_form n w.Semicolon (codes ";")) (until_form n w.Semicolon (codes ";")))
      (until_form n w.CloseParen (codes ")"))) (body_form n) (loop_form n) (body nested.Body)
      (λ q s. pure (tree.for_loop q.0.0 q.0.1 q.1 s)) q ts (within.bodies ts)
      (pure_on Elses loop_parts_form (loop_form n) (λ q. tree.for_loop q.0.0.0 q.0.0.1 q.0.1 q.1)
      (λ q. loop_plain (canon_perhaps q.0.0.0) (canon_perhaps q.0.0.1) (canon_perhaps q.0.1) (canon_statement q.1)
      (sign (codes ";")) (sign (codes ";")) (sign (codes ")"))) (λ q. refl) loop_spells))))

  abbrev for_head : Form (Token × Token)
  for_head = pair for_word opening

  loop_from : (us vs : List Token) (q : Token × Token) (s : Statement) (rest : List Token)
      → Both for_word opening us q (vs ++ rest) → Opens n → Looping n vs s rest → SpellsStatement n (us ++ vs) s rest
  loop_from _ vs _ s rest (both _ _ _ _ _ (this t _ h) (this o _ k)) opens j = loop_here n t o vs s rest h k opens j

  each_from : (us bs : List Token) (q : Token × Token) (k i a c : Token) (s : Statement) (rest : List Token)
      → Both for_word opening us q (k ∷ i ∷ a ∷ c ∷ (bs ++ rest)) → Opens n → terminal k ≡ w.Name → terminal i ≡ w.In
      → terminal a ≡ w.Name → terminal c ≡ w.CloseParen → Body n bs s rest
      → SpellsStatement n (us ++ k ∷ i ∷ a ∷ c ∷ bs) (tree.for_each q.0.place (name_of k) (name_of a) s) rest
  each_from _ bs _ k i a c s rest (both _ _ _ _ _ (this t _ h) (this o _ j)) opens hk hi ha hc b =
      r.a_for_in n t o k i a c bs s rest h j hk hi ha hc opens b

  abbrev for_parser : (Token × Token) → Parser Statement
  for_parser q = inside depth (st.for_rest depth inner body q.0.place)

  loop_on : (q : Token × Token) (ts : List Token) (y : Statement) (rest : List Token) → (depth == 0) ≡ false
      → st.loop_rest depth inner body ts ≡ Ok (y, rest) → Goes Blind Elses for_head (statement_form n) for_parser q ts y
      rest
  unfolding st.for_rest
  loop_on q ts y rest left h =
      let l = loop_law ts y rest h in
      record {
        used = l.used;
        parts = l.parts;
        spelled = λ us k. loop_from us l.used q y rest (subst (λ (m : List Token). Both for_word opening us q m) l.parts
            k) (deeper.opens left) l.spelled;
        more = behind_paren y;
        whole = loop_whole n l.used y rest l.spelled;
        seen = λ s like. tt;
        reads = λ s like. let off = loop_no_each n l.used y rest s l.spelled in rw (left, off) (l.reads s like);
      }

  each_on : (q : Token × Token) (ts : List Token) (y : Statement) (rest : List Token) → (depth == 0) ≡ false
      → st.each_rest depth inner body q.0.place ts ≡ Ok (y, rest)
      → Goes Blind Elses for_head (statement_form n) for_parser q ts y rest
  unfolding st.for_rest st.each_rest one any terminal_of
  each_on q ts y rest left h =
      let a = bind_ok (one w.Name ts) (λ key. one w.In >>= λ _. one w.Name >>= λ array. one w.CloseParen
      >>= λ _. body nested.Body >>= λ s. pure (tree.for_each q.0.place (name_of key) (name_of array) s)) y rest h in
      let b = bind_ok (one w.In a.1) (λ _. one w.Name >>= λ array. one w.CloseParen >>= λ _. body nested.Body
      >>= λ s. pure (tree.for_each q.0.place (name_of a.0) (name_of array) s)) y rest a.3 in
      let c = bind_ok (one w.Name b.1) (λ array. one w.CloseParen >>= λ _. body nested.Body
      >>= λ s. pure (tree.for_each q.0.place (name_of a.0) (name_of array) s)) y rest b.3 in
      let d = bind_ok (one w.CloseParen c.1) (λ _. body nested.Body >>= λ s. pure (tree.for_each q.0.place (name_of a.0)
      (name_of c.0) s)) y rest c.3 in
      let e = bind_ok (body nested.Body d.1) (λ s. pure (tree.for_each q.0.place (name_of a.0) (name_of c.0) s)) y rest
      d.3 in
      let made = done_is (tree.for_each q.0.place (name_of a.0) (name_of c.0) e.0) y e.1 rest e.3 in
      let pa = took w.Name refl refl ts a.0 a.1 a.2 in
      let pb = took w.In refl refl a.1 b.0 b.1 b.2 in
      let pc = took w.Name refl refl b.1 c.0 c.1 c.2 in
      let pd = took w.CloseParen refl refl c.1 d.0 d.1 d.2 in
      let l = within.bodies d.1 e.0 e.1 e.2 in
      let split : ts ≡ a.0 ∷ b.0 ∷ c.0 ∷ d.0 ∷ (l.used ++ e.1) =
      pa.0 ∙ ap (λ (m : List Token). a.0 ∷ m) (pb.0 ∙ ap (λ (m : List Token). b.0 ∷ m)
      (pc.0 ∙ ap (λ (m : List Token). c.0 ∷ m) (pd.0 ∙ ap (λ (m : List Token). d.0 ∷ m) l.parts))) in
      subst (λ (z : Statement). Goes Blind Elses for_head (statement_form n) for_parser q ts z rest) made.0
      (subst (λ (m : List Token). Goes Blind Elses for_head (statement_form n) for_parser q ts
      (tree.for_each q.0.place (name_of a.0) (name_of c.0) e.0) m) made.1 (record {
        used = a.0 ∷ b.0 ∷ c.0 ∷ d.0 ∷ l.used;
        parts = split;
        spelled = λ us k. each_from us l.used q a.0 b.0 c.0 d.0 e.0 e.1
            (subst (λ (m : List Token). Both for_word opening us q m) split k) (deeper.opens left) pa.1 pb.1 pc.1 pd.1
            l.spelled;
        more = word (name_of a.0) ∷ keyword (codes "in") ∷ word (name_of c.0) ∷ sign (codes ")") ∷ canon_statement e.0;
        whole = refl;
        seen = λ s like. tt;
        reads = λ s like. rw (left, l.reads s like) refl;
      }))

  for_rest_law : LawOn Blind Elses for_head (statement_form n) for_parser
  unfolding st.for_rest
  for_rest_law q ts y rest h =
      elim (chosen (depth == 0) (deep ts) (st.for_rest depth inner body q.0.place ts) (Ok (y, rest)) h) [
        | inl k ↦ absurd cc
        | inr k ↦
            elim (chosen (each_next ts) (st.each_rest depth inner body q.0.place ts) (st.loop_rest depth inner body ts)
            (Ok (y, rest)) k.1) [
              | inl g ↦ let v = each_on q ts y rest k.0 g.1 in
                  record {
                    used = v.used;
                    parts = v.parts;
                    spelled = v.spelled;
                    more = v.more;
                    whole = v.whole;
                    seen =
                        v.seen;
                    reads = v.reads;
                  }
              | inr g ↦ let v = loop_on q ts y rest k.0 g.1 in
                  record {
                    used = v.used;
                    parts = v.parts;
                    spelled = v.spelled;
                    more = v.more;
                    whole = v.whole;
                    seen =
                        v.seen;
                    reads = v.reads;
                  }
            ]
      ]

  pub for_law : Law Near Elses (statement_form n) (st.for_of depth inner body)
  unfolding st.for_of
  for_law ts =
      then_at Near Near Elses for_word (statement_form n) (one w.For) (λ t. one w.OpenParen >>= λ _. inside depth
      (st.for_rest depth inner body t.place)) ts (for_word_law Near ts)
      (λ t ts. seq_at Near Blind Elses for_word opening (statement_form n) (one w.OpenParen)
      (λ t _. inside depth (st.for_rest depth inner body t.place)) t ts (opening_law Blind ts) for_rest_law)
