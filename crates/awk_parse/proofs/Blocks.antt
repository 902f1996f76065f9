-- The laws of statements, of blocks, and of both at each depth.
use Rattle.std.proofs.Common.{◌≡◌, ℕ, zero, suc, ◌+◌, Bool, true, false, List, [], ◌∷◌, ◌++◌, map, Ok, codes, refl, sym}
use Rattle.std.proofs.Common.{ap, subst, ◌∙◌, arith}
use Rattle.std.proofs.lemmas.List.{append-nil}
use Rattle.std.specs.List.{flat_map}
use Rattle.awk_tokens.specs.declared.token.Token.{Token}
use Rattle.awk_tree.specs.Looks.{skip}
use Rattle.awk_tree.specs.Looks as looks
use Rattle.awk_tree.specs.declared.goals.Goal.{Goal}
use Rattle.awk_tree.specs.declared.goals.Nested.{Nested}
use Rattle.awk_tree.specs.declared.goals.Nested.TheVariants as nested
use Rattle.awk_tokens.specs.declared.terminals.Terminal.{Terminal}
use Rattle.awk_tokens.specs.declared.terminals.Terminal.TheVariants as w
use Rattle.awk_tree.specs.Tree as tree
use Rattle.awk_tree.specs.Tree.{Tree, Statement, Statements, statements_of}
use Rattle.awk_tree.specs.Terminals.{terminal_of, is, look, sign}
use Rattle.awk_tree.specs.Input.{Parser, ◌>>=◌, any, exactly, pure, skipped}
use Rattle.awk_tree.specs.Expressions.{expr}
use Rattle.awk_tree.specs.Statements as st
use Rattle.awk_tree.specs.Canon.{canon_statement, canon_statements, bare_statement, bare_statements, end}
use Rattle.awk_parse.specs.Spells.{Opens, Newlines}
use Rattle.awk_parse.specs.SpellsScripts as r
use Rattle.awk_parse.specs.SpellsScripts.{Simple, SpellsStatement, Body, Block}
use Rattle.awk_parse.proofs.TerminalLemmas.{is-true, steady}
use Rattle.awk_parse.proofs.Law.{Eye, Near, Form, At, Law, bind_ok, done_is, any_is, then_at, seq_at, Both, both, pair}
use Rattle.awk_parse.proofs.Law.{pure_on, weaker_at, This, this, any_at, Lines, lines, behind, skip_parts}
use Rattle.awk_parse.proofs.Words.{a_sign}
use Rattle.awk_parse.proofs.Operands.{Inner, Closed, closed}
use Rattle.awk_parse.proofs.Depths.{at_depth}
use Rattle.awk_parse.proofs.SimpleLaws.{without_end}
use Rattle.awk_parse.proofs.PrintLaws.{simple_law}
use Rattle.awk_parse.proofs.EndLaws.{Finished, finished, open_form, ended_form, end_law, with_end}
use Rattle.awk_parse.proofs.Looks.{Looks, Elses, Blind, ahead_looks, begins, begins_some, skip_begins, brace_begins}
use Rattle.awk_parse.proofs.Looks.{simple_look, simple_steady, near_looks, elses_before, else_skip, no_else_at}
use Rattle.awk_parse.proofs.Until.{listing, Stops, until_law}
use Rattle.awk_parse.proofs.Steps.{weaker_known_at, last_known_at, by_look_at, looks_at, took_exactly, skipped_blind}
use Rattle.awk_parse.proofs.StatementLaws.{statement_form, body_form, inner_tokens, Inside, in_braces, inside_form}
use Rattle.awk_parse.proofs.StatementLaws.{Within, if_law, while_law, do_law, for_law}

-- ---- what the lists of a block compute to

pub canon_statements-of : (xs : List Statement) → canon_statements (statements_of xs) ≡ flat_map canon_statement xs
canon_statements-of [] = refl
canon_statements-of (x ∷ xs) = ap (λ (m : List Token). canon_statement x ++ m) (canon_statements-of xs)

bare_statements-of : (xs : List Statement) → bare_statements (statements_of xs) ≡ statements_of (map bare_statement xs)
bare_statements-of [] = refl
bare_statements-of (x ∷ xs) = ap (tree.then_also (bare_statement x)) (bare_statements-of xs)

-- ---- forms

abbrev pub open_brace : Form Token
open_brace = a_sign w.OpenBrace (codes "{")

abbrev close_brace : Form Token
close_brace = a_sign w.CloseBrace (codes "}")

abbrev closes : List Token → Bool
closes ts = is (look ts) w.CloseBrace

module _ (n : ℕ) where
  abbrev block_form : Form (List Statement)
  block_form = listing (statement_form n) canon_statement [] skip closes (Block n) Elses Elses Elses

  abbrev stops : Eye
  stops = Stops (statement_form n) canon_statement [] skip closes (Block n) Elses Elses Elses

  -- the statements of a block, and its `}`
  abbrev pub braces_form : Form (List Statement)
  braces_form = record {
    plain = λ xs. flat_map canon_statement xs ++ sign (codes "}") ∷ [];
    bare = map bare_statement;
    spells = Closed w.CloseBrace (Block n);
  }

no_else_closes : (us : List Token) → closes us ≡ true → looks.else_next us ≡ false
no_else_closes us h = no_else_at w.CloseBrace us (is-true (look us) w.CloseBrace refl h) refl refl refl

module _ (n depth : ℕ) (inner : Goal → Parser Tree) (deeper : Inner n depth inner) (body : Nested → Parser Statement)
    (within : Within n body) where
  -- ---- statements

  empty_at : (ts : List Token) → look ts ≡ w.Semicolon
      → At Looks Elses (statement_form n) (any >>= λ _. pure tree.empty) ts
  unfolding any terminal_of
  empty_at ts sees y rest h =
      let a = bind_ok (any ts) (λ _. pure tree.empty) y rest h in
      let p = any_is ts a.0 a.1 a.2 in
      let d = done_is tree.empty y a.1 rest a.3 in
      let split : ts ≡ a.0 ∷ rest = p ∙ ap (λ (m : List Token). a.0 ∷ m) d.1 in
      record {
        used = a.0 ∷ [];
        parts = split;
        spelled = subst (λ (z : Statement). SpellsStatement n (a.0 ∷ []) z rest) d.0
            (r.an_empty n a.0 rest (sym (ap look split) ∙ sees));
        seen = λ s like. sees ∙ ap (λ (z : Statement). look (canon_statement z ++ s)) d.0;
        reads = λ s like. subst (λ (z : Statement). (any >>= λ _. pure tree.empty) (canon_statement z ++ s)
            ≡ Ok (bare_statement z, s)) d.0 refl;
      }

  block_spells : (us vs : List Token) (t : Token) (s : Statement) (rest : List Token)
      → This w.OpenBrace us t (vs ++ rest) → Inside n vs s rest → SpellsStatement n (us ++ vs) s rest
  block_spells _ _ _ _ _ (this t _ h) (in_braces _ xs rest opens (closed c us _ _ k b)) =
      r.a_block n t c us xs rest h k opens b

  block_whole : (us : List Token) (t : Token) (s : Statement) (rest : List Token) → Inside n us s rest
      → canon_statement s ≡ open_brace.plain t ++ inner_tokens s
  block_whole _ t _ _ (in_braces us xs rest opens k) = refl

  block_at : (ts : List Token) → look ts ≡ w.OpenBrace
      → At Looks Elses (statement_form n) (any >>= λ _. body nested.Braces) ts
  unfolding terminal_of
  block_at ts sees =
      looks_at w.OpenBrace Elses (statement_form n) (any >>= λ _. body nested.Braces) ts refl sees
      (then_at Near Blind Elses open_brace (statement_form n) any (λ _. body nested.Braces) ts
      (any_at w.OpenBrace (λ _. sign (codes "{")) refl (λ _ _. refl) Blind ts
      (ahead_looks w.OpenBrace ts refl sees))
      (λ t ts. last_known_at Blind Elses open_brace (inside_form n) (statement_form n) (body nested.Braces) block_whole
      (λ _. refl) block_spells t ts (within.blocks ts)))

  simple_finished : (us : List Token) (s : Statement) (rest : List Token) → Finished (Simple n) us s rest
      → SpellsStatement n us s rest
  simple_finished _ _ _ (finished us vs s rest k e) = r.a_simple n us vs s rest k e

  simple_whole : (us : List Token) (s : Statement) (rest : List Token) → Finished (Simple n) us s rest
      → without_end s ++ end ≡ canon_statement s
  simple_whole _ _ _ (finished us vs s rest k e) = sym (with_end n us s (vs ++ rest) k)

  simple_seen : (us : List Token) (s : Statement) (rest m : List Token) → Finished (Simple n) us s rest
      → steady (look (canon_statement s ++ m)) ≡ true
  simple_seen _ _ _ m (finished us vs s rest k e) = simple_steady (look (canon_statement s ++ m))
      (simple_look n us s (vs ++ rest) m k)

  ended_at : (ts : List Token) → At Near Elses (ended_form (Simple n)) (st.simple depth inner >>= st.ended) ts
  ended_at ts = then_at Near Near Elses (open_form (Simple n)) (ended_form (Simple n)) (st.simple depth inner) st.ended
      ts (simple_law n depth inner deeper ts) (end_law (Simple n) Elses)

  simple_at : (ts : List Token) → At Looks Elses (statement_form n) (st.simple depth inner >>= st.ended) ts
  simple_at ts x rest h =
      let f = ended_at ts x rest h in
      let q = weaker_known_at Near Elses (ended_form (Simple n)) (statement_form n) (st.simple depth inner >>= st.ended)
      ts simple_whole (λ _. refl) simple_finished (ended_at ts) x rest h in
      record {
        used = q.used;
        parts = q.parts;
        spelled = q.spelled;
        seen =
            λ s like. near_looks ts (canon_statement x ++ s) (q.seen s like) (simple_seen f.used x rest s f.spelled);
        reads = q.reads;
      }

  statement_at : (k : Terminal) (ts : List Token) → look ts ≡ k
      → At Looks Elses (statement_form n) (st.statement_by depth inner body k) ts
  statement_at w.Semicolon ts sees = empty_at ts sees
  statement_at w.OpenBrace ts sees = block_at ts sees
  statement_at w.If ts sees = looks_at w.If Elses (statement_form n) (st.if_of depth inner body) ts refl sees
      (if_law n depth inner deeper body within ts)
  statement_at w.While ts sees = looks_at w.While Elses (statement_form n) (st.while_of depth inner body) ts refl sees
      (while_law n depth inner deeper body within ts)
  statement_at w.Do ts sees = looks_at w.Do Elses (statement_form n) (st.do_of depth inner body) ts refl sees
      (do_law n depth inner deeper body within ts)
  statement_at w.For ts sees = looks_at w.For Elses (statement_form n) (st.for_of depth inner body) ts refl sees
      (for_law n depth inner deeper body within ts)
  statement_at _ ts sees = simple_at ts

  statement_looks : Law Looks Elses (statement_form n) (st.statement_here depth inner body)
  unfolding st.statement_here
  statement_looks ts = by_look_at Elses (statement_form n) (st.statement_by depth inner body) ts
      (statement_at (look ts) ts refl)

  -- what follows plays a part only by whether it has an `else` next
  pub statement_law : Law Elses Elses (statement_form n) (st.statement_here depth inner body)
  statement_law ts x rest h =
      let q = statement_looks ts x rest h in
      record {
        used = q.used;
        parts = q.parts;
        spelled = q.spelled;
        seen =
            λ s like. elses_before n ts q.used rest s x q.parts q.spelled (q.seen s like) like;
        reads = q.reads;
      }

  -- ---- blocks

  statements_law : Law Elses (stops n) (block_form n) (st.statements depth inner body)
  unfolding st.statements
  statements_law =
      until_law (statement_form n) canon_statement [] skip closes (Block n) Elses Elses Elses
      (λ y. sym (append-nil (canon_statement y))) (λ y. begins_some (canon_statement y) (begins y)) Newlines
      skip_parts (λ s. refl)
      (λ y s. (skip_begins (canon_statement y) s (begins y), brace_begins (canon_statement y) s (begins y)))
      (λ m s like. like) (λ ts us like. else_skip ts ∙ like)
      (λ ts s h k. else_skip ts ∙ no_else_closes (skip ts) h ∙ sym (no_else_closes s k))
      (λ gs rest g _. r.no_statement n gs rest g) (λ gs us vs y ys rest g k l. r.one_statement n gs us vs y ys rest
      g k l) (st.statement_here depth inner body) statement_law

  close_law : (o : Eye) → Law (stops n) o close_brace (exactly w.CloseBrace)
  unfolding exactly any terminal_of
  close_law o ts t rest h =
      let p = took_exactly w.CloseBrace refl ts t rest h in
      record {
        used = t ∷ [];
        parts = p.0;
        spelled = this t rest p.1;
        seen = λ s like. (refl, refl);
        reads =
            λ s like. refl;
      }

  braces_spells : (us : List Token) (q : List Statement × Token) (rest : List Token)
      → Both (block_form n) close_brace us q rest → Closed w.CloseBrace (Block n) us q.0 rest
  braces_spells _ _ _ (both us _ rest xs _ k (this c _ h)) = closed c us xs rest h k

  pub braces_law : (o : Eye) → Law Elses o (braces_form n) (st.braces depth inner body)
  unfolding st.braces
  braces_law o ts =
      then_at Elses (stops n) o (block_form n) (braces_form n) (st.statements depth inner body)
      (λ xs. exactly w.CloseBrace >>= λ _. pure xs) ts (statements_law ts)
      (λ xs ts. seq_at (stops n) o o (block_form n) close_brace (braces_form n) (exactly w.CloseBrace) (λ xs _. pure xs)
      xs ts (close_law o ts)
      (pure_on o (pair (block_form n) close_brace) (braces_form n) (λ q. q.0) (λ q. refl) (λ q. refl) braces_spells))

-- ---- at each depth

module _ (n depth : ℕ) (inner : Goal → Parser Tree) (deeper : Inner (suc n) depth inner) (body : Nested
    → Parser Statement) (within : Within (suc n) body) (opens : Opens n) where
  blocks_at : (ts : List Token)
      → At Elses Elses (inside_form n) (st.braces depth inner body >>= λ xs. pure (tree.block (statements_of xs))) ts
  blocks_at ts =
      then_at Elses Elses Elses (braces_form (suc n)) (inside_form n) (st.braces depth inner body)
      (λ xs. pure (tree.block (statements_of xs))) ts (braces_law (suc n) depth inner deeper body within Elses ts)
      (pure_on Elses (braces_form (suc n)) (inside_form n) (λ xs. tree.block (statements_of xs))
      (λ xs. ap (λ (m : List Token). m ++ sign (codes "}") ∷ []) (canon_statements-of xs))
      (λ xs. ap tree.block (bare_statements-of xs)) (λ us xs rest k. in_braces us xs rest opens k))

  body_spells : (us : List Token) (s : Statement) (rest : List Token) → Lines (statement_form (suc n)) us s rest
      → Body n us s rest
  body_spells _ _ _ (lines ns us s rest l k) = r.a_body n ns us s rest opens l k

  bodies_at : (ts : List Token) → At Blind Elses (body_form n) (skipped (st.statement_here depth inner body)) ts
  bodies_at ts =
      weaker_at Blind Elses (behind (statement_form (suc n))) (body_form n)
      (skipped (st.statement_here depth inner body)) ts (λ _. refl) (λ _. refl) body_spells
      (skipped_blind Elses Elses (statement_form (suc n)) (st.statement_here depth inner body)
      (λ x s. skip_begins (canon_statement x) s (begins x)) (statement_law (suc n) depth inner deeper body within)
      ts)

pub within_depth : (n depth : ℕ) → n + depth ≡ 200 → Within n (st.statement depth)
unfolding st.statement
within_depth n zero h = record { blocks = λ ts x rest k. absurd cc; bodies = λ ts x rest k. absurd cc }
within_depth n (suc depth) h =
    let deeper = at_depth (suc n) depth (omega (arith, h)) in
    let within = within_depth (suc n) depth (omega (arith, h)) in
    let opens : Opens n = omega (arith, h) in
    record {
      blocks = λ ts x rest k. let q = blocks_at n depth (expr depth) deeper (st.statement depth) within opens ts x rest
          k in record { used = q.used; parts = q.parts; spelled = q.spelled; seen = λ s like. tt; reads = q.reads };
      bodies = λ ts x rest k. let q = bodies_at n depth (expr depth) deeper (st.statement depth) within opens ts x rest
          k in record { used = q.used; parts = q.parts; spelled = q.spelled; seen = q.seen; reads = q.reads };
    }
