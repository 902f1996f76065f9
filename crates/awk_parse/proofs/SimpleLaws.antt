-- The laws of parts of simple statements.
use Rattle.std.proofs.Common.{◌≡◌, ℕ, Bool, true, false, cond, Option, Some, None, List, [], ◌∷◌, ◌++◌, option_map}
use Rattle.std.proofs.Common.{codes, refl, sym, ap, ◌∙◌, arith}
use Rattle.awk_tokens.specs.declared.token.Token.{Token}
use Rattle.awk_tokens.specs.declared.kinds.TokenKind.TheVariants as kind
use Rattle.awk_tree.specs.Looks.{is_lvalue, name_of}
use Rattle.awk_tree.specs.declared.goals.Goal.{Goal}
use Rattle.awk_tokens.specs.declared.terminals.Terminal.TheVariants as w
use Rattle.awk_tokens.specs.declared.words.Jump.{Jump}
use Rattle.awk_tokens.specs.Words.{jump_text}
use Rattle.awk_tree.specs.Tree as tree
use Rattle.awk_tree.specs.Tree.{Tree, Trees, trees_of, perhaps_of}
use Rattle.awk_tree.specs.Terminals.{terminal, terminal_of, is, sign, keyword, token, ahead}
use Rattle.awk_tree.specs.Input.{Parser, ◌>>=◌, any, choice, one, pure, skipped}
use Rattle.awk_tree.specs.Expressions as e
use Rattle.awk_tree.specs.Canon.{canon, bare}
use Rattle.awk_parse.specs.Rules as rule
use Rattle.awk_parse.specs.Rules.{Rule}
use Rattle.awk_parse.specs.Spells.{Spells, Newlines}
use Rattle.awk_parse.proofs.Law.{Near, Behind, Form, At, Law, GoesAt, done_is, then_at, seq_at, last_at, Both, both}
use Rattle.awk_parse.proofs.Law.{pair, pure_on, pure_at, choice_at, choice_on, if_at, if_on, This, this, any_at}
use Rattle.awk_parse.proofs.Law.{one_law, Lines, lines, behind, skipped_law}
use Rattle.awk_parse.proofs.Many.{chain, many_law}
use Rattle.awk_parse.proofs.Starts.{jump_is}
use Rattle.awk_parse.proofs.Words.{a_keyword, a_name, comma, comma_law, name_law}
use Rattle.awk_tree.specs.Tree.{Statement}
use Rattle.awk_tree.specs.Statements as st
use Rattle.awk_tree.specs.Canon.{canon_perhaps, canon_items, canon_printed, canon_redirection, canon_test}
use Rattle.awk_tree.specs.Canon.{canon_statement, bare_statement}
use Rattle.awk_parse.specs.SpellsScripts as r
use Rattle.awk_parse.specs.SpellsScripts.{Simple, Perhaps, Items}
use Rattle.awk_parse.proofs.Operands.{Inner, plain_comma, no_line, opening_bracket, closing_bracket}
use Rattle.awk_parse.proofs.Operands.{opening_bracket_law, closing_bracket_law, lists, list_law}
use Rattle.awk_parse.proofs.Builtins.{prefixed, leaf}
use Rattle.awk_parse.proofs.Depths.{full, expression_law}

-- the canonical spelling of a statement that has an end, without it
abbrev pub without_end : Statement → List Token
without_end (tree.plain x) = canon x
without_end (tree.print p xs r) = keyword (codes "print") ∷ canon_printed xs ++ canon_redirection r
without_end (tree.printf p xs r) = keyword (codes "printf") ∷ canon_printed xs ++ canon_redirection r
without_end (tree.delete m xs) = keyword (codes "delete") ∷ token kind.Name m.text ∷ sign (codes "[") ∷ canon_items xs
    ++ sign (codes "]") ∷ []
without_end (tree.delete_all m) = keyword (codes "delete") ∷ token kind.Name m.text ∷ []
without_end (tree.jump p which) = keyword (jump_text which) ∷ []
without_end (tree.exit p x) = keyword (codes "exit") ∷ canon_perhaps x
without_end (tree.return p x) = keyword (codes "return") ∷ canon_perhaps x
without_end (tree.do_while s x) = keyword (codes "do") ∷ canon_statement s ++ canon_test (codes "while") x
without_end other = []

module _ (n depth : ℕ) (inner : Goal → Parser Tree) (deeper : Inner n depth inner) where
  abbrev here : Bool → Form Tree
  here p = full n depth inner deeper p

  here_law : (p : Bool) → Law Near Near (here p) (e.expression depth inner p)
  here_law p = expression_law n depth inner deeper p

  abbrev pub simple_form : Form Statement
  simple_form = record { plain = without_end; bare = bare_statement; spells = Simple n }

  -- [ expr ]
  abbrev pub perhaps_form : Form (Option Tree)
  perhaps_form = record { plain = canon_perhaps; bare = option_map bare; spells = Perhaps n }

  pub perhaps_here_law : Law Near Near perhaps_form (st.perhaps_here depth inner)
  unfolding st.perhaps_here
  perhaps_here_law ts =
      choice_at Near perhaps_form (λ kind. cond (is kind w.End) (pure None) (e.expression depth inner false
      >>= λ x. pure (Some x))) ts
      (if_at Near Near perhaps_form (is (ahead ts) w.End) (pure None) (e.expression depth inner false
      >>= λ x. pure (Some x)) ts
      (λ _. pure_at Near perhaps_form None ts refl refl (r.no_expr n ts))
      (λ _. then_at Near Near Near (here false) perhaps_form (e.expression depth inner false) (λ x. pure (Some x)) ts
      (here_law false ts)
      (pure_on Near (here false) perhaps_form (λ x. Some x) (λ x. refl) (λ x. refl)
      (λ us x rest h. r.some_expr n us x rest h.0))))

  -- , expr
  pub data NextPrinted : List Token → Tree → List Token → Type 0 where
    next_printed : (t : Token) (ns us : List Token) (x : Tree) (rest : List Token) → terminal t ≡ w.Comma → Newlines ns
        → Spells n (rule.expr true) us x rest → NextPrinted (t ∷ ns ++ us) x rest

  abbrev pub printed_form : Form Tree
  printed_form = record { plain = plain_comma; bare = bare; spells = NextPrinted }

  printed_spells : (us vs : List Token) (t : Token) (x : Tree) (rest : List Token) → This w.Comma us t (vs ++ rest)
      → Lines (here true) vs x rest → NextPrinted (us ++ vs) x rest
  printed_spells _ _ _ x rest (this t _ h) (lines ns us _ _ k (j, s)) = next_printed t ns us x rest h k j

  next_printed_law : Law Near Near printed_form (st.next_printed depth inner)
  unfolding st.next_printed
  next_printed_law ts =
      then_at Near Behind Near comma printed_form (one w.Comma) (λ _. skipped (e.expression depth inner true)) ts
      (comma_law Behind ts)
      (λ t ts. last_at Behind Near comma (behind (here true)) printed_form (skipped (e.expression depth inner true))
      (λ _ _. refl) (λ _. refl) printed_spells t ts (skipped_law Near (here true) (e.expression depth inner true)
      no_line (here_law true) ts))

  items_spells : (us vs : List Token) (x : Tree) (xs : List Tree) (rest : List Token)
      → is w.Comma (ahead (us ++ (vs ++ rest))) ≡ true → NextPrinted us x (vs ++ rest) → Items n vs xs rest
      → Items n (us ++ vs) (x ∷ xs) rest
  items_spells _ vs _ xs rest _ (next_printed t ns us x _ h k j) i = r.one_item n t ns us vs x xs rest h k j i

  pub more_printed_law : Law Near Near (chain printed_form (Items n) (is w.Comma)) (st.more_printed depth inner)
  unfolding st.more_printed
  more_printed_law = many_law printed_form (Items n) (is w.Comma) (λ rest. r.no_item n rest) items_spells
      (λ x. omega arith) (st.next_printed depth inner) (λ ts go. next_printed_law ts)

  -- ---- simple statements but print and printf

  pub plain_law : Law Near Near simple_form (e.expression depth inner false >>= λ x. pure (tree.plain x))
  plain_law ts = then_at Near Near Near (here false) simple_form (e.expression depth inner false)
      (λ x. pure (tree.plain x)) ts (here_law false ts)
      (pure_on Near (here false) simple_form (λ x. tree.plain x) (λ x. refl) (λ x. refl)
      (λ us x rest h. r.an_expression n us x rest h.0))

  pub jump_at : (which : Jump) (ts : List Token) → ahead ts ≡ w.Jump which
      → At Near Near simple_form (any >>= λ t. pure (tree.jump t.place which)) ts
  jump_at which ts sees =
      leaf (w.Jump which) (λ _. keyword (jump_text which)) any simple_form (λ t. tree.jump t.place which) (λ t. refl)
      (λ t. refl) (λ t rest h. r.a_jump n which t rest h) ts
      (any_at (w.Jump which) (λ _. keyword (jump_text which)) refl (λ _ _. jump_is which) Near ts sees)

  pub exit_at : (ts : List Token) → ahead ts ≡ w.Exit
      → At Near Near simple_form (any >>= λ t. st.perhaps_here depth inner >>= λ x. pure (tree.exit t.place x)) ts
  unfolding terminal_of
  exit_at ts sees = prefixed w.Exit (λ _. keyword (codes "exit")) any perhaps_form (st.perhaps_here depth inner)
      simple_form (λ t x. tree.exit t.place x) (λ t x. refl) (λ t x. refl)
      (λ t us x rest h j. r.an_exit n t us x rest h j) perhaps_here_law ts
      (any_at w.Exit (λ _. keyword (codes "exit")) refl (λ _ _. refl) Near ts sees)

  pub return_at : (ts : List Token) → ahead ts ≡ w.Return
      → At Near Near simple_form (any >>= λ t. st.perhaps_here depth inner >>= λ x. pure (tree.return t.place x)) ts
  unfolding terminal_of
  return_at ts sees = prefixed w.Return (λ _. keyword (codes "return")) any perhaps_form (st.perhaps_here depth inner)
      simple_form (λ t x. tree.return t.place x) (λ t x. refl) (λ t x. refl)
      (λ t us x rest h j. r.a_return n t us x rest h j) perhaps_here_law ts
      (any_at w.Return (λ _. keyword (codes "return")) refl (λ _ _. refl) Near ts sees)

  abbrev delete_word : Form Token
  delete_word = a_keyword w.Delete (codes "delete")

  delete_spells : (us : List Token) (q : (((Token × Token) × Token) × List Tree) × Token) (rest : List Token)
      → Both (pair (pair (pair delete_word a_name) opening_bracket) (lists n depth inner deeper)) closing_bracket us q
      rest → Simple n us (tree.delete (name_of q.0.0.0.1) q.0.1) rest
  delete_spells _ _ _ (both _ _ rest _ _ (both _ us _ _ xs (both _ _ _ _ _ (both _ _ _ _ _ (this t _ h) (this m _ i))
      (this o _ k)) (opens, l)) (this c _ j)) = r.a_delete n t m o c us xs rest h i k j opens l

  abbrev delete_head : Form (Token × Token)
  delete_head = pair delete_word a_name

  -- behind the name
  delete_element : (q : Token × Token) (ts : List Token)
      → GoesAt Near Near delete_head simple_form (λ q. one w.OpenBracket >>= λ _. e.list depth inner
      >>= λ xs. one w.CloseBracket >>= λ _. pure (tree.delete (name_of q.1) xs)) q ts
  delete_element q ts =
      seq_at Near Near Near delete_head opening_bracket simple_form (one w.OpenBracket) (λ q _. e.list depth inner
      >>= λ xs. one w.CloseBracket >>= λ _. pure (tree.delete (name_of q.1) xs)) q ts (opening_bracket_law Near ts)
      (λ q ts. seq_at Near Near Near (pair delete_head opening_bracket) (lists n depth inner deeper) simple_form
      (e.list depth inner) (λ q xs. one w.CloseBracket >>= λ _. pure (tree.delete (name_of q.0.1) xs)) q ts
      (list_law n depth inner deeper ts)
      (λ q ts. seq_at Near Near Near (pair (pair delete_head opening_bracket) (lists n depth inner deeper))
      closing_bracket simple_form (one w.CloseBracket) (λ q _. pure (tree.delete (name_of q.0.0.1) q.1)) q ts
      (closing_bracket_law Near ts)
      (pure_on Near (pair (pair (pair delete_head opening_bracket) (lists n depth inner deeper)) closing_bracket)
      simple_form (λ q. tree.delete (name_of q.0.0.0.1) q.0.1) (λ q. refl) (λ q. refl) delete_spells)))

  abbrev unless_bracket : Form Statement
  unless_bracket = record {
    plain = without_end;
    bare = bare_statement;
    spells =
        λ us s rest. is (ahead rest) w.OpenBracket ≡ false → Simple n us s rest;
  }

  delete_array : (q : Token × Token) (ts : List Token) → is (ahead ts) w.OpenBracket ≡ false
      → GoesAt Near Near delete_head simple_form (λ q. pure (tree.delete_all (name_of q.1))) q ts
  delete_array q ts stop y left h =
      let d = done_is (tree.delete_all (name_of q.1)) y ts left h in
      let p = pure_on Near delete_head unless_bracket (λ q. tree.delete_all (name_of q.1)) (λ q. refl)
      (λ q. refl) array_spells q ts y left h in
      record {
        used = p.used;
        parts = p.parts;
        spelled =
            λ us k. p.spelled us k (ap (λ (m : List Token). is (ahead m) w.OpenBracket) (sym d.1) ∙ stop);
        more = p.more;
        whole = p.whole;
        seen = p.seen;
        reads = p.reads;
      } where
        array_spells : (us : List Token) (q : Token × Token) (rest : List Token) → Both delete_word a_name us q rest
            → is (ahead rest) w.OpenBracket ≡ false → Simple n us (tree.delete_all (name_of q.1)) rest
        array_spells _ _ _ (both _ _ rest _ _ (this t _ j) (this m _ k)) stop = r.a_delete_all n t m rest j k stop

  pub delete_law : Law Near Near simple_form (st.delete depth inner)
  unfolding st.delete terminal_of
  delete_law ts =
      then_at Near Near Near delete_word simple_form (one w.Delete)
      (λ _. one w.Name >>= λ m. choice (λ kind. cond (is kind w.OpenBracket)
      (one w.OpenBracket >>= λ _. e.list depth inner >>= λ xs. one w.CloseBracket
      >>= λ _. pure (tree.delete (name_of m) xs)) (pure (tree.delete_all (name_of m))))) ts
      (one_law w.Delete (λ _. keyword (codes "delete")) refl refl (λ _ _. refl) Near ts)
      (λ t ts. seq_at Near Near Near delete_word a_name simple_form (one w.Name)
      (λ _ m. choice (λ kind. cond (is kind w.OpenBracket) (one w.OpenBracket >>= λ _. e.list depth inner
      >>= λ xs. one w.CloseBracket >>= λ _. pure (tree.delete (name_of m) xs))
      (pure (tree.delete_all (name_of m))))) t ts (name_law Near ts)
      (λ q ts. choice_on Near delete_head simple_form (λ q kind. cond (is kind w.OpenBracket)
      (one w.OpenBracket >>= λ _. e.list depth inner >>= λ xs. one w.CloseBracket
      >>= λ _. pure (tree.delete (name_of q.1) xs)) (pure (tree.delete_all (name_of q.1)))) q ts
      (if_on Near Near delete_head simple_form (is (ahead ts) w.OpenBracket) (λ q. one w.OpenBracket
      >>= λ _. e.list depth inner >>= λ xs. one w.CloseBracket >>= λ _. pure (tree.delete (name_of q.1) xs))
      (λ q. pure (tree.delete_all (name_of q.1))) q ts
      (λ _. delete_element q ts) (λ h. delete_array q ts h))))
