-- The laws of the other built-in functions, and of all of them.
use Rattle.std.proofs.Common.{◌≡◌, ℕ, suc, Bool, true, false, cond, Option, Some, None, List, [], ◌∷◌, ◌++◌, map}
use Rattle.std.proofs.Common.{option_map, codes, refl, sym, ap, subst, ◌∙◌, append_assoc}
use Rattle.std.proofs.lemmas.List.{append-nil}
use Rattle.awk_tokens.specs.declared.token.Token.{Token}
use Rattle.awk_tokens.specs.declared.kinds.TokenKind.TheVariants as kind
use Rattle.awk_tokens.specs.declared.words.Builtin.{Builtin}
use Rattle.awk_tokens.specs.declared.words.Builtin.TheVariants as b
use Rattle.awk_tree.specs.Looks.{is_lvalue, name_of, skip}
use Rattle.awk_tree.specs.declared.goals.Goal.{Goal}
use Rattle.awk_tree.specs.declared.goals.Goal.TheVariants as goal
use Rattle.awk_tokens.specs.declared.terminals.Terminal.TheVariants as w
use Rattle.awk_tree.specs.Tree as tree
use Rattle.awk_tree.specs.Tree.{Tree, Trees, trees_of, perhaps_of}
use Rattle.awk_tree.specs.Terminals.{terminal_of, is, sign, token, ahead, nowhere}
use Rattle.awk_tokens.specs.Words.{builtin_text, parameters}
use Rattle.awk_tokens.specs.declared.words.Parameters.{Parameters}
use Rattle.awk_tokens.specs.declared.words.Parameters.TheVariants as takes
use Rattle.awk_tree.specs.Input.{Parser, ◌>>=◌, any, one, pure, inside, skipped}
use Rattle.awk_tree.specs.Expressions as e
use Rattle.awk_tree.specs.Canon.{canon, bare, bare_name, canon_list, builtin_word}
use Rattle.awk_tree.specs.Terminals.{substituting}
use Rattle.awk_parse.specs.Rules as rule
use Rattle.awk_parse.specs.Rules.{Rule}
use Rattle.awk_parse.specs.Spells as g
use Rattle.awk_parse.specs.Spells.{Spells, Opens, Newlines, Listed, Commas, Next, Arguments}
use Rattle.awk_parse.proofs.Law.{Near, Behind, Form, At, Law, GoesAt, LawOn, done_is, then_at, seq_at, Both, both, pair}
use Rattle.awk_parse.proofs.Law.{pure_on, pure_at, choice_at, choice_on, if_at, if_on, This, this, any_at, lines}
use Rattle.awk_parse.proofs.Law.{behind, skipped_law}
use Rattle.awk_parse.proofs.Starts.{builtin_is}
use Rattle.awk_parse.proofs.Words.{a_name, opening, closing, comma, opening_law, closing_law, comma_law, name_law}
use Rattle.awk_tree.specs.Canon.{canon_comma}
use Rattle.awk_parse.proofs.Operands.{plain_comma, closes, closes_law, closed, tree_form, here, below, whole, Inner}
use Rattle.awk_parse.proofs.Operands.{bare_all-of, no_line, nexts, next_law, lists, list_law, opened_form, opened_law}
use Rattle.awk_parse.proofs.Builtins.{bare_perhaps-of, builtin_form, furthers, last_next_law, of_one_law, of_two_law}
use Rattle.awk_parse.proofs.Builtins.{of_two_or_three_law}

-- lists behind one another
name_between : (us ns vs : List Token) (u m c : Token) → ((us ++ u ∷ []) ++ (ns ++ m ∷ [])) ++ (vs ++ c ∷ []) ≡ us
    ++ u ∷ ns ++ m ∷ vs ++ c ∷ []
name_between us ns vs u m c = simp append_assoc

name_after : (ns vs rest : List Token) (u m c : Token) → (u ∷ []) ++ ((ns ++ m ∷ []) ++ ((vs ++ c ∷ []) ++ rest))
    ≡ u ∷ ns ++ m ∷ vs ++ c ∷ rest
name_after ns vs rest u m c = simp append_assoc

plain_between : (us vs : List Token) (u m c : Token) → ((us ++ u ∷ []) ++ m ∷ []) ++ (vs ++ c ∷ []) ≡ us ++ u ∷ m ∷ vs
    ++ c ∷ []
plain_between us vs u m c = simp append_assoc

-- ---- the built-in functions whose parameters are no plain expressions

measured_is : (which : Builtin) → parameters which ≡ takes.Measured → which ≡ b.Length
measured_is b.Length h = refl
measured_is _ h = absurd cc

pieces_is : (which : Builtin) → parameters which ≡ takes.Pieces → which ≡ b.Split
pieces_is b.Split h = refl
pieces_is _ h = absurd cc

replaced_is : (which : Builtin) (all : Bool) → parameters which ≡ takes.Replaced all → which ≡ substituting all
replaced_is b.Gsub true h = refl
replaced_is b.Gsub false h = absurd cc
replaced_is b.Sub true h = absurd cc
replaced_is b.Sub false h = refl
replaced_is _ all h = absurd cc

module _ (n depth : ℕ) (inner : Goal → Parser Tree) (deeper : Inner n depth inner) where
  -- ---- of no argument, of some, of at most one, and length

  none_spells : (which : Builtin) → g.takes_none (parameters which) ≡ true
      → (us : List Token) (q : (Token × Token) × Token) (rest : List Token)
      → Both (pair (builtin_form n depth inner deeper which) opening) (opened_form n depth inner deeper closing) us q
      rest → Spells n rule.prim us (tree.builtin q.0.0.place which (trees_of [])) rest
  none_spells which empty _ _ _ (both _ _ rest _ _ (both _ _ _ _ _ (this t _ h) (this o _ i)) (opens, this c _ j)) =
      g.a_call_of_none n which t o c rest empty h i j opens

  of_none_law : (which : Builtin) → g.takes_none (parameters which) ≡ true
      → LawOn Near Near (builtin_form n depth inner deeper which) (here n rule.prim)
      (λ t. e.of_none depth inner t.place which)
  unfolding e.of_none
  of_none_law which empty t ts =
      seq_at Near Near Near (builtin_form n depth inner deeper which) opening (here n rule.prim) (one w.OpenParen)
      (λ t _. inside depth (one w.CloseParen) >>= λ _. pure (tree.builtin t.place which (trees_of []))) t ts
      (opening_law Near ts)
      (λ q ts. seq_at Near Near Near (pair (builtin_form n depth inner deeper which) opening)
      (opened_form n depth inner deeper closing) (here n rule.prim) (inside depth (one w.CloseParen))
      (λ q _. pure (tree.builtin q.0.place which (trees_of []))) q ts
      (opened_law n depth inner deeper Near closing (one w.CloseParen) (closing_law Near) ts)
      (pure_on Near (pair (pair (builtin_form n depth inner deeper which) opening)
      (opened_form n depth inner deeper closing)) (here n rule.prim) (λ q. tree.builtin q.0.0.place which (trees_of []))
      (λ q. refl) (λ q. refl) (none_spells which empty)))

  list_spells : (which : Builtin) → parameters which ≡ takes.OneOrMore
      → (us : List Token) (q : ((Token × Token) × List Tree) × Token) (rest : List Token)
      → Both (pair (pair (builtin_form n depth inner deeper which) opening) (lists n depth inner deeper)) closing us q
      rest → Spells n rule.prim us (tree.builtin q.0.0.0.place which (trees_of q.0.1)) rest
  list_spells which some _ _ _ (both _ _ rest _ _ (both _ us _ _ xs (both _ _ _ _ _ (this t _ h) (this o _ i)) (
    opens,
    k,
  )) (this c _ j)) = g.a_call_of_some n which t o c us xs rest some h i j opens k

  of_list_law : (which : Builtin) → parameters which ≡ takes.OneOrMore
      → LawOn Near Near (builtin_form n depth inner deeper which) (here n rule.prim)
      (λ t. e.of_list depth inner t.place which)
  unfolding e.of_list
  of_list_law which some t ts =
      seq_at Near Near Near (builtin_form n depth inner deeper which) opening (here n rule.prim) (one w.OpenParen)
      (λ t _. e.list depth inner >>= λ xs. one w.CloseParen
      >>= λ _. pure (tree.builtin t.place which (trees_of xs))) t ts (opening_law Near ts)
      (λ q ts. seq_at Near Near Near (pair (builtin_form n depth inner deeper which) opening)
      (lists n depth inner deeper) (here n rule.prim) (e.list depth inner) (λ q xs. one w.CloseParen
      >>= λ _. pure (tree.builtin q.0.place which (trees_of xs))) q ts (list_law n depth inner deeper ts)
      (λ q ts. seq_at Near Near Near (pair (pair (builtin_form n depth inner deeper which) opening)
      (lists n depth inner deeper)) closing (here n rule.prim) (one w.CloseParen)
      (λ q _. pure (tree.builtin q.0.0.place which (trees_of q.1))) q ts (closing_law Near ts)
      (pure_on Near (pair (pair (pair (builtin_form n depth inner deeper which) opening) (lists n depth inner deeper))
      closing) (here n rule.prim) (λ q. tree.builtin q.0.0.0.place which (trees_of q.0.1)) (λ q. refl)
      (λ q. ap (tree.builtin nowhere which) (bare_all-of q.0.1)) (list_spells which some))))

  -- [ expr ]
  data Single : List Token → List Tree → List Token → Type 0 where
    no_argument : (rest : List Token) → Single [] [] rest
    one_argument : (us : List Token) (x : Tree) (rest : List Token) → Spells (suc n) (rule.expr false) us x rest
        → Single us (x ∷ []) rest

  abbrev singles : Form (List Tree)
  singles = record { plain = λ xs. canon_list (trees_of xs); bare = map bare; spells = Single }

  single_law : Law Near Near singles (e.one_or_none depth inner)
  unfolding e.one_or_none
  single_law ts =
      choice_at Near singles (λ kind. cond (is kind w.CloseParen) (pure []) (inner (goal.Expr false)
      >>= λ x. pure (x ∷ []))) ts
      (if_at Near Near singles (is (ahead ts) w.CloseParen) (pure []) (inner (goal.Expr false) >>= λ x. pure (x ∷ []))
      ts
      (λ _. pure_at Near singles [] ts refl refl (no_argument ts))
      (λ _. then_at Near Near Near (whole n false) singles (inner (goal.Expr false)) (λ x. pure (x ∷ [])) ts
      (deeper.wholes false ts)
      (pure_on Near (whole n false) singles (λ x. x ∷ []) (λ x. append-nil (canon x)) (λ x. refl)
      (λ us x rest h. one_argument us x rest h.1))))

  perhaps_spells : (which : Builtin) → g.takes_none (parameters which) ≡ true → g.takes_one (parameters which) ≡ true
      → (us : List Token) (q : ((Token × Token) × List Tree) × Token) (rest : List Token)
      → Both (pair (pair (builtin_form n depth inner deeper which) opening) (opened_form n depth inner deeper singles))
      closing us q rest → Spells n rule.prim us (tree.builtin q.0.0.0.place which (trees_of q.0.1)) rest
  perhaps_spells which empty single _ _ _
      (both _ _ rest _ _ (both _ us _ _ xs (both _ _ _ _ _ (this t _ h) (this o _ i)) (opens, k)) (this c _ j)) =
      made us xs (c ∷ rest) k where
        made : (us : List Token) (xs : List Tree) (after : List Token) → Single us xs (c ∷ rest)
            → Spells n rule.prim (t ∷ o ∷ us ++ c ∷ []) (tree.builtin t.place which (trees_of xs)) rest
        made _ _ _ (no_argument _) = g.a_call_of_none n which t o c rest empty h i j opens
        made _ _ _ (one_argument us x _ l) = g.a_call_of_one n which t o c us x rest single h i j opens l

  of_one_or_none_law : (which : Builtin) → g.takes_none (parameters which) ≡ true → g.takes_one (parameters which)
      ≡ true → LawOn Near Near (builtin_form n depth inner deeper which) (here n rule.prim)
      (λ t. e.of_one_or_none depth inner t.place which)
  unfolding e.of_one_or_none
  of_one_or_none_law which empty single t ts =
      seq_at Near Near Near (builtin_form n depth inner deeper which) opening (here n rule.prim) (one w.OpenParen)
      (λ t _. inside depth (e.one_or_none depth inner) >>= λ xs. one w.CloseParen
      >>= λ _. pure (tree.builtin t.place which (trees_of xs))) t ts (opening_law Near ts)
      (λ q ts. seq_at Near Near Near (pair (builtin_form n depth inner deeper which) opening)
      (opened_form n depth inner deeper singles) (here n rule.prim) (inside depth (e.one_or_none depth inner))
      (λ q xs. one w.CloseParen >>= λ _. pure (tree.builtin q.0.place which (trees_of xs))) q ts
      (opened_law n depth inner deeper Near singles (e.one_or_none depth inner) single_law ts)
      (λ q ts. seq_at Near Near Near (pair (pair (builtin_form n depth inner deeper which) opening)
      (opened_form n depth inner deeper singles)) closing (here n rule.prim) (one w.CloseParen)
      (λ q _. pure (tree.builtin q.0.0.place which (trees_of q.1))) q ts (closing_law Near ts)
      (pure_on Near (pair (pair (pair (builtin_form n depth inner deeper which) opening)
      (opened_form n depth inner deeper singles)) closing) (here n rule.prim) (λ q. tree.builtin q.0.0.0.place which
      (trees_of q.0.1)) (λ q. refl)
      (λ q. ap (tree.builtin nowhere which) (bare_all-of q.0.1)) (perhaps_spells which empty single))))

  abbrev length_word : Form Token
  length_word = builtin_form n depth inner deeper b.Length

  without_argument : (t : Token) (ts : List Token) → is (ahead ts) w.OpenParen ≡ false
      → GoesAt Near Near length_word (here n rule.prim) (λ t. pure (tree.bare_length t.place)) t ts
  without_argument t ts stop y r h =
      let d = done_is (tree.bare_length t.place) y ts r h in
      let q = pure_on Near length_word (tree_form (λ us x rest. is (ahead rest) w.OpenParen ≡ false
      → Spells n rule.prim us x rest)) (λ t. tree.bare_length t.place) (λ t. refl) (λ t. refl) bare_spells t ts y r
      h in
      record {
        used = q.used;
        parts = q.parts;
        spelled =
            λ us k. q.spelled us k (ap (λ (m : List Token). is (ahead m) w.OpenParen) (sym d.1) ∙ stop);
        more = q.more;
        whole = q.whole;
        seen = q.seen;
        reads = q.reads;
      } where
        bare_spells : (us : List Token) (t : Token) (rest : List Token) → This (w.Builtin b.Length) us t rest
            → is (ahead rest) w.OpenParen ≡ false → Spells n rule.prim us (tree.bare_length t.place) rest
        bare_spells _ _ _ (this t rest k) stop = g.a_bare_length n t rest k stop

  of_length_law : LawOn Near Near length_word (here n rule.prim) (λ t. e.length_of depth inner t.place)
  unfolding e.length_of
  of_length_law t ts =
      choice_on Near length_word (here n rule.prim) (λ t kind. cond (is kind w.OpenParen)
      (e.of_one_or_none depth inner t.place b.Length) (pure (tree.bare_length t.place))) t ts
      (if_on Near Near length_word (here n rule.prim) (is (ahead ts) w.OpenParen)
      (λ t. e.of_one_or_none depth inner t.place b.Length) (λ t. pure (tree.bare_length t.place)) t ts
      (λ _. of_one_or_none_law b.Length refl refl t ts) (λ h. without_argument t ts h))

  -- ---- split

  abbrev split_word : Form Token
  split_word = builtin_form n depth inner deeper b.Split

  abbrev split_parts : Form (((((Token × Token) × Tree) × Token) × Token) × Option Tree)
  split_parts = pair (pair (pair (pair (pair split_word opening) (whole n false)) comma) (behind a_name))
      (closes (furthers n depth inner deeper))

  split_spells : (us : List Token) (q : ((((Token × Token) × Tree) × Token) × Token) × Option Tree) (rest : List Token)
      → split_parts.spells us q rest
      → Spells n rule.prim us (tree.split q.0.0.0.0.0.place q.0.0.0.1 (name_of q.0.1) (perhaps_of q.1)) rest
  split_spells _ _ _ (both _ _ rest _ _
      (both _ _ _ _ _ (both _ _ _ _ _ (both _ us _ _ x (both _ _ _ _ _ (this t _ h) (this o _ i)) (opens, k, _))
      (this u _ l)) (lines ns _ _ _ m (this name _ p))) (closed c vs y _ j z)) =
      subst (λ (v : List Token). Spells n rule.prim v (tree.split t.place x (name_of name) (perhaps_of y)) rest)
      (sym (name_between (t ∷ o ∷ us) ns vs u name c))
      (g.a_split n t o u name c us ns vs x y rest h i l m p j opens
      (subst (λ (v : List Token). Spells (suc n) (rule.expr false) us x v) (name_after ns vs rest u name c) k) z)

  name_first : (t : Token) (s : List Token) → skip (token kind.Name t.text ∷ s) ≡ token kind.Name t.text ∷ s
  unfolding terminal_of
  name_first t s = refl

  of_split_law : LawOn Near Near split_word (here n rule.prim) (λ t. e.split_of depth inner t.place)
  unfolding e.split_of
  of_split_law t ts =
      seq_at Near Near Near split_word opening (here n rule.prim) (one w.OpenParen) (λ t _. inner (goal.Expr false)
      >>= λ x. one w.Comma >>= λ _. skipped (one w.Name) >>= λ m. e.last_next depth inner
      >>= λ y. pure (tree.split t.place x (name_of m) (perhaps_of y))) t ts (opening_law Near ts)
      (λ q ts. seq_at Near Near Near (pair split_word opening) (whole n false) (here n rule.prim)
      (inner (goal.Expr false)) (λ q x. one w.Comma >>= λ _. skipped (one w.Name) >>= λ m. e.last_next depth inner
      >>= λ y. pure (tree.split q.0.place x (name_of m) (perhaps_of y))) q ts (deeper.wholes false ts)
      (λ q ts. seq_at Near Behind Near (pair (pair split_word opening) (whole n false)) comma (here n rule.prim)
      (one w.Comma) (λ q _. skipped (one w.Name) >>= λ m. e.last_next depth inner
      >>= λ y. pure (tree.split q.0.0.place q.1 (name_of m) (perhaps_of y))) q ts (comma_law Behind ts)
      (λ q ts. seq_at Behind Near Near (pair (pair (pair split_word opening) (whole n false)) comma) (behind a_name)
      (here n rule.prim) (skipped (one w.Name)) (λ q m. e.last_next depth inner
      >>= λ y. pure (tree.split q.0.0.0.place q.0.1 (name_of m) (perhaps_of y))) q ts
      (skipped_law Near a_name (one w.Name) name_first (name_law Near) ts)
      (λ q ts. seq_at Near Near Near (pair (pair (pair (pair split_word opening) (whole n false)) comma)
      (behind a_name)) (closes (furthers n depth inner deeper)) (here n rule.prim) (e.last_next depth inner)
      (λ q y. pure (tree.split q.0.0.0.0.place q.0.0.1 (name_of q.1) (perhaps_of y))) q ts
      (last_next_law n depth inner deeper ts)
      (pure_on Near split_parts (here n rule.prim) (λ q. tree.split q.0.0.0.0.0.place q.0.0.0.1 (name_of q.0.1)
      (perhaps_of q.1))
      (λ q. sym (plain_between (builtin_word (builtin_text b.Split) ∷ sign (codes "(") ∷ canon q.0.0.0.1)
      (canon_comma (perhaps_of q.1)) (sign (codes ",")) (token kind.Name q.0.1.text) (sign (codes ")"))))
      (λ q. ap (tree.split nowhere (bare q.0.0.0.1) (bare_name (name_of q.0.1))) (bare_perhaps-of q.1))
      split_spells)))))

  -- ---- sub and gsub

  -- [ , lvalue ]
  abbrev intos : Form (Option Tree)
  intos = record {
    plain = λ x. canon_comma (perhaps_of x);
    bare = option_map bare;
    spells =
        λ us x rest. g.Into (suc n) us x rest;
  }

  into_spells : (us : List Token) (q : Token × Tree) (rest : List Token)
      → Both comma (behind (below n rule.lvalue)) us q rest → g.Into (suc n) us (Some q.1) rest
  into_spells _ _ _ (both _ _ rest _ x (this t _ h) (lines ns us _ _ i (_, j))) = g.into (suc n) t ns us x rest h i j

  into_law : Law Near Near intos (e.perhaps_lvalue depth inner)
  unfolding e.perhaps_lvalue
  into_law ts =
      choice_at Near intos (λ kind. cond (is kind w.Comma) (one w.Comma >>= λ _. skipped (inner goal.Lvalue)
      >>= λ x. pure (Some x)) (pure None)) ts
      (if_at Near Near intos (is (ahead ts) w.Comma) (one w.Comma >>= λ _. skipped (inner goal.Lvalue)
      >>= λ x. pure (Some x)) (pure None) ts
      (λ _. then_at Near Behind Near comma intos (one w.Comma) (λ _. skipped (inner goal.Lvalue) >>= λ x. pure (Some x))
      ts (comma_law Behind ts)
      (λ t ts. seq_at Behind Near Near comma (behind (below n rule.lvalue)) intos (skipped (inner goal.Lvalue))
      (λ _ x. pure (Some x)) t ts (skipped_law Near (below n rule.lvalue) (inner goal.Lvalue) no_line deeper.lvalues
      ts)
      (pure_on Near (pair comma (behind (below n rule.lvalue))) intos (λ q. Some q.1) (λ q. refl)
      (λ q. refl) into_spells)))
      (λ _. pure_at Near intos None ts refl refl (g.no_into (suc n) ts)))

  abbrev sub_word : Bool → Form Token
  sub_word all = builtin_form n depth inner deeper (substituting all)

  last_lvalue_law : Law Near Near (closes intos) (e.last_lvalue depth inner)
  unfolding e.last_lvalue
  last_lvalue_law = closes_law intos (e.perhaps_lvalue depth inner) into_law

  abbrev sub_parts : Bool → Form ((((Token × Token) × Tree) × Tree) × Option Tree)
  sub_parts all = pair (pair (pair (pair (sub_word all) opening) (whole n false)) (nexts n depth inner deeper))
      (closes intos)

  sub_spells : (all : Bool) (us : List Token) (q : (((Token × Token) × Tree) × Tree) × Option Tree) (rest : List Token)
      → Both (pair (pair (pair (sub_word all) opening) (whole n false)) (nexts n depth inner deeper)) (closes intos) us
      q rest
      → Spells n rule.prim us (tree.substitute q.0.0.0.0.place all q.0.0.1 q.0.1 (perhaps_of q.1)) rest
  sub_spells all _ _ _ (both _ _ rest _ _ (both _ vs _ _ y (both _ us _ _ x (both _ _ _ _ _ (this t _ h) (this o _ i))
      (opens, k, _)) (_, l)) (closed c ws z _ j m)) =
      let same : (ws ++ c ∷ []) ++ rest ≡ ws ++ c ∷ rest = append_assoc ws (c ∷ []) rest in
      subst (λ (v : List Token). Spells n rule.prim v (tree.substitute t.place all x y (perhaps_of z)) rest)
      (append_assoc ((t ∷ o ∷ us) ++ vs) ws (c ∷ []))
      (g.a_substitute n all t o c us vs ws x y z rest h i j opens
      (subst (λ (v : List Token). Spells (suc n) (rule.expr false) us x (vs ++ v)) same k)
      (subst (λ (v : List Token). Next (suc n) vs y v) same l) m)

  sub_plain : (all : Bool) (q : (((Token × Token) × Tree) × Tree) × Option Tree)
      → canon (tree.substitute q.0.0.0.0.place all q.0.0.1 q.0.1 (perhaps_of q.1)) ≡ (sub_parts all).plain q
  sub_plain all q =
      append_assoc (builtin_word (builtin_text (substituting all)) ∷ sign (codes "(") ∷
      (canon q.0.0.1 ++ plain_comma q.0.1)) (canon_comma (perhaps_of q.1)) (sign (codes ")") ∷ [])

  of_substitute_law : (all : Bool) → LawOn Near Near (sub_word all) (here n rule.prim)
      (λ t. e.substitute_of depth inner t.place all)
  unfolding e.substitute_of
  of_substitute_law all t ts =
      seq_at Near Near Near (sub_word all) opening (here n rule.prim) (one w.OpenParen) (λ t _. inner (goal.Expr false)
      >>= λ x. e.next_in_list depth inner >>= λ y. e.last_lvalue depth inner
      >>= λ z. pure (tree.substitute t.place all x y (perhaps_of z))) t ts (opening_law Near ts)
      (λ q ts. seq_at Near Near Near (pair (sub_word all) opening) (whole n false) (here n rule.prim)
      (inner (goal.Expr false)) (λ q x. e.next_in_list depth inner >>= λ y. e.last_lvalue depth inner
      >>= λ z. pure (tree.substitute q.0.place all x y (perhaps_of z))) q ts (deeper.wholes false ts)
      (λ q ts. seq_at Near Near Near (pair (pair (sub_word all) opening) (whole n false)) (nexts n depth inner deeper)
      (here n rule.prim) (e.next_in_list depth inner) (λ q y. e.last_lvalue depth inner
      >>= λ z. pure (tree.substitute q.0.0.place all q.1 y (perhaps_of z))) q ts (next_law n depth inner deeper ts)
      (λ q ts. seq_at Near Near Near (pair (pair (pair (sub_word all) opening) (whole n false))
      (nexts n depth inner deeper)) (closes intos) (here n rule.prim) (e.last_lvalue depth inner)
      (λ q z. pure (tree.substitute q.0.0.0.place all q.0.1 q.1 (perhaps_of z))) q ts (last_lvalue_law ts)
      (pure_on Near (sub_parts all) (here n rule.prim) (λ q. tree.substitute q.0.0.0.0.place all q.0.0.1 q.0.1
      (perhaps_of q.1)) (sub_plain all)
      (λ q. ap (tree.substitute nowhere all (bare q.0.0.1) (bare q.0.1)) (bare_perhaps-of q.1)) (sub_spells all)))))

  -- ---- all of them

  parameters_law : (which : Builtin) (how : Parameters) → parameters which ≡ how
      → LawOn Near Near (builtin_form n depth inner deeper which) (here n rule.prim)
      (λ t. e.parameters_by depth inner t.place which how)
  parameters_law which takes.Zero is = of_none_law which (ap g.takes_none is)
  parameters_law which takes.One is = of_one_law n depth inner deeper which (ap g.takes_one is)
  parameters_law which takes.AtMostOne is = of_one_or_none_law which (ap g.takes_none is) (ap g.takes_one is)
  parameters_law which takes.Two is = of_two_law n depth inner deeper which is
  parameters_law which takes.TwoOrThree is = of_two_or_three_law n depth inner deeper which is
  parameters_law which takes.OneOrMore is = of_list_law which is
  parameters_law which takes.Measured is = subst (λ (k : Builtin). LawOn Near Near (builtin_form n depth inner deeper k)
      (here n rule.prim) (λ t. e.length_of depth inner t.place)) (sym (measured_is which is)) of_length_law
  parameters_law which takes.Pieces is = subst (λ (k : Builtin). LawOn Near Near (builtin_form n depth inner deeper k)
      (here n rule.prim) (λ t. e.split_of depth inner t.place)) (sym (pieces_is which is)) of_split_law
  parameters_law which (takes.Replaced all) is =
      subst (λ (k : Builtin). LawOn Near Near (builtin_form n depth inner deeper k) (here n rule.prim)
      (λ t. e.substitute_of depth inner t.place all)) (sym (replaced_is which all is)) (of_substitute_law all)

  pub builtin_law : (which : Builtin) (ts : List Token) → ahead ts ≡ w.Builtin which
      → At Near Near (here n rule.prim) (e.builtin depth inner which) ts
  unfolding e.builtin
  builtin_law which ts sees =
      then_at Near Near Near (builtin_form n depth inner deeper which) (here n rule.prim) any
      (λ t. e.builtin_by depth inner t.place which) ts
      (any_at (w.Builtin which) (λ _. builtin_word (builtin_text which)) refl (λ _ _. builtin_is which) Near ts sees)
      (parameters_law which (parameters which) refl)
