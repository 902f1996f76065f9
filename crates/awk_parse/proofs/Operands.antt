-- The laws of the rules up to unary, where `inner` has them one level deeper.
use Rattle.std.proofs.Common.{◌≡◌, ℕ, suc, Bool, true, false, cond, List, [], ◌∷◌, ◌++◌, map, Ok, codes, refl, sym, ap}
use Rattle.std.proofs.Common.{subst, ◌∙◌, inl, inr, arith, ◌==◌}
use Rattle.std.specs.List.{flat_map}
use Rattle.awk_tokens.specs.declared.token.Token.{Token}
use Rattle.awk_tree.specs.Looks.{is_lvalue, name_of, skip}
use Rattle.awk_tree.specs.declared.goals.Goal.{Goal}
use Rattle.awk_tree.specs.declared.goals.Goal.TheVariants as goal
use Rattle.awk_tokens.specs.declared.terminals.Terminal.{Terminal}
use Rattle.awk_tokens.specs.declared.terminals.Terminal.TheVariants as w
use Rattle.awk_tree.specs.Tree as tree
use Rattle.awk_tree.specs.Tree.{Tree, Trees, trees_of, perhaps_of}
use Rattle.awk_tree.specs.Terminals.{terminal, terminal_of, is, sign, ahead}
use Rattle.awk_tree.specs.Input.{Parser, ◌>>=◌, one, pure, inside, deep, skipped}
use Rattle.awk_tree.specs.Expressions as e
use Rattle.awk_tree.specs.Canon.{canon, bare, bare_all, bare_name, canon_list, canon_commas}
use Rattle.awk_parse.specs.Rules as rule
use Rattle.awk_parse.specs.Rules.{Rule}
use Rattle.awk_parse.specs.Spells as g
use Rattle.awk_parse.specs.Spells.{Spells, Opens, Newlines, Listed, Commas, Next, Arguments}
use Rattle.awk_parse.proofs.Law.{Eye, Near, Behind, Form, Law, GoesAt, chosen, done_is, then_at, seq_at, last_at, Both}
use Rattle.awk_parse.proofs.Law.{both, pair, pure_on, pure_at, weaker_at, choice_at, choice_on, if_at, if_on, This}
use Rattle.awk_parse.proofs.Law.{this, one_law, Lines, lines, behind, skipped_law}
use Rattle.awk_parse.proofs.Many.{chain, many_law}
use Rattle.awk_parse.proofs.Starts.{starts, skip_starts}
use Rattle.awk_parse.proofs.Words.{a_sign, a_name, opening, closing, comma, opening_law, closing_law, comma_law}
use Rattle.awk_parse.proofs.Words.{name_law}

abbrev pub tree_form : (List Token → Tree → List Token → Type 0) → Form Tree
tree_form S = record { plain = canon; bare = bare; spells = S }

-- what no `&&`, `||` or `?` follows
abbrev pub stops : Terminal → Bool
stops w.And = false
stops w.Or = false
stops w.Question = false
stops other = true

-- a rule at this level
abbrev pub here : ℕ → Rule → Form Tree
here n r = tree_form (λ us x rest. Spells n r us x rest)

-- a rule one level deeper
abbrev pub below : ℕ → Rule → Form Tree
below n r = tree_form (λ us x rest. Opens n × Spells (suc n) r us x rest)

-- an expression one level deeper
abbrev pub whole : ℕ → Bool → Form Tree
whole n p = tree_form (λ us x rest. Opens n × Spells (suc n) (rule.expr p) us x rest × (stops (ahead rest) ≡ true))

-- what is read one level deeper
pub record Inner (n depth : ℕ) (inner : Goal → Parser Tree) : Type 0 where
  pub opens : (depth == 0) ≡ false → Opens n
  pub wholes : (p : Bool) → Law Near Near (whole n p) (inner (goal.Expr p))
  pub unaries : Law Near Near (below n rule.unary) (inner goal.Unary)
  pub operands : Law Near Near (below n rule.dol) (inner goal.Operand)
  pub lvalues : Law Near Near (below n rule.lvalue) (inner goal.Lvalue)
  pub files : Law Near Near (below n rule.inc) (inner goal.File)

abbrev pub plain_comma : Tree → List Token
plain_comma x = sign (codes ",") ∷ canon x

pub canon_commas-of : (xs : List Tree) → canon_commas (trees_of xs) ≡ flat_map plain_comma xs
canon_commas-of [] = refl
canon_commas-of (x ∷ xs) = ap (λ (w : List Token). sign (codes ",") ∷ canon x ++ w) (canon_commas-of xs)

pub bare_all-of : (xs : List Tree) → bare_all (trees_of xs) ≡ trees_of (map bare xs)
bare_all-of [] = refl
bare_all-of (x ∷ xs) = ap (tree.more (bare x)) (bare_all-of xs)

pub no_line : (x : Tree) (s : List Token) → skip (canon x ++ s) ≡ canon x ++ s
no_line x s = skip_starts (canon x) s (starts x)

-- ---- brackets

abbrev pub opening_bracket : Form Token
opening_bracket = a_sign w.OpenBracket (codes "[")

abbrev pub closing_bracket : Form Token
closing_bracket = a_sign w.CloseBracket (codes "]")

pub opening_bracket_law : (o : Eye) → Law Near o opening_bracket (one w.OpenBracket)
unfolding terminal_of
opening_bracket_law o = one_law w.OpenBracket (λ _. sign (codes "[")) refl refl (λ _ _. refl) o

pub closing_bracket_law : (o : Eye) → Law Near o closing_bracket (one w.CloseBracket)
unfolding terminal_of
closing_bracket_law o = one_law w.CloseBracket (λ _. sign (codes "]")) refl refl (λ _ _. refl) o

-- what stands between an opening and a closing sign
pub data Enclosed {A : Type 0} (k1 k2 : Terminal) (S : List Token → A → List Token → Type 0) : List Token → A
    → List Token → Type 0 where
  enclosed : (o c : Token) (us : List Token) (x : A) (rest : List Token) → terminal o ≡ k1 → terminal c ≡ k2
      → S us x (c ∷ rest) → Enclosed k1 k2 S (o ∷ us ++ c ∷ []) x rest

abbrev pub parens : {A : Type 0} → Form A → Form A
parens a = record {
  plain = λ x. sign (codes "(") ∷ a.plain x ++ sign (codes ")") ∷ [];
  bare = a.bare;
  spells =
      Enclosed w.OpenParen w.CloseParen a.spells;
}

abbrev pub brackets : {A : Type 0} → Form A → Form A
brackets a = record {
  plain = λ x. sign (codes "[") ∷ a.plain x ++ sign (codes "]") ∷ [];
  bare = a.bare;
  spells =
      Enclosed w.OpenBracket w.CloseBracket a.spells;
}

parens_spells : {A : Type 0} (a : Form A) (us : List Token) (p : (Token × A) × Token) (rest : List Token)
    → Both (pair opening a) closing us p rest → Enclosed w.OpenParen w.CloseParen a.spells us p.0.1 rest
parens_spells a _ _ _ (both _ _ rest _ _ (both _ us _ _ x (this o _ h) k) (this c _ j)) = enclosed o c us x rest h j k

pub parens_law : {A : Type 0} (a : Form A) (p : Parser A) → Law Near Near a p
    → Law Near Near (parens a) (one w.OpenParen >>= λ _. p >>= λ x. one w.CloseParen >>= λ _. pure x)
parens_law a p law ts =
    then_at Near Near Near opening (parens a) (one w.OpenParen) (λ _. p >>= λ x. one w.CloseParen >>= λ _. pure x) ts
    (opening_law Near ts)
    (λ o ts. seq_at Near Near Near opening a (parens a) p (λ o x. one w.CloseParen >>= λ _. pure x) o ts (law ts)
    (λ q ts. seq_at Near Near Near (pair opening a) closing (parens a) (one w.CloseParen) (λ q c. pure q.1) q ts
    (closing_law Near ts)
    (pure_on Near (pair (pair opening a) closing) (parens a) (λ q. q.0.1) (λ q. refl) (λ q. refl) (parens_spells a))))

-- what a closing sign follows
pub data Closed {A : Type 0} (k : Terminal) (S : List Token → A → List Token → Type 0) : List Token → A → List Token
    → Type 0 where
  closed : (c : Token) (us : List Token) (x : A) (rest : List Token) → terminal c ≡ k → S us x (c ∷ rest)
      → Closed k S (us ++ c ∷ []) x rest

abbrev pub closes : {A : Type 0} → Form A → Form A
closes a = record {
  plain = λ x. a.plain x ++ sign (codes ")") ∷ [];
  bare = a.bare;
  spells =
      Closed w.CloseParen a.spells;
}

closes_spells : {A : Type 0} (a : Form A) (us : List Token) (p : A × Token) (rest : List Token)
    → Both a closing us p rest → Closed w.CloseParen a.spells us p.0 rest
closes_spells a _ _ _ (both us _ rest x _ k (this c _ j)) = closed c us x rest j k

pub closes_law : {A : Type 0} (a : Form A) (p : Parser A) → Law Near Near a p
    → Law Near Near (closes a) (p >>= λ x. one w.CloseParen >>= λ _. pure x)
closes_law a p law ts =
    then_at Near Near Near a (closes a) p (λ x. one w.CloseParen >>= λ _. pure x) ts (law ts)
    (λ x ts. seq_at Near Near Near a closing (closes a) (one w.CloseParen) (λ x _. pure x) x ts (closing_law Near ts)
    (pure_on Near (pair a closing) (closes a) (λ q. q.0) (λ q. refl) (λ q. refl) (closes_spells a)))

module _ (n depth : ℕ) (inner : Goal → Parser Tree) (deeper : Inner n depth inner) where
  -- ---- lists

  -- , expr
  abbrev pub nexts : Form Tree
  nexts = record { plain = plain_comma; bare = bare; spells = λ us x rest. Opens n × Next (suc n) us x rest }

  next_spells : (us vs : List Token) (t : Token) (x : Tree) (rest : List Token) → This w.Comma us t (vs ++ rest)
      → Lines (whole n false) vs x rest → Opens n × Next (suc n) (us ++ vs) x rest
  next_spells _ _ _ x rest (this t _ h) (lines ns us _ _ k (o, j, s)) = (o, g.next (suc n) t ns us x rest h k j)

  pub next_law : Law Near Near nexts (e.next_in_list depth inner)
  unfolding e.next_in_list
  next_law ts =
      then_at Near Behind Near comma nexts (one w.Comma) (λ _. skipped (inner (goal.Expr false))) ts
      (comma_law Behind ts)
      (λ t ts. last_at Behind Near comma (behind (whole n false)) nexts (skipped (inner (goal.Expr false)))
      (λ _ _. refl) (λ _. refl) next_spells t ts (skipped_law Near (whole n false) (inner (goal.Expr false)) no_line
      (deeper.wholes false) ts))

  commas_spells : (us vs : List Token) (x : Tree) (xs : List Tree) (rest : List Token)
      → is w.Comma (ahead (us ++ (vs ++ rest))) ≡ true → Opens n × Next (suc n) us x (vs ++ rest)
      → Commas (suc n) vs xs rest → Commas (suc n) (us ++ vs) (x ∷ xs) rest
  commas_spells us vs x xs rest _ (o, h) k = g.one_comma (suc n) us vs x xs rest h k

  abbrev pub commas : Form (List Tree)
  commas = chain nexts (Commas (suc n)) (is w.Comma)

  pub commas_law : Law Near Near commas (e.commas depth inner)
  unfolding e.commas
  commas_law = many_law nexts (Commas (suc n)) (is w.Comma) (λ rest. g.no_comma (suc n) rest) commas_spells
      (λ x. omega arith) (e.next_in_list depth inner) (λ ts go. next_law ts)

  abbrev pub lists : Form (List Tree)
  lists = record {
    plain = λ xs. canon_list (trees_of xs);
    bare = map bare;
    spells = λ us xs rest. Opens n
        × Listed (suc n) us xs rest;
  }

  list_spells : (us : List Token) (p : Tree × List Tree) (rest : List Token) → Both (whole n false) commas us p rest
      → Opens n × Listed (suc n) us (p.0 ∷ p.1) rest
  list_spells _ _ _ (both us vs rest x xs (o, h, _) (k, _)) = (o, g.a_list (suc n) us vs x xs rest h k)

  pub list_law : Law Near Near lists (e.list depth inner)
  unfolding e.list
  list_law ts =
      then_at Near Near Near (whole n false) lists (inner (goal.Expr false)) (λ x. e.commas depth inner >>= λ xs. pure
      (x ∷ xs)) ts (deeper.wholes false ts)
      (λ x ts. seq_at Near Near Near (whole n false) commas lists (e.commas depth inner) (λ x xs. pure (x ∷ xs)) x ts
      (commas_law ts)
      (pure_on Near (pair (whole n false) commas) lists (λ p. p.0 ∷ p.1) (λ p. ap (λ (w : List Token). canon p.0 ++ w)
      (canon_commas-of p.1)) (λ p. refl) list_spells))

  -- [ list ]
  abbrev pub perhaps_lists : Form (List Tree)
  perhaps_lists = record {
    plain = λ xs. canon_list (trees_of xs);
    bare = map bare;
    spells =
        λ us xs rest. Arguments (suc n) us xs rest;
  }

  pub list_or_none_law : Law Near Near perhaps_lists (e.list_or_none depth inner)
  unfolding e.list_or_none
  list_or_none_law ts =
      choice_at Near perhaps_lists (λ kind. cond (is kind w.CloseParen) (pure []) (e.list depth inner)) ts
      (if_at Near Near perhaps_lists (is (ahead ts) w.CloseParen) (pure []) (e.list depth inner) ts
      (λ h. pure_at Near perhaps_lists [] ts refl refl (g.no_argument (suc n) ts))
      (λ h. weaker_at Near Near lists perhaps_lists (e.list depth inner) ts (λ _. refl) (λ _. refl)
      (λ us xs rest k. g.some_arguments (suc n) us xs rest k.1) (list_law ts)))

  -- what a token before it opened
  abbrev pub opened_form : {A : Type 0} → Form A → Form A
  opened_form a = record { plain = a.plain; bare = a.bare; spells = λ us x rest. Opens n × a.spells us x rest }

  pub opened_law : {A : Type 0} (o : Eye) (a : Form A) (p : Parser A) → Law Near o a p
      → Law Near o (opened_form a) (inside depth p)
  opened_law o a p law ts x r h =
      elim (chosen (depth == 0) (deep ts) (p ts) (Ok (x, r)) h) [
        | inl k ↦ absurd cc
        | inr k ↦
            let q = law ts x r k.1 in
            record {
              used = q.used;
              parts = q.parts;
              spelled = (deeper.opens k.0, q.spelled);
              seen = q.seen;
              reads =
                  λ s like. rw k.0 (q.reads s like);
            }
      ]

  abbrev pub argument_form : Form (List Tree)
  argument_form = opened_form perhaps_lists

  pub arguments_law : Law Near Near (parens argument_form) (e.arguments depth inner)
  unfolding e.arguments
  arguments_law = parens_law argument_form (inside depth (e.list_or_none depth inner))
      (opened_law Near perhaps_lists (e.list_or_none depth inner) list_or_none_law)

  -- ---- lvalues

  element_spells : (us : List Token) (p : (Token × Token) × List Tree) (q : Token) (rest : List Token)
      → Both (pair (pair a_name opening_bracket) lists) closing_bracket us (p, q) rest
      → Spells n rule.lvalue us (tree.element (name_of p.0.0) (trees_of p.1)) rest
  element_spells _ _ _ _ (both _ _ rest _ _ (both _ us _ _ xs (both _ _ _ _ _ (this t _ h) (this o _ k)) (opens, l))
      (this c _ j)) = g.an_element n t o c us xs rest h k j opens l

  pub element_rest : (x : Token) (ts : List Token) → GoesAt Near Near a_name (here n rule.lvalue)
      (λ token. one w.OpenBracket >>= λ _. e.list depth inner >>= λ xs. one w.CloseBracket
      >>= λ _. pure (tree.element (name_of token) (trees_of xs))) x ts
  element_rest x ts =
      seq_at Near Near Near a_name opening_bracket (here n rule.lvalue) (one w.OpenBracket) (λ t _. e.list depth inner
      >>= λ xs. one w.CloseBracket >>= λ _. pure (tree.element (name_of t) (trees_of xs))) x ts
      (opening_bracket_law Near ts)
      (λ q ts. seq_at Near Near Near (pair a_name opening_bracket) lists (here n rule.lvalue) (e.list depth inner)
      (λ q xs. one w.CloseBracket >>= λ _. pure (tree.element (name_of q.0) (trees_of xs))) q ts (list_law ts)
      (λ q ts. seq_at Near Near Near (pair (pair a_name opening_bracket) lists) closing_bracket (here n rule.lvalue)
      (one w.CloseBracket) (λ q _. pure (tree.element (name_of q.0.0) (trees_of q.1))) q ts
      (closing_bracket_law Near ts)
      (pure_on Near (pair (pair (pair a_name opening_bracket) lists) closing_bracket) (here n rule.lvalue)
      (λ q. tree.element (name_of q.0.0.0) (trees_of q.0.1)) (λ q. refl)
      (λ q. ap (tree.element (bare_name (name_of q.0.0.0))) (bare_all-of q.0.1))
      (λ us q rest h. element_spells us q.0 q.1 rest h))))

  -- a name that no bracket follows
  name_rest : (x : Token) (ts : List Token) → is (ahead ts) w.OpenBracket ≡ false
      → GoesAt Near Near a_name (here n rule.lvalue) (λ token. pure (tree.name (name_of token))) x ts
  name_rest x ts stop y r h =
      let q = pure_on Near a_name (tree_form (λ us x rest. (t : Token) × (us ≡ t ∷ []) × (terminal t ≡ w.Name)
      × (x ≡ tree.name (name_of t)))) (λ t. tree.name (name_of t)) (λ t. refl) (λ t. refl)
      (λ us t rest k. named us t rest k) x ts y r h in
      record {
        used = q.used;
        parts = q.parts;
        spelled = λ us k. finish (us ++ q.used) y r
            (ap (λ (m : List Token). is (ahead m) w.OpenBracket) (sym (nothing h)) ∙ stop) (q.spelled us k);
        more =
            q.more;
        whole = q.whole;
        seen = q.seen;
        reads = q.reads;
      } where
        named : (us : List Token) (t : Token) (rest : List Token) → This w.Name us t rest → (u : Token) × (us ≡ u ∷ [])
            × (terminal u ≡ w.Name) × (tree.name (name_of t) ≡ tree.name (name_of u))
        named _ _ _ (this t _ k) = (t, refl, k, refl)

        finish : (us : List Token) (y : Tree) (r : List Token) → is (ahead r) w.OpenBracket ≡ false → (t : Token)
            × (us ≡ t ∷ []) × (terminal t ≡ w.Name) × (y ≡ tree.name (name_of t)) → Spells n rule.lvalue us y r
        finish us y r stop (t, a, b, c) = subst (λ (w : List Token). Spells n rule.lvalue w y r) (sym a)
            (subst (λ (z : Tree). Spells n rule.lvalue (t ∷ []) z r) (sym c) (g.a_name n t r b stop))

        nothing : pure (tree.name (name_of x)) ts ≡ Ok (y, r) → ts ≡ r
        nothing h = let d = done_is (tree.name (name_of x)) y ts r h in d.1

  pub named_law : Law Near Near (here n rule.lvalue) (e.named depth inner)
  unfolding e.named
  named_law ts =
      then_at Near Near Near a_name (here n rule.lvalue) (one w.Name) _ ts (name_law Near ts)
      (λ t ts. choice_on Near a_name (here n rule.lvalue) (λ token kind. cond (is kind w.OpenBracket)
      (one w.OpenBracket >>= λ _. e.list depth inner >>= λ xs. one w.CloseBracket
      >>= λ _. pure (tree.element (name_of token) (trees_of xs))) (pure (tree.name (name_of token)))) t ts
      (if_on Near Near a_name (here n rule.lvalue) (is (ahead ts) w.OpenBracket) (λ token. one w.OpenBracket
      >>= λ _. e.list depth inner >>= λ xs. one w.CloseBracket
      >>= λ _. pure (tree.element (name_of token) (trees_of xs))) (λ token. pure (tree.name (name_of token))) t ts
      (λ _. element_rest t ts) (λ h. name_rest t ts h)))
