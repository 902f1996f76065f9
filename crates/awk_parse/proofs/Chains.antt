-- The laws of chains and comparisons, up to `in`.
use Rattle.std.proofs.Common.{◌≡◌, ℕ, Bool, true, false, Option, Some, None, List, [], ◌∷◌, ◌++◌, map, option_map}
use Rattle.std.proofs.Common.{codes, refl, sym, ap, ◌∙◌, arith}
use Rattle.std.proofs.lemmas.List.{append-nil}
use Rattle.std.specs.List.{flat_map}
use Rattle.awk_tokens.specs.declared.token.Token.{Token}
use Rattle.awk_tree.specs.Looks.{is_lvalue, name_of}
use Rattle.awk_tree.specs.Looks as looks
use Rattle.awk_tree.specs.declared.goals.Goal.{Goal}
use Rattle.awk_tokens.specs.declared.terminals.Terminal.{Terminal}
use Rattle.awk_tokens.specs.declared.terminals.Terminal.TheVariants as w
use Rattle.awk_tree.specs.Tree as tree
use Rattle.awk_tree.specs.Tree.{Tree, Trees, trees_of, perhaps_of}
use Rattle.awk_tree.specs.Terminals.{terminal, terminal_of, is, sign, keyword, ahead, nowhere}
use Rattle.awk_tree.specs.Input.{Parser, ◌>>=◌, any, one, pure}
use Rattle.awk_tree.specs.Expressions as e
use Rattle.awk_tree.specs.Canon.{canon, bare}
use Rattle.awk_parse.specs.Rules as rule
use Rattle.awk_parse.specs.Rules.{Rule}
use Rattle.awk_parse.specs.Spells as g
use Rattle.awk_parse.specs.Spells.{Spells, Opens, Newlines, Listed, Commas, Next, Arguments}
use Rattle.awk_parse.proofs.TerminalLemmas.{single, is-true}
use Rattle.awk_parse.proofs.Law.{Near, Form, At, Law, GoesAt, LawOn, then_at, seq_at, Both, both, pair, pure_on}
use Rattle.awk_parse.proofs.Law.{choice_on, any_at}
use Rattle.awk_parse.proofs.Many.{chain, many_law}
use Rattle.awk_parse.proofs.Starts.{starts, starts_some}
use Rattle.awk_tree.specs.declared.operators.Arithmetic.{Arithmetic}
use Rattle.awk_tree.specs.declared.operators.Arithmetic.TheVariants as a
use Rattle.awk_tree.specs.declared.operators.Comparison.{Comparison}
use Rattle.awk_tree.specs.declared.operators.Comparison.TheVariants as c
use Rattle.awk_tree.specs.declared.expressions.Term.{Term}
use Rattle.awk_tree.specs.declared.expressions.Piped.{Piped}
use Rattle.awk_tree.specs.Tree.{terms_of, pipes_of}
use Rattle.awk_tree.specs.Canon.{arithmetic_text, comparison_text, match_text, canon_terms, canon_parts, canon_pipes}
use Rattle.awk_tree.specs.Canon.{canon_target, bare_terms, bare_pipes}
use Rattle.awk_parse.specs.Spells.{Names}
use Rattle.awk_parse.proofs.TerminalLemmas.{steady, bar_is}
use Rattle.awk_parse.proofs.Law.{on_on, bind_ok, any_is}
use Rattle.awk_parse.proofs.Words.{names_law, in_form, canon-member_of, bare-member_of}
use Rattle.awk_parse.proofs.Operands.{here, Inner, bare_all-of}
use Rattle.awk_parse.proofs.Builtins.{prefixed, targets, target_law, getline_word_law, bare_perhaps-of}
use Rattle.awk_parse.proofs.Primaries.{infix_on, stays, unary_law}

-- ---- signs of chains

arithmetic_again : (o : Arithmetic) → looks.arithmetic_of (terminal (sign (arithmetic_text o))) ≡ o
unfolding terminal_of
arithmetic_again a.Add = refl
arithmetic_again a.Subtract = refl
arithmetic_again a.Multiply = refl
arithmetic_again a.Divide = refl
arithmetic_again a.Remainder = refl

abbrev sign_again : Terminal → Terminal
sign_again k = terminal (sign (arithmetic_text (looks.arithmetic_of k)))

factor_sign : (k : Terminal) → looks.is_factor_sign k ≡ true → (sign_again k ≡ k) × (steady k ≡ true)
unfolding terminal_of
factor_sign w.Star h = (refl, refl)
factor_sign w.Slash h = (refl, refl)
factor_sign w.Percent h = (refl, refl)
factor_sign _ h = absurd cc

term_sign : (k : Terminal) → looks.is_term_sign k ≡ true → (sign_again k ≡ k) × (steady k ≡ true)
unfolding terminal_of
term_sign w.Plus h = (refl, refl)
term_sign w.Minus h = (refl, refl)
term_sign _ h = absurd cc

-- ---- what chains compute to

abbrev plain_term : Term Tree → List Token
plain_term t = sign (arithmetic_text t.operator) ∷ canon t.operand

abbrev bare_term : Term Tree → Term Tree
bare_term t = record { operator = t.operator; place = nowhere; operand = bare t.operand }

abbrev term_of : Token → Tree → Term Tree
term_of t x = record { operator = looks.arithmetic_of (terminal t); place = t.place; operand = x }

canon_terms-of : (ts : List (Term Tree)) → canon_terms (terms_of ts) ≡ flat_map plain_term ts
canon_terms-of [] = refl
canon_terms-of (t ∷ ts) = ap (λ (m : List Token). sign (arithmetic_text t.operator) ∷ canon t.operand ++ m)
    (canon_terms-of ts)

bare_terms-of : (ts : List (Term Tree)) → bare_terms (terms_of ts) ≡ terms_of (map bare_term ts)
bare_terms-of [] = refl
bare_terms-of (t ∷ ts) = ap (tree.term t.operator nowhere (bare t.operand)) (bare_terms-of ts)

canon-product_of : (l : Tree) (ts : List (Term Tree)) → canon (looks.product_of l ts) ≡ canon l
    ++ flat_map plain_term ts
canon-product_of l [] = sym (append-nil (canon l))
canon-product_of l (t ∷ ts) = ap (λ (m : List Token). canon l ++ m) (canon_terms-of (t ∷ ts))

bare-product_of : (l : Tree) (ts : List (Term Tree)) → bare (looks.product_of l ts) ≡ looks.product_of (bare l)
    (map bare_term ts)
bare-product_of l [] = refl
bare-product_of l (t ∷ ts) = ap (tree.product (bare l)) (bare_terms-of (t ∷ ts))

canon-sum_of : (l : Tree) (ts : List (Term Tree)) → canon (looks.sum_of l ts) ≡ canon l ++ flat_map plain_term ts
canon-sum_of l [] = sym (append-nil (canon l))
canon-sum_of l (t ∷ ts) = ap (λ (m : List Token). canon l ++ m) (canon_terms-of (t ∷ ts))

bare-sum_of : (l : Tree) (ts : List (Term Tree)) → bare (looks.sum_of l ts) ≡ looks.sum_of (bare l) (map bare_term ts)
bare-sum_of l [] = refl
bare-sum_of l (t ∷ ts) = ap (tree.sum (bare l)) (bare_terms-of (t ∷ ts))

canon_parts-of : (xs : List Tree) → canon_parts (trees_of xs) ≡ flat_map canon xs
canon_parts-of [] = refl
canon_parts-of (x ∷ xs) = ap (λ (m : List Token). canon x ++ m) (canon_parts-of xs)

canon-concat_of : (l : Tree) (xs : List Tree) → canon (looks.concat_of l xs) ≡ canon l ++ flat_map canon xs
canon-concat_of l [] = sym (append-nil (canon l))
canon-concat_of l (x ∷ xs) = ap (λ (m : List Token). canon l ++ m) (canon_parts-of (x ∷ xs))

bare-concat_of : (l : Tree) (xs : List Tree) → bare (looks.concat_of l xs) ≡ looks.concat_of (bare l) (map bare xs)
bare-concat_of l [] = refl
bare-concat_of l (x ∷ xs) = ap (tree.concat (bare l)) (bare_all-of (x ∷ xs))

abbrev plain_pipe : Piped Tree → List Token
plain_pipe p = sign (codes "|") ∷ keyword (codes "getline") ∷ canon_target (perhaps_of p.target)

abbrev bare_pipe : Piped Tree → Piped Tree
bare_pipe p = record { place = nowhere; target = option_map bare p.target }

canon_pipes-of : (ps : List (Piped Tree)) → canon_pipes (pipes_of ps) ≡ flat_map plain_pipe ps
canon_pipes-of [] = refl
canon_pipes-of (p ∷ ps) = ap (λ (m : List Token). sign (codes "|") ∷ keyword (codes "getline") ∷ canon_target
    (perhaps_of p.target) ++ m) (canon_pipes-of ps)

bare_pipes-of : (ps : List (Piped Tree)) → bare_pipes (pipes_of ps) ≡ pipes_of (map bare_pipe ps)
bare_pipes-of [] = refl
bare_pipes-of (p ∷ ps) = ap (λ (m : _). tree.piped nowhere m (bare_pipes (pipes_of ps))) (bare_perhaps-of p.target)
    ∙ ap (tree.piped nowhere (perhaps_of (option_map bare p.target))) (bare_pipes-of ps)

canon-pipe_of : (l : Tree) (ps : List (Piped Tree)) → canon (looks.pipe_of l ps) ≡ canon l ++ flat_map plain_pipe ps
canon-pipe_of l [] = sym (append-nil (canon l))
canon-pipe_of l (p ∷ ps) = ap (λ (m : List Token). canon l ++ m) (canon_pipes-of (p ∷ ps))

bare-pipe_of : (l : Tree) (ps : List (Piped Tree)) → bare (looks.pipe_of l ps) ≡ looks.pipe_of (bare l)
    (map bare_pipe ps)
bare-pipe_of l [] = refl
bare-pipe_of l (p ∷ ps) = ap (tree.pipe (bare l)) (bare_pipes-of (p ∷ ps))

-- ---- comparisons and matches

abbrev comparison_terminal : Comparison → Terminal
comparison_terminal c.Less = w.Less
comparison_terminal c.LessOrEqual = w.LessOrEqual
comparison_terminal c.Equal = w.Equal
comparison_terminal c.NotEqual = w.NotEqual
comparison_terminal c.Greater = w.Greater
comparison_terminal c.GreaterOrEqual = w.GreaterOrEqual

comparison_word : (how : Comparison) → (terminal (sign (comparison_text how)) ≡ comparison_terminal how)
    × (steady (comparison_terminal how) ≡ true)
unfolding terminal_of
comparison_word c.Less = (refl, refl)
comparison_word c.LessOrEqual = (refl, refl)
comparison_word c.Equal = (refl, refl)
comparison_word c.NotEqual = (refl, refl)
comparison_word c.Greater = (refl, refl)
comparison_word c.GreaterOrEqual = (refl, refl)

comparison_found : (p : Bool) (k : Terminal) (how : Comparison) → looks.comparison p k ≡ Some how
    → k ≡ comparison_terminal how
comparison_found p w.Less c.Less h = refl
comparison_found p w.LessOrEqual c.LessOrEqual h = refl
comparison_found p w.Equal c.Equal h = refl
comparison_found p w.NotEqual c.NotEqual h = refl
comparison_found false w.Greater c.Greater h = refl
comparison_found true w.Greater how h = absurd cc
comparison_found p w.GreaterOrEqual c.GreaterOrEqual h = refl
comparison_found p _ how h = absurd cc

abbrev match_terminal : Bool → Terminal
match_terminal true = w.NotTilde
match_terminal false = w.Tilde

match_word : (unlike : Bool) → (terminal (sign (match_text unlike)) ≡ match_terminal unlike)
    × (steady (match_terminal unlike) ≡ true)
unfolding terminal_of
match_word true = (refl, refl)
match_word false = (refl, refl)

match_found : (k : Terminal) (unlike : Bool) → looks.matching k ≡ Some unlike → k ≡ match_terminal unlike
match_found w.Tilde false h = refl
match_found w.NotTilde true h = refl
match_found _ unlike h = absurd cc

-- ---- a chain behind its first operand

pub chain_on : {Y : Type 0} (c : Form Y) (All : List Token → List Y → List Token → Type 0) (test : Terminal
    → Bool) (p : Parser (List Y)) (x y : Form Tree) (mk : Tree → List Y → Tree)
    → ((l : Tree) (ys : List Y) → y.plain (mk l ys) ≡ x.plain l ++ flat_map c.plain ys)
    → ((l : Tree) (ys : List Y) → y.bare (mk l ys) ≡ mk (x.bare l) (map c.bare ys))
    → ((us vs : List Token) (l : Tree) (ys : List Y) (rest : List Token) → x.spells us l (vs ++ rest) → All vs ys rest
    → test (ahead rest) ≡ false → y.spells (us ++ vs) (mk l ys) rest)
    → Law Near Near (chain c All test) p → LawOn Near Near x y (λ l. p >>= λ ys. pure (mk l ys))
chain_on {Y} c All test p x y mk plain_is bare_is spells law l ts =
    seq_at Near Near Near x (chain c All test) y p (λ l ys. pure (mk l ys)) l ts (law ts)
    (pure_on Near (pair x (chain c All test)) y (λ q. mk q.0 q.1) (λ q. plain_is q.0 q.1) (λ q. bare_is q.0 q.1) made)
  where
    made : (us : List Token) (q : Tree × List Y) (rest : List Token) → Both x (chain c All test) us q rest
        → y.spells us (mk q.0 q.1) rest
    made _ _ _ (both us vs rest l ys h (k, ended)) = spells us vs l ys rest h k ended

module _ (n depth : ℕ) (inner : Goal → Parser Tree) (deeper : Inner n depth inner) where
  -- a sign, and an operand of this rule
  pub data Operand (test : Terminal → Bool) (r : Rule) : List Token → Term Tree → List Token → Type 0 where
    operand : (t : Token) (us : List Token) (x : Tree) (rest : List Token) → test (terminal t) ≡ true
        → Spells n r us x rest → Operand test r (t ∷ us) (term_of t x) rest

  abbrev term_form : (Terminal → Bool) → Rule → Form (Term Tree)
  term_form test r = record { plain = plain_term; bare = bare_term; spells = Operand test r }

  term_law : (test : Terminal → Bool) (r : Rule) → ((k : Terminal) → test k ≡ true → (sign_again k ≡ k)
      × (steady k ≡ true)) → (q : Parser Tree) → Law Near Near (here n r) q → (ts : List Token) → test (ahead ts) ≡ true
      → At Near Near (term_form test r) (any >>= λ t. q >>= λ x. pure (term_of t x)) ts
  term_law test r signs q law ts go =
      let k = ahead ts in
      let found = signs k go in
      prefixed k (λ t. sign (arithmetic_text (looks.arithmetic_of (terminal t)))) any (here n r) q (term_form test r)
      (λ t x. term_of t x) (λ t x. refl)
      (λ t x. ap (λ (o : Arithmetic). record { operator = o; place = nowhere; operand = bare x })
      (sym (arithmetic_again (looks.arithmetic_of (terminal t)))))
      (λ t us x rest h j. operand t us x rest (ap test h ∙ go) j) law ts
      (any_at k (λ t. sign (arithmetic_text (looks.arithmetic_of (terminal t)))) found.1 (λ t h. ap sign_again h
      ∙ found.0) Near ts refl)

  -- mul
  factors_spells : (us vs : List Token) (x : Term Tree) (xs : List (Term Tree)) (rest : List Token)
      → looks.is_factor_sign (ahead (us ++ (vs ++ rest))) ≡ true → Operand looks.is_factor_sign rule.unary us x
      (vs ++ rest) → g.Factors n vs xs rest → g.Factors n (us ++ vs) (x ∷ xs) rest
  factors_spells _ vs _ xs rest _ (operand t us x _ h j) k = g.one_factor n t us vs x xs rest h j k

  factors_law : Law Near Near (chain (term_form looks.is_factor_sign rule.unary) (g.Factors n) looks.is_factor_sign)
      (e.factors depth inner)
  unfolding e.factors e.factor
  factors_law = many_law (term_form looks.is_factor_sign rule.unary) (g.Factors n) looks.is_factor_sign
      (λ rest. g.no_factor n rest) factors_spells (λ y. omega arith) (e.factor depth inner)
      (λ ts go. term_law looks.is_factor_sign rule.unary factor_sign (e.unary depth inner)
      (unary_law n depth inner deeper) ts go)

  pub product_rest_law : LawOn Near Near (here n rule.unary) (here n rule.mul) (e.product_rest depth inner)
  unfolding e.product_rest
  product_rest_law = chain_on (term_form looks.is_factor_sign rule.unary) (g.Factors n) looks.is_factor_sign
      (e.factors depth inner) (here n rule.unary) (here n rule.mul) looks.product_of canon-product_of bare-product_of
      (λ us vs l ys rest h k _. g.a_product n us vs l ys rest h k) factors_law

  -- add
  mul_law : Law Near Near (here n rule.mul) (e.unary depth inner >>= e.product_rest depth inner)
  mul_law ts = then_at Near Near Near (here n rule.unary) (here n rule.mul) (e.unary depth inner)
      (e.product_rest depth inner) ts (unary_law n depth inner deeper ts) product_rest_law

  addends_spells : (us vs : List Token) (x : Term Tree) (xs : List (Term Tree)) (rest : List Token)
      → looks.is_term_sign (ahead (us ++ (vs ++ rest))) ≡ true → Operand looks.is_term_sign rule.mul us x (vs ++ rest)
      → g.Addends n vs xs rest → g.Addends n (us ++ vs) (x ∷ xs) rest
  addends_spells _ vs _ xs rest _ (operand t us x _ h j) k = g.one_addend n t us vs x xs rest h j k

  addends_law : Law Near Near (chain (term_form looks.is_term_sign rule.mul) (g.Addends n) looks.is_term_sign)
      (e.addends depth inner)
  unfolding e.addends e.addend
  addends_law = many_law (term_form looks.is_term_sign rule.mul) (g.Addends n) looks.is_term_sign
      (λ rest. g.no_addend n rest) addends_spells (λ y. omega arith) (e.addend depth inner)
      (λ ts go. term_law looks.is_term_sign rule.mul term_sign (e.unary depth inner >>= e.product_rest depth inner)
      mul_law ts go)

  pub sum_rest_law : LawOn Near Near (here n rule.mul) (here n rule.add) (e.sum_rest depth inner)
  unfolding e.sum_rest
  sum_rest_law = chain_on (term_form looks.is_term_sign rule.mul) (g.Addends n) looks.is_term_sign
      (e.addends depth inner) (here n rule.mul) (here n rule.add) looks.sum_of canon-sum_of bare-sum_of
      (λ us vs l ys rest h k _. g.a_sum n us vs l ys rest h k) addends_law

  -- cat
  part_law : Law Near Near (here n rule.add) (e.part depth inner)
  unfolding e.part
  part_law ts = then_at Near Near Near (here n rule.mul) (here n rule.add) (e.unary depth inner
      >>= e.product_rest depth inner) (e.sum_rest depth inner) ts (mul_law ts) sum_rest_law

  parts_law : Law Near Near (chain (here n rule.add) (g.Parts n) looks.begins_part) (e.parts depth inner)
  unfolding e.parts
  parts_law = many_law (here n rule.add) (g.Parts n) looks.begins_part (λ rest. g.no_part n rest)
      (λ us vs x xs rest go h k. g.one_part n us vs x xs rest go h k) (λ y. starts_some (canon y) (starts y))
      (e.part depth inner) (λ ts go. part_law ts)

  pub concat_rest_law : LawOn Near Near (here n rule.add) (here n rule.cat) (e.concat_rest depth inner)
  unfolding e.concat_rest
  concat_rest_law = chain_on (here n rule.add) (g.Parts n) looks.begins_part (e.parts depth inner) (here n rule.add)
      (here n rule.cat) looks.concat_of canon-concat_of bare-concat_of
      (λ us vs l ys rest h k _. g.a_concat n us vs l ys rest h k) parts_law

  pub cat_law : Law Near Near (here n rule.cat) (e.cat depth inner)
  unfolding e.cat
  cat_law ts = then_at Near Near Near (here n rule.add) (here n rule.cat) (e.part depth inner)
      (e.concat_rest depth inner) ts (part_law ts) concat_rest_law

  -- pipe
  data Pipe : List Token → Piped Tree → List Token → Type 0 where
    pipe : (t u : Token) (us : List Token) (x : Option Tree) (rest : List Token) → terminal t ≡ w.Bar
        → terminal u ≡ w.Getline → g.Target n us x rest → Pipe (t ∷ u ∷ us) (record { place = u.place; target = x })
        rest

  abbrev pipe_form : Form (Piped Tree)
  pipe_form = record { plain = plain_pipe; bare = bare_pipe; spells = Pipe }

  -- behind the bar
  data Behind_bar : List Token → Piped Tree → List Token → Type 0 where
    behind_bar : (u : Token) (us : List Token) (x : Option Tree) (rest : List Token) → terminal u ≡ w.Getline
        → g.Target n us x rest → Behind_bar (u ∷ us) (record { place = u.place; target = x }) rest

  abbrev bar_form : Form (Piped Tree)
  bar_form = record {
    plain = λ p. keyword (codes "getline") ∷ canon_target (perhaps_of p.target);
    bare = bare_pipe;
    spells = Behind_bar;
  }

  bar_law : Law Near Near bar_form (one w.Getline >>= λ t. e.target depth inner
      >>= λ x. pure (record { place = t.place; target = x }))
  bar_law ts = prefixed w.Getline (λ _. keyword (codes "getline")) (one w.Getline) (targets n depth inner deeper)
      (e.target depth inner) bar_form (λ t x. record { place = t.place; target = x }) (λ t x. refl) (λ t x. refl)
      (λ t us x rest h j. behind_bar t us x rest h j) (target_law n depth inner deeper) ts
      (getline_word_law n depth inner deeper Near ts)

  with_bar : (t : Token) (us : List Token) (x : Piped Tree) (rest : List Token) → terminal t ≡ w.Bar
      → Behind_bar us x rest → Pipe (t ∷ us) x rest
  with_bar t _ _ _ h (behind_bar u us x rest k j) = pipe t u us x rest h k j

  one_pipe_law : (ts : List Token) → is w.BarGetline (ahead ts) ≡ true
      → At Near Near pipe_form (e.one_pipe depth inner) ts
  unfolding e.one_pipe any terminal_of
  one_pipe_law ts go x r h =
      let i = bind_ok (any ts) (λ _. one w.Getline >>= λ t. e.target depth inner
      >>= λ x. pure (record { place = t.place; target = x })) x r h in
      let p = any_is ts i.0 i.1 i.2 in
      let q = bar_law i.1 x r i.3 in
      let sees : ahead ts ≡ w.BarGetline = sym (is-true w.BarGetline (ahead ts) (single_ahead ts go) go) in
      record {
        used = i.0 ∷ q.used;
        parts = p ∙ ap (λ (m : List Token). i.0 ∷ m) q.parts;
        spelled = with_bar i.0 q.used x r (bar_is i.0 i.1 (sym (ap ahead p) ∙ sees)) q.spelled;
        seen = λ s like. sees;
        reads = λ s like. q.reads s like;
      } where
        single_ahead : (ts : List Token) → is w.BarGetline (ahead ts) ≡ true → single (ahead ts) ≡ true
        single_ahead ts h = lone (ahead ts) h where
          lone : (k : Terminal) → is w.BarGetline k ≡ true → single k ≡ true
          lone (w.Builtin which) h = absurd cc
          lone (w.Assign how) h = absurd cc
          lone (w.Step which) h = absurd cc
          lone (w.Jump which) h = absurd cc
          lone _ h = refl

  pipes_spells : (us vs : List Token) (x : Piped Tree) (xs : List (Piped Tree)) (rest : List Token)
      → is w.BarGetline (ahead (us ++ (vs ++ rest))) ≡ true → Pipe us x (vs ++ rest) → g.Pipes n vs xs rest
      → g.Pipes n (us ++ vs) (x ∷ xs) rest
  pipes_spells _ vs _ xs rest _ (pipe t u us x _ h j i) k = g.one_pipe n t u us vs x xs rest h j i k

  pipes_law : Law Near Near (chain pipe_form (g.Pipes n) (is w.BarGetline)) (e.pipes depth inner)
  unfolding e.pipes
  pipes_law = many_law pipe_form (g.Pipes n) (is w.BarGetline) (λ rest. g.no_pipe n rest) pipes_spells
      (λ y. omega arith) (e.one_pipe depth inner) one_pipe_law

  pub pipe_rest_law : LawOn Near Near (here n rule.cat) (here n rule.pipe) (e.pipe_rest depth inner)
  unfolding e.pipe_rest
  pipe_rest_law = chain_on pipe_form (g.Pipes n) (is w.BarGetline) (e.pipes depth inner) (here n rule.cat)
      (here n rule.pipe) looks.pipe_of canon-pipe_of bare-pipe_of
      (λ us vs l ys rest h k _. g.a_pipe n us vs l ys rest h k) pipes_law

  pipe_law : Law Near Near (here n rule.pipe) (e.pipe depth inner)
  unfolding e.pipe
  pipe_law ts = then_at Near Near Near (here n rule.cat) (here n rule.pipe) (e.cat depth inner)
      (e.pipe_rest depth inner) ts (cat_law ts) pipe_rest_law

  -- cmp
  compare_at : (p : Bool) (o : Option Comparison) (x : Tree) (ts : List Token) → looks.comparison p (ahead ts) ≡ o
      → GoesAt Near Near (here n rule.pipe) (here n (rule.cmp p)) (λ x. e.compare_by depth inner x o) x ts
  compare_at p (Some how) x ts sees =
      let known = comparison_word how in
      let k_is = comparison_found p (ahead ts) how sees in
      infix_on (here n rule.pipe) (comparison_terminal how) (λ _. sign (comparison_text how)) any (here n rule.pipe)
      (e.pipe depth inner) (here n (rule.cmp p)) (λ x t y. tree.compare x t.place how y) (λ x t y. refl)
      (λ x t y. refl)
      (λ t us vs x y rest h j i. g.a_comparison n p how t us vs x y rest (ap (looks.comparison p) (h ∙ sym k_is) ∙ sees)
      j i) pipe_law x ts (any_at (comparison_terminal how) (λ _. sign (comparison_text how)) known.1
      (λ _ _. known.0) Near ts k_is)
  compare_at p None x ts sees = stays Near (here n rule.pipe) (here n (rule.cmp p)) x ts (λ _. refl) (λ _. refl)
      (λ us x rest h. g.only_pipe n p us x rest h)

  pub compare_rest_law : (p : Bool) → LawOn Near Near (here n rule.pipe) (here n (rule.cmp p))
      (e.compare_rest depth inner p)
  unfolding e.compare_rest
  compare_rest_law p x ts = choice_on Near (here n rule.pipe) (here n (rule.cmp p))
      (λ x kind. e.compare_by depth inner x (looks.comparison p kind)) x ts
      (compare_at p (looks.comparison p (ahead ts)) x ts refl)

  cmp_law : (p : Bool) → Law Near Near (here n (rule.cmp p)) (e.cmp depth inner p)
  unfolding e.cmp
  cmp_law p ts = then_at Near Near Near (here n rule.pipe) (here n (rule.cmp p)) (e.pipe depth inner)
      (e.compare_rest depth inner p) ts (pipe_law ts) (compare_rest_law p)

  -- match
  match_at : (p : Bool) (o : Option Bool) (x : Tree) (ts : List Token) → looks.matching (ahead ts) ≡ o
      → GoesAt Near Near (here n (rule.cmp p)) (here n (rule.match p)) (λ x. e.match_by depth inner p x o) x ts
  match_at p (Some unlike) x ts sees =
      let known = match_word unlike in
      let k_is = match_found (ahead ts) unlike sees in
      infix_on (here n (rule.cmp p)) (match_terminal unlike) (λ _. sign (match_text unlike)) any (here n (rule.cmp p))
      (e.cmp depth inner p) (here n (rule.match p)) (λ x t y. tree.matched x t.place unlike y) (λ x t y. refl)
      (λ x t y. refl)
      (λ t us vs x y rest h j i. g.a_match n p unlike t us vs x y rest (ap looks.matching (h ∙ sym k_is) ∙ sees) j i)
      (cmp_law p) x ts (any_at (match_terminal unlike) (λ _. sign (match_text unlike)) known.1 (λ _ _. known.0) Near
      ts k_is)
  match_at p None x ts sees = stays Near (here n (rule.cmp p)) (here n (rule.match p)) x ts (λ _. refl) (λ _. refl)
      (λ us x rest h. g.only_cmp n p us x rest h)

  pub match_rest_law : (p : Bool) → LawOn Near Near (here n (rule.cmp p)) (here n (rule.match p))
      (e.match_rest depth inner p)
  unfolding e.match_rest
  match_rest_law p x ts = choice_on Near (here n (rule.cmp p)) (here n (rule.match p))
      (λ x kind. e.match_by depth inner p x (looks.matching kind)) x ts
      (match_at p (looks.matching (ahead ts)) x ts refl)

  -- in
  in_rest_law : (p : Bool) → LawOn Near Near (here n (rule.match p)) (here n (rule.isin p)) e.in_rest
  unfolding e.in_rest
  in_rest_law p = chain_on in_form Names (is w.In) e.in_names (here n (rule.match p)) (here n (rule.isin p))
      looks.member_of canon-member_of bare-member_of (λ us vs l ys rest h k _. g.a_member n p us vs l ys rest h k)
      names_law

  pub unary_rest_law : (p : Bool) → LawOn Near Near (here n rule.unary) (here n (rule.isin p))
      (e.unary_rest depth inner p)
  unfolding e.unary_rest
  unary_rest_law p =
      on_on Near Near Near (here n rule.unary) (here n (rule.match p)) (here n (rule.isin p))
      (λ l. e.product_rest depth inner l >>= e.sum_rest depth inner >>= e.concat_rest depth inner
      >>= e.pipe_rest depth inner >>= e.compare_rest depth inner p >>= e.match_rest depth inner p) e.in_rest
      (on_on Near Near Near (here n rule.unary) (here n (rule.cmp p)) (here n (rule.match p))
      (λ l. e.product_rest depth inner l >>= e.sum_rest depth inner >>= e.concat_rest depth inner
      >>= e.pipe_rest depth inner >>= e.compare_rest depth inner p) (e.match_rest depth inner p)
      (on_on Near Near Near (here n rule.unary) (here n rule.pipe) (here n (rule.cmp p))
      (λ l. e.product_rest depth inner l >>= e.sum_rest depth inner >>= e.concat_rest depth inner
      >>= e.pipe_rest depth inner) (e.compare_rest depth inner p)
      (on_on Near Near Near (here n rule.unary) (here n rule.cat) (here n rule.pipe) (λ l. e.product_rest depth inner l
      >>= e.sum_rest depth inner >>= e.concat_rest depth inner) (e.pipe_rest depth inner)
      (on_on Near Near Near (here n rule.unary) (here n rule.add) (here n rule.cat) (λ l. e.product_rest depth inner l
      >>= e.sum_rest depth inner) (e.concat_rest depth inner)
      (on_on Near Near Near (here n rule.unary) (here n rule.mul) (here n rule.add) (e.product_rest depth inner)
      (e.sum_rest depth inner) product_rest_law sum_rest_law) concat_rest_law) pipe_rest_law) (compare_rest_law p))
      (match_rest_law p)) (in_rest_law p)
