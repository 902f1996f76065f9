-- The laws of getline, of fields and of the built-in functions.
use Rattle.std.proofs.Common.{◌≡◌, ℕ, suc, true, false, cond, Option, Some, None, List, [], ◌∷◌, ◌++◌, option_map}
use Rattle.std.proofs.Common.{codes, refl, sym, ap, ◌∙◌, append_assoc}
use Rattle.std.proofs.lemmas.List.{append-nil}
use Rattle.awk_tokens.specs.declared.token.Token.{Token}
use Rattle.awk_tokens.specs.declared.words.Builtin.{Builtin}
use Rattle.awk_tree.specs.Looks.{is_lvalue, name_of}
use Rattle.awk_tree.specs.Looks as looks
use Rattle.awk_tree.specs.declared.goals.Goal.{Goal}
use Rattle.awk_tree.specs.declared.goals.Goal.TheVariants as goal
use Rattle.awk_tokens.specs.declared.terminals.Terminal.{Terminal}
use Rattle.awk_tokens.specs.declared.terminals.Terminal.TheVariants as w
use Rattle.awk_tree.specs.Tree as tree
use Rattle.awk_tree.specs.Tree.{Tree, Trees, trees_of, perhaps_of}
use Rattle.awk_tree.specs.Terminals.{terminal, terminal_of, is, sign, keyword, ahead, nowhere}
use Rattle.awk_tokens.specs.Words.{builtin_text, parameters}
use Rattle.awk_tokens.specs.declared.words.Parameters.TheVariants as takes
use Rattle.awk_tree.specs.Input.{Parser, ◌>>=◌, one, pure}
use Rattle.awk_tree.specs.Expressions as e
use Rattle.awk_tree.specs.Canon.{canon, bare, bare_all, canon_commas, builtin_word}
use Rattle.awk_parse.specs.Rules as rule
use Rattle.awk_parse.specs.Rules.{Rule}
use Rattle.awk_parse.specs.Spells as g
use Rattle.awk_parse.specs.Spells.{Spells, Opens, Newlines, Listed, Commas, Next, Arguments}
use Rattle.awk_parse.proofs.Law.{Eye, Near, Form, At, Law, LawOn, then_at, seq_at, Both, both, pair, pure_on, pure_at}
use Rattle.awk_parse.proofs.Law.{choice_at, if_at, This, this, word, one_law}
use Rattle.awk_parse.proofs.Words.{a_keyword, opening, closing, opening_law, closing_law}
use Rattle.awk_tree.specs.Canon.{canon_target, canon_file, canon_comma, bare_perhaps}
use Rattle.std.proofs.Common.{subst}
use Rattle.awk_parse.proofs.Operands.{closes, closes_law, closed, here, below, whole, Inner, plain_comma, enclosed}
use Rattle.awk_parse.proofs.Operands.{parens, parens_law, nexts, next_law, named_law}

-- ---- a token, and what stands behind it

pub prefixed : {A B : Type 0} (k : Terminal) (make : Token → Token) (p : Parser Token) (c : Form A) (q : Parser A)
    (b : Form B) (mk : Token → A → B) → ((t : Token) (x : A) → b.plain (mk t x) ≡ make t ∷ c.plain x)
    → ((t : Token) (x : A) → b.bare (mk t x) ≡ mk (make t) (c.bare x))
    → ((t : Token) (us : List Token) (x : A) (rest : List Token) → terminal t ≡ k → c.spells us x rest
    → b.spells (t ∷ us) (mk t x) rest)
    → Law Near Near c q → (ts : List Token) → At Near Near (word k make) p ts
    → At Near Near b (p >>= λ t. q >>= λ x. pure (mk t x)) ts
prefixed {A} k make p c q b mk plain_is bare_is spells law ts first =
    then_at Near Near Near (word k make) b p (λ t. q >>= λ x. pure (mk t x)) ts first
    (λ t ts. seq_at Near Near Near (word k make) c b q (λ t x. pure (mk t x)) t ts (law ts)
    (pure_on Near (pair (word k make) c) b (λ q. mk q.0 q.1) (λ q. plain_is q.0 q.1) (λ q. bare_is q.0 q.1) made)) where
      made : (us : List Token) (q : Token × A) (rest : List Token) → Both (word k make) c us q rest
          → b.spells us (mk q.0 q.1) rest
      made _ _ _ (both _ us rest _ x (this t _ h) j) = spells t us x rest h j

-- a token by itself
pub leaf : {B : Type 0} (k : Terminal) (make : Token → Token) (p : Parser Token) (b : Form B) (mk : Token → B)
    → ((t : Token) → b.plain (mk t) ≡ make t ∷ []) → ((t : Token) → b.bare (mk t) ≡ mk (make t))
    → ((t : Token) (rest : List Token) → terminal t ≡ k → b.spells (t ∷ []) (mk t) rest) → (ts : List Token)
    → At Near Near (word k make) p ts → At Near Near b (p >>= λ t. pure (mk t)) ts
leaf k make p b mk plain_is bare_is spells ts first =
    then_at Near Near Near (word k make) b p (λ t. pure (mk t)) ts first
    (pure_on Near (word k make) b mk plain_is bare_is made) where
      made : (us : List Token) (t : Token) (rest : List Token) → This k us t rest → b.spells us (mk t) rest
      made _ _ _ (this t rest h) = spells t rest h

pub bare_perhaps-of : (x : Option Tree) → bare_perhaps (perhaps_of x) ≡ perhaps_of (option_map bare x)
bare_perhaps-of None = refl
bare_perhaps-of (Some x) = refl

module _ (n depth : ℕ) (inner : Goal → Parser Tree) (deeper : Inner n depth inner) where
  -- ---- fields, and the lvalue of a getline

  pub field_law : Law Near Near (here n rule.lvalue) (e.field_of depth inner)
  unfolding e.field_of terminal_of
  field_law ts =
      prefixed w.Dollar (λ _. sign (codes "$")) (one w.Dollar) (below n rule.dol) (inner goal.Operand)
      (here n rule.lvalue) (λ t x. tree.field t.place x) (λ t x. refl) (λ t x. refl)
      (λ t us x rest h j. g.a_field n t us x rest h j.0 j.1) deeper.operands ts
      (one_law w.Dollar (λ _. sign (codes "$")) refl refl (λ _ _. refl) Near ts)

  lvalue_at : (k : Terminal) (ts : List Token) → ahead ts ≡ k
      → At Near Near (here n rule.lvalue) (e.lvalue_by depth inner k) ts
  lvalue_at w.Name ts sees x r h = named_law n depth inner deeper ts x r h
  lvalue_at w.Dollar ts sees x r h = field_law ts x r h
  lvalue_at _ ts sees x r h = absurd cc

  pub lvalue_law : Law Near Near (here n rule.lvalue) (e.lvalue depth inner)
  unfolding e.lvalue
  lvalue_law ts = choice_at Near (here n rule.lvalue) (e.lvalue_by depth inner) ts (lvalue_at (ahead ts) ts refl)

  abbrev pub targets : Form (Option Tree)
  targets = record { plain = λ x. canon_target (perhaps_of x); bare = option_map bare; spells = g.Target n }

  found : (p : Parser Tree) → Law Near Near (here n rule.lvalue) p → Law Near Near targets (p >>= λ x. pure (Some x))
  found p law ts = then_at Near Near Near (here n rule.lvalue) targets p (λ x. pure (Some x)) ts (law ts)
      (pure_on Near (here n rule.lvalue) targets (λ x. Some x) (λ x. refl) (λ x. refl)
      (λ us x rest h. g.a_target n us x rest h))

  target_at : (k : Terminal) (ts : List Token) → ahead ts ≡ k → At Near Near targets (e.target_by depth inner k) ts
  target_at w.Name ts sees = found (e.named depth inner) (named_law n depth inner deeper) ts
  target_at w.Dollar ts sees = found (e.field_of depth inner) field_law ts
  target_at _ ts sees = pure_at Near targets None ts refl refl
      (g.no_target n ts (ap (λ (k : Terminal). is k w.Name) sees) (ap (λ (k : Terminal). is k w.Dollar) sees))

  pub target_law : Law Near Near targets (e.target depth inner)
  unfolding e.target
  target_law ts = choice_at Near targets (e.target_by depth inner) ts (target_at (ahead ts) ts refl)

  abbrev pub sources : Form (Option Tree)
  sources = record { plain = λ x. canon_file (perhaps_of x); bare = option_map bare; spells = g.Source n }

  pub source_law : Law Near Near sources (e.source depth inner)
  unfolding e.source terminal_of
  source_law ts =
      choice_at Near sources (λ kind. cond (is kind w.Less) (one w.Less >>= λ _. inner goal.File >>= λ x. pure (Some x))
      (pure None)) ts
      (if_at Near Near sources (is (ahead ts) w.Less) (one w.Less >>= λ _. inner goal.File >>= λ x. pure (Some x))
      (pure None) ts
      (λ _. prefixed w.Less (λ _. sign (codes "<")) (one w.Less) (below n rule.inc) (inner goal.File) sources
      (λ _ x. Some x) (λ t x. refl) (λ t x. refl)
      (λ t us x rest h j. g.a_source n t us x rest h j.0 j.1) deeper.files ts
      (one_law w.Less (λ _. sign (codes "<")) refl refl (λ _ _. refl) Near ts))
      (λ h. pure_at Near sources None ts refl refl (g.no_source n ts h)))

  abbrev pub getline_word : Form Token
  getline_word = a_keyword w.Getline (codes "getline")

  pub getline_word_law : (o : Eye) → Law Near o getline_word (one w.Getline)
  unfolding terminal_of
  getline_word_law o = one_law w.Getline (λ _. keyword (codes "getline")) refl refl (λ _ _. refl) o

  getline_spells : (us : List Token) (q : (Token × Option Tree) × Option Tree) (rest : List Token)
      → Both (pair getline_word targets) sources us q rest
      → Spells n rule.prim us (tree.getline q.0.0.place (perhaps_of q.0.1) (perhaps_of q.1)) rest
  getline_spells _ _ _ (both _ vs rest _ y (both _ us _ _ x (this t _ h) j) k) = g.a_getline n t us vs x y rest h j k

  pub getline_law : Law Near Near (here n rule.prim) (e.getline depth inner)
  unfolding e.getline
  getline_law ts =
      then_at Near Near Near getline_word (here n rule.prim) (one w.Getline) (λ t. e.target depth inner
      >>= λ x. e.source depth inner >>= λ y. pure (tree.getline t.place (perhaps_of x) (perhaps_of y))) ts
      (getline_word_law Near ts)
      (λ t ts. seq_at Near Near Near getline_word targets (here n rule.prim) (e.target depth inner)
      (λ t x. e.source depth inner >>= λ y. pure (tree.getline t.place (perhaps_of x) (perhaps_of y))) t ts
      (target_law ts)
      (λ q ts. seq_at Near Near Near (pair getline_word targets) sources (here n rule.prim) (e.source depth inner)
      (λ q y. pure (tree.getline q.0.place (perhaps_of q.1) (perhaps_of y))) q ts (source_law ts)
      (pure_on Near (pair (pair getline_word targets) sources) (here n rule.prim)
      (λ q. tree.getline q.0.0.place (perhaps_of q.0.1) (perhaps_of q.1)) (λ q. refl)
      (λ q. ap (λ (z : _). tree.getline nowhere z (bare_perhaps (perhaps_of q.1))) (bare_perhaps-of q.0.1)
      ∙ ap (λ (z : _). tree.getline nowhere (perhaps_of (option_map bare q.0.1)) z) (bare_perhaps-of q.1))
      getline_spells)))

  -- ---- built-in functions

  abbrev pub builtin_form : Builtin → Form Token
  builtin_form which = word (w.Builtin which) (λ _. builtin_word (builtin_text which))

  one_spells : (which : Builtin) → g.takes_one (parameters which) ≡ true
      → (us : List Token) (q : Token × Tree) (rest : List Token)
      → Both (builtin_form which) (parens (whole n false)) us q rest
      → Spells n rule.prim us (tree.builtin q.0.place which (trees_of (q.1 ∷ []))) rest
  one_spells which one _ _ _ (both _ _ rest _ _ (this t _ h) (enclosed o c us x _ i j (opens, k, _))) =
      g.a_call_of_one n which t o c us x rest one h i j opens k

  pub of_one_law : (which : Builtin) → g.takes_one (parameters which) ≡ true
      → LawOn Near Near (builtin_form which) (here n rule.prim) (λ t. e.of_one depth inner t.place which)
  unfolding e.of_one e.one_argument
  of_one_law which one t ts =
      seq_at Near Near Near (builtin_form which) (parens (whole n false)) (here n rule.prim)
      (e.one_argument depth inner) (λ t x. pure (tree.builtin t.place which (trees_of (x ∷ [])))) t ts
      (parens_law (whole n false) (inner (goal.Expr false)) (deeper.wholes false) ts)
      (pure_on Near (pair (builtin_form which) (parens (whole n false))) (here n rule.prim)
      (λ q. tree.builtin q.0.place which (trees_of (q.1 ∷ [])))
      (λ q. ap (λ (m : List Token). builtin_word (builtin_text which) ∷ sign (codes "(") ∷ m ++ sign (codes ")") ∷ [])
      (append-nil (canon q.1))) (λ q. refl) (one_spells which one))

  two_spells : (which : Builtin) → parameters which ≡ takes.Two
      → (us : List Token) (q : (((Token × Token) × Tree) × Tree) × Token) (rest : List Token)
      → Both (pair (pair (pair (builtin_form which) opening) (whole n false)) (nexts n depth inner deeper)) closing us q
      rest
      → Spells n rule.prim us (tree.builtin q.0.0.0.0.place which (trees_of (q.0.0.1 ∷ q.0.1 ∷ []))) rest
  two_spells which two _ _ _
      (both _ _ rest _ _ (both _ vs _ _ y (both _ us _ _ x (both _ _ _ _ _ (this t _ h) (this o _ i)) (opens, k, _))
      (_, l)) (this c _ j)) = g.a_call_of_two n which t o c us vs x y rest two h i j opens k l

  pub of_two_law : (which : Builtin) → parameters which ≡ takes.Two
      → LawOn Near Near (builtin_form which) (here n rule.prim) (λ t. e.of_two depth inner t.place which)
  unfolding e.of_two
  of_two_law which two t ts =
      seq_at Near Near Near (builtin_form which) opening (here n rule.prim) (one w.OpenParen)
      (λ t _. inner (goal.Expr false) >>= λ x. e.next_in_list depth inner >>= λ y. one w.CloseParen
      >>= λ _. pure (tree.builtin t.place which (trees_of (x ∷ y ∷ [])))) t ts (opening_law Near ts)
      (λ q ts. seq_at Near Near Near (pair (builtin_form which) opening) (whole n false) (here n rule.prim)
      (inner (goal.Expr false)) (λ q x. e.next_in_list depth inner >>= λ y. one w.CloseParen
      >>= λ _. pure (tree.builtin q.0.place which (trees_of (x ∷ y ∷ [])))) q ts (deeper.wholes false ts)
      (λ q ts. seq_at Near Near Near (pair (pair (builtin_form which) opening) (whole n false))
      (nexts n depth inner deeper) (here n rule.prim) (e.next_in_list depth inner) (λ q y. one w.CloseParen
      >>= λ _. pure (tree.builtin q.0.0.place which (trees_of (q.1 ∷ y ∷ [])))) q ts
      (next_law n depth inner deeper ts)
      (λ q ts. seq_at Near Near Near (pair (pair (pair (builtin_form which) opening) (whole n false))
      (nexts n depth inner deeper)) closing (here n rule.prim) (one w.CloseParen)
      (λ q _. pure (tree.builtin q.0.0.0.place which (trees_of (q.0.1 ∷ q.1 ∷ [])))) q ts (closing_law Near ts)
      (pure_on Near (pair (pair (pair (pair (builtin_form which) opening) (whole n false)) (nexts n depth inner deeper))
      closing) (here n rule.prim) (λ q. tree.builtin q.0.0.0.0.place which (trees_of (q.0.0.1 ∷ q.0.1 ∷ [])))
      (λ q. ap (λ (m : List Token). (builtin_word (builtin_text which) ∷ sign (codes "(") ∷ canon q.0.0.1 ++ m)
      ++ sign (codes ")") ∷ []) (append-nil (plain_comma q.0.1))) (λ q. refl) (two_spells which two)))))

  -- [ , expr ]
  abbrev pub furthers : Form (Option Tree)
  furthers = record { plain = λ x. canon_comma (perhaps_of x); bare = option_map bare; spells = g.Further (suc n) }

  pub further_law : Law Near Near furthers (e.perhaps_next depth inner)
  unfolding e.perhaps_next
  further_law ts =
      choice_at Near furthers (λ kind. cond (is kind w.Comma) (e.next_in_list depth inner >>= λ x. pure (Some x))
      (pure None)) ts
      (if_at Near Near furthers (is (ahead ts) w.Comma) (e.next_in_list depth inner >>= λ x. pure (Some x))
      (pure None) ts
      (λ _. then_at Near Near Near (nexts n depth inner deeper) furthers (e.next_in_list depth inner)
      (λ x. pure (Some x)) ts (next_law n depth inner deeper ts)
      (pure_on Near (nexts n depth inner deeper) furthers (λ x. Some x) (λ x. refl) (λ x. refl)
      (λ us x rest h. g.further (suc n) us x rest h.1)))
      (λ _. pure_at Near furthers None ts refl refl (g.no_further (suc n) ts)))

  listed-of : (z : Option Tree) → canon_commas (trees_of (looks.listed z)) ≡ canon_comma (perhaps_of z)
  listed-of None = refl
  listed-of (Some z) = append-nil (plain_comma z)

  bare-listed : (x y : Tree) (z : Option Tree) → bare_all (trees_of (x ∷ y ∷ looks.listed z))
      ≡ trees_of (bare x ∷ bare y ∷ looks.listed (option_map bare z))
  bare-listed x y None = refl
  bare-listed x y (Some z) = refl

  pub last_next_law : Law Near Near (closes furthers) (e.last_next depth inner)
  unfolding e.last_next
  last_next_law = closes_law furthers (e.perhaps_next depth inner) further_law

  abbrev longer_parts : Builtin → Form ((((Token × Token) × Tree) × Tree) × Option Tree)
  longer_parts which = pair (pair (pair (pair (builtin_form which) opening) (whole n false))
      (nexts n depth inner deeper)) (closes furthers)

  longer_spells : (which : Builtin) → parameters which ≡ takes.TwoOrThree
      → (us : List Token) (q : (((Token × Token) × Tree) × Tree) × Option Tree) (rest : List Token)
      → Both (pair (pair (pair (builtin_form which) opening) (whole n false)) (nexts n depth inner deeper))
      (closes furthers) us q rest
      → Spells n rule.prim us (tree.builtin q.0.0.0.0.place which (trees_of (q.0.0.1 ∷ q.0.1 ∷ looks.listed q.1))) rest
  longer_spells which longer _ _ _
      (both _ _ rest _ _ (both _ vs _ _ y (both _ us _ _ x (both _ _ _ _ _ (this t _ h) (this o _ i)) (opens, k, _))
      (_, l)) (closed c ws z _ j m)) =
      let same : (ws ++ c ∷ []) ++ rest ≡ ws ++ c ∷ rest = append_assoc ws (c ∷ []) rest in
      subst (λ (v : List Token). Spells n rule.prim v (tree.builtin t.place which (trees_of (x ∷ y ∷ looks.listed z)))
      rest) (append_assoc ((t ∷ o ∷ us) ++ vs) ws (c ∷ []))
      (g.a_call_of_two_or_three n which t o c us vs ws x y z rest longer h i j opens
      (subst (λ (v : List Token). Spells (suc n) (rule.expr false) us x (vs ++ v)) same k)
      (subst (λ (v : List Token). Next (suc n) vs y v) same l) m)

  pub of_two_or_three_law : (which : Builtin) → parameters which ≡ takes.TwoOrThree
      → LawOn Near Near (builtin_form which) (here n rule.prim) (λ t. e.of_two_or_three depth inner t.place which)
  unfolding e.of_two_or_three
  of_two_or_three_law which longer t ts =
      seq_at Near Near Near (builtin_form which) opening (here n rule.prim) (one w.OpenParen)
      (λ t _. inner (goal.Expr false) >>= λ x. e.next_in_list depth inner >>= λ y. e.last_next depth inner
      >>= λ z. pure (tree.builtin t.place which (trees_of (x ∷ y ∷ looks.listed z)))) t ts (opening_law Near ts)
      (λ q ts. seq_at Near Near Near (pair (builtin_form which) opening) (whole n false) (here n rule.prim)
      (inner (goal.Expr false)) (λ q x. e.next_in_list depth inner >>= λ y. e.last_next depth inner
      >>= λ z. pure (tree.builtin q.0.place which (trees_of (x ∷ y ∷ looks.listed z)))) q ts
      (deeper.wholes false ts)
      (λ q ts. seq_at Near Near Near (pair (pair (builtin_form which) opening) (whole n false))
      (nexts n depth inner deeper) (here n rule.prim) (e.next_in_list depth inner) (λ q y. e.last_next depth inner
      >>= λ z. pure (tree.builtin q.0.0.place which (trees_of (q.1 ∷ y ∷ looks.listed z)))) q ts
      (next_law n depth inner deeper ts)
      (λ q ts. seq_at Near Near Near (pair (pair (pair (builtin_form which) opening) (whole n false))
      (nexts n depth inner deeper)) (closes furthers) (here n rule.prim) (e.last_next depth inner)
      (λ q z. pure (tree.builtin q.0.0.0.place which (trees_of (q.0.1 ∷ q.1 ∷ looks.listed z)))) q ts
      (last_next_law ts)
      (pure_on Near (longer_parts which) (here n rule.prim) (λ q. tree.builtin q.0.0.0.0.place which
      (trees_of (q.0.0.1 ∷ q.0.1 ∷ looks.listed q.1)))
      (λ q. ap (λ (m : List Token). (builtin_word (builtin_text which) ∷ sign (codes "(") ∷ m) ++ sign (codes ")") ∷ [])
      (ap (λ (m : List Token). canon q.0.0.1 ++ (plain_comma q.0.1 ++ m)) (listed-of q.1)
      ∙ sym (append_assoc (canon q.0.0.1) (plain_comma q.0.1) (canon_comma (perhaps_of q.1))))
      ∙ append_assoc (builtin_word (builtin_text which) ∷ sign (codes "(") ∷ (canon q.0.0.1 ++ plain_comma q.0.1))
      (canon_comma (perhaps_of q.1)) (sign (codes ")") ∷ []))
      (λ q. ap (tree.builtin nowhere which) (bare-listed q.0.0.1 q.0.1 q.1)) (longer_spells which longer)))))
