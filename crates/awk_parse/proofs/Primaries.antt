-- The laws of what is read up to unary.
use Rattle.std.proofs.Common.{◌≡◌, ℕ, suc, true, false, cond, Option, Some, None, List, [], ◌∷◌, ◌++◌, codes, refl, sym}
use Rattle.std.proofs.Common.{ap, subst, ◌∙◌, append_assoc}
use Rattle.awk_tokens.specs.declared.token.Token.{Token}
use Rattle.awk_tokens.specs.declared.kinds.TokenKind.TheVariants as kind
use Rattle.awk_tree.specs.Looks.{is_lvalue, name_of}
use Rattle.awk_tree.specs.Looks as looks
use Rattle.awk_tree.specs.declared.operators.Sign.{Sign}
use Rattle.awk_tokens.specs.declared.terminals.Step.{Step}
use Rattle.awk_tree.specs.declared.goals.Goal.{Goal}
use Rattle.awk_tree.specs.declared.goals.Goal.TheVariants as goal
use Rattle.awk_tokens.specs.declared.terminals.Terminal.{Terminal}
use Rattle.awk_tokens.specs.declared.terminals.Terminal.TheVariants as w
use Rattle.awk_tree.specs.Tree as tree
use Rattle.awk_tree.specs.Tree.{Tree, Trees, trees_of, perhaps_of}
use Rattle.awk_tree.specs.Terminals.{terminal, terminal_of, is, sign, token, ahead}
use Rattle.awk_tree.specs.Input.{Parser, ◌>>=◌, any, one, pure}
use Rattle.awk_tree.specs.Expressions as e
use Rattle.awk_tree.specs.Canon.{bare, bare_name}
use Rattle.awk_parse.specs.Rules as rule
use Rattle.awk_parse.specs.Rules.{Rule}
use Rattle.awk_parse.specs.Spells as g
use Rattle.awk_parse.specs.Spells.{Spells, Opens, Newlines, Listed, Commas, Next, Arguments}
use Rattle.awk_parse.proofs.Law.{Eye, Near, Form, At, Law, GoesAt, LawOn, then_at, seq_at, Both, both, pair, pure_on}
use Rattle.awk_parse.proofs.Law.{weaker_at, choice_at, choice_on, if_on, this, word, any_at, one_law}
use Rattle.awk_parse.proofs.Starts.{step_is}
use Rattle.awk_parse.proofs.Words.{opening, closing, opening_law, closing_law}
use Rattle.awk_tree.specs.declared.operators.Sign.TheVariants as prefix
use Rattle.awk_tree.specs.Terminals.{step_text}
use Rattle.awk_tree.specs.Canon.{prefix_text}
use Rattle.awk_parse.proofs.TerminalLemmas.{steady}
use Rattle.awk_parse.proofs.Law.{if_left}
use Rattle.awk_parse.proofs.Operands.{here, below, whole, Inner, bare_all-of, enclosed, parens, argument_form}
use Rattle.awk_parse.proofs.Operands.{arguments_law, named_law}
use Rattle.awk_parse.proofs.Builtins.{prefixed, leaf, field_law, getline_law}
use Rattle.awk_parse.proofs.MoreBuiltins.{builtin_law}

-- ---- what is known besides

abbrev pub knowing : {A : Type 0} → Form A → (A → List Token → Type 0) → Form A
knowing a F = record { plain = a.plain; bare = a.bare; spells = λ us x rest. a.spells us x rest × F x rest }

pub known : {A B : Type 0} (i o : Eye) (a : Form A) (b : Form B) (F : A → List Token → Type 0) (f : A → Parser B)
    (x : A) (ts : List Token) → F x ts → GoesAt i o (knowing a F) b f x ts → GoesAt i o a b f x ts
known i o a b F f x ts fact law y r h =
    let q = law y r h in
    record {
      used = q.used;
      parts = q.parts;
      spelled = λ us k. q.spelled us (k, fact);
      more = q.more;
      whole = q.whole;
      seen = q.seen;
      reads = q.reads;
    }

-- what stays as it is
pub stays : {A : Type 0} (o : Eye) (a b : Form A) (x : A) (ts : List Token) → ((x : A) → b.plain x ≡ a.plain x)
    → ((x : A) → b.bare x ≡ a.bare x) → ((us : List Token) (x : A) (rest : List Token) → a.spells us x rest
    → b.spells us x rest) → GoesAt o o a b (λ x. pure x) x ts
stays o a b x ts plain_is bare_is spells = pure_on o a b (λ x. x) plain_is bare_is spells x ts

-- a token behind what was read, and what stands behind the token
pub infix_on : {A B C : Type 0} (a : Form A) (k : Terminal) (make : Token → Token) (p : Parser Token) (c : Form C)
    (q : Parser C) (b : Form B) (mk : A → Token → C → B)
    → ((x : A) (t : Token) (y : C) → b.plain (mk x t y) ≡ a.plain x ++ make t ∷ c.plain y)
    → ((x : A) (t : Token) (y : C) → b.bare (mk x t y) ≡ mk (a.bare x) (make t) (c.bare y))
    → ((t : Token) (us vs : List Token) (x : A) (y : C) (rest : List Token) → terminal t ≡ k
    → a.spells us x (t ∷ vs ++ rest) → c.spells vs y rest → b.spells (us ++ t ∷ vs) (mk x t y) rest)
    → Law Near Near c q → (x : A) (ts : List Token) → At Near Near (word k make) p ts
    → GoesAt Near Near a b (λ x. p >>= λ t. q >>= λ y. pure (mk x t y)) x ts
infix_on {A} {C = C} a k make p c q b mk plain_is bare_is spells law x ts first =
    seq_at Near Near Near a (word k make) b p (λ x t. q >>= λ y. pure (mk x t y)) x ts first
    (λ s ts. seq_at Near Near Near (pair a (word k make)) c b q (λ s y. pure (mk s.0 s.1 y)) s ts (law ts)
    (pure_on Near (pair (pair a (word k make)) c) b (λ s. mk s.0.0 s.0.1 s.1) (λ s. plain_is s.0.0 s.0.1 s.1
    ∙ sym (append_assoc (a.plain s.0.0) (make s.0.1 ∷ []) (c.plain s.1))) (λ s. bare_is s.0.0 s.0.1 s.1) made))
  where
    made : (us : List Token) (s : (A × Token) × C) (rest : List Token) → Both (pair a (word k make)) c us s rest
        → b.spells us (mk s.0.0 s.0.1 s.1) rest
    made _ _ _ (both _ vs rest _ y (both us _ _ x _ j (this t _ h)) i) =
        subst (λ (m : List Token). b.spells m (mk x t y) rest) (sym (append_assoc us (t ∷ []) vs))
        (spells t us vs x y rest h j i)

-- ---- signs before an operand

abbrev pub prefix_terminal : Sign → Terminal
prefix_terminal prefix.Not = w.Not
prefix_terminal prefix.Plus = w.Plus
prefix_terminal prefix.Minus = w.Minus

prefix_steady : (which : Sign) → steady (prefix_terminal which) ≡ true
prefix_steady prefix.Not = refl
prefix_steady prefix.Plus = refl
prefix_steady prefix.Minus = refl

prefix_spelled : (which : Sign) → terminal (sign (prefix_text which)) ≡ prefix_terminal which
unfolding terminal_of
prefix_spelled prefix.Not = refl
prefix_spelled prefix.Plus = refl
prefix_spelled prefix.Minus = refl

prefix_again : (which : Sign) → looks.sign (prefix_terminal which) ≡ Some which
prefix_again prefix.Not = refl
prefix_again prefix.Plus = refl
prefix_again prefix.Minus = refl

prefix_found : (k : Terminal) (which : Sign) → looks.sign k ≡ Some which → k ≡ prefix_terminal which
prefix_found w.Not prefix.Not h = refl
prefix_found w.Plus prefix.Plus h = refl
prefix_found w.Minus prefix.Minus h = refl
prefix_found _ _ h = absurd cc

step_found : (k : Terminal) (which : Step) → looks.step k ≡ Some which → k ≡ w.Step which
step_found (w.Step s) which h = ap w.Step cc
step_found _ which h = absurd cc

pub is_lvalue-bare : (x : Tree) → is_lvalue (bare x) ≡ is_lvalue x
is_lvalue-bare (tree.number p x) = refl
is_lvalue-bare (tree.quoted p x) = refl
is_lvalue-bare (tree.pattern p x) = refl
is_lvalue-bare (tree.name n) = refl
is_lvalue-bare (tree.element n xs) = refl
is_lvalue-bare (tree.field p x) = refl
is_lvalue-bare _ = refl

module _ (n depth : ℕ) (inner : Goal → Parser Tree) (deeper : Inner n depth inner) where
  paren_spells : (us : List Token) (q : (Token × Tree) × Token) (rest : List Token)
      → Both (pair opening (whole n false)) closing us q rest
      → Spells n rule.prim us (tree.paren q.0.0.place q.0.1) rest
  paren_spells _ _ _ (both _ _ rest _ _ (both _ us _ _ x (this o _ h) (opens, k, _)) (this c _ j)) =
      g.a_paren n o c us x rest h j opens k

  in_paren_law : Law Near Near (here n rule.prim) (e.in_paren depth inner)
  unfolding e.in_paren
  in_paren_law ts =
      then_at Near Near Near opening (here n rule.prim) (one w.OpenParen) (λ o. inner (goal.Expr false)
      >>= λ x. one w.CloseParen >>= λ _. pure (tree.paren o.place x)) ts (opening_law Near ts)
      (λ o ts. seq_at Near Near Near opening (whole n false) (here n rule.prim) (inner (goal.Expr false))
      (λ o x. one w.CloseParen >>= λ _. pure (tree.paren o.place x)) o ts (deeper.wholes false ts)
      (λ q ts. seq_at Near Near Near (pair opening (whole n false)) closing (here n rule.prim) (one w.CloseParen)
      (λ q _. pure (tree.paren q.0.place q.1)) q ts (closing_law Near ts)
      (pure_on Near (pair (pair opening (whole n false)) closing) (here n rule.prim) (λ q. tree.paren q.0.0.place q.0.1)
      (λ q. refl) (λ q. refl) paren_spells)))

  call_spells : (t : Token) (us : List Token) (xs : List Tree) (rest : List Token) → terminal t ≡ w.CallName
      → (parens (argument_form n depth inner deeper)).spells us xs rest
      → Spells n rule.prim (t ∷ us) (tree.call (name_of t) (trees_of xs)) rest
  call_spells t _ _ _ h (enclosed o c us xs rest i j (opens, k)) = g.a_call n t o c us xs rest h i j opens k

  call_law : Law Near Near (here n rule.prim) (e.call_of depth inner)
  unfolding e.call_of terminal_of
  call_law ts =
      prefixed w.CallName (λ t. token kind.CallName t.text) (one w.CallName)
      (parens (argument_form n depth inner deeper)) (e.arguments depth inner) (here n rule.prim)
      (λ t xs. tree.call (name_of t) (trees_of xs))
      (λ t xs. refl) (λ t xs. ap (tree.call (bare_name (name_of t))) (bare_all-of xs)) call_spells
      (arguments_law n depth inner deeper) ts (one_law w.CallName (λ t. token kind.CallName t.text) refl refl
      (λ _ _. refl) Near ts)

  prim_at : (k : Terminal) (ts : List Token) → ahead ts ≡ k → At Near Near (here n rule.prim) (e.prim_by depth inner k)
      ts
  unfolding terminal_of
  prim_at w.Number ts sees = leaf w.Number (λ t. token kind.Number t.text) any (here n rule.prim)
      (λ t. tree.number t.place t.text) (λ t. refl) (λ t. refl) (λ t rest h. g.a_number n t rest h) ts
      (any_at w.Number (λ t. token kind.Number t.text) refl (λ _ _. refl) Near ts sees)
  prim_at w.Quoted ts sees = leaf w.Quoted (λ t. token kind.Quoted t.text) any (here n rule.prim)
      (λ t. tree.quoted t.place t.text) (λ t. refl) (λ t. refl) (λ t rest h. g.a_string n t rest h) ts
      (any_at w.Quoted (λ t. token kind.Quoted t.text) refl (λ _ _. refl) Near ts sees)
  prim_at w.Pattern ts sees = leaf w.Pattern (λ t. token kind.Pattern t.text) any (here n rule.prim)
      (λ t. tree.pattern t.place t.text) (λ t. refl) (λ t. refl) (λ t rest h. g.an_ere n t rest h) ts
      (any_at w.Pattern (λ t. token kind.Pattern t.text) refl (λ _ _. refl) Near ts sees)
  prim_at w.Name ts sees = weaker_at Near Near (here n rule.lvalue) (here n rule.prim) (e.named depth inner) ts
      (λ _. refl) (λ _. refl) (λ us x rest h. g.an_lvalue n us x rest h) (named_law n depth inner deeper ts)
  prim_at w.Dollar ts sees = weaker_at Near Near (here n rule.lvalue) (here n rule.prim) (e.field_of depth inner) ts
      (λ _. refl) (λ _. refl) (λ us x rest h. g.an_lvalue n us x rest h) (field_law n depth inner deeper ts)
  prim_at w.OpenParen ts sees = in_paren_law ts
  prim_at w.CallName ts sees = call_law ts
  prim_at (w.Builtin which) ts sees = builtin_law n depth inner deeper which ts sees
  prim_at w.Getline ts sees = getline_law n depth inner deeper ts
  prim_at _ ts sees = λ x r h. absurd cc

  pub prim_law : Law Near Near (here n rule.prim) (e.prim depth inner)
  unfolding e.prim
  prim_law ts = choice_at Near (here n rule.prim) (e.prim_by depth inner) ts (prim_at (ahead ts) ts refl)

  -- ---- signs and steps before an operand

  step_before_law : (r : Rule) → ((which : Step) (t : Token) (us : List Token) (x : Tree) (rest : List Token)
      → looks.step (terminal t) ≡ Some which → Opens n → Spells (suc n) rule.lvalue us x rest
      → Spells n r (t ∷ us) (tree.before t.place which x) rest)
      → (which : Step) (ts : List Token) → looks.step (ahead ts) ≡ Some which
      → At Near Near (here n r) (e.step_before depth inner which) ts
  unfolding e.step_before
  step_before_law r spells which ts sees =
      prefixed (w.Step which) (λ _. sign (step_text which)) any (below n rule.lvalue) (inner goal.Lvalue) (here n r)
      (λ t x. tree.before t.place which x) (λ t x. refl) (λ t x. refl)
      (λ t us x rest h j. spells which t us x rest (ap looks.step h) j.0 j.1) deeper.lvalues ts
      (any_at (w.Step which) (λ _. sign (step_text which)) refl (λ _ _. step_is which) Near ts
      (step_found (ahead ts) which sees))

  signed_law : (r : Rule) (rest : Goal) (deep_rule : Rule) → Law Near Near (below n deep_rule) (inner rest)
      → ((which : Sign) (t : Token) (us : List Token) (x : Tree) (rest : List Token)
      → looks.sign (terminal t) ≡ Some which → Opens n → Spells (suc n) deep_rule us x rest
      → Spells n r (t ∷ us) (tree.signed t.place which x) rest)
      → (which : Sign) (ts : List Token) → looks.sign (ahead ts) ≡ Some which
      → At Near Near (here n r) (e.signed_by depth inner which rest) ts
  unfolding e.signed_by
  signed_law r rest deep_rule law spells which ts sees =
      prefixed (prefix_terminal which) (λ _. sign (prefix_text which)) any (below n deep_rule) (inner rest) (here n r)
      (λ t x. tree.signed t.place which x) (λ t x. refl) (λ t x. refl)
      (λ t us x rest h j. spells which t us x rest (ap looks.sign h ∙ prefix_again which) j.0 j.1) law ts
      (any_at (prefix_terminal which) (λ _. sign (prefix_text which)) (prefix_steady which)
      (λ _ _. prefix_spelled which) Near ts (prefix_found (ahead ts) which sees))

  step_or_prim_at : (o : Option Step) (ts : List Token) → looks.step (ahead ts) ≡ o
      → At Near Near (here n rule.dol) (e.step_or_prim depth inner o) ts
  step_or_prim_at (Some which) ts sees =
      step_before_law rule.dol (λ which t us x rest h i j. g.a_step_dol n which t us x rest h i j) which ts sees
  step_or_prim_at None ts sees = weaker_at Near Near (here n rule.prim) (here n rule.dol) (e.prim depth inner) ts
      (λ _. refl) (λ _. refl) (λ us x rest h. g.only_prim n us x rest h) (prim_law ts)

  operand_at : (o : Option Sign) (ts : List Token) → looks.sign (ahead ts) ≡ o
      → At Near Near (here n rule.dol) (e.operand_by depth inner o (ahead ts)) ts
  operand_at (Some which) ts sees = signed_law rule.dol goal.Operand rule.dol deeper.operands
      (λ which t us x rest h i j. g.a_signed_dol n which t us x rest h i j) which ts sees
  operand_at None ts sees = step_or_prim_at (looks.step (ahead ts)) ts refl

  pub operand_law : Law Near Near (here n rule.dol) (e.operand depth inner)
  unfolding e.operand
  operand_law ts = choice_at Near (here n rule.dol) (λ kind. e.operand_by depth inner (looks.sign kind) kind) ts
      (operand_at (looks.sign (ahead ts)) ts refl)

  -- ---- steps behind an lvalue

  after_spells : (which : Step) (us : List Token) (q : Tree × Token) (rest : List Token)
      → Both (knowing (here n rule.prim) (λ x _. is_lvalue x ≡ true))
      (word (w.Step which) (λ _. sign (step_text which))) us q rest
      → Spells n rule.inc us (tree.after q.0 q.1.place which) rest
  after_spells which _ _ _ (both us _ rest x _ (h, l) (this t _ j)) = g.a_step_after n which t us x rest h l
      (ap looks.step j)

  after_at : (o : Option Step) (x : Tree) (ts : List Token) → looks.step (ahead ts) ≡ o
      → GoesAt Near Near (here n rule.prim) (here n rule.inc) (λ x. e.after_by depth inner x o) x ts
  after_at (Some which) x ts sees =
      if_left Near Near (here n rule.prim) (here n rule.inc) is_lvalue
      (λ x. any >>= λ t. pure (tree.after x t.place which)) (λ x. pure x) x ts (is_lvalue-bare x)
      (λ l. known Near Near (here n rule.prim) (here n rule.inc) (λ x _. is_lvalue x ≡ true)
      (λ x. any >>= λ t. pure (tree.after x t.place which)) x ts l
      (seq_at Near Near Near (knowing (here n rule.prim) (λ x _. is_lvalue x ≡ true))
      (word (w.Step which) (λ _. sign (step_text which))) (here n rule.inc) any
      (λ x t. pure (tree.after x t.place which)) x ts
      (any_at (w.Step which) (λ _. sign (step_text which)) refl (λ _ _. step_is which) Near ts
      (step_found (ahead ts) which sees))
      (pure_on Near (pair (knowing (here n rule.prim) (λ x _. is_lvalue x ≡ true))
      (word (w.Step which) (λ _. sign (step_text which)))) (here n rule.inc) (λ q. tree.after q.0 q.1.place which)
      (λ q. refl) (λ q. refl) (after_spells which))))
      (λ l. known Near Near (here n rule.prim) (here n rule.inc) (λ x _. is_lvalue x ≡ false) (λ x. pure x) x ts l
      (stays Near (knowing (here n rule.prim) (λ x _. is_lvalue x ≡ false)) (here n rule.inc) x ts (λ _. refl)
      (λ _. refl) (λ us x rest h. g.no_step n us x rest h.0 (λ t. absurd (let both : true ≡ false = sym t ∙ h.1 in
      cc)))))
  after_at None x ts sees =
      known Near Near (here n rule.prim) (here n rule.inc) (λ x rest. looks.step (ahead rest) ≡ None) (λ x. pure x) x ts
      sees
      (stays Near (knowing (here n rule.prim) (λ x rest. looks.step (ahead rest) ≡ None)) (here n rule.inc) x ts
      (λ _. refl) (λ _. refl) (λ us x rest h. g.no_step n us x rest h.0 (λ _. h.1)))

  step_after_law : LawOn Near Near (here n rule.prim) (here n rule.inc) (e.step_after depth inner)
  unfolding e.step_after
  step_after_law x ts = choice_on Near (here n rule.prim) (here n rule.inc) (λ x kind. e.after_by depth inner x
      (looks.step kind)) x ts (after_at (looks.step (ahead ts)) x ts refl)

  inc_at : (o : Option Step) (ts : List Token) → looks.step (ahead ts) ≡ o
      → At Near Near (here n rule.inc) (e.inc_by depth inner o) ts
  inc_at (Some which) ts sees = step_before_law rule.inc (λ which t us x rest h i j. g.a_step_before n which t us x rest
      h i j) which ts sees
  inc_at None ts sees = then_at Near Near Near (here n rule.prim) (here n rule.inc) (e.prim depth inner)
      (e.step_after depth inner) ts (prim_law ts) step_after_law

  pub inc_law : Law Near Near (here n rule.inc) (e.inc depth inner)
  unfolding e.inc
  inc_law ts = choice_at Near (here n rule.inc) (λ kind. e.inc_by depth inner (looks.step kind)) ts
      (inc_at (looks.step (ahead ts)) ts refl)

  -- ---- powers

  pub power_rest_law : LawOn Near Near (here n rule.inc) (here n rule.pow) (e.power_rest depth inner)
  unfolding e.power_rest terminal_of
  power_rest_law x ts =
      choice_on Near (here n rule.inc) (here n rule.pow)
      (λ x kind. cond (is kind w.Caret) (one w.Caret >>= λ t. inner goal.Unary
      >>= λ y. pure (tree.power x t.place y)) (pure x)) x ts
      (if_on Near Near (here n rule.inc) (here n rule.pow) (is (ahead ts) w.Caret)
      (λ x. one w.Caret >>= λ t. inner goal.Unary >>= λ y. pure (tree.power x t.place y)) (λ x. pure x) x ts
      (λ _. infix_on (here n rule.inc) w.Caret (λ _. sign (codes "^")) (one w.Caret) (below n rule.unary)
      (inner goal.Unary) (here n rule.pow) (λ x t y. tree.power x t.place y) (λ x t y. refl) (λ x t y. refl)
      (λ t us vs x y rest h j i. g.a_power n t us vs x y rest h j i.0 i.1) deeper.unaries x ts
      (one_law w.Caret (λ _. sign (codes "^")) refl refl (λ _ _. refl) Near ts))
      (λ _. stays Near (here n rule.inc) (here n rule.pow) x ts (λ _. refl) (λ _. refl)
      (λ us x rest h. g.only_inc n us x rest h)))

  unary_at : (o : Option Sign) (ts : List Token) → looks.sign (ahead ts) ≡ o
      → At Near Near (here n rule.unary) (e.unary_by depth inner o) ts
  unary_at (Some which) ts sees = signed_law rule.unary goal.Unary rule.unary deeper.unaries
      (λ which t us x rest h i j. g.a_signed n which t us x rest h i j) which ts sees
  unary_at None ts sees =
      weaker_at Near Near (here n rule.pow) (here n rule.unary) (e.inc depth inner >>= e.power_rest depth inner) ts
      (λ _. refl) (λ _. refl) (λ us x rest h. g.only_pow n us x rest h)
      (then_at Near Near Near (here n rule.inc) (here n rule.pow) (e.inc depth inner) (e.power_rest depth inner) ts
      (inc_law ts) power_rest_law)

  pub unary_law : Law Near Near (here n rule.unary) (e.unary depth inner)
  unfolding e.unary
  unary_law ts = choice_at Near (here n rule.unary) (λ kind. e.unary_by depth inner (looks.sign kind)) ts
      (unary_at (looks.sign (ahead ts)) ts refl)
