-- The laws of expressions, and of all rules at each depth.
use Rattle.std.proofs.Common.{◌≡◌, ℕ, suc, ◌+◌, zero, Bool, true, false, cond, Option, Some, None, List, [], ◌∷◌, ◌++◌}
use Rattle.std.proofs.Common.{map, Ok, codes, refl, sym, ap, subst, ◌∙◌, ◌⊎◌, inl, inr, arith, append_assoc}
use Rattle.std.proofs.lemmas.List.{append-nil}
use Rattle.std.specs.List.{flat_map}
use Rattle.awk_tokens.specs.declared.token.Token.{Token}
use Rattle.awk_tree.specs.Looks.{is_lvalue, name_of}
use Rattle.awk_tree.specs.Looks as looks
use Rattle.awk_tree.specs.declared.goals.Goal.{Goal}
use Rattle.awk_tree.specs.declared.goals.Goal.TheVariants as goal
use Rattle.awk_tokens.specs.declared.terminals.Terminal.{Terminal}
use Rattle.awk_tokens.specs.declared.terminals.Terminal.TheVariants as w
use Rattle.awk_tree.specs.Tree as tree
use Rattle.awk_tree.specs.Tree.{Tree, Trees, trees_of, perhaps_of}
use Rattle.awk_tree.specs.Terminals.{terminal, terminal_of, is, sign, ahead, nowhere}
use Rattle.awk_tree.specs.Input.{Parser, ◌>>=◌, any, one, pure, skipped}
use Rattle.awk_tree.specs.Expressions as e
use Rattle.awk_tree.specs.Canon.{canon, bare}
use Rattle.awk_parse.specs.Rules as rule
use Rattle.awk_parse.specs.Rules.{Rule}
use Rattle.awk_parse.specs.Spells as g
use Rattle.awk_parse.specs.Spells.{Spells, Opens, Newlines, Listed, Commas, Next, Arguments}
use Rattle.awk_parse.proofs.Law.{Eye, Near, Behind, Form, Law, GoesAt, LawOn, then_at, seq_at, last_at, Both, both}
use Rattle.awk_parse.proofs.Law.{pair, pure_on, weaker_at, choice_at, choice_on, if_at, if_on, This, this, any_at}
use Rattle.awk_parse.proofs.Law.{one_law, Lines, lines, behind, skipped_law}
use Rattle.awk_parse.proofs.Many.{chain, many_law}
use Rattle.awk_parse.proofs.Words.{a_sign, opening, closing, opening_law, closing_law}
use Rattle.awk_tree.specs.declared.names.Member.{Member}
use Rattle.awk_tokens.specs.declared.terminals.Assignment.{Assignment}
use Rattle.awk_tree.specs.Terminals.{assignment_text}
use Rattle.awk_tree.specs.Canon.{canon_ands, canon_ors, bare_member, canon_members}
use Rattle.awk_parse.specs.Spells.{Names, Ands, Ors}
use Rattle.awk_parse.proofs.TerminalLemmas.{ahead_is}
use Rattle.awk_parse.proofs.Law.{on_on, via, via_at, if_left}
use Rattle.awk_parse.proofs.Words.{names, names_law, in_form, in_name_law, in_one, canon_members-of}
use Rattle.awk_parse.proofs.Operands.{Enclosed, enclosed, tree_form, here, below, whole, stops, Inner, plain_comma}
use Rattle.awk_parse.proofs.Operands.{canon_commas-of, bare_all-of, no_line, commas, commas_law}
use Rattle.awk_parse.proofs.Builtins.{lvalue_law}
use Rattle.awk_parse.proofs.Primaries.{knowing, known, stays, infix_on, is_lvalue-bare, inc_law, power_rest_law}
use Rattle.awk_parse.proofs.Primaries.{unary_law, operand_law}
use Rattle.awk_parse.proofs.Chains.{chain_on, unary_rest_law}
use Rattle.awk_parse.proofs.Starts.{assignment_is}

-- ---- lists behind one another

group_parts : (us vs ms ws : List Token) (o c : Token) → ((((o ∷ us) ++ vs) ++ c ∷ []) ++ ms) ++ ws ≡ o ∷ (us ++ vs)
    ++ c ∷ (ms ++ ws)
group_parts us vs ms ws o c = simp append_assoc

choice_parts : (us vs ws : List Token) (t u : Token) → (us ++ (t ∷ vs ++ u ∷ [])) ++ ws ≡ us ++ t ∷ (vs ++ u ∷ ws)
choice_parts us vs ws t u = simp append_assoc

choice_after : (vs ws rest : List Token) (t u : Token) → (t ∷ vs ++ u ∷ []) ++ (ws ++ rest)
    ≡ t ∷ (vs ++ u ∷ (ws ++ rest))
choice_after vs ws rest t u = simp append_assoc

choice_plain : (us vs ws : List Token) (t u : Token) → us ++ t ∷ vs ++ u ∷ ws ≡ (us ++ (t ∷ vs ++ u ∷ [])) ++ ws
choice_plain us vs ws t u = simp append_assoc

-- ---- what the chains compute to

abbrev plain_and : Tree → List Token
plain_and x = sign (codes "&&") ∷ canon x

abbrev plain_or : Tree → List Token
plain_or x = sign (codes "||") ∷ canon x

canon_ands-of : (xs : List Tree) → canon_ands (trees_of xs) ≡ flat_map plain_and xs
canon_ands-of [] = refl
canon_ands-of (x ∷ xs) = ap (λ (m : List Token). sign (codes "&&") ∷ canon x ++ m) (canon_ands-of xs)

canon_ors-of : (xs : List Tree) → canon_ors (trees_of xs) ≡ flat_map plain_or xs
canon_ors-of [] = refl
canon_ors-of (x ∷ xs) = ap (λ (m : List Token). sign (codes "||") ∷ canon x ++ m) (canon_ors-of xs)

canon-and_of : (l : Tree) (xs : List Tree) → canon (looks.and_of l xs) ≡ canon l ++ flat_map plain_and xs
canon-and_of l [] = sym (append-nil (canon l))
canon-and_of l (x ∷ xs) = ap (λ (m : List Token). canon l ++ m) (canon_ands-of (x ∷ xs))

canon-or_of : (l : Tree) (xs : List Tree) → canon (looks.or_of l xs) ≡ canon l ++ flat_map plain_or xs
canon-or_of l [] = sym (append-nil (canon l))
canon-or_of l (x ∷ xs) = ap (λ (m : List Token). canon l ++ m) (canon_ors-of (x ∷ xs))

bare-and_of : (l : Tree) (xs : List Tree) → bare (looks.and_of l xs) ≡ looks.and_of (bare l) (map bare xs)
bare-and_of l [] = refl
bare-and_of l (x ∷ xs) = ap (tree.and (bare l)) (bare_all-of (x ∷ xs))

bare-or_of : (l : Tree) (xs : List Tree) → bare (looks.or_of l xs) ≡ looks.or_of (bare l) (map bare xs)
bare-or_of l [] = refl
bare-or_of l (x ∷ xs) = ap (tree.or (bare l)) (bare_all-of (x ∷ xs))

assignment_found : (k : Terminal) (how : Assignment) → looks.assignment k ≡ Some how → k ≡ w.Assign how
assignment_found (w.Assign a) how h = ap w.Assign cc
assignment_found _ how h = absurd cc

stops_of : (k : Terminal) → is w.And k ≡ false → is w.Or k ≡ false → is k w.Question ≡ false → stops k ≡ true
stops_of w.And a o q = absurd cc
stops_of w.Or a o q = absurd cc
stops_of w.Question a o q = absurd cc
stops_of _ a o q = refl

-- ---- words

and_word_law : (o : Eye) → Law Near o (a_sign w.And (codes "&&")) (one w.And)
unfolding terminal_of
and_word_law o = one_law w.And (λ _. sign (codes "&&")) refl refl (λ _ _. refl) o

or_word_law : (o : Eye) → Law Near o (a_sign w.Or (codes "||")) (one w.Or)
unfolding terminal_of
or_word_law o = one_law w.Or (λ _. sign (codes "||")) refl refl (λ _ _. refl) o

question_law : (o : Eye) → Law Near o (a_sign w.Question (codes "?")) (one w.Question)
unfolding terminal_of
question_law o = one_law w.Question (λ _. sign (codes "?")) refl refl (λ _ _. refl) o

colon_law : (o : Eye) → Law Near o (a_sign w.Colon (codes ":")) (one w.Colon)
unfolding terminal_of
colon_law o = one_law w.Colon (λ _. sign (codes ":")) refl refl (λ _ _. refl) o

-- ---- chains that an assignment may end

-- where what follows can't continue a chain, the chain is empty
ands_begin : (n : ℕ) (p last : Bool) (vs : List Token) (ys : List Tree) (rest : List Token) → Ands n p last vs ys rest
    → stops (ahead (vs ++ rest)) ≡ true → (vs ≡ []) × (ys ≡ [])
ands_begin _ _ _ _ _ _ (g.no_and n p rest) h = (refl, refl)
ands_begin _ _ _ _ _ _ (g.one_and n p last t ns us vs x xs rest k _ _ _) h =
    absurd (let seen = ahead_is w.And t (((ns ++ us) ++ vs) ++ rest) refl k in
    let both : false ≡ true = ap stops (sym seen) ∙ h in cc)
ands_begin _ _ _ _ _ _ (g.last_and n p t ns us x rest k _ _) h =
    absurd (let seen = ahead_is w.And t ((ns ++ us) ++ rest) refl k in
    let both : false ≡ true = ap stops (sym seen) ∙ h in cc)

ors_begin : (n : ℕ) (p last : Bool) (vs : List Token) (ys : List Tree) (rest : List Token) → Ors n p last vs ys rest
    → stops (ahead (vs ++ rest)) ≡ true → (vs ≡ []) × (ys ≡ [])
ors_begin _ _ _ _ _ _ (g.no_or n p rest) h = (refl, refl)
ors_begin _ _ _ _ _ _ (g.one_or n p last t ns us vs x xs rest k _ _ _) h =
    absurd (let seen = ahead_is w.Or t (((ns ++ us) ++ vs) ++ rest) refl k in
    let both : false ≡ true = ap stops (sym seen) ∙ h in cc)
ors_begin _ _ _ _ _ _ (g.last_or n p t ns us x rest k _ _) h =
    absurd (let seen = ahead_is w.Or t ((ns ++ us) ++ rest) refl k in
    let both : false ≡ true = ap stops (sym seen) ∙ h in cc)

commas_none : (n : ℕ) (vs : List Token) (xs : List Tree) (rest : List Token) → Commas n vs xs rest → xs ≡ [] → vs ≡ []
commas_none _ _ _ _ (g.no_comma n rest) h = refl
commas_none _ _ _ _ (g.one_comma n us vs x xs rest _ _) h = absurd cc

module _ (n depth : ℕ) (inner : Goal → Parser Tree) (deeper : Inner n depth inner) (p : Bool) where
  -- ---- what begins with a parenthesis

  abbrev pub grouping : Form (((Token × Tree) × List Tree) × Token)
  grouping = pair (pair (pair opening (whole n false)) (commas n depth inner deeper)) closing

  paren_of : (us : List Token) (q : ((Token × Tree) × List Tree) × Token) (rest : List Token)
      → Both (pair (pair opening (whole n false)) (commas n depth inner deeper)) closing us q rest → q.0.1 ≡ []
      → Spells n rule.inc us (tree.paren q.0.0.0.place q.0.0.1) rest
  paren_of _ _ _ (both _ _ rest _ _ (both _ vs _ _ xs (both _ us _ _ x (this o _ h) (opens, k, _)) (l, _)) (this c _ j))
      none =
      let empty = commas_none (suc n) vs xs (c ∷ rest) l none in
      let k' : Spells (suc n) (rule.expr false) us x (c ∷ rest) =
      subst (λ (m : List Token). Spells (suc n) (rule.expr false) us x (m ++ c ∷ rest)) empty k in
      let made = g.no_step n (o ∷ us ++ c ∷ []) (tree.paren o.place x) rest (g.a_paren n o c us x rest h j opens k')
      (λ l. absurd cc) in
      subst (λ (m : List Token). Spells n rule.inc m (tree.paren o.place x) rest)
      (ap (λ (m : List Token). (o ∷ m) ++ c ∷ []) (sym (append-nil us) ∙ ap (λ (m : List Token). us ++ m)
      (sym empty))) made

  from_paren_law : LawOn Near Near (here n rule.inc) (here n (rule.isin p)) (λ x. e.power_rest depth inner x
      >>= e.unary_rest depth inner p)
  from_paren_law = on_on Near Near Near (here n rule.inc) (here n rule.pow) (here n (rule.isin p))
      (e.power_rest depth inner) (e.unary_rest depth inner p) (power_rest_law n depth inner deeper)
      (via Near Near (here n rule.pow) (here n rule.unary) (here n (rule.isin p)) (λ x. x) (e.unary_rest depth inner p)
      (λ _. refl) (λ _. refl) (λ us x rest h. g.only_pow n us x rest h) (unary_rest_law n depth inner deeper p))

  alone_at : (o c : Token) (x : Tree) (ts : List Token) → GoesAt Near Near grouping (here n (rule.isin p))
      (λ q. e.power_rest depth inner (tree.paren q.0.0.0.place q.0.0.1) >>= e.unary_rest depth inner p) (
        ((o, x), []),
        c,
      ) ts
  alone_at o c x ts = via_at Near Near grouping (here n rule.inc) (here n (rule.isin p))
      (λ q. tree.paren q.0.0.0.place q.0.0.1) (λ z. e.power_rest depth inner z >>= e.unary_rest depth inner p)
      (((o, x), []), c) ts
      (ap (λ (m : List Token). (sign (codes "(") ∷ m) ++ sign (codes ")") ∷ []) (sym (append-nil (canon x)))) refl
      (λ us h. paren_of us (((o, x), []), c) ts h refl) (from_paren_law (tree.paren o.place x) ts)

  -- two or more
  Several : (((Token × Tree) × List Tree) × Token) → List Token → Type 0
  Several q rest = (y : Tree) × (ys : List Tree) × (q.0.1 ≡ y ∷ ys)

  group_spells : (us : List Token) (q : ((((Token × Tree) × List Tree) × Token) × Member) × List Member)
      (rest : List Token) → Both (pair (knowing grouping Several) in_form) (names) us q rest
      → Spells n (rule.isin p) us (tree.group q.0.0.0.0.0.place (trees_of (q.0.0.0.0.1 ∷ q.0.0.0.1)) (q.0.1 ∷ q.1)) rest
  unfolding Several
  group_spells _ _ _ (both _ ws rest _ ms
      (both _ _ _ _ _ (
        both _ _ _ _ _ (both _ vs _ _ xs (both _ us _ _ x (this o _ h) (opens, k, _)) (l, _))
            (this c _ j),
        (y, ys, several),
      ) (in_one t u _ a b)) (d, _)) =
      let list : Listed (suc n) (us ++ vs) (x ∷ y ∷ ys) (c ∷ t ∷ u ∷ ws ++ rest) =
      subst (λ (m : List Tree). Listed (suc n) (us ++ vs) (x ∷ m) (c ∷ t ∷ u ∷ ws ++ rest)) several
      (g.a_list (suc n) us vs x xs (c ∷ t ∷ u ∷ ws ++ rest) k l) in
      let found = g.a_group n p o c (us ++ vs) ((t ∷ u ∷ []) ++ ws) x y ys
      (record { place = t.place; array = name_of u }) ms rest h j opens list (g.one_name t u ws ms rest a b d) in
      subst (λ (m : List Token). Spells n (rule.isin p) m (tree.group o.place (trees_of (x ∷ xs))
      (record { place = t.place; array = name_of u } ∷ ms)) rest) (sym (group_parts us vs (t ∷ u ∷ []) ws o c))
      (subst (λ (m : List Tree). Spells n (rule.isin p) (o ∷ (us ++ vs) ++ c ∷ ((t ∷ u ∷ []) ++ ws))
      (tree.group o.place (trees_of (x ∷ m)) (record { place = t.place; array = name_of u } ∷ ms)) rest)
      (sym several) found)

  several_at : (q : ((Token × Tree) × List Tree) × Token) (ts : List Token) → Several q ts
      → GoesAt Near Near grouping (here n (rule.isin p)) (λ q. e.in_name >>= λ m. e.in_names >>= λ ms. pure
      (tree.group q.0.0.0.place (trees_of (q.0.0.1 ∷ q.0.1)) (m ∷ ms))) q ts
  several_at q ts fact =
      known Near Near grouping (here n (rule.isin p)) Several (λ q. e.in_name >>= λ m. e.in_names >>= λ ms. pure
      (tree.group q.0.0.0.place (trees_of (q.0.0.1 ∷ q.0.1)) (m ∷ ms))) q ts fact
      (seq_at Near Near Near (knowing grouping Several) in_form (here n (rule.isin p)) e.in_name
      (λ q m. e.in_names >>= λ ms. pure (tree.group q.0.0.0.place (trees_of (q.0.0.1 ∷ q.0.1)) (m ∷ ms))) q ts
      (in_name_law ts)
      (λ q ts. seq_at Near Near Near (pair (knowing grouping Several) in_form) names (here n (rule.isin p)) e.in_names
      (λ q ms. pure (tree.group q.0.0.0.0.place (trees_of (q.0.0.0.1 ∷ q.0.0.1)) (q.1 ∷ ms))) q ts (names_law ts)
      (pure_on Near (pair (pair (knowing grouping Several) in_form) names) (here n (rule.isin p))
      (λ q. tree.group q.0.0.0.0.0.place (trees_of (q.0.0.0.0.1 ∷ q.0.0.0.1)) (q.0.1 ∷ q.1))
      (λ q. ap (λ (m : List Token). sign (codes "(") ∷ (canon q.0.0.0.0.1 ++ m) ++ sign (codes ")") ∷ canon_members
      (q.0.1 ∷ q.1)) (canon_commas-of q.0.0.0.1)
      ∙ ap (λ (m : List Token). sign (codes "(") ∷ (canon q.0.0.0.0.1 ++ flat_map plain_comma q.0.0.0.1)
      ++ sign (codes ")") ∷ m) (canon_members-of (q.0.1 ∷ q.1))
      ∙ sym (group_parts (canon q.0.0.0.0.1) (flat_map plain_comma q.0.0.0.1) (in_form.plain q.0.1)
      (flat_map in_form.plain q.1) (sign (codes "(")) (sign (codes ")"))))
      (λ q. ap (λ (m : Trees). tree.group nowhere m (map bare_member (q.0.1 ∷ q.1)))
      (bare_all-of (q.0.0.0.0.1 ∷ q.0.0.0.1))) group_spells)))

  pub grouped_at : (o c : Token) (x : Tree) (xs : List Tree) (ts : List Token)
      → GoesAt Near Near grouping (here n (rule.isin p)) (λ q. e.grouped depth inner p q.0.0.0.place q.0.0.1 q.0.1)
      (((o, x), xs), c) ts
  unfolding Several
  grouped_at o c x [] ts y r h =
      let q = alone_at o c x ts y r h in
      record {
        used = q.used;
        parts = q.parts;
        spelled = q.spelled;
        more = q.more;
        whole = q.whole;
        seen = q.seen;
        reads = q.reads;
      }
  grouped_at o c x (z ∷ zs) ts y r h =
      let q = several_at (((o, x), z ∷ zs), c) ts (z, zs, refl) y r h in
      record {
        used = q.used;
        parts = q.parts;
        spelled = q.spelled;
        more = q.more;
        whole = q.whole;
        seen = q.seen;
        reads = q.reads;
      }

  parenthesis_law : Law Near Near (here n (rule.isin p)) (e.from_paren depth inner p)
  unfolding e.from_paren
  parenthesis_law ts =
      then_at Near Near Near opening (here n (rule.isin p)) (one w.OpenParen) (λ o. inner (goal.Expr false)
      >>= λ x. e.commas depth inner >>= λ xs. one w.CloseParen >>= λ _. e.grouped depth inner p o.place x xs) ts
      (opening_law Near ts)
      (λ o ts. seq_at Near Near Near opening (whole n false) (here n (rule.isin p)) (inner (goal.Expr false))
      (λ o x. e.commas depth inner >>= λ xs. one w.CloseParen >>= λ _. e.grouped depth inner p o.place x xs) o ts
      (deeper.wholes false ts)
      (λ q ts. seq_at Near Near Near (pair opening (whole n false)) (commas n depth inner deeper) (here n (rule.isin p))
      (e.commas depth inner) (λ q xs. one w.CloseParen >>= λ _. e.grouped depth inner p q.0.place q.1 xs) q ts
      (commas_law n depth inner deeper ts)
      (λ q ts. seq_at Near Near Near (pair (pair opening (whole n false)) (commas n depth inner deeper)) closing
      (here n (rule.isin p)) (one w.CloseParen) (λ q _. e.grouped depth inner p q.0.0.place q.0.1 q.1) q ts
      (closing_law Near ts)
      (λ q ts. grouped_at q.0.0.0 q.1 q.0.0.1 q.0.1 ts))))

  pub isin_law : Law Near Near (here n (rule.isin p)) (e.isin depth inner p)
  unfolding e.isin
  isin_law ts =
      choice_at Near (here n (rule.isin p)) (λ kind. cond (is kind w.OpenParen) (e.from_paren depth inner p)
      (e.unary depth inner >>= e.unary_rest depth inner p)) ts
      (if_at Near Near (here n (rule.isin p)) (is (ahead ts) w.OpenParen) (e.from_paren depth inner p)
      (e.unary depth inner >>= e.unary_rest depth inner p) ts (λ _. parenthesis_law ts)
      (λ _. then_at Near Near Near (here n rule.unary) (here n (rule.isin p)) (e.unary depth inner)
      (e.unary_rest depth inner p) ts (unary_law n depth inner deeper ts) (unary_rest_law n depth inner deeper p)))

  -- ---- assignments

  pub data Conjunct : List Token → Tree → List Token → Type 0 where
    plain_one : (us : List Token) (x : Tree) (rest : List Token) → Spells n (rule.isin p) us x rest → Conjunct us x rest
    set_one : (us : List Token) (x : Tree) (rest : List Token) → Spells n (rule.set p) us x rest
        → stops (ahead rest) ≡ true → Conjunct us x rest

  assigned_at : (o : Option Assignment) (x : Tree) (ts : List Token) → looks.assignment (ahead ts) ≡ o
      → GoesAt Near Near (here n (rule.isin p)) (tree_form Conjunct) (λ x. e.assigned_by depth inner p x o) x ts
  assigned_at (Some how) x ts sees =
      if_left Near Near (here n (rule.isin p)) (tree_form Conjunct) is_lvalue (λ x. any >>= λ t. inner (goal.Expr p)
      >>= λ y. pure (tree.assign x t.place how y)) (λ x. pure x) x ts (is_lvalue-bare x)
      (λ l. known Near Near (here n (rule.isin p)) (tree_form Conjunct) (λ x _. is_lvalue x ≡ true)
      (λ x. any >>= λ t. inner (goal.Expr p) >>= λ y. pure (tree.assign x t.place how y)) x ts l
      (infix_on (knowing (here n (rule.isin p)) (λ x _. is_lvalue x ≡ true)) (w.Assign how)
      (λ _. sign (assignment_text how)) any (whole n p) (inner (goal.Expr p)) (tree_form Conjunct)
      (λ x t y. tree.assign x t.place how y) (λ x t y. refl) (λ x t y. refl)
      (λ t us vs x y rest h j i. set_one (us ++ t ∷ vs) (tree.assign x t.place how y) rest
      (g.an_assignment n p how t us vs x y rest (ap looks.assignment h) j.1 j.0 i.0 i.1) i.2) (deeper.wholes p) x ts
      (any_at (w.Assign how) (λ _. sign (assignment_text how)) refl (λ _ _. assignment_is how) Near ts
      (assignment_found (ahead ts) how sees))))
      (λ _. stays Near (here n (rule.isin p)) (tree_form Conjunct) x ts (λ _. refl) (λ _. refl) plain_one)
  assigned_at None x ts sees = stays Near (here n (rule.isin p)) (tree_form Conjunct) x ts (λ _. refl)
      (λ _. refl) plain_one

  assigned_law : LawOn Near Near (here n (rule.isin p)) (tree_form Conjunct) (e.assigned depth inner p)
  unfolding e.assigned
  assigned_law x ts = choice_on Near (here n (rule.isin p)) (tree_form Conjunct)
      (λ x kind. e.assigned_by depth inner p x (looks.assignment kind)) x ts
      (assigned_at (looks.assignment (ahead ts)) x ts refl)

  conjunct_law : Law Near Near (tree_form Conjunct) (e.conjunct depth inner p)
  unfolding e.conjunct
  conjunct_law ts = then_at Near Near Near (here n (rule.isin p)) (tree_form Conjunct) (e.isin depth inner p)
      (e.assigned depth inner p) ts (isin_law ts) assigned_law

  -- ---- and

  data NextAnd : List Token → Tree → List Token → Type 0 where
    next_and : (t : Token) (ns us : List Token) (x : Tree) (rest : List Token) → terminal t ≡ w.And → Newlines ns
        → Conjunct us x rest → NextAnd (t ∷ ns ++ us) x rest

  abbrev and_form : Form Tree
  and_form = record { plain = plain_and; bare = bare; spells = NextAnd }

  and_behind : (us vs : List Token) (t : Token) (x : Tree) (rest : List Token) → This w.And us t (vs ++ rest)
      → Lines (tree_form Conjunct) vs x rest → NextAnd (us ++ vs) x rest
  and_behind _ _ _ x rest (this t _ h) (lines ns us _ _ k j) = next_and t ns us x rest h k j

  next_and_law : Law Near Near and_form (e.next_conjunct depth inner p)
  unfolding e.next_conjunct
  next_and_law ts =
      then_at Near Behind Near (a_sign w.And (codes "&&")) and_form (one w.And)
      (λ _. skipped (e.conjunct depth inner p)) ts (and_word_law Behind ts)
      (λ t ts. last_at Behind Near (a_sign w.And (codes "&&")) (behind (tree_form Conjunct)) and_form
      (skipped (e.conjunct depth inner p)) (λ _ _. refl) (λ _. refl) and_behind t ts
      (skipped_law Near (tree_form Conjunct) (e.conjunct depth inner p) no_line conjunct_law ts))

  AllAnds : List Token → List Tree → List Token → Type 0
  AllAnds us ys rest = Ands n p false us ys rest ⊎ (Ands n p true us ys rest × (stops (ahead rest) ≡ true))

  ands_none : (vs : List Token) (ys : List Tree) (rest : List Token) → AllAnds vs ys rest
      → stops (ahead (vs ++ rest)) ≡ true → (vs ≡ []) × (ys ≡ [])
  unfolding AllAnds
  ands_none vs ys rest (inl a) h = ands_begin n p false vs ys rest a h
  ands_none vs ys rest (inr a) h = ands_begin n p true vs ys rest a.0 h

  ands_cons : (us vs : List Token) (x : Tree) (xs : List Tree) (rest : List Token)
      → is w.And (ahead (us ++ (vs ++ rest))) ≡ true → NextAnd us x (vs ++ rest) → AllAnds vs xs rest
      → AllAnds (us ++ vs) (x ∷ xs) rest
  unfolding AllAnds
  ands_cons _ vs _ xs rest _ (next_and t ns us x _ h k (plain_one _ _ _ s)) (inl a) =
      inl (g.one_and n p false t ns us vs x xs rest h k s a)
  ands_cons _ vs _ xs rest _ (next_and t ns us x _ h k (plain_one _ _ _ s)) (inr a) =
      inr (g.one_and n p true t ns us vs x xs rest h k s a.0, a.1)
  ands_cons _ vs _ xs rest _ (next_and t ns us x _ h k (set_one _ _ _ s stop)) a =
      let none = ands_none vs xs rest a stop in
      let s' : Spells n (rule.set p) us x rest = subst (λ (m : List Token). Spells n (rule.set p) us x (m ++ rest))
      none.0 s in
      let stop' : stops (ahead rest) ≡ true = subst (λ (m : List Token). stops (ahead (m ++ rest)) ≡ true) none.0 stop
      in
      inr (
        subst (λ (m : List Token). Ands n p true m (x ∷ xs) rest) (sym (append-nil (t ∷ ns ++ us))
            ∙ ap (λ (m : List Token). (t ∷ ns ++ us) ++ m) (sym none.0))
            (subst (λ (m : List Tree). Ands n p true (t ∷ ns ++ us) (x ∷ m) rest) (sym none.1)
            (g.last_and n p t ns us x rest h k s')),
        stop',
      )

  conjuncts_law : Law Near Near (chain and_form AllAnds (is w.And)) (e.conjuncts depth inner p)
  unfolding e.conjuncts AllAnds
  conjuncts_law = many_law and_form AllAnds (is w.And) (λ rest. inl (g.no_and n p rest)) ands_cons (λ x. omega arith)
      (e.next_conjunct depth inner p) (λ ts go. next_and_law ts)

  pub data Conjunction : List Token → Tree → List Token → Type 0 where
    plain_and_one : (us : List Token) (x : Tree) (rest : List Token) → Spells n (rule.and p false) us x rest
        → is w.And (ahead rest) ≡ false → Conjunction us x rest
    set_and_one : (us : List Token) (x : Tree) (rest : List Token) → Spells n (rule.and p true) us x rest
        → stops (ahead rest) ≡ true → Conjunction us x rest

  and_spells : (us vs : List Token) (l : Tree) (ys : List Tree) (rest : List Token) → Conjunct us l (vs ++ rest)
      → AllAnds vs ys rest → is w.And (ahead rest) ≡ false → Conjunction (us ++ vs) (looks.and_of l ys) rest
  unfolding AllAnds
  and_spells _ vs _ ys rest (plain_one us l _ s) (inl a) ended = plain_and_one (us ++ vs) (looks.and_of l ys) rest
      (g.an_and n p false us vs l ys rest s a) ended
  and_spells _ vs _ ys rest (plain_one us l _ s) (inr a) ended = set_and_one (us ++ vs) (looks.and_of l ys) rest
      (g.an_and n p true us vs l ys rest s a.0) a.1
  and_spells _ vs _ ys rest (set_one us l _ s stop) a ended =
      let none = ands_none vs ys rest a stop in
      let s' : Spells n (rule.set p) us l rest = subst (λ (m : List Token). Spells n (rule.set p) us l (m ++ rest))
      none.0 s in
      let stop' : stops (ahead rest) ≡ true = subst (λ (m : List Token). stops (ahead (m ++ rest)) ≡ true) none.0 stop
      in
      subst (λ (m : List Token). Conjunction m (looks.and_of l ys) rest) (sym (append-nil us)
      ∙ ap (λ (m : List Token). us ++ m) (sym none.0))
      (subst (λ (m : List Tree). Conjunction us (looks.and_of l m) rest) (sym none.1)
      (set_and_one us l rest (g.only_set n p us l rest s') stop'))

  and_rest_law : LawOn Near Near (tree_form Conjunct) (tree_form Conjunction) (e.and_rest depth inner p)
  unfolding e.and_rest
  and_rest_law = chain_on and_form AllAnds (is w.And) (e.conjuncts depth inner p) (tree_form Conjunct)
      (tree_form Conjunction) looks.and_of canon-and_of bare-and_of and_spells conjuncts_law

  -- ---- or

  data NextOr : List Token → Tree → List Token → Type 0 where
    next_or : (t : Token) (ns us : List Token) (x : Tree) (rest : List Token) → terminal t ≡ w.Or → Newlines ns
        → Conjunction us x rest → NextOr (t ∷ ns ++ us) x rest

  abbrev or_form : Form Tree
  or_form = record { plain = plain_or; bare = bare; spells = NextOr }

  or_behind : (us vs : List Token) (t : Token) (x : Tree) (rest : List Token) → This w.Or us t (vs ++ rest)
      → Lines (tree_form Conjunction) vs x rest → NextOr (us ++ vs) x rest
  or_behind _ _ _ x rest (this t _ h) (lines ns us _ _ k j) = next_or t ns us x rest h k j

  conjunction_law : Law Near Near (tree_form Conjunction) (e.conjunct depth inner p >>= e.and_rest depth inner p)
  conjunction_law ts = then_at Near Near Near (tree_form Conjunct) (tree_form Conjunction) (e.conjunct depth inner p)
      (e.and_rest depth inner p) ts (conjunct_law ts) and_rest_law

  next_or_law : Law Near Near or_form (e.next_disjunct depth inner p)
  unfolding e.next_disjunct
  next_or_law ts =
      then_at Near Behind Near (a_sign w.Or (codes "||")) or_form (one w.Or)
      (λ _. skipped (e.conjunct depth inner p >>= e.and_rest depth inner p)) ts (or_word_law Behind ts)
      (λ t ts. last_at Behind Near (a_sign w.Or (codes "||")) (behind (tree_form Conjunction)) or_form
      (skipped (e.conjunct depth inner p >>= e.and_rest depth inner p)) (λ _ _. refl) (λ _. refl) or_behind t ts
      (skipped_law Near (tree_form Conjunction) (e.conjunct depth inner p >>= e.and_rest depth inner p) no_line
      conjunction_law ts))

  AllOrs : List Token → List Tree → List Token → Type 0
  AllOrs us ys rest = (Ors n p false us ys rest × ((us ≡ []) ⊎ (is w.And (ahead rest) ≡ false)))
      ⊎ (Ors n p true us ys rest × (stops (ahead rest) ≡ true))

  ors_none : (vs : List Token) (ys : List Tree) (rest : List Token) → AllOrs vs ys rest
      → stops (ahead (vs ++ rest)) ≡ true → (vs ≡ []) × (ys ≡ [])
  unfolding AllOrs
  ors_none vs ys rest (inl a) h = ors_begin n p false vs ys rest a.0 h
  ors_none vs ys rest (inr a) h = ors_begin n p true vs ys rest a.0 h

  no_and_left : (vs rest : List Token) → ((vs ≡ []) ⊎ (is w.And (ahead rest) ≡ false)) → is w.And (ahead (vs ++ rest))
      ≡ false → is w.And (ahead rest) ≡ false
  no_and_left vs rest (inl e) h = subst (λ (m : List Token). is w.And (ahead (m ++ rest)) ≡ false) e h
  no_and_left vs rest (inr k) h = k

  ors_cons : (us vs : List Token) (x : Tree) (xs : List Tree) (rest : List Token) → is w.Or (ahead (us ++ (vs ++ rest)))
      ≡ true → NextOr us x (vs ++ rest) → AllOrs vs xs rest → AllOrs (us ++ vs) (x ∷ xs) rest
  unfolding AllOrs
  ors_cons _ vs _ xs rest _ (next_or t ns us x _ h k (plain_and_one _ _ _ s other)) (inl a) =
      inl (g.one_or n p false t ns us vs x xs rest h k s a.0, inr (no_and_left vs rest a.1 other))
  ors_cons _ vs _ xs rest _ (next_or t ns us x _ h k (plain_and_one _ _ _ s other)) (inr a) =
      inr (g.one_or n p true t ns us vs x xs rest h k s a.0, a.1)
  ors_cons _ vs _ xs rest _ (next_or t ns us x _ h k (set_and_one _ _ _ s stop)) a =
      let none = ors_none vs xs rest a stop in
      let s' : Spells n (rule.and p true) us x rest =
      subst (λ (m : List Token). Spells n (rule.and p true) us x (m ++ rest)) none.0 s in
      let stop' : stops (ahead rest) ≡ true = subst (λ (m : List Token). stops (ahead (m ++ rest)) ≡ true) none.0 stop
      in
      inr (
        subst (λ (m : List Token). Ors n p true m (x ∷ xs) rest) (sym (append-nil (t ∷ ns ++ us))
            ∙ ap (λ (m : List Token). (t ∷ ns ++ us) ++ m) (sym none.0))
            (subst (λ (m : List Tree). Ors n p true (t ∷ ns ++ us) (x ∷ m) rest) (sym none.1)
            (g.last_or n p t ns us x rest h k s')),
        stop',
      )

  disjuncts_law : Law Near Near (chain or_form AllOrs (is w.Or)) (e.disjuncts depth inner p)
  unfolding e.disjuncts AllOrs
  disjuncts_law = many_law or_form AllOrs (is w.Or) (λ rest. inl (g.no_or n p rest, inl refl)) ors_cons
      (λ x. omega arith) (e.next_disjunct depth inner p) (λ ts go. next_or_law ts)

  pub data Disjunction : List Token → Tree → List Token → Type 0 where
    plain_or_one : (us : List Token) (x : Tree) (rest : List Token) → Spells n (rule.or p false) us x rest
        → is w.And (ahead rest) ≡ false → is w.Or (ahead rest) ≡ false → Disjunction us x rest
    set_or_one : (us : List Token) (x : Tree) (rest : List Token) → Spells n (rule.or p true) us x rest
        → stops (ahead rest) ≡ true → Disjunction us x rest

  or_spells : (us vs : List Token) (l : Tree) (ys : List Tree) (rest : List Token) → Conjunction us l (vs ++ rest)
      → AllOrs vs ys rest → is w.Or (ahead rest) ≡ false → Disjunction (us ++ vs) (looks.or_of l ys) rest
  unfolding AllOrs
  or_spells _ vs _ ys rest (plain_and_one us l _ s other) (inl a) ended =
      plain_or_one (us ++ vs) (looks.or_of l ys) rest (g.an_or n p false us vs l ys rest s a.0)
      (no_and_left vs rest a.1 other) ended
  or_spells _ vs _ ys rest (plain_and_one us l _ s other) (inr a) ended = set_or_one (us ++ vs) (looks.or_of l ys) rest
      (g.an_or n p true us vs l ys rest s a.0) a.1
  or_spells _ vs _ ys rest (set_and_one us l _ s stop) a ended =
      let none = ors_none vs ys rest a stop in
      let s' : Spells n (rule.and p true) us l rest =
      subst (λ (m : List Token). Spells n (rule.and p true) us l (m ++ rest)) none.0 s in
      let stop' : stops (ahead rest) ≡ true = subst (λ (m : List Token). stops (ahead (m ++ rest)) ≡ true) none.0 stop
      in
      subst (λ (m : List Token). Disjunction m (looks.or_of l ys) rest)
      (sym (append-nil us) ∙ ap (λ (m : List Token). us ++ m) (sym none.0))
      (subst (λ (m : List Tree). Disjunction us (looks.or_of l m) rest) (sym none.1)
      (set_or_one us l rest (g.only_and n p us l rest s') stop'))

  or_rest_law : LawOn Near Near (tree_form Conjunction) (tree_form Disjunction) (e.or_rest depth inner p)
  unfolding e.or_rest
  or_rest_law = chain_on or_form AllOrs (is w.Or) (e.disjuncts depth inner p) (tree_form Conjunction)
      (tree_form Disjunction) looks.or_of canon-or_of bare-or_of or_spells disjuncts_law

  -- ---- choices

  abbrev pub full : Form Tree
  full = tree_form (λ us x rest. Spells n (rule.expr p) us x rest × (stops (ahead rest) ≡ true))

  abbrev question : Form Token
  question = a_sign w.Question (codes "?")

  abbrev colon : Form Token
  colon = a_sign w.Colon (codes ":")

  -- ? expr :
  abbrev branch : Form Tree
  branch = record {
    plain = λ x. sign (codes "?") ∷ canon x ++ sign (codes ":") ∷ [];
    bare = bare;
    spells =
        Enclosed w.Question w.Colon ((whole n p).spells);
  }

  branch_spells : (us : List Token) (q : (Token × Tree) × Token) (rest : List Token)
      → Both (pair question (whole n p)) colon us q rest → Enclosed w.Question w.Colon ((whole n p).spells) us q.0.1
      rest
  branch_spells _ _ _ (both _ _ rest _ _ (both _ us _ _ x (this o _ h) k) (this c _ j)) = enclosed o c us x rest h j k

  branch_law : Law Near Near branch (e.then_branch depth inner p)
  unfolding e.then_branch
  branch_law ts =
      then_at Near Near Near question branch (one w.Question) (λ _. inner (goal.Expr p) >>= λ x. one w.Colon
      >>= λ _. pure x) ts (question_law Near ts)
      (λ o ts. seq_at Near Near Near question (whole n p) branch (inner (goal.Expr p))
      (λ o x. one w.Colon >>= λ _. pure x) o ts (deeper.wholes p ts)
      (λ q ts. seq_at Near Near Near (pair question (whole n p)) colon branch (one w.Colon) (λ q c. pure q.1) q ts
      (colon_law Near ts)
      (pure_on Near (pair (pair question (whole n p)) colon) branch (λ q. q.0.1) (λ q. refl)
      (λ q. refl) branch_spells)))

  choice_spells : (us : List Token) (q : (Tree × Tree) × Tree) (rest : List Token)
      → Both (pair (tree_form Disjunction) branch) (whole n p) us q rest
      → Spells n (rule.expr p) us (tree.choose q.0.0 q.0.1 q.1) rest × (stops (ahead rest) ≡ true)
  choice_spells _ _ _ (both _ ws rest _ z (both _ _ _ _ _ (plain_or_one us x _ s _ _)
      (enclosed t u vs y _ h j (opens, k, _))) (_, l, stop)) = (
        subst (λ (m : List Token). Spells n (rule.expr p) m (tree.choose x y z) rest) (sym (choice_parts us vs ws t u))
            (g.only_cond n p (us ++ t ∷ (vs ++ u ∷ ws)) (tree.choose x y z) rest
            (g.a_choice n p t u us vs ws x y z rest h j (subst (λ (m : List Token). Spells n (rule.or p false) us x m)
            (choice_after vs ws rest t u) s) opens k l)),
        stop,
      )
  choice_spells _ _ _ (both _ ws rest _ z (both _ _ _ _ _ (set_or_one us x _ s stop) (enclosed t u vs y _ h j k)) l) =
      absurd (let seen = ahead_is w.Question t ((vs ++ u ∷ []) ++ (ws ++ rest)) refl h in
      let both : false ≡ true = ap stops (sym seen) ∙ stop in cc)

  choose_at : (x : Tree) (ts : List Token) → GoesAt Near Near (tree_form Disjunction) full
      (λ x. e.then_branch depth inner p >>= λ y. inner (goal.Expr p) >>= λ z. pure (tree.choose x y z)) x ts
  choose_at x ts =
      seq_at Near Near Near (tree_form Disjunction) branch full (e.then_branch depth inner p)
      (λ x y. inner (goal.Expr p) >>= λ z. pure (tree.choose x y z)) x ts (branch_law ts)
      (λ q ts. seq_at Near Near Near (pair (tree_form Disjunction) branch) (whole n p) full (inner (goal.Expr p))
      (λ q z. pure (tree.choose q.0 q.1 z)) q ts (deeper.wholes p ts)
      (pure_on Near (pair (pair (tree_form Disjunction) branch) (whole n p)) full (λ q. tree.choose q.0.0 q.0.1 q.1)
      (λ q. choice_plain (canon q.0.0) (canon q.0.1) (canon q.1) (sign (codes "?")) (sign (codes ":")))
      (λ q. refl) choice_spells))

  full_spells : (us : List Token) (x : Tree) (rest : List Token) → Disjunction us x rest
      × (is (ahead rest) w.Question ≡ false) → Spells n (rule.expr p) us x rest × (stops (ahead rest) ≡ true)
  full_spells _ _ _ (plain_or_one us x rest s a o, q) = (
    g.only_cond n p us x rest (g.only_or n p us x rest s),
    stops_of (ahead rest) a o q,
  )
  full_spells _ _ _ (set_or_one us x rest s stop, q) = (g.an_assigning n p us x rest s, stop)

  choose_rest_law : LawOn Near Near (tree_form Disjunction) full (e.choose_rest depth inner p)
  unfolding e.choose_rest
  choose_rest_law x ts =
      choice_on Near (tree_form Disjunction) full (λ x kind. cond (is kind w.Question) (e.then_branch depth inner p
      >>= λ y. inner (goal.Expr p) >>= λ z. pure (tree.choose x y z)) (pure x)) x ts
      (if_on Near Near (tree_form Disjunction) full (is (ahead ts) w.Question) (λ x. e.then_branch depth inner p
      >>= λ y. inner (goal.Expr p) >>= λ z. pure (tree.choose x y z)) (λ x. pure x) x ts
      (λ _. choose_at x ts)
      (λ h. known Near Near (tree_form Disjunction) full (λ _ rest. is (ahead rest) w.Question ≡ false) (λ x. pure x) x
      ts h
      (stays Near (knowing (tree_form Disjunction) (λ _ rest. is (ahead rest) w.Question ≡ false)) full x ts (λ _. refl)
      (λ _. refl) full_spells)))

  pub expr_rest_law : LawOn Near Near (here n (rule.isin p)) full (e.expr_rest depth inner p)
  unfolding e.expr_rest
  expr_rest_law =
      on_on Near Near Near (here n (rule.isin p)) (tree_form Disjunction) full (λ x. e.assigned depth inner p x
      >>= e.and_rest depth inner p >>= e.or_rest depth inner p) (e.choose_rest depth inner p)
      (on_on Near Near Near (here n (rule.isin p)) (tree_form Conjunction) (tree_form Disjunction)
      (λ x. e.assigned depth inner p x >>= e.and_rest depth inner p) (e.or_rest depth inner p)
      (on_on Near Near Near (here n (rule.isin p)) (tree_form Conjunct) (tree_form Conjunction)
      (e.assigned depth inner p) (e.and_rest depth inner p) assigned_law and_rest_law) or_rest_law) choose_rest_law

  pub expression_law : Law Near Near full (e.expression depth inner p)
  unfolding e.expression
  expression_law ts = then_at Near Near Near (here n (rule.isin p)) full (e.isin depth inner p)
      (e.expr_rest depth inner p) ts (isin_law ts) expr_rest_law

-- ---- all rules at each depth

pub at_depth : (n depth : ℕ) → n + depth ≡ 200 → Inner n depth (e.expr depth)
unfolding e.expr
at_depth n zero h = record {
  opens = λ k. absurd cc;
  wholes = λ p ts x r k. absurd cc;
  unaries = λ ts x r k. absurd cc;
  operands = λ ts x r k. absurd cc;
  lvalues = λ ts x r k. absurd cc;
  files = λ ts x r k. absurd cc;
}
at_depth n (suc depth) h =
    let d = at_depth (suc n) depth (omega (arith, h)) in
    let o : Opens n = omega (arith, h) in
    record {
      opens = λ _. o;
      wholes = λ p ts. weaker_at Near Near (full (suc n) depth (e.expr depth) d p) (whole n p)
          (e.expression depth (e.expr depth) p) ts (λ _. refl) (λ _. refl) (λ us x rest k. (o, k.0, k.1))
          (expression_law (suc n) depth (e.expr depth) d p ts);
      unaries = λ ts. weaker_at Near Near (here (suc n) rule.unary) (below n rule.unary) (e.unary depth (e.expr depth))
          ts (λ _. refl) (λ _. refl) (λ us x rest k. (o, k)) (unary_law (suc n) depth (e.expr depth) d ts);
      operands = λ ts. weaker_at Near Near (here (suc n) rule.dol) (below n rule.dol) (e.operand depth (e.expr depth))
          ts (λ _. refl) (λ _. refl) (λ us x rest k. (o, k)) (operand_law (suc n) depth (e.expr depth) d ts);
      lvalues = λ ts. weaker_at Near Near (here (suc n) rule.lvalue) (below n rule.lvalue)
          (e.lvalue depth (e.expr depth)) ts (λ _. refl) (λ _. refl) (λ us x rest k. (o, k))
          (lvalue_law (suc n) depth (e.expr depth) d ts);
      files = λ ts. weaker_at Near Near (here (suc n) rule.inc) (below n rule.inc) (e.inc depth (e.expr depth)) ts
          (λ _. refl) (λ _. refl) (λ us x rest k. (o, k)) (inc_law (suc n) depth (e.expr depth) d ts);
    }

-- What is read as an expression is spelled so, and its canonical spelling is read again, without places.
pub expression_again : (p : Bool) (ts : List Token) (x : Tree) → e.expression 200 (e.expr 200) p ts ≡ Ok (x, [])
    → Spells 0 (rule.expr p) ts x [] × (e.expression 200 (e.expr 200) p (canon x) ≡ Ok (bare x, []))
expression_again p ts x h =
    let q = expression_law 0 200 (e.expr 200) (at_depth 0 200 refl) p ts x [] h in
    let again = q.reads [] refl in
    let spelled = q.spelled in (
      subst (λ (m : List Token). Spells 0 (rule.expr p) m x []) (sym (q.parts ∙ append-nil q.used)) spelled.0,
      subst (λ (m : List Token). e.expression 200 (e.expr 200) p m ≡ Ok (bare x, [])) (append-nil (canon x)) again,
    )
