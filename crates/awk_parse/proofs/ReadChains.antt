-- What is spelled is read: chains and comparisons, up to `in`.
use Rattle.std.proofs.Common.{◌≡◌, ℕ, suc, Bool, true, false, List, [], ◌∷◌, ◌++◌, Option, Some, None, Ok, Err, refl}
use Rattle.std.proofs.Common.{sym, ap, subst, ◌∙◌, append_assoc, arith, inl, inr}
use Rattle.awk_text.specs.declared.place.Place.{Place}
use Rattle.awk_tokens.specs.declared.token.Token.{Token}
use Rattle.awk_tokens.specs.declared.terminals.Step.{Step}
use Rattle.awk_tokens.specs.declared.terminals.Terminal.{Terminal}
use Rattle.awk_tokens.specs.declared.terminals.Terminal.TheVariants as w
use Rattle.awk_tree.specs.Looks as looks
use Rattle.awk_tree.specs.Looks.{name_of, step}
use Rattle.awk_tree.specs.declared.names.Member.{Member}
use Rattle.awk_tree.specs.declared.expressions.Term.{Term}
use Rattle.awk_tree.specs.declared.expressions.Piped.{Piped}
use Rattle.awk_tree.specs.declared.operators.Comparison.{Comparison}
use Rattle.awk_tree.specs.declared.goals.Goal.{Goal}
use Rattle.awk_tree.specs.declared.goals.Goal.TheVariants as goal
use Rattle.awk_tree.specs.Tree as tree
use Rattle.awk_tree.specs.Tree.{Tree, trees_of}
use Rattle.awk_tree.specs.Terminals.{terminal, is, ahead}
use Rattle.awk_tree.specs.Input.{Parser, Outcome, and_then, ◌>>=◌, one, any, pure, refuse}
use Rattle.awk_tree.specs.Expressions as e
use Rattle.awk_parse.specs.Rules as rule
use Rattle.awk_parse.specs.Rules.{Rule}
use Rattle.awk_parse.specs.Spells as g
use Rattle.awk_parse.specs.Spells.{Spells, Opens, Listed, Names, Factors, Addends, Parts, Pipes}
use Rattle.awk_parse.proofs.TerminalLemmas.{steady, ahead_is, is-true}
use Rattle.awk_parse.proofs.Law.{bind_ok, chosen, done_is, decided}
use Rattle.awk_parse.proofs.ReadSteps.{one_reads, follows, seen_as, neither, is_some, none_is, Turns, stop, turn_on}
use Rattle.awk_parse.proofs.ReadSteps.{many_reads}
use Rattle.awk_parse.proofs.ReadSteps.{after_unary, after_mul, after_add, after_cat, after_pipe, after_cmp, after_match}
use Rattle.awk_parse.proofs.ReadSteps.{after_isin, after_expr}
use Rattle.awk_parse.proofs.Starts.{begins_expression}
use Rattle.awk_parse.proofs.Firsts.{heads_some, first}
use Rattle.awk_parse.proofs.ReadOperands.{Reaches, unary_reads, target_reads, commas_turns, commas_follow}

-- ---- what goes on from one level does not go on from those below it

factor : (k : Terminal) → looks.is_factor_sign k ≡ true → (steady k ≡ true) × (after_unary k ≡ false)
factor w.Star h = (refl, refl)
factor w.Slash h = (refl, refl)
factor w.Percent h = (refl, refl)
factor _ h = absurd cc

addend : (k : Terminal) → looks.is_term_sign k ≡ true → (steady k ≡ true) × (after_mul k ≡ false)
addend w.Plus h = (refl, refl)
addend w.Minus h = (refl, refl)
addend _ h = absurd cc

part : (k : Terminal) → looks.begins_part k ≡ true → after_add k ≡ false
part w.Caret h = absurd cc
part w.Star h = absurd cc
part w.Slash h = absurd cc
part w.Percent h = absurd cc
part w.Plus h = absurd cc
part w.Minus h = absurd cc
part _ h = refl

comparing : (p : Bool) (how : Comparison) (k : Terminal) → looks.comparison p k ≡ Some how → (steady k ≡ true)
    × (after_pipe k ≡ false)
comparing p how w.Less h = (refl, refl)
comparing p how w.LessOrEqual h = (refl, refl)
comparing p how w.Equal h = (refl, refl)
comparing p how w.NotEqual h = (refl, refl)
comparing p how w.Greater h = (refl, refl)
comparing p how w.GreaterOrEqual h = (refl, refl)
comparing p how _ h = absurd cc

matching : (p unlike : Bool) (k : Terminal) → looks.matching k ≡ Some unlike → (steady k ≡ true)
    × (after_cmp p k ≡ false)
matching p unlike w.Tilde h = (refl, refl)
matching p unlike w.NotTilde h = (refl, refl)
matching p unlike _ h = absurd cc

bar_getline : (t u : Token) (ts : List Token) → terminal t ≡ w.Bar → terminal u ≡ w.Getline
    → ahead (t ∷ u ∷ ts) ≡ w.BarGetline
bar_getline t u ts h k = rw (h, k) refl

-- ---- what follows the first operand of a chain

factors_follow : (n : ℕ) (us : List Token) (xs : List (Term Tree)) (rest : List Token) → Factors n us xs rest
    → after_mul (ahead rest) ≡ false → after_unary (ahead (us ++ rest)) ≡ false
factors_follow _ _ _ _ (g.no_factor n rest) f =
    let q = neither (after_unary (ahead rest)) (looks.is_factor_sign (ahead rest)) f in q.0
factors_follow _ _ _ _ (g.one_factor n t us vs x xs rest h _ _) f =
    let q = factor (terminal t) h in follows after_unary (terminal t) t ((us ++ vs) ++ rest) q.0 refl ∙ q.1

addends_follow : (n : ℕ) (us : List Token) (xs : List (Term Tree)) (rest : List Token) → Addends n us xs rest
    → after_add (ahead rest) ≡ false → after_mul (ahead (us ++ rest)) ≡ false
addends_follow _ _ _ _ (g.no_addend n rest) f =
    let q = neither (after_mul (ahead rest)) (looks.is_term_sign (ahead rest)) f in q.0
addends_follow _ _ _ _ (g.one_addend n t us vs x xs rest h _ _) f =
    let q = addend (terminal t) h in follows after_mul (terminal t) t ((us ++ vs) ++ rest) q.0 refl ∙ q.1

parts_follow : (n : ℕ) (us : List Token) (xs : List Tree) (rest : List Token) → Parts n us xs rest
    → after_cat (ahead rest) ≡ false → after_add (ahead (us ++ rest)) ≡ false
parts_follow _ _ _ _ (g.no_part n rest) f =
    let q = neither (after_add (ahead rest)) (looks.begins_part (ahead rest)) f in q.0
parts_follow _ _ _ _ (g.one_part n us vs x xs rest h _ _) f =
    rw (append_assoc us vs rest) (part (ahead (us ++ (vs ++ rest))) h)

pipes_follow : (n : ℕ) (us : List Token) (xs : List (Piped Tree)) (rest : List Token) → Pipes n us xs rest
    → after_pipe (ahead rest) ≡ false → after_cat (ahead (us ++ rest)) ≡ false
pipes_follow _ _ _ _ (g.no_pipe n rest) f =
    let q = neither (after_cat (ahead rest)) (is w.BarGetline (ahead rest)) f in q.0
pipes_follow _ _ _ _ (g.one_pipe n t u us vs x xs rest h k _ _) f =
    ap after_cat (bar_getline t u ((us ++ vs) ++ rest) h k)

names_follow : (p : Bool) (us : List Token) (ms : List Member) (rest : List Token) → Names us ms rest
    → after_isin p (ahead rest) ≡ false → after_match p (ahead (us ++ rest)) ≡ false
names_follow p _ _ _ (g.no_name rest) f = let q = neither (after_match p (ahead rest)) (is w.In (ahead rest)) f in q.0
names_follow p _ _ _ (g.one_name t u vs ms rest h _ _) f = follows (after_match p) w.In t (u ∷ (vs ++ rest)) refl h

-- ---- in NAME

in_name_reads : (t u : Token) (rest : List Token) → terminal t ≡ w.In → terminal u ≡ w.Name
    → e.in_name (t ∷ u ∷ rest) ≡ Ok (record { place = t.place; array = name_of u }, rest)
unfolding e.in_name
in_name_reads t u rest h k = rw (one_reads w.In t (u ∷ rest) refl refl h, one_reads w.Name u rest refl refl k) refl

names_turns : (us : List Token) (ms : List Member) (rest : List Token) → Names us ms rest → is w.In (ahead rest) ≡ false
    → Turns (is w.In) e.in_name (us ++ rest) ms rest
names_turns _ _ _ (g.no_name rest) f = stop rest f
names_turns _ _ _ (g.one_name t u vs ms rest h k more) f =
    turn_on (is w.In) e.in_name (t ∷ u ∷ []) vs rest (record { place = t.place; array = name_of u }) ms (omega arith)
    (follows (is w.In) w.In t (u ∷ (vs ++ rest)) refl h) (in_name_reads t u (vs ++ rest) h k)
    (names_turns vs ms rest more f)

names_reads : (us : List Token) (ms : List Member) (rest : List Token) → Names us ms rest → is w.In (ahead rest) ≡ false
    → e.in_names (us ++ rest) ≡ Ok (ms, rest)
unfolding e.in_names
names_reads us ms rest h f = many_reads (is w.In) e.in_name (us ++ rest) ms rest (names_turns us ms rest h f)

in_rest_reads : (us : List Token) (x : Tree) (ms : List Member) (rest : List Token) → Names us ms rest
    → is w.In (ahead rest) ≡ false → e.in_rest x (us ++ rest) ≡ Ok (looks.member_of x ms, rest)
unfolding e.in_rest
in_rest_reads us x ms rest h f = rw (names_reads us ms rest h f) refl

module _ (n depth : ℕ) (inner : Goal → Parser Tree) (deeper : Reaches n depth inner) where
  -- ---- mul

  factor_reads : (t : Token) (us : List Token) (x : Tree) (rest : List Token) → Spells n rule.unary us x rest
      → after_unary (ahead rest) ≡ false
      → e.factor depth inner (t ∷ (us ++ rest)) ≡ Ok (
        record {
          operator = looks.arithmetic_of (terminal t);
          place =
              t.place;
          operand = x;
        },
        rest,
      )
  unfolding e.factor any
  factor_reads t us x rest s f = rw (unary_reads n depth inner deeper us x rest s f) refl

  factors_turns : (us : List Token) (xs : List (Term Tree)) (rest : List Token) → Factors n us xs rest
      → after_mul (ahead rest) ≡ false → Turns looks.is_factor_sign (e.factor depth inner) (us ++ rest) xs rest
  factors_turns _ _ _ (g.no_factor _ rest) f =
      let q = neither (after_unary (ahead rest)) (looks.is_factor_sign (ahead rest)) f in stop rest q.1
  factors_turns _ _ _ (g.one_factor _ t us vs x xs rest h s k) f =
      turn_on looks.is_factor_sign (e.factor depth inner) (t ∷ us) vs rest
      (record { operator = looks.arithmetic_of (terminal t); place = t.place; operand = x }) xs (omega arith)
      (seen_as looks.is_factor_sign true t (us ++ (vs ++ rest)) (λ k h. let q = factor k h in q.0) h)
      (factor_reads t us x (vs ++ rest) s (factors_follow n vs xs rest k f)) (factors_turns vs xs rest k f)

  abbrev pub mul : Parser Tree
  mul = e.unary depth inner >>= e.product_rest depth inner

  pub mul_reads : (us : List Token) (x : Tree) (rest : List Token) → Spells n rule.mul us x rest
      → after_mul (ahead rest) ≡ false → mul (us ++ rest) ≡ Ok (x, rest)
  unfolding e.product_rest e.factors
  mul_reads _ _ _ (g.a_product _ us vs x xs rest s k) f =
      rw (
        append_assoc us vs rest,
        unary_reads n depth inner deeper us x (vs ++ rest) s
            (factors_follow n vs xs rest k f),
        many_reads looks.is_factor_sign (e.factor depth inner) (vs ++ rest) xs rest
            (factors_turns vs xs rest k f),
      ) refl

  -- ---- add

  addend_reads : (t : Token) (us : List Token) (x : Tree) (rest : List Token) → Spells n rule.mul us x rest
      → after_mul (ahead rest) ≡ false
      → e.addend depth inner (t ∷ (us ++ rest)) ≡ Ok (
        record {
          operator = looks.arithmetic_of (terminal t);
          place =
              t.place;
          operand = x;
        },
        rest,
      )
  unfolding e.addend any
  addend_reads t us x rest s f = rw (mul_reads us x rest s f) refl

  addends_turns : (us : List Token) (xs : List (Term Tree)) (rest : List Token) → Addends n us xs rest
      → after_add (ahead rest) ≡ false → Turns looks.is_term_sign (e.addend depth inner) (us ++ rest) xs rest
  addends_turns _ _ _ (g.no_addend _ rest) f =
      let q = neither (after_mul (ahead rest)) (looks.is_term_sign (ahead rest)) f in stop rest q.1
  addends_turns _ _ _ (g.one_addend _ t us vs x xs rest h s k) f =
      turn_on looks.is_term_sign (e.addend depth inner) (t ∷ us) vs rest
      (record { operator = looks.arithmetic_of (terminal t); place = t.place; operand = x }) xs (omega arith)
      (seen_as looks.is_term_sign true t (us ++ (vs ++ rest)) (λ k h. let q = addend k h in q.0) h)
      (addend_reads t us x (vs ++ rest) s (addends_follow n vs xs rest k f)) (addends_turns vs xs rest k f)

  add_reads : (us : List Token) (x : Tree) (rest : List Token) → Spells n rule.add us x rest
      → after_add (ahead rest) ≡ false → e.part depth inner (us ++ rest) ≡ Ok (x, rest)
  unfolding e.part e.sum_rest e.addends
  add_reads _ _ _ (g.a_sum _ us vs x xs rest s k) f =
      rw (
        append_assoc us vs rest,
        mul_reads us x (vs ++ rest) s (addends_follow n vs xs rest k f),
        many_reads looks.is_term_sign (e.addend depth inner) (vs ++ rest) xs rest (addends_turns vs xs rest k f),
      ) refl

  -- ---- cat

  parts_turns : (us : List Token) (xs : List Tree) (rest : List Token) → Parts n us xs rest
      → after_cat (ahead rest) ≡ false → Turns looks.begins_part (e.part depth inner) (us ++ rest) xs rest
  parts_turns _ _ _ (g.no_part _ rest) f =
      let q = neither (after_add (ahead rest)) (looks.begins_part (ahead rest)) f in stop rest q.1
  parts_turns _ _ _ (g.one_part _ us vs x xs rest h s k) f =
      turn_on looks.begins_part (e.part depth inner) us vs rest x xs
      (heads_some begins_expression us (first n rule.add us x (vs ++ rest) s)) h
      (add_reads us x (vs ++ rest) s (parts_follow n vs xs rest k f)) (parts_turns vs xs rest k f)

  pub cat_reads : (us : List Token) (x : Tree) (rest : List Token) → Spells n rule.cat us x rest
      → after_cat (ahead rest) ≡ false → e.cat depth inner (us ++ rest) ≡ Ok (x, rest)
  unfolding e.cat e.concat_rest e.parts
  cat_reads _ _ _ (g.a_concat _ us vs x xs rest s k) f =
      rw (
        append_assoc us vs rest,
        add_reads us x (vs ++ rest) s (parts_follow n vs xs rest k f),
        many_reads looks.begins_part (e.part depth inner) (vs ++ rest) xs rest (parts_turns vs xs rest k f),
      ) refl

  -- ---- pipe

  one_pipe_reads : (t u : Token) (us : List Token) (x : Option Tree) (rest : List Token) → terminal u ≡ w.Getline
      → g.Target n us x rest → e.one_pipe depth inner (t ∷ u ∷ (us ++ rest))
      ≡ Ok (record { place = u.place; target = x }, rest)
  unfolding e.one_pipe any
  one_pipe_reads t u us x rest h a = rw (
    one_reads w.Getline u (us ++ rest) refl refl h,
    target_reads n depth inner deeper us x rest a,
  ) refl

  pipes_turns : (us : List Token) (xs : List (Piped Tree)) (rest : List Token) → Pipes n us xs rest
      → after_pipe (ahead rest) ≡ false → Turns (is w.BarGetline) (e.one_pipe depth inner) (us ++ rest) xs rest
  pipes_turns _ _ _ (g.no_pipe _ rest) f =
      let q = neither (after_cat (ahead rest)) (is w.BarGetline (ahead rest)) f in stop rest q.1
  pipes_turns _ _ _ (g.one_pipe _ t u us vs x xs rest h k a more) f =
      turn_on (is w.BarGetline) (e.one_pipe depth inner) (t ∷ u ∷ us) vs rest (record { place = u.place; target = x })
      xs (omega arith) (ap (is w.BarGetline) (bar_getline t u (us ++ (vs ++ rest)) h k))
      (one_pipe_reads t u us x (vs ++ rest) k a) (pipes_turns vs xs rest more f)

  pub pipe_reads : (us : List Token) (x : Tree) (rest : List Token) → Spells n rule.pipe us x rest
      → after_pipe (ahead rest) ≡ false → e.pipe depth inner (us ++ rest) ≡ Ok (x, rest)
  unfolding e.pipe e.pipe_rest e.pipes
  pipe_reads _ _ _ (g.a_pipe _ us vs x xs rest s k) f =
      rw (
        append_assoc us vs rest,
        cat_reads us x (vs ++ rest) s (pipes_follow n vs xs rest k f),
        many_reads (is w.BarGetline) (e.one_pipe depth inner) (vs ++ rest) xs rest (pipes_turns vs xs rest k f),
      ) refl

  -- ---- cmp, match

  cmp_reads : (p : Bool) (us : List Token) (x : Tree) (rest : List Token) → Spells n (rule.cmp p) us x rest
      → after_cmp p (ahead rest) ≡ false → e.cmp depth inner p (us ++ rest) ≡ Ok (x, rest)
  unfolding e.cmp e.compare_rest any
  cmp_reads _ _ _ _ (g.only_pipe _ p us x rest s) f =
      let q = neither (after_pipe (ahead rest)) (is_some (looks.comparison p (ahead rest))) f in
      rw (pipe_reads us x rest s q.0, none_is (looks.comparison p (ahead rest)) q.1) refl
  cmp_reads _ _ _ _ (g.a_comparison _ p how t us vs x y rest h s k) f =
      let q = neither (after_pipe (ahead rest)) (is_some (looks.comparison p (ahead rest))) f in
      let c = comparing p how (terminal t) h in
      rw (
        append_assoc us (t ∷ vs) rest,
        pipe_reads us x (t ∷ (vs ++ rest)) s (follows after_pipe (terminal t) t (vs ++ rest) c.0 refl ∙ c.1),
        seen_as (looks.comparison p) (Some how) t (vs ++ rest) (λ k h. let c = comparing p how k h in c.0) h,
        pipe_reads vs y rest k q.0,
      ) refl

  abbrev pub match : Bool → Parser Tree
  match p = e.cmp depth inner p >>= e.match_rest depth inner p

  match_reads : (p : Bool) (us : List Token) (x : Tree) (rest : List Token) → Spells n (rule.match p) us x rest
      → after_match p (ahead rest) ≡ false → match p (us ++ rest) ≡ Ok (x, rest)
  unfolding e.match_rest any
  match_reads _ _ _ _ (g.only_cmp _ p us x rest s) f =
      let q = neither (after_cmp p (ahead rest)) (is_some (looks.matching (ahead rest))) f in
      rw (cmp_reads p us x rest s q.0, none_is (looks.matching (ahead rest)) q.1) refl
  match_reads _ _ _ _ (g.a_match _ p unlike t us vs x y rest h s k) f =
      let q = neither (after_cmp p (ahead rest)) (is_some (looks.matching (ahead rest))) f in
      let c = matching p unlike (terminal t) h in
      rw (
        append_assoc us (t ∷ vs) rest,
        cmp_reads p us x (t ∷ (vs ++ rest)) s (follows (after_cmp p) (terminal t) t (vs ++ rest) c.0 refl ∙ c.1),
        seen_as looks.matching (Some unlike) t (vs ++ rest) (λ k h. let c = matching p unlike k h in c.0) h,
        cmp_reads p vs y rest k q.0,
      ) refl

  -- ---- isin

  -- the same steps, grouped to the right
  regroup : (p : Bool) (o : Outcome Tree)
      → and_then (and_then (and_then
      (and_then (and_then (and_then (and_then o (e.product_rest depth inner)) (e.sum_rest depth inner))
      (e.concat_rest depth inner)) (e.pipe_rest depth inner)) (e.compare_rest depth inner p))
      (e.match_rest depth inner p)) e.in_rest
      ≡ and_then o (e.unary_rest depth inner p)
  unfolding e.unary_rest
  regroup p (Ok q) = refl
  regroup p (Err d) = refl

  member_reads : (p : Bool) (us vs : List Token) (x : Tree) (ms : List Member) (rest : List Token)
      → Spells n (rule.match p) us x (vs ++ rest) → Names vs ms rest → after_isin p (ahead rest) ≡ false
      → and_then (e.unary depth inner ((us ++ vs) ++ rest)) (e.unary_rest depth inner p) ≡ Ok (
        looks.member_of x ms,
        rest,
      )
  unfolding e.cmp e.pipe e.cat e.part
  member_reads p us vs x ms rest s k f =
      let q = neither (after_match p (ahead rest)) (is w.In (ahead rest)) f in
      rw (
        append_assoc us vs rest,
        ← regroup p (e.unary depth inner (us ++ (vs ++ rest))),
        match_reads p us x (vs ++ rest) s (names_follow p vs ms rest k f),
      ) (in_rest_reads vs x ms rest k q.1)

  -- what stands in parentheses, where it may be a list

  commas_none : (ts : List Token) → is w.Comma (ahead ts) ≡ false → e.commas depth inner ts ≡ Ok ([], ts)
  unfolding e.commas
  commas_none ts h = many_reads (is w.Comma) (e.next_in_list depth inner) ts [] ts (stop ts h)

  closing_seen : (ts : List Token) (t : Token) (r : List Token) → one w.CloseParen ts ≡ Ok (t, r)
      → is w.Comma (ahead ts) ≡ false
  unfolding one
  closing_seen ts t r h =
      elim (chosen (is (ahead ts) w.CloseParen) (any ts) (refuse ts) (Ok (t, r)) h) [
        | inl k ↦ let same = is-true (ahead ts) w.CloseParen refl k.0 in ap (is w.Comma) same
        | inr k ↦ absurd cc
      ]

  from_paren_is : (p : Bool) (ts : List Token) (o c : Token) (x : Tree) (m k l : List Token)
      → one w.OpenParen ts ≡ Ok (o, m) → inner (goal.Expr false) m ≡ Ok (x, k) → one w.CloseParen k ≡ Ok (c, l)
      → e.from_paren depth inner p ts ≡ and_then (e.power_rest depth inner (tree.paren o.place x) l)
      (e.unary_rest depth inner p)
  unfolding e.from_paren
  from_paren_is p ts o c x m k l h i j = rw (h, i, commas_none k (closing_seen k c l j), j) refl

  -- the parts of `( expr )`, by which a list of one is read too
  paren_parts : (p : Bool) (ts : List Token) (l : Tree) (m : List Token) → e.in_paren depth inner ts ≡ Ok (l, m)
      → (place : Place) × (x : Tree) × (l ≡ tree.paren place x)
      × (e.from_paren depth inner p ts ≡ and_then (e.power_rest depth inner (tree.paren place x) m)
      (e.unary_rest depth inner p))
  unfolding e.in_paren
  paren_parts p ts l m h =
      let a = bind_ok (one w.OpenParen ts) (λ t. inner (goal.Expr false) >>= λ x. one w.CloseParen
      >>= λ _. pure (tree.paren t.place x)) l m h in
      let b = bind_ok (inner (goal.Expr false) a.1) (λ x. one w.CloseParen >>= λ _. pure (tree.paren (a.0).place x)) l m
      a.3 in
      let c = bind_ok (one w.CloseParen b.1) (λ _. pure (tree.paren (a.0).place b.0)) l m b.3 in
      let d = done_is (tree.paren (a.0).place b.0) l c.1 m c.3 in (
        (a.0).place,
        b.0,
        sym d.0,
        subst (λ (r : List Token). e.from_paren depth inner p ts
            ≡ and_then (e.power_rest depth inner (tree.paren (a.0).place b.0) r) (e.unary_rest depth inner p)) d.1
            (from_paren_is p ts a.0 c.0 b.0 a.1 b.1 c.1 a.2 b.2 c.2),
      )

  no_step_paren : (place : Place) (x : Tree) (found : Option Step) (ts : List Token)
      → e.after_by depth inner (tree.paren place x) found ts ≡ Ok (tree.paren place x, ts)
  no_step_paren place x None ts = refl
  no_step_paren place x (Some which) ts = refl

  prim_paren : (ts : List Token) → ahead ts ≡ w.OpenParen → e.prim depth inner ts ≡ e.in_paren depth inner ts
  unfolding e.prim
  prim_paren ts h = rw h refl

  inc_paren : (ts : List Token) → ahead ts ≡ w.OpenParen → e.inc depth inner ts ≡ and_then (e.in_paren depth inner ts)
      (e.step_after depth inner)
  unfolding e.inc
  inc_paren ts h = rw (h, prim_paren ts h) refl

  unary_paren : (ts : List Token) → ahead ts ≡ w.OpenParen
      → e.unary depth inner ts ≡ and_then (and_then (e.in_paren depth inner ts) (e.step_after depth inner))
      (e.power_rest depth inner)
  unfolding e.unary
  unary_paren ts h = rw (h, inc_paren ts h) refl

  paren_same : (p : Bool) (ts : List Token) (x : Tree) (r : List Token) → ahead ts ≡ w.OpenParen
      → and_then (e.unary depth inner ts) (e.unary_rest depth inner p) ≡ Ok (x, r) → e.from_paren depth inner p ts
      ≡ Ok (x, r)
  unfolding e.step_after
  paren_same p ts x r sees h =
      let a = bind_ok (e.unary depth inner ts) (e.unary_rest depth inner p) x r h in
      let b = bind_ok (and_then (e.in_paren depth inner ts) (e.step_after depth inner)) (e.power_rest depth inner) a.0
      a.1 (sym (unary_paren ts sees) ∙ a.2) in
      let c = bind_ok (e.in_paren depth inner ts) (e.step_after depth inner) b.0 b.1 b.2 in
      let d = paren_parts p ts c.0 c.1 c.2 in
      let after : e.step_after depth inner c.0 c.1 ≡ Ok (c.0, c.1) =
      rw d.2 (no_step_paren d.0 d.1 (step (ahead c.1)) c.1) in
      let same = done_is c.0 b.0 c.1 b.1 (sym after ∙ c.3) in
      let rest : e.power_rest depth inner (tree.paren d.0 d.1) c.1 ≡ Ok (a.0, a.1) = rw (← d.2, same.0, same.1) b.3 in
      rw (d.3, rest) a.3

  -- the list in parentheses, whatever comes of it
  pub from_paren_reads : (p : Bool) (o c : Token) (us : List Token) (x : Tree) (xs : List Tree) (rest : List Token)
      (v : Outcome Tree) → terminal o ≡ w.OpenParen → terminal c ≡ w.CloseParen → Opens n
      → Listed (suc n) us (x ∷ xs) (c ∷ rest)
      → e.grouped depth inner p o.place x xs rest ≡ v → e.from_paren depth inner p (o ∷ (us ++ (c ∷ rest))) ≡ v
  unfolding e.from_paren e.commas
  from_paren_reads p o c _ _ _ rest v h j opens (g.a_list _ us vs x xs _ s k) q =
      let f = follows (after_expr false) w.CloseParen c rest refl j in
      rw (
        append_assoc us vs (c ∷ rest),
        one_reads w.OpenParen o (us ++ (vs ++ (c ∷ rest))) refl refl h,
        deeper.wholes false us x (vs ++ (c ∷ rest)) opens s (commas_follow (suc n) vs xs (c ∷ rest) k f),
        many_reads (is w.Comma) (e.next_in_list depth inner) (vs ++ (c ∷ rest)) xs (c ∷ rest)
            (commas_turns n depth inner deeper vs xs (c ∷ rest) opens k f
            (follows (is w.Comma) w.CloseParen c rest refl j)),
        one_reads w.CloseParen c rest refl refl j,
      ) q

  group_reads : (p : Bool) (place : Place) (us : List Token) (x y : Tree) (zs : List Tree) (m : Member)
      (ms : List Member) (rest : List Token) → Names us (m ∷ ms) rest → is w.In (ahead rest) ≡ false
      → e.grouped depth inner p place x (y ∷ zs) (us ++ rest) ≡ Ok (
        tree.group place (trees_of (x ∷ y ∷ zs)) (m ∷ ms),
        rest,
      )
  group_reads p place _ x y zs _ _ rest (g.one_name t u vs ms _ h k more) f = rw (
    in_name_reads t u (vs ++ rest) h k,
    names_reads vs ms rest more f,
  ) refl

  pub isin_reads : (p : Bool) (us : List Token) (x : Tree) (rest : List Token) → Spells n (rule.isin p) us x rest
      → after_isin p (ahead rest) ≡ false → e.isin depth inner p (us ++ rest) ≡ Ok (x, rest)
  unfolding e.isin
  isin_reads _ _ _ _ (g.a_member _ p us vs x ms rest s k) f =
      let h = member_reads p us vs x ms rest s k f in
      elim (decided (is (ahead ((us ++ vs) ++ rest)) w.OpenParen)) [
        | inl y ↦ rw y (paren_same p ((us ++ vs) ++ rest) (looks.member_of x ms) rest
            (is-true (ahead ((us ++ vs) ++ rest)) w.OpenParen refl y) h)
        | inr m ↦ rw m h
      ]
  isin_reads _ _ _ _ (g.a_group _ p o c us vs x y zs m ms rest h j opens l k) f =
      let q = neither (after_match p (ahead rest)) (is w.In (ahead rest)) f in
      rw (append_assoc us (c ∷ vs) rest, ahead_is w.OpenParen o (us ++ (c ∷ (vs ++ rest))) refl h)
      (from_paren_reads p o c us x (y ∷ zs) (vs ++ rest) (Ok (
        tree.group o.place (trees_of (x ∷ y ∷ zs)) (m ∷ ms),
        rest,
      )) h j opens l (group_reads p o.place vs x y zs m ms rest k q.1))
