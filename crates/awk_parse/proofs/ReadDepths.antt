-- What is spelled is read: assignments, chains of `&&` and `||`, choices, and whole expressions at each depth.
use Rattle.std.proofs.Common.{◌≡◌, ℕ, zero, suc, ◌+◌, ◌<◌, Bool, true, false, List, [], ◌∷◌, ◌++◌, length, Some, Ok}
use Rattle.std.proofs.Common.{Err, refl, sym, ◌∙◌, append_assoc, arith, inl, inr, ◌==◌}
use Rattle.std.proofs.lemmas.List.{length-append}
use Rattle.std.proofs.lemmas.Bool.{eqb-true}
use Rattle.awk_tokens.specs.declared.token.Token.{Token}
use Rattle.awk_tokens.specs.declared.terminals.Assignment.{Assignment}
use Rattle.awk_tokens.specs.declared.terminals.Terminal.{Terminal}
use Rattle.awk_tokens.specs.declared.terminals.Terminal.TheVariants as w
use Rattle.awk_tree.specs.Looks as looks
use Rattle.awk_tree.specs.Looks.{skip}
use Rattle.awk_tree.specs.declared.goals.Goal.{Goal}
use Rattle.awk_tree.specs.Tree.{Tree}
use Rattle.awk_tree.specs.Terminals.{terminal, is, ahead}
use Rattle.awk_tree.specs.Input.{Parser, Outcome, and_then, ◌>>=◌, any}
use Rattle.awk_tree.specs.Expressions as e
use Rattle.awk_parse.specs.Rules as rule
use Rattle.awk_parse.specs.Rules.{Rule}
use Rattle.awk_parse.specs.Spells as g
use Rattle.awk_parse.specs.Spells.{Spells, Opens, Newlines, Ands, Ors}
use Rattle.awk_parse.proofs.TerminalLemmas.{steady, ahead_is}
use Rattle.awk_parse.proofs.Law.{decided}
use Rattle.awk_parse.proofs.ReadSteps.{one_reads, follows, seen_as, neither, is_some, none_is, Turns, stop, turn}
use Rattle.awk_parse.proofs.ReadSteps.{turn_on, many_reads}
use Rattle.awk_parse.proofs.ReadSteps.{after_isin, after_conjunct, after_and, after_or, after_expr}
use Rattle.awk_parse.proofs.Firsts.{first}
use Rattle.awk_parse.proofs.ReadOperands.{Reaches, lines_gone, unary_reads, operand_reads, lvalue_reads, inc_reads}
use Rattle.awk_parse.proofs.ReadChains.{isin_reads}

assigning : (p : Bool) (how : Assignment) (k : Terminal) → looks.assignment k ≡ Some how → (steady k ≡ true)
    × (after_isin p k ≡ false)
assigning p how (w.Assign other) h = (refl, refl)
assigning p how _ h = absurd cc

-- what goes on behind a chain, where the second flag says that its last operand is an assignment
abbrev pub behind_and : Bool → Bool → Terminal → Bool
behind_and p true k = after_expr p k
behind_and p false k = after_and p k

abbrev pub behind_or : Bool → Bool → Terminal → Bool
behind_or p true k = after_expr p k
behind_or p false k = after_or p k

or_stops : (p : Bool) (k : Terminal) → after_expr p k ≡ false → after_or p k ≡ false
or_stops p k h = let q = neither (after_or p k) (is k w.Question) h in q.0

and_stops : (p : Bool) (k : Terminal) → after_or p k ≡ false → after_and p k ≡ false
and_stops p k h = let q = neither (after_and p k) (is w.Or k) h in q.0

no_or : (p last : Bool) (k : Terminal) → behind_or p last k ≡ false → after_or p k ≡ false
no_or p true k h = or_stops p k h
no_or p false k h = h

no_and : (p last : Bool) (k : Terminal) → behind_and p last k ≡ false → after_and p k ≡ false
no_and p true k h = and_stops p k (or_stops p k h)
no_and p false k h = h

ands_follow : (n : ℕ) (p last : Bool) (us : List Token) (xs : List Tree) (rest : List Token) → Ands n p last us xs rest
    → behind_and p last (ahead rest) ≡ false → after_conjunct p (ahead (us ++ rest)) ≡ false
ands_follow _ _ _ _ _ _ (g.no_and n p rest) f =
    let q = neither (after_conjunct p (ahead rest)) (is w.And (ahead rest)) f in q.0
ands_follow _ _ _ _ _ _ (g.one_and n p last t ns us vs x xs rest h _ _ _) f = follows (after_conjunct p) w.And t
    (((ns ++ us) ++ vs) ++ rest) refl h
ands_follow _ _ _ _ _ _ (g.last_and n p t ns us x rest h _ _) f = follows (after_conjunct p) w.And t
    ((ns ++ us) ++ rest) refl h

ors_follow : (n : ℕ) (p last : Bool) (us : List Token) (xs : List Tree) (rest : List Token) → Ors n p last us xs rest
    → behind_or p last (ahead rest) ≡ false → after_and p (ahead (us ++ rest)) ≡ false
ors_follow _ _ _ _ _ _ (g.no_or n p rest) f = and_stops p (ahead rest) f
ors_follow _ _ _ _ _ _ (g.one_or n p last t ns us vs x xs rest h _ _ _) f =
    follows (after_and p) w.Or t (((ns ++ us) ++ vs) ++ rest) refl h
ors_follow _ _ _ _ _ _ (g.last_or n p t ns us x rest h _ _) f = follows (after_and p) w.Or t ((ns ++ us) ++ rest) refl h

shorter : (t : Token) (us rest : List Token) → length rest < length (t ∷ (us ++ rest))
shorter t us rest = omega (arith, length-append us rest)

module _ (n depth : ℕ) (inner : Goal → Parser Tree) (deeper : Reaches n depth inner) where
  set_reads : (p : Bool) (us : List Token) (x : Tree) (rest : List Token) → Spells n (rule.set p) us x rest
      → after_expr p (ahead rest) ≡ false → e.conjunct depth inner p (us ++ rest) ≡ Ok (x, rest)
  unfolding e.conjunct e.assigned any
  set_reads _ _ _ _ (g.an_assignment _ p how t us vs x y rest h l s o k) f =
      let c = assigning p how (terminal t) h in
      rw (
        append_assoc us (t ∷ vs) rest,
        isin_reads n depth inner deeper p us x (t ∷ (vs ++ rest)) s (follows (after_isin p) (terminal t) t
            (vs ++ rest) c.0 refl ∙ c.1),
        seen_as looks.assignment (Some how) t (vs ++ rest) (λ k h. let c = assigning p how k h in c.0) h,
        l,
        deeper.wholes p vs y rest o k f,
      ) refl

  plain_reads : (p : Bool) (us : List Token) (x : Tree) (rest : List Token) → Spells n (rule.isin p) us x rest
      → after_conjunct p (ahead rest) ≡ false → e.conjunct depth inner p (us ++ rest) ≡ Ok (x, rest)
  unfolding e.conjunct e.assigned
  plain_reads p us x rest s f =
      let q = neither (after_isin p (ahead rest)) (is_some (looks.assignment (ahead rest))) f in
      rw (isin_reads n depth inner deeper p us x rest s q.0, none_is (looks.assignment (ahead rest)) q.1) refl

  -- ---- and

  ands_turns : (p last : Bool) (us : List Token) (xs : List Tree) (rest : List Token) → Ands n p last us xs rest
      → behind_and p last (ahead rest) ≡ false → Turns (is w.And) (e.next_conjunct depth inner p) (us ++ rest) xs rest
  unfolding e.next_conjunct
  ands_turns _ _ _ _ _ (g.no_and _ p rest) f =
      let q = neither (after_conjunct p (ahead rest)) (is w.And (ahead rest)) f in stop rest q.1
  ands_turns _ _ _ _ _ (g.one_and _ p last t ns us vs x xs rest h l s k) f =
      turn_on (is w.And) (e.next_conjunct depth inner p) (t ∷ ns ++ us) vs rest x xs (omega arith)
      (follows (is w.And) w.And t ((ns ++ us) ++ (vs ++ rest)) refl h)
      (rw (
        one_reads w.And t ((ns ++ us) ++ (vs ++ rest)) refl refl h,
        lines_gone ns us (vs ++ rest) l
            (first n (rule.isin p) us x (vs ++ rest) s),
      )
      (plain_reads p us x (vs ++ rest) s (ands_follow n p last vs xs rest k f)))
      (ands_turns p last vs xs rest k f)
  ands_turns _ _ _ _ _ (g.last_and _ p t ns us x rest h l s) f =
      let q = neither (after_conjunct p (ahead rest)) (is w.And (ahead rest)) (no_and p true (ahead rest) f) in
      turn ((t ∷ ns ++ us) ++ rest) rest rest x [] (follows (is w.And) w.And t ((ns ++ us) ++ rest) refl h)
      (rw (
        one_reads w.And t ((ns ++ us) ++ rest) refl refl h,
        lines_gone ns us rest l (first n (rule.set p) us x rest s),
      ) (set_reads p us x rest s f))
      (shorter t (ns ++ us) rest) (stop rest q.1)

  abbrev conjunction : Bool → Parser Tree
  conjunction p = e.conjunct depth inner p >>= e.and_rest depth inner p

  and_reads : (p last : Bool) (us : List Token) (x : Tree) (rest : List Token) → Spells n (rule.and p last) us x rest
      → behind_and p last (ahead rest) ≡ false → conjunction p (us ++ rest) ≡ Ok (x, rest)
  unfolding e.and_rest e.conjuncts
  and_reads _ _ _ _ _ (g.an_and _ p last us vs x xs rest s k) f =
      rw (
        append_assoc us vs rest,
        plain_reads p us x (vs ++ rest) s (ands_follow n p last vs xs rest k f),
        many_reads (is w.And) (e.next_conjunct depth inner p) (vs ++ rest) xs rest (ands_turns p last vs xs rest k f),
      )
      refl
  and_reads _ _ _ _ _ (g.only_set _ p us x rest s) f =
      let q = neither (after_conjunct p (ahead rest)) (is w.And (ahead rest)) (no_and p true (ahead rest) f) in
      rw (set_reads p us x rest s f, many_reads (is w.And) (e.next_conjunct depth inner p) rest [] rest (stop rest q.1))
      refl

  -- ---- or

  ors_turns : (p last : Bool) (us : List Token) (xs : List Tree) (rest : List Token) → Ors n p last us xs rest
      → behind_or p last (ahead rest) ≡ false → Turns (is w.Or) (e.next_disjunct depth inner p) (us ++ rest) xs rest
  unfolding e.next_disjunct
  ors_turns _ _ _ _ _ (g.no_or _ p rest) f =
      let q = neither (after_and p (ahead rest)) (is w.Or (ahead rest)) f in stop rest q.1
  ors_turns _ _ _ _ _ (g.one_or _ p last t ns us vs x xs rest h l s k) f =
      turn_on (is w.Or) (e.next_disjunct depth inner p) (t ∷ ns ++ us) vs rest x xs (omega arith)
      (follows (is w.Or) w.Or t ((ns ++ us) ++ (vs ++ rest)) refl h)
      (rw (
        one_reads w.Or t ((ns ++ us) ++ (vs ++ rest)) refl refl h,
        lines_gone ns us (vs ++ rest) l
            (first n (rule.and p false) us x (vs ++ rest) s),
      ) (and_reads p false us x (vs ++ rest) s
      (ors_follow n p last vs xs rest k f)))
      (ors_turns p last vs xs rest k f)
  ors_turns _ _ _ _ _ (g.last_or _ p t ns us x rest h l s) f =
      let q = neither (after_and p (ahead rest)) (is w.Or (ahead rest)) (or_stops p (ahead rest) f) in
      turn ((t ∷ ns ++ us) ++ rest) rest rest x [] (follows (is w.Or) w.Or t ((ns ++ us) ++ rest) refl h)
      (rw (
        one_reads w.Or t ((ns ++ us) ++ rest) refl refl h,
        lines_gone ns us rest l (first n (rule.and p true) us x rest s),
      ) (and_reads p true us x rest s f))
      (shorter t (ns ++ us) rest) (stop rest q.1)

  abbrev disjunction : Bool → Parser Tree
  disjunction p = e.conjunct depth inner p >>= e.and_rest depth inner p >>= e.or_rest depth inner p

  or_reads : (p last : Bool) (us : List Token) (x : Tree) (rest : List Token) → Spells n (rule.or p last) us x rest
      → behind_or p last (ahead rest) ≡ false → disjunction p (us ++ rest) ≡ Ok (x, rest)
  unfolding e.or_rest e.disjuncts
  or_reads _ _ _ _ _ (g.an_or _ p last us vs x xs rest s k) f =
      rw (
        append_assoc us vs rest,
        and_reads p false us x (vs ++ rest) s (ors_follow n p last vs xs rest k f),
        many_reads (is w.Or) (e.next_disjunct depth inner p) (vs ++ rest) xs rest (ors_turns p last vs xs rest k f),
      )
      refl
  or_reads _ _ _ _ _ (g.only_and _ p us x rest s) f =
      let q = neither (after_and p (ahead rest)) (is w.Or (ahead rest)) (or_stops p (ahead rest) f) in
      rw (
        and_reads p true us x rest s f,
        many_reads (is w.Or) (e.next_disjunct depth inner p) rest [] rest
            (stop rest q.1),
      ) refl

  -- ---- choices

  abbrev chosen_from : Bool → Parser Tree
  chosen_from p = e.conjunct depth inner p >>= e.and_rest depth inner p >>= e.or_rest depth inner p
      >>= e.choose_rest depth inner p

  stays_reads : (p last : Bool) (us : List Token) (x : Tree) (rest : List Token) → Spells n (rule.or p last) us x rest
      → behind_or p last (ahead rest) ≡ false → is (ahead rest) w.Question ≡ false
      → chosen_from p (us ++ rest) ≡ Ok (x, rest)
  unfolding e.choose_rest
  stays_reads p last us x rest s f h = rw (or_reads p last us x rest s f, h) refl

  branch_reads : (p : Bool) (t u : Token) (us : List Token) (x : Tree) (rest : List Token) → terminal t ≡ w.Question
      → terminal u ≡ w.Colon → Opens n → Spells (suc n) (rule.expr p) us x (u ∷ rest)
      → e.then_branch depth inner p (t ∷ (us ++ (u ∷ rest))) ≡ Ok (x, rest)
  unfolding e.then_branch
  branch_reads p t u us x rest h j o s =
      rw (
        one_reads w.Question t (us ++ (u ∷ rest)) refl refl h,
        deeper.wholes p us x (u ∷ rest) o s
            (follows (after_expr p) w.Colon u rest refl j),
        one_reads w.Colon u rest refl refl j,
      ) refl

  cond_reads : (p : Bool) (us : List Token) (x : Tree) (rest : List Token) → Spells n (rule.cond p) us x rest
      → after_expr p (ahead rest) ≡ false → chosen_from p (us ++ rest) ≡ Ok (x, rest)
  unfolding e.choose_rest
  cond_reads _ _ _ _ (g.only_or _ p us x rest s) f =
      let q = neither (after_or p (ahead rest)) (is (ahead rest) w.Question) f in
      stays_reads p false us x rest s q.0 q.1
  cond_reads _ _ _ _ (g.a_choice _ p t u us vs ws x y z rest h j s o k l) f =
      rw (
        append_assoc us (t ∷ (vs ++ (u ∷ ws))) rest,
        append_assoc vs (u ∷ ws) rest,
        or_reads p false us x (t ∷ (vs ++ (u ∷ (ws ++ rest)))) s
            (follows (after_or p) w.Question t (vs ++ (u ∷ (ws ++ rest))) refl h),
        ahead_is w.Question t (vs ++ (u ∷ (ws ++ rest))) refl h,
        branch_reads p t u vs y (ws ++ rest) h j o k,
        deeper.wholes p ws z rest o l f,
      ) refl

  -- the same steps, grouped to the right
  regroup : (p : Bool) (o : Outcome Tree)
      → and_then (and_then (and_then (and_then o (e.assigned depth inner p)) (e.and_rest depth inner p))
      (e.or_rest depth inner p)) (e.choose_rest depth inner p) ≡ and_then o (e.expr_rest depth inner p)
  unfolding e.expr_rest
  regroup p (Ok q) = refl
  regroup p (Err d) = refl

  whole_reads : (p : Bool) (us : List Token) (x : Tree) (rest : List Token) → Spells n (rule.expr p) us x rest
      → after_expr p (ahead rest) ≡ false → chosen_from p (us ++ rest) ≡ Ok (x, rest)
  whole_reads _ _ _ _ (g.only_cond _ p us x rest s) f = cond_reads p us x rest s f
  whole_reads _ _ _ _ (g.an_assigning _ p us x rest s) f =
      let q = neither (after_or p (ahead rest)) (is (ahead rest) w.Question) f in stays_reads p true us x rest s f q.1

  pub expression_reads : (p : Bool) (us : List Token) (x : Tree) (rest : List Token) → Spells n (rule.expr p) us x rest
      → after_expr p (ahead rest) ≡ false → e.expression depth inner p (us ++ rest) ≡ Ok (x, rest)
  unfolding e.expression e.conjunct
  expression_reads p us x rest s f = sym (regroup p (e.isin depth inner p (us ++ rest))) ∙ whole_reads p us x rest s f

-- ---- at each depth

not_zero : (n : ℕ) → (suc n == 0) ≡ false
not_zero n =
    elim (decided (suc n == 0)) [
      | inl y ↦ absurd (let same = eqb-true (suc n) 0 y in omega (arith, same))
      | inr m ↦ m
    ]

pub reaches : (n depth : ℕ) → n + depth ≡ 200 → Reaches n depth (e.expr depth)
unfolding e.expr
reaches n zero h = record {
  opens = λ o. absurd (omega (arith, h, o));
  wholes =
      λ p us x rest o. absurd (omega (arith, h, o));
  unaries = λ us x rest o. absurd (omega (arith, h, o));
  operands =
      λ us x rest o. absurd (omega (arith, h, o));
  lvalues = λ us x rest o. absurd (omega (arith, h, o));
  files =
      λ us x rest o. absurd (omega (arith, h, o));
}
reaches n (suc depth) h =
    let d = reaches (suc n) depth (omega (arith, h)) in
    record {
      opens = λ o. not_zero depth;
      wholes = λ p us x rest o s f. expression_reads (suc n) depth (e.expr depth) d p us x rest s f;
      unaries = λ us x rest o s f. unary_reads (suc n) depth (e.expr depth) d us x rest s f;
      operands = λ us x rest o s. operand_reads (suc n) depth (e.expr depth) d us x rest s;
      lvalues = λ us x rest o s. lvalue_reads (suc n) depth (e.expr depth) d us x rest s;
      files = λ us x rest o s. inc_reads (suc n) depth (e.expr depth) d us x rest s;
    }
