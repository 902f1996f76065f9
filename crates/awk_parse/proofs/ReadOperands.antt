-- What is spelled is read: the rules up to unary, where `inner` reads what is spelled one level deeper.
use Rattle.std.proofs.Common.{◌≡◌, ℕ, suc, ◌≤◌, Bool, true, false, List, [], ◌∷◌, ◌++◌, length, Option, Some, None, Ok}
use Rattle.std.proofs.Common.{refl, ap, subst, append_assoc, arith, ◌==◌, ◌⊎◌, inl, inr}
use Rattle.awk_text.specs.declared.place.Place.{Place}
use Rattle.awk_tokens.specs.declared.token.Token.{Token}
use Rattle.awk_tokens.specs.Words as words
use Rattle.awk_tokens.specs.declared.words.Builtin.{Builtin}
use Rattle.awk_tokens.specs.declared.words.Builtin.TheVariants as b
use Rattle.awk_tokens.specs.declared.words.Parameters.{Parameters}
use Rattle.awk_tokens.specs.declared.words.Parameters.TheVariants as takes
use Rattle.awk_tokens.specs.declared.terminals.Step.{Step}
use Rattle.awk_tokens.specs.declared.terminals.Terminal.{Terminal}
use Rattle.awk_tokens.specs.declared.terminals.Terminal.TheVariants as w
use Rattle.awk_tree.specs.Terminals.{substituting}
use Rattle.awk_tree.specs.Looks as looks
use Rattle.awk_tree.specs.Looks.{is_lvalue, name_of, sign, skip, step}
use Rattle.awk_tree.specs.declared.operators.Sign.{Sign}
use Rattle.awk_tree.specs.declared.goals.Goal.{Goal}
use Rattle.awk_tree.specs.declared.goals.Goal.TheVariants as goal
use Rattle.awk_tree.specs.Tree as tree
use Rattle.awk_tree.specs.Tree.{Tree, trees_of, perhaps_of}
use Rattle.awk_tree.specs.Terminals.{terminal, is, look, ahead}
use Rattle.awk_tree.specs.Input.{Parser, Outcome, ◌>>=◌, any}
use Rattle.awk_tree.specs.Expressions as e
use Rattle.awk_parse.specs.Rules as rule
use Rattle.awk_parse.specs.Rules.{Rule}
use Rattle.awk_parse.specs.Spells as g
use Rattle.awk_parse.specs.Spells.{Spells, Opens, Newlines, Listed, Commas, Next, Arguments, Further, Into, Target}
use Rattle.awk_parse.specs.Spells.{Source, takes_none, takes_one}
use Rattle.awk_parse.proofs.TerminalLemmas.{steady, ahead_is}
use Rattle.awk_parse.proofs.Law.{decided}
use Rattle.awk_parse.proofs.ReadSteps.{one_reads, skip_reads, follows, seen_as, is_not, Turns, stop, turn_on}
use Rattle.awk_parse.proofs.ReadSteps.{many_reads, after_unary, after_expr}
use Rattle.awk_parse.proofs.Starts.{begins_expression, no_line}
use Rattle.awk_parse.proofs.Firsts.{Heads, heads_append, heads_look, heads_ahead, unary_steady, inc_steady, prim_steady}
use Rattle.awk_parse.proofs.Firsts.{prim_no_step, inc_no_sign, prim_inc, step_begins, step_steady, sign_steady}
use Rattle.awk_parse.proofs.Firsts.{begins_lvalue, begins_prim, begins_inc, first}

-- ---- what a token is not

no_line_lvalue : (k : Terminal) → begins_lvalue k ≡ true → is k w.Newline ≡ false
no_line_lvalue w.Name h = refl
no_line_lvalue w.Dollar h = refl
no_line_lvalue _ h = absurd cc

-- newlines before what begins as an expression does mean nothing
pub lines_gone : (ns us rest : List Token) → Newlines ns → Heads begins_expression us → skip ((ns ++ us) ++ rest) ≡ us
    ++ rest
lines_gone ns us rest l h =
    rw (append_assoc ns us rest)
    (skip_reads ns (us ++ rest) l (no_line (look (us ++ rest)) (heads_look begins_expression us rest h)))

pub lines_reads : (n : ℕ) (p : Bool) (ns us : List Token) (x : Tree) (rest : List Token) → Newlines ns
    → Spells n (rule.expr p) us x rest → skip ((ns ++ us) ++ rest) ≡ us ++ rest
lines_reads n p ns us x rest l s = lines_gone ns us rest l (first n (rule.expr p) us x rest s)

-- what is read one level deeper
pub record Reaches (n depth : ℕ) (inner : Goal → Parser Tree) : Type 0 where
  pub opens : Opens n → (depth == 0) ≡ false
  pub wholes : (p : Bool) (us : List Token) (x : Tree) (rest : List Token) → Opens n
      → Spells (suc n) (rule.expr p) us x rest → after_expr p (ahead rest) ≡ false → inner (goal.Expr p) (us ++ rest)
      ≡ Ok (x, rest)
  pub unaries : (us : List Token) (x : Tree) (rest : List Token) → Opens n → Spells (suc n) rule.unary us x rest
      → after_unary (ahead rest) ≡ false → inner goal.Unary (us ++ rest) ≡ Ok (x, rest)
  pub operands : (us : List Token) (x : Tree) (rest : List Token) → Opens n → Spells (suc n) rule.dol us x rest
      → inner goal.Operand (us ++ rest) ≡ Ok (x, rest)
  pub lvalues : (us : List Token) (x : Tree) (rest : List Token) → Opens n → Spells (suc n) rule.lvalue us x rest
      → inner goal.Lvalue (us ++ rest) ≡ Ok (x, rest)
  pub files : (us : List Token) (x : Tree) (rest : List Token) → Opens n → Spells (suc n) rule.inc us x rest
      → inner goal.File (us ++ rest) ≡ Ok (x, rest)

-- ---- , expr

next_ahead : (n : ℕ) (us : List Token) (x : Tree) (rest m : List Token) → Next n us x rest → ahead (us ++ m) ≡ w.Comma
next_ahead _ _ _ _ m (g.next n t ns us x rest h _ _) = ahead_is w.Comma t ((ns ++ us) ++ m) refl h

next_some : (n : ℕ) (us : List Token) (x : Tree) (rest : List Token) → Next n us x rest → 1 ≤ length us
next_some _ _ _ _ (g.next n t ns us x rest _ _ _) = omega arith

pub commas_follow : (n : ℕ) (us : List Token) (xs : List Tree) (rest : List Token) → Commas n us xs rest
    → after_expr false (ahead rest) ≡ false → after_expr false (ahead (us ++ rest)) ≡ false
commas_follow _ _ _ _ (g.no_comma n rest) f = f
commas_follow _ _ _ _ (g.one_comma n us vs x xs rest s k) f =
    rw (append_assoc us vs rest, next_ahead n us x (vs ++ rest) (vs ++ rest) s) refl

list_first : (n : ℕ) (us : List Token) (xs : List Tree) (rest : List Token) → Listed n us xs rest
    → Heads begins_expression us
list_first _ _ _ _ (g.a_list n us vs x xs rest s _) = heads_append begins_expression us vs
    (first n (rule.expr false) us x (vs ++ rest) s)

further_follow : (n : ℕ) (c : Token) (us : List Token) (x : Option Tree) (rest : List Token) → terminal c ≡ w.CloseParen
    → Further n us x (c ∷ rest) → after_expr false (ahead (us ++ (c ∷ rest))) ≡ false
further_follow _ c _ _ rest j (g.no_further n _) = follows (after_expr false) w.CloseParen c rest refl j
further_follow _ c _ _ rest j (g.further n us x _ s) = ap (after_expr false) (next_ahead n us x (c ∷ rest) (c ∷ rest) s)

into_follow : (n : ℕ) (c : Token) (us : List Token) (x : Option Tree) (rest : List Token) → terminal c ≡ w.CloseParen
    → Into n us x (c ∷ rest) → after_expr false (ahead (us ++ (c ∷ rest))) ≡ false
into_follow _ c _ _ rest j (g.no_into n _) = follows (after_expr false) w.CloseParen c rest refl j
into_follow _ c _ _ rest j (g.into n t ns us x _ h _ _) = follows (after_expr false) w.Comma t
    ((ns ++ us) ++ (c ∷ rest)) refl h

-- ---- parts of what stands in parentheses, put together

pub two_parts : (us vs ws rest : List Token) → ((us ++ vs) ++ ws) ++ rest ≡ us ++ (vs ++ (ws ++ rest))
two_parts us vs ws rest = simp append_assoc

pub three_parts : (us vs ws xs rest : List Token) → (((us ++ vs) ++ ws) ++ xs) ++ rest ≡ us
    ++ (vs ++ (ws ++ (xs ++ rest)))
three_parts us vs ws xs rest = simp append_assoc

module _ (n depth : ℕ) (inner : Goal → Parser Tree) (deeper : Reaches n depth inner) where
  pub next_reads : (us : List Token) (x : Tree) (rest : List Token) → Opens n → Next (suc n) us x rest
      → after_expr false (ahead rest) ≡ false → e.next_in_list depth inner (us ++ rest) ≡ Ok (x, rest)
  unfolding e.next_in_list
  next_reads _ _ _ o (g.next _ t ns us x rest h l s) f =
      rw (one_reads w.Comma t ((ns ++ us) ++ rest) refl refl h, lines_reads (suc n) false ns us x rest l s)
      (deeper.wholes false us x rest o s f)

  pub commas_turns : (us : List Token) (xs : List Tree) (rest : List Token) → Opens n → Commas (suc n) us xs rest
      → after_expr false (ahead rest) ≡ false → is w.Comma (ahead rest) ≡ false
      → Turns (is w.Comma) (e.next_in_list depth inner) (us ++ rest) xs rest
  commas_turns _ _ _ o (g.no_comma _ rest) f c = stop rest c
  commas_turns _ _ _ o (g.one_comma _ us vs x xs rest s k) f c =
      turn_on (is w.Comma) (e.next_in_list depth inner) us vs rest x xs (next_some (suc n) us x (vs ++ rest) s)
      (ap (is w.Comma) (next_ahead (suc n) us x (vs ++ rest) (vs ++ rest) s))
      (next_reads us x (vs ++ rest) o s (commas_follow (suc n) vs xs rest k f)) (commas_turns vs xs rest o k f c)

  -- list = expr { , expr }
  pub list_reads : (us : List Token) (xs : List Tree) (rest : List Token) → Opens n → Listed (suc n) us xs rest
      → after_expr false (ahead rest) ≡ false → is w.Comma (ahead rest) ≡ false → e.list depth inner (us ++ rest)
      ≡ Ok (xs, rest)
  unfolding e.list e.commas
  list_reads _ _ _ o (g.a_list _ us vs x xs rest s k) f c =
      rw (
        append_assoc us vs rest,
        deeper.wholes false us x (vs ++ rest) o s (commas_follow (suc n) vs xs rest k f),
        many_reads (is w.Comma) (e.next_in_list depth inner) (vs ++ rest) xs rest (commas_turns vs xs rest o k f c),
      )
      refl

  arguments_at : (c : Token) (us : List Token) (xs : List Tree) (rest : List Token) → terminal c ≡ w.CloseParen
      → Opens n → Arguments (suc n) us xs (c ∷ rest) → e.list_or_none depth inner (us ++ (c ∷ rest)) ≡ Ok (xs, c ∷ rest)
  unfolding e.list_or_none
  arguments_at c _ _ rest j o (g.no_argument _ _) = rw (ahead_is w.CloseParen c rest refl j) refl
  arguments_at c _ _ rest j o (g.some_arguments _ us xs _ l) =
      rw (is_not begins_expression (ahead (us ++ (c ∷ rest))) w.CloseParen refl
      (heads_ahead begins_expression us (c ∷ rest) unary_steady (list_first (suc n) us xs (c ∷ rest) l)) refl)
      (list_reads us xs (c ∷ rest) o l (follows (after_expr false) w.CloseParen c rest refl j)
      (follows (is w.Comma) w.CloseParen c rest refl j))

  -- ( [ list ] )
  arguments_reads : (o c : Token) (us : List Token) (xs : List Tree) (rest : List Token) → terminal o ≡ w.OpenParen
      → terminal c ≡ w.CloseParen → Opens n → Arguments (suc n) us xs (c ∷ rest)
      → e.arguments depth inner (o ∷ (us ++ (c ∷ rest))) ≡ Ok (xs, rest)
  unfolding e.arguments
  arguments_reads o c us xs rest h j opens a =
      rw (
        one_reads w.OpenParen o (us ++ (c ∷ rest)) refl refl h,
        deeper.opens opens,
        arguments_at c us xs rest j opens a,
        one_reads w.CloseParen c rest refl refl j,
      ) refl

  -- ---- lvalues

  name_reads : (t : Token) (rest : List Token) → terminal t ≡ w.Name → is (ahead rest) w.OpenBracket ≡ false
      → e.named depth inner (t ∷ rest) ≡ Ok (tree.name (name_of t), rest)
  unfolding e.named
  name_reads t rest h alone = rw (one_reads w.Name t rest refl refl h, alone) refl

  element_reads : (t o c : Token) (us : List Token) (xs : List Tree) (rest : List Token) → terminal t ≡ w.Name
      → terminal o ≡ w.OpenBracket → terminal c ≡ w.CloseBracket → Opens n → Listed (suc n) us xs (c ∷ rest)
      → e.named depth inner (t ∷ o ∷ (us ++ (c ∷ rest))) ≡ Ok (tree.element (name_of t) (trees_of xs), rest)
  unfolding e.named
  element_reads t o c us xs rest h i j opens l =
      rw (
        one_reads w.Name t (o ∷ (us ++ (c ∷ rest))) refl refl h,
        ahead_is w.OpenBracket o (us ++ (c ∷ rest)) refl i,
        one_reads w.OpenBracket o (us ++ (c ∷ rest)) refl refl i,
        list_reads us xs (c ∷ rest) opens l (follows (after_expr false) w.CloseBracket c rest refl j)
            (follows (is w.Comma) w.CloseBracket c rest refl j),
        one_reads w.CloseBracket c rest refl refl j,
      ) refl

  field_reads : (t : Token) (us : List Token) (x : Tree) (rest : List Token) → terminal t ≡ w.Dollar → Opens n
      → Spells (suc n) rule.dol us x rest → e.field_of depth inner (t ∷ (us ++ rest)) ≡ Ok (tree.field t.place x, rest)
  unfolding e.field_of
  field_reads t us x rest h o s = rw (one_reads w.Dollar t (us ++ rest) refl refl h, deeper.operands us x rest o s) refl

  abbrev IsNamed : List Token → Tree → List Token → Type 0
  IsNamed ts x rest = (ahead ts ≡ w.Name) × (e.named depth inner ts ≡ Ok (x, rest))

  abbrev IsField : List Token → Tree → List Token → Type 0
  IsField ts x rest = (ahead ts ≡ w.Dollar) × (e.field_of depth inner ts ≡ Ok (x, rest))

  either_lvalue : (us : List Token) (x : Tree) (rest : List Token) → Spells n rule.lvalue us x rest
      → IsNamed (us ++ rest) x rest ⊎ IsField (us ++ rest) x rest
  either_lvalue _ _ _ (g.a_name _ t rest h alone) = inl (ahead_is w.Name t rest refl h, name_reads t rest h alone)
  either_lvalue _ _ _ (g.an_element _ t o c us xs rest h i j opens l) =
      inl (
        ahead_is w.Name t (o ∷ ((us ++ (c ∷ [])) ++ rest)) refl h,
        rw (append_assoc us (c ∷ []) rest)
            (element_reads t o c us xs rest h i j opens l),
      )
  either_lvalue _ _ _ (g.a_field _ t us x rest h o s) = inr (
    ahead_is w.Dollar t (us ++ rest) refl h,
    field_reads t us x rest h o s,
  )

  pub lvalue_reads : (us : List Token) (x : Tree) (rest : List Token) → Spells n rule.lvalue us x rest
      → e.lvalue depth inner (us ++ rest) ≡ Ok (x, rest)
  unfolding e.lvalue
  lvalue_reads us x rest s =
      elim (either_lvalue us x rest s) [
        | inl h ↦ rw h.0 h.1
        | inr h ↦ rw h.0 h.1
      ]

  -- ---- getline

  no_target : (k : Terminal) (ts : List Token) → is k w.Name ≡ false → is k w.Dollar ≡ false
      → e.target_by depth inner k ts ≡ Ok (None, ts)
  no_target w.Name ts h j = absurd cc
  no_target w.Dollar ts h j = absurd cc
  no_target _ ts h j = refl

  pub target_reads : (us : List Token) (x : Option Tree) (rest : List Token) → Target n us x rest
      → e.target depth inner (us ++ rest) ≡ Ok (x, rest)
  unfolding e.target
  target_reads _ _ _ (g.no_target _ rest h j) = no_target (ahead rest) rest h j
  target_reads _ _ _ (g.a_target _ us x rest s) =
      elim (either_lvalue us x rest s) [
        | inl h ↦ rw (h.0, h.1) refl
        | inr h ↦ rw (h.0, h.1) refl
      ]

  source_reads : (us : List Token) (x : Option Tree) (rest : List Token) → Source n us x rest
      → e.source depth inner (us ++ rest) ≡ Ok (x, rest)
  unfolding e.source
  source_reads _ _ _ (g.no_source _ rest h) = rw h refl
  source_reads _ _ _ (g.a_source _ t us x rest h o s) = rw (
    ahead_is w.Less t (us ++ rest) refl h,
    one_reads w.Less t (us ++ rest) refl refl h,
    deeper.files us x rest o s,
  ) refl

  getline_reads : (t : Token) (us vs : List Token) (x y : Option Tree) (rest : List Token) → terminal t ≡ w.Getline
      → Target n us x (vs ++ rest) → Source n vs y rest
      → e.getline depth inner (t ∷ (us ++ (vs ++ rest))) ≡ Ok (tree.getline t.place (perhaps_of x) (perhaps_of y), rest)
  unfolding e.getline
  getline_reads t us vs x y rest h a s = rw (
    one_reads w.Getline t (us ++ (vs ++ rest)) refl refl h,
    target_reads us x (vs ++ rest) a,
    source_reads vs y rest s,
  ) refl

  -- ---- built-in functions

  whole_reads : (c : Token) (us : List Token) (x : Tree) (rest : List Token) → terminal c ≡ w.CloseParen → Opens n
      → Spells (suc n) (rule.expr false) us x (c ∷ rest) → inner (goal.Expr false) (us ++ (c ∷ rest)) ≡ Ok (x, c ∷ rest)
  whole_reads c us x rest j o s = deeper.wholes false us x (c ∷ rest) o s
      (follows (after_expr false) w.CloseParen c rest refl j)

  of_one_reads : (place : Place) (which : Builtin) (o c : Token) (us : List Token) (x : Tree) (rest : List Token)
      → terminal o ≡ w.OpenParen → terminal c ≡ w.CloseParen → Opens n
      → Spells (suc n) (rule.expr false) us x (c ∷ rest)
      → e.of_one depth inner place which (o ∷ (us ++ (c ∷ rest))) ≡ Ok (
        tree.builtin place which (trees_of (x ∷ [])),
        rest,
      )
  unfolding e.of_one e.one_argument
  of_one_reads place which o c us x rest h j opens s = rw (
    one_reads w.OpenParen o (us ++ (c ∷ rest)) refl refl h,
    whole_reads c us x rest j opens s,
    one_reads w.CloseParen c rest refl refl j,
  ) refl

  of_none_reads : (place : Place) (which : Builtin) (o c : Token) (rest : List Token) → terminal o ≡ w.OpenParen
      → terminal c ≡ w.CloseParen → Opens n
      → e.of_none depth inner place which (o ∷ (c ∷ rest)) ≡ Ok (tree.builtin place which (trees_of []), rest)
  unfolding e.of_none
  of_none_reads place which o c rest h j opens = rw (
    one_reads w.OpenParen o (c ∷ rest) refl refl h,
    deeper.opens opens,
    one_reads w.CloseParen c rest refl refl j,
  ) refl

  of_one_absent_reads : (place : Place) (which : Builtin) (o c : Token) (rest : List Token) → terminal o ≡ w.OpenParen
      → terminal c ≡ w.CloseParen → Opens n
      → e.of_one_or_none depth inner place which (o ∷ (c ∷ rest)) ≡ Ok (tree.builtin place which (trees_of []), rest)
  unfolding e.of_one_or_none e.one_or_none
  of_one_absent_reads place which o c rest h j opens = rw (
    one_reads w.OpenParen o (c ∷ rest) refl refl h,
    deeper.opens opens,
    ahead_is w.CloseParen c rest refl j,
    one_reads w.CloseParen c rest refl refl j,
  ) refl

  of_at_most_one_reads : (place : Place) (which : Builtin) (o c : Token) (us : List Token) (x : Tree)
      (rest : List Token) → terminal o ≡ w.OpenParen → terminal c ≡ w.CloseParen → Opens n
      → Spells (suc n) (rule.expr false) us x (c ∷ rest)
      → e.of_one_or_none depth inner place which (o ∷ (us ++ (c ∷ rest)))
      ≡ Ok (tree.builtin place which (trees_of (x ∷ [])), rest)
  unfolding e.of_one_or_none e.one_or_none
  of_at_most_one_reads place which o c us x rest h j opens s =
      rw (
        one_reads w.OpenParen o (us ++ (c ∷ rest)) refl refl h,
        deeper.opens opens,
        is_not begins_expression (ahead (us ++ (c ∷ rest))) w.CloseParen refl
            (heads_ahead begins_expression us (c ∷ rest) unary_steady (first (suc n) (rule.expr false) us x
            (c ∷ rest) s)) refl,
        whole_reads c us x rest j opens s,
        one_reads w.CloseParen c rest refl refl j,
      ) refl

  -- one that may be called with nothing in its parentheses
  none_by : (which : Builtin) (place : Place) (ts : List Token) (v : Outcome Tree) → takes_none (words.parameters which)
      ≡ true → is (ahead ts) w.OpenParen ≡ true → e.of_none depth inner place which ts ≡ v
      → e.of_one_or_none depth inner place which ts ≡ v → e.builtin_by depth inner place which ts ≡ v
  unfolding e.length_of
  none_by b.Length place ts v t sees h k = rw sees k
  none_by b.Fflush place ts v t sees h k = k
  none_by b.Srand place ts v t sees h k = k
  none_by b.Rand place ts v t sees h k = h
  none_by _ place ts v t sees h k = absurd cc

  -- one that may be called with one argument
  one_by : (which : Builtin) (place : Place) (ts : List Token) (v : Outcome Tree) → takes_one (words.parameters which)
      ≡ true → is (ahead ts) w.OpenParen ≡ true → e.of_one depth inner place which ts ≡ v
      → e.of_one_or_none depth inner place which ts ≡ v → e.builtin_by depth inner place which ts ≡ v
  unfolding e.length_of
  one_by b.Length place ts v t sees h k = rw sees k
  one_by b.Fflush place ts v t sees h k = k
  one_by b.Srand place ts v t sees h k = k
  one_by b.Close place ts v t sees h k = h
  one_by b.Cos place ts v t sees h k = h
  one_by b.Exp place ts v t sees h k = h
  one_by b.Int place ts v t sees h k = h
  one_by b.Log place ts v t sees h k = h
  one_by b.Sin place ts v t sees h k = h
  one_by b.Sqrt place ts v t sees h k = h
  one_by b.System place ts v t sees h k = h
  one_by b.Tolower place ts v t sees h k = h
  one_by b.Toupper place ts v t sees h k = h
  one_by _ place ts v t sees h k = absurd cc

  bare_length_reads : (place : Place) (ts : List Token) → is (ahead ts) w.OpenParen ≡ false
      → e.length_of depth inner place ts ≡ Ok (tree.bare_length place, ts)
  unfolding e.length_of
  bare_length_reads place ts h = rw h refl

  of_two_reads : (place : Place) (which : Builtin) (o c : Token) (us vs : List Token) (x y : Tree) (rest : List Token)
      → terminal o ≡ w.OpenParen → terminal c ≡ w.CloseParen → Opens n
      → Spells (suc n) (rule.expr false) us x (vs ++ (c ∷ rest)) → Next (suc n) vs y (c ∷ rest)
      → e.of_two depth inner place which (o ∷ (us ++ (vs ++ (c ∷ rest))))
      ≡ Ok (tree.builtin place which (trees_of (x ∷ y ∷ [])), rest)
  unfolding e.of_two
  of_two_reads place which o c us vs x y rest h j opens s k =
      rw (
        one_reads w.OpenParen o (us ++ (vs ++ (c ∷ rest))) refl refl h,
        deeper.wholes false us x (vs ++ (c ∷ rest)) opens s
            (ap (after_expr false) (next_ahead (suc n) vs y (c ∷ rest) (c ∷ rest) k)),
        next_reads vs y (c ∷ rest) opens k (follows (after_expr false) w.CloseParen c rest refl j),
        one_reads w.CloseParen c rest refl refl j,
      ) refl

  last_next_reads : (c : Token) (us : List Token) (x : Option Tree) (rest : List Token) → terminal c ≡ w.CloseParen
      → Opens n → Further (suc n) us x (c ∷ rest) → e.last_next depth inner (us ++ (c ∷ rest)) ≡ Ok (x, rest)
  unfolding e.last_next e.perhaps_next
  last_next_reads c _ _ rest j opens (g.no_further _ _) = rw (
    ahead_is w.CloseParen c rest refl j,
    one_reads w.CloseParen c rest refl refl j,
  ) refl
  last_next_reads c _ _ rest j opens (g.further _ us x _ s) =
      rw (
        next_ahead (suc n) us x (c ∷ rest) (c ∷ rest) s,
        next_reads us x (c ∷ rest) opens s
            (follows (after_expr false) w.CloseParen c rest refl j),
        one_reads w.CloseParen c rest refl refl j,
      ) refl

  of_two_or_three_reads : (place : Place) (which : Builtin) (o c : Token) (us vs ws : List Token) (x y : Tree)
      (z : Option Tree) (rest : List Token) → terminal o ≡ w.OpenParen → terminal c ≡ w.CloseParen → Opens n
      → Spells (suc n) (rule.expr false) us x (vs ++ (ws ++ (c ∷ rest))) → Next (suc n) vs y (ws ++ (c ∷ rest))
      → Further (suc n) ws z (c ∷ rest)
      → e.of_two_or_three depth inner place which (o ∷ (us ++ (vs ++ (ws ++ (c ∷ rest)))))
      ≡ Ok (tree.builtin place which (trees_of (x ∷ y ∷ looks.listed z)), rest)
  unfolding e.of_two_or_three
  of_two_or_three_reads place which o c us vs ws x y z rest h j opens s k l =
      rw (
        one_reads w.OpenParen o (us ++ (vs ++ (ws ++ (c ∷ rest)))) refl refl h,
        deeper.wholes false us x (vs ++ (ws ++ (c ∷ rest))) opens s
            (ap (after_expr false) (next_ahead (suc n) vs y (ws ++ (c ∷ rest)) (ws ++ (c ∷ rest)) k)),
        next_reads vs y (ws ++ (c ∷ rest)) opens k (further_follow (suc n) c ws z rest j l),
        last_next_reads c ws z rest j opens l,
      ) refl

  of_list_reads : (place : Place) (which : Builtin) (o c : Token) (us : List Token) (xs : List Tree) (rest : List Token)
      → terminal o ≡ w.OpenParen → terminal c ≡ w.CloseParen → Opens n → Listed (suc n) us xs (c ∷ rest)
      → e.of_list depth inner place which (o ∷ (us ++ (c ∷ rest))) ≡ Ok (tree.builtin place which (trees_of xs), rest)
  unfolding e.of_list
  of_list_reads place which o c us xs rest h j opens l =
      rw (
        one_reads w.OpenParen o (us ++ (c ∷ rest)) refl refl h,
        list_reads us xs (c ∷ rest) opens l
            (follows (after_expr false) w.CloseParen c rest refl j) (follows (is w.Comma) w.CloseParen c rest refl j),
        one_reads w.CloseParen c rest refl refl j,
      ) refl

  split_reads : (place : Place) (o u m c : Token) (us ns vs : List Token) (x : Tree) (y : Option Tree)
      (rest : List Token) → terminal o ≡ w.OpenParen → terminal u ≡ w.Comma → Newlines ns → terminal m ≡ w.Name
      → terminal c ≡ w.CloseParen → Opens n
      → Spells (suc n) (rule.expr false) us x (u ∷ (ns ++ (m ∷ (vs ++ (c ∷ rest))))) → Further (suc n) vs y (c ∷ rest)
      → e.split_of depth inner place (o ∷ (us ++ (u ∷ (ns ++ (m ∷ (vs ++ (c ∷ rest)))))))
      ≡ Ok (tree.split place x (name_of m) (perhaps_of y), rest)
  unfolding e.split_of
  split_reads place o u m c us ns vs x y rest h i l k j opens s a =
      let behind : List Token = m ∷ (vs ++ (c ∷ rest)) in
      rw (
        one_reads w.OpenParen o (us ++ (u ∷ (ns ++ behind))) refl refl h,
        deeper.wholes false us x (u ∷ (ns ++ behind)) opens s (follows (after_expr false) w.Comma u (ns ++ behind) refl
            i),
        one_reads w.Comma u (ns ++ behind) refl refl i,
        skip_reads ns behind l (ap (λ (v : Terminal). is v w.Newline) k),
        one_reads w.Name m (vs ++ (c ∷ rest)) refl refl k,
        last_next_reads c vs y rest j opens a,
      ) refl

  last_lvalue_reads : (c : Token) (us : List Token) (x : Option Tree) (rest : List Token) → terminal c ≡ w.CloseParen
      → Opens n → Into (suc n) us x (c ∷ rest) → e.last_lvalue depth inner (us ++ (c ∷ rest)) ≡ Ok (x, rest)
  unfolding e.last_lvalue e.perhaps_lvalue
  last_lvalue_reads c _ _ rest j opens (g.no_into _ _) = rw (
    ahead_is w.CloseParen c rest refl j,
    one_reads w.CloseParen c rest refl refl j,
  ) refl
  last_lvalue_reads c _ _ rest j opens (g.into _ t ns us x _ h l s) =
      rw (
        ahead_is w.Comma t ((ns ++ us) ++ (c ∷ rest)) refl h,
        one_reads w.Comma t ((ns ++ us) ++ (c ∷ rest)) refl refl h,
        append_assoc ns us (c ∷ rest),
        skip_reads ns (us ++ (c ∷ rest)) l (no_line_lvalue (look (us ++ (c ∷ rest)))
            (heads_look begins_lvalue us (c ∷ rest) (first (suc n) rule.lvalue us x (c ∷ rest) s))),
        deeper.lvalues us x (c ∷ rest) opens s,
        one_reads w.CloseParen c rest refl refl j,
      ) refl

  substitute_reads : (place : Place) (all : Bool) (o c : Token) (us vs ws : List Token) (x y : Tree) (z : Option Tree)
      (rest : List Token) → terminal o ≡ w.OpenParen → terminal c ≡ w.CloseParen → Opens n
      → Spells (suc n) (rule.expr false) us x (vs ++ (ws ++ (c ∷ rest))) → Next (suc n) vs y (ws ++ (c ∷ rest))
      → Into (suc n) ws z (c ∷ rest)
      → e.substitute_of depth inner place all (o ∷ (us ++ (vs ++ (ws ++ (c ∷ rest)))))
      ≡ Ok (tree.substitute place all x y (perhaps_of z), rest)
  unfolding e.substitute_of
  substitute_reads place all o c us vs ws x y z rest h j opens s k l =
      rw (
        one_reads w.OpenParen o (us ++ (vs ++ (ws ++ (c ∷ rest)))) refl refl h,
        deeper.wholes false us x (vs ++ (ws ++ (c ∷ rest))) opens s
            (ap (after_expr false) (next_ahead (suc n) vs y (ws ++ (c ∷ rest)) (ws ++ (c ∷ rest)) k)),
        next_reads vs y (ws ++ (c ∷ rest)) opens k (into_follow (suc n) c ws z rest j l),
        last_lvalue_reads c ws z rest j opens l,
      ) refl

  -- ---- prim

  in_paren_reads : (o c : Token) (us : List Token) (x : Tree) (rest : List Token) → terminal o ≡ w.OpenParen
      → terminal c ≡ w.CloseParen → Opens n → Spells (suc n) (rule.expr false) us x (c ∷ rest)
      → e.in_paren depth inner (o ∷ (us ++ (c ∷ rest))) ≡ Ok (tree.paren o.place x, rest)
  unfolding e.in_paren
  in_paren_reads o c us x rest h j opens s = rw (
    one_reads w.OpenParen o (us ++ (c ∷ rest)) refl refl h,
    whole_reads c us x rest j opens s,
    one_reads w.CloseParen c rest refl refl j,
  ) refl

  call_reads : (t o c : Token) (us : List Token) (xs : List Tree) (rest : List Token) → terminal t ≡ w.CallName
      → terminal o ≡ w.OpenParen → terminal c ≡ w.CloseParen → Opens n → Arguments (suc n) us xs (c ∷ rest)
      → e.call_of depth inner (t ∷ o ∷ (us ++ (c ∷ rest))) ≡ Ok (tree.call (name_of t) (trees_of xs), rest)
  unfolding e.call_of
  call_reads t o c us xs rest h i j opens a = rw (
    one_reads w.CallName t (o ∷ (us ++ (c ∷ rest))) refl refl h,
    arguments_reads o c us xs rest i j opens a,
  ) refl

  by_prim : (k : Terminal) (t : Token) (ts : List Token) (v : Outcome Tree) → steady k ≡ true → terminal t ≡ k
      → e.prim_by depth inner k (t ∷ ts) ≡ v → e.prim depth inner (t ∷ ts) ≡ v
  unfolding e.prim
  by_prim k t ts v s h q = rw (ahead_is k t ts s h) q

  by_builtin : (which : Builtin) (t : Token) (ts : List Token) (v : Outcome Tree) → terminal t ≡ w.Builtin which
      → e.builtin_by depth inner t.place which ts ≡ v → e.prim depth inner (t ∷ ts) ≡ v
  unfolding e.builtin any
  by_builtin which t ts v h q = by_prim (w.Builtin which) t ts v refl h q

  by_parameters : (which : Builtin) (ps : Parameters) (t : Token) (ts : List Token) (v : Outcome Tree)
      → words.parameters which ≡ ps → terminal t ≡ w.Builtin which → e.parameters_by depth inner t.place which ps ts ≡ v
      → e.prim depth inner (t ∷ ts) ≡ v
  by_parameters which ps t ts v is h q = by_builtin which t ts v h (rw is q)

  by_substitute : (all : Bool) (place : Place) (ts : List Token) (v : Outcome Tree)
      → e.substitute_of depth inner place all ts ≡ v → e.builtin_by depth inner place (substituting all) ts ≡ v
  by_substitute true place ts v h = h
  by_substitute false place ts v h = h

  lvalue_prim : (us : List Token) (x : Tree) (rest : List Token) → Spells n rule.lvalue us x rest
      → e.prim depth inner (us ++ rest) ≡ Ok (x, rest)
  unfolding e.prim
  lvalue_prim us x rest s =
      elim (either_lvalue us x rest s) [
        | inl h ↦ rw h.0 h.1
        | inr h ↦ rw h.0 h.1
      ]

  prim_reads : (us : List Token) (x : Tree) (rest : List Token) → Spells n rule.prim us x rest
      → e.prim depth inner (us ++ rest) ≡ Ok (x, rest)
  unfolding any
  prim_reads _ _ _ (g.a_number _ t rest h) = by_prim w.Number t rest (Ok (tree.number t.place t.text, rest)) refl h refl
  prim_reads _ _ _ (g.a_string _ t rest h) = by_prim w.Quoted t rest (Ok (tree.quoted t.place t.text, rest)) refl h refl
  prim_reads _ _ _ (g.an_ere _ t rest h) = by_prim w.Pattern t rest (Ok (tree.pattern t.place t.text, rest)) refl h refl
  prim_reads _ _ _ (g.an_lvalue _ us x rest s) = lvalue_prim us x rest s
  prim_reads _ _ _ (g.a_paren _ o c us x rest h j opens s) =
      rw (append_assoc us (c ∷ []) rest) (by_prim w.OpenParen o (us ++ (c ∷ rest)) (Ok (tree.paren o.place x, rest))
      refl h (in_paren_reads o c us x rest h j opens s))
  prim_reads _ _ _ (g.a_call _ t o c us xs rest h i j opens a) =
      rw (append_assoc us (c ∷ []) rest) (by_prim w.CallName t (o ∷ (us ++ (c ∷ rest)))
      (Ok (tree.call (name_of t) (trees_of xs), rest)) refl h (call_reads t o c us xs rest h i j opens a))
  prim_reads _ _ _ (g.a_bare_length _ t rest h stops) = by_builtin b.Length t rest (Ok (tree.bare_length t.place, rest))
      h (bare_length_reads t.place rest stops)
  prim_reads _ _ _ (g.a_call_of_none _ which t o c rest takes_it h i j opens) =
      by_builtin which t (o ∷ c ∷ rest) (Ok (tree.builtin t.place which (trees_of []), rest)) h
      (none_by which t.place (o ∷ c ∷ rest) (Ok (tree.builtin t.place which (trees_of []), rest)) takes_it
      (follows (λ k. is k w.OpenParen) w.OpenParen o (c ∷ rest) refl i)
      (of_none_reads t.place which o c rest i j opens) (of_one_absent_reads t.place which o c rest i j opens))
  prim_reads _ _ _ (g.a_call_of_one _ which t o c us x rest takes_it h i j opens s) =
      let v : Outcome Tree = Ok (tree.builtin t.place which (trees_of (x ∷ [])), rest) in
      rw (append_assoc us (c ∷ []) rest) (by_builtin which t (o ∷ (us ++ (c ∷ rest))) v h
      (one_by which t.place (o ∷ (us ++ (c ∷ rest))) v takes_it (follows (λ k. is k w.OpenParen) w.OpenParen o
      (us ++ (c ∷ rest)) refl i) (of_one_reads t.place which o c us x rest i j opens s)
      (of_at_most_one_reads t.place which o c us x rest i j opens s)))
  prim_reads _ _ _ (g.a_call_of_two _ which t o c us vs x y rest takes_it h i j opens s k) =
      rw (two_parts us vs (c ∷ []) rest) (by_parameters which takes.Two t (o ∷ (us ++ (vs ++ (c ∷ rest))))
      (Ok (tree.builtin t.place which (trees_of (x ∷ y ∷ [])), rest)) takes_it h
      (of_two_reads t.place which o c us vs x y rest i j opens s k))
  prim_reads _ _ _ (g.a_call_of_two_or_three _ which t o c us vs ws x y z rest takes_it h i j opens s k l) =
      rw (three_parts us vs ws (c ∷ []) rest) (by_parameters which takes.TwoOrThree t
      (o ∷ (us ++ (vs ++ (ws ++ (c ∷ rest))))) (Ok (
        tree.builtin t.place which (trees_of (x ∷ y ∷ looks.listed z)),
        rest,
      )) takes_it h
      (of_two_or_three_reads t.place which o c us vs ws x y z rest i j opens s k l))
  prim_reads _ _ _ (g.a_call_of_some _ which t o c us xs rest takes_it h i j opens l) =
      rw (append_assoc us (c ∷ []) rest) (by_parameters which takes.OneOrMore t (o ∷ (us ++ (c ∷ rest)))
      (Ok (tree.builtin t.place which (trees_of xs), rest)) takes_it h
      (of_list_reads t.place which o c us xs rest i j opens l))
  prim_reads _ _ _ (g.a_split _ t o u m c us ns vs x y rest h i k l d j opens s a) =
      rw (three_parts us (u ∷ ns) (m ∷ vs) (c ∷ []) rest)
      (by_builtin b.Split t (o ∷ (us ++ (u ∷ (ns ++ (m ∷ (vs ++ (c ∷ rest)))))))
      (Ok (tree.split t.place x (name_of m) (perhaps_of y), rest)) h
      (split_reads t.place o u m c us ns vs x y rest i k l d j opens
      (subst (λ (v : List Token). Spells (suc n) (rule.expr false) us x (u ∷ v))
      (append_assoc ns (m ∷ vs) (c ∷ rest)) s) a))
  prim_reads _ _ _ (g.a_substitute _ all t o c us vs ws x y z rest h i j opens s k l) =
      let v : Outcome Tree = Ok (tree.substitute t.place all x y (perhaps_of z), rest) in
      rw (three_parts us vs ws (c ∷ []) rest) (by_builtin (substituting all) t (o ∷ (us ++ (vs ++ (ws ++ (c ∷ rest)))))
      v h
      (by_substitute all t.place (o ∷ (us ++ (vs ++ (ws ++ (c ∷ rest))))) v
      (substitute_reads t.place all o c us vs ws x y z rest i j opens s k l)))
  prim_reads _ _ _ (g.a_getline _ t us vs x y rest h a s) =
      rw (append_assoc us vs rest) (by_prim w.Getline t (us ++ (vs ++ rest))
      (Ok (tree.getline t.place (perhaps_of x) (perhaps_of y), rest)) refl h (getline_reads t us vs x y rest h a s))

  -- ---- dol, inc, pow, unary

  step_before_reads : (which : Step) (t : Token) (us : List Token) (x : Tree) (rest : List Token) → Opens n
      → Spells (suc n) rule.lvalue us x rest → e.step_before depth inner which (t ∷ (us ++ rest))
      ≡ Ok (tree.before t.place which x, rest)
  unfolding e.step_before any
  step_before_reads which t us x rest o s = rw (deeper.lvalues us x rest o s) refl

  signed_reads : (which : Sign) (to : Goal) (t : Token) (ts : List Token) (x : Tree) (rest : List Token)
      → inner to ts ≡ Ok (x, rest) → e.signed_by depth inner which to (t ∷ ts) ≡ Ok (tree.signed t.place which x, rest)
  unfolding e.signed_by any
  signed_reads which to t ts x rest h = rw h refl

  pub operand_reads : (us : List Token) (x : Tree) (rest : List Token) → Spells n rule.dol us x rest
      → e.operand depth inner (us ++ rest) ≡ Ok (x, rest)
  unfolding e.operand
  operand_reads _ _ _ (g.a_signed_dol _ which t us x rest h o s) =
      rw (seen_as sign (Some which) t (us ++ rest) (sign_steady which) h)
      (signed_reads which goal.Operand t (us ++ rest) x rest (deeper.operands us x rest o s))
  operand_reads _ _ _ (g.a_step_dol _ which t us x rest h o s) =
      rw (
        inc_no_sign (ahead (t ∷ (us ++ rest))) (step_begins which t (us ++ rest) h),
        seen_as step (Some which) t (us ++ rest) (step_steady which) h,
      ) (step_before_reads which t us x rest o s)
  operand_reads _ _ _ (g.only_prim _ us x rest s) =
      let begun = heads_ahead begins_prim us rest prim_steady (first n rule.prim us x rest s) in
      rw (
        inc_no_sign (ahead (us ++ rest)) (prim_inc (ahead (us ++ rest)) begun),
        prim_no_step (ahead (us ++ rest)) begun,
      ) (prim_reads us x rest s)

  no_step_after : (x : Tree) (found : Option Step) (ts : List Token) → (is_lvalue x ≡ true → found ≡ None)
      → e.after_by depth inner x found ts ≡ Ok (x, ts)
  no_step_after x None ts h = refl
  no_step_after x (Some which) ts h =
      elim (decided (is_lvalue x)) [
        | inl y ↦ absurd (let none = h y in cc)
        | inr m ↦ rw m refl
      ]

  pub inc_reads : (us : List Token) (x : Tree) (rest : List Token) → Spells n rule.inc us x rest
      → e.inc depth inner (us ++ rest) ≡ Ok (x, rest)
  unfolding e.inc e.step_after any
  inc_reads _ _ _ (g.a_step_before _ which t us x rest h o s) =
      rw (seen_as step (Some which) t (us ++ rest) (step_steady which) h) (step_before_reads which t us x rest o s)
  inc_reads _ _ _ (g.a_step_after _ which t us x rest s l h) =
      rw (
        append_assoc us (t ∷ []) rest,
        prim_no_step (ahead (us ++ (t ∷ rest))) (heads_ahead begins_prim us (t ∷ rest) prim_steady
            (first n rule.prim us x (t ∷ rest) s)),
        prim_reads us x (t ∷ rest) s,
        seen_as step (Some which) t rest (step_steady which) h,
        l,
      ) refl
  inc_reads _ _ _ (g.no_step _ us x rest s none) =
      rw (
        prim_no_step (ahead (us ++ rest)) (heads_ahead begins_prim us rest prim_steady
            (first n rule.prim us x rest s)),
        prim_reads us x rest s,
      ) (no_step_after x (step (ahead rest)) rest none)

  abbrev pub pow : Parser Tree
  pow = e.inc depth inner >>= e.power_rest depth inner

  pow_reads : (us : List Token) (x : Tree) (rest : List Token) → Spells n rule.pow us x rest
      → after_unary (ahead rest) ≡ false → pow (us ++ rest) ≡ Ok (x, rest)
  unfolding e.power_rest
  pow_reads _ _ _ (g.only_inc _ us x rest s) f = rw (inc_reads us x rest s, f) refl
  pow_reads _ _ _ (g.a_power _ t us vs x y rest h s o k) f =
      rw (
        append_assoc us (t ∷ vs) rest,
        inc_reads us x (t ∷ (vs ++ rest)) s,
        ahead_is w.Caret t (vs ++ rest) refl h,
        one_reads w.Caret t (vs ++ rest) refl refl h,
        deeper.unaries vs y rest o k f,
      ) refl

  pub unary_reads : (us : List Token) (x : Tree) (rest : List Token) → Spells n rule.unary us x rest
      → after_unary (ahead rest) ≡ false → e.unary depth inner (us ++ rest) ≡ Ok (x, rest)
  unfolding e.unary
  unary_reads _ _ _ (g.a_signed _ which t us x rest h o s) f =
      rw (seen_as sign (Some which) t (us ++ rest) (sign_steady which) h)
      (signed_reads which goal.Unary t (us ++ rest) x rest (deeper.unaries us x rest o s f))
  unary_reads _ _ _ (g.only_pow _ us x rest s) f =
      rw (inc_no_sign (ahead (us ++ rest)) (heads_ahead begins_inc us rest inc_steady (first n rule.pow us x rest s)))
      (pow_reads us x rest s f)
