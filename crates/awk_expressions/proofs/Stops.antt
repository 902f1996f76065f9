-- Where nothing goes on with the next token, the rules behind an operand give what was read.
use Rattle.std.proofs.Common.{◌≡◌, ℕ, zero, suc, Bool, true, false, length, List, [], ◌∷◌, Option, None, Ok, refl, ap}
use Rattle.std.proofs.Common.{◌∙◌}
use Rattle.awk_tokens.specs.declared.token.Token.{Token}
use Rattle.awk_tokens.specs.declared.terminals.Assignment.{Assignment}
use Rattle.awk_tokens.specs.declared.terminals.Terminal.{Terminal}
use Rattle.awk_tokens.specs.declared.terminals.Terminal.TheVariants as w
use Rattle.awk_tree.specs.Looks.{past, skip}
use Rattle.awk_tree.specs.Looks as looks
use Rattle.awk_tree.specs.declared.expressions.Piped.{Piped}
use Rattle.awk_tree.specs.declared.expressions.Term.{Term}
use Rattle.awk_tree.specs.declared.goals.Goal.{Goal}
use Rattle.awk_tree.specs.declared.names.Member.{Member}
use Rattle.awk_tree.specs.declared.operators.Comparison.{Comparison}
use Rattle.awk_tree.specs.Tree.{Tree}
use Rattle.awk_tree.specs.Terminals.{is, ahead, look}
use Rattle.awk_tree.specs.Input.{Outcome, Parser, and_then, pure, many, many_from}
use Rattle.awk_tree.specs.Expressions as e
use Rattle.awk_expressions.specs.Stops.{ends_chains, ends_expression}

-- ---- newlines and `;`

pub skip_none : (ts : List Token) → is (look ts) w.Newline ≡ false → skip ts ≡ ts
skip_none [] h = refl
skip_none (t ∷ ts) h = rw h refl

pub past_none : (ts : List Token) → is (look ts) w.Newline ≡ false → is (look ts) w.Semicolon ≡ false → past ts ≡ ts
past_none [] h k = refl
past_none (t ∷ ts) h k = rw (h, k) refl

-- ---- chains

many_from_none : {A : Type 0} (test : Terminal → Bool) (item : Parser A) (n : ℕ) (ts : List Token)
    → test (ahead ts) ≡ false → many_from test item n ts ≡ Ok ([], ts)
unfolding many_from
many_from_none test item zero ts h = rw h refl
many_from_none test item (suc n) ts h = rw h refl

-- none is read, and what was read before stays
chain_none : {A : Type 0} (test : Terminal → Bool) (item : Parser A) (ts : List Token) (make : List A → Tree)
    → test (ahead ts) ≡ false → and_then (many test item ts) (λ xs. pure (make xs)) ≡ Ok (make [], ts)
chain_none {A} test item ts make h = ap (λ (o : Outcome (List A)). and_then o (λ xs. pure (make xs)))
    (many_from_none test item (length ts) ts h)

on : (o : Outcome Tree) (left : Tree) (ts : List Token) (f : Tree → Parser Tree) → o ≡ Ok (left, ts)
    → f left ts ≡ Ok (left, ts) → and_then o f ≡ Ok (left, ts)
on o left ts f h k = ap (λ (o : Outcome Tree). and_then o f) h ∙ k

pub record NoChain (k : Terminal) : Type 0 where
  pub factor : looks.is_factor_sign k ≡ false
  pub addend : looks.is_term_sign k ≡ false
  pub part : looks.begins_part k ≡ false
  pub pipe : is w.BarGetline k ≡ false
  pub compared : (p : Bool) → looks.comparison p k ≡ None
  pub matched : looks.matching k ≡ None
  pub member : is w.In k ≡ false

abbrev none_so : (k : Terminal) → looks.is_factor_sign k ≡ false → looks.is_term_sign k ≡ false
    → looks.begins_part k ≡ false → is w.BarGetline k ≡ false → ((p : Bool) → looks.comparison p k ≡ None)
    → looks.matching k ≡ None → is w.In k ≡ false → NoChain k
none_so k a b c d f g h = record { factor = a; addend = b; part = c; pipe = d; compared = f; matched = g; member = h }

no_chain : (k : Terminal) → ends_chains k ≡ true → NoChain k
no_chain w.End h = none_so w.End refl refl refl refl (λ _. refl) refl refl
no_chain w.CloseParen h = none_so w.CloseParen refl refl refl refl (λ _. refl) refl refl
no_chain w.CloseBracket h = none_so w.CloseBracket refl refl refl refl (λ _. refl) refl refl
no_chain w.Comma h = none_so w.Comma refl refl refl refl (λ _. refl) refl refl
no_chain (w.Assign how) h = none_so (w.Assign how) refl refl refl refl (λ _. refl) refl refl
no_chain w.And h = none_so w.And refl refl refl refl (λ _. refl) refl refl
no_chain w.Or h = none_so w.Or refl refl refl refl (λ _. refl) refl refl
no_chain w.Question h = none_so w.Question refl refl refl refl (λ _. refl) refl refl
no_chain w.Colon h = none_so w.Colon refl refl refl refl (λ _. refl) refl refl
no_chain _ h = absurd cc

pub record NoMore (k : Terminal) : Type 0 where
  pub assigned : looks.assignment k ≡ None
  pub conjunct : is w.And k ≡ false
  pub disjunct : is w.Or k ≡ false
  pub choice : is k w.Question ≡ false

abbrev no_more_so : (k : Terminal) → looks.assignment k ≡ None → is w.And k ≡ false → is w.Or k ≡ false
    → is k w.Question ≡ false → NoMore k
no_more_so k a b c d = record { assigned = a; conjunct = b; disjunct = c; choice = d }

no_more : (k : Terminal) → ends_expression k ≡ true → NoMore k
no_more w.End h = no_more_so w.End refl refl refl refl
no_more w.CloseParen h = no_more_so w.CloseParen refl refl refl refl
no_more w.CloseBracket h = no_more_so w.CloseBracket refl refl refl refl
no_more w.Comma h = no_more_so w.Comma refl refl refl refl
no_more w.Colon h = no_more_so w.Colon refl refl refl refl
no_more _ h = absurd cc

module _ (depth : ℕ) (inner : Goal → Parser Tree) where
  product_none : (left : Tree) (ts : List Token) → looks.is_factor_sign (ahead ts) ≡ false
      → e.product_rest depth inner left ts ≡ Ok (left, ts)
  unfolding e.product_rest e.factors
  product_none left ts h = chain_none looks.is_factor_sign (e.factor depth inner) ts (looks.product_of left) h

  sum_none : (left : Tree) (ts : List Token) → looks.is_term_sign (ahead ts) ≡ false → e.sum_rest depth inner left ts
      ≡ Ok (left, ts)
  unfolding e.sum_rest e.addends
  sum_none left ts h = chain_none looks.is_term_sign (e.addend depth inner) ts (looks.sum_of left) h

  concat_none : (left : Tree) (ts : List Token) → looks.begins_part (ahead ts) ≡ false
      → e.concat_rest depth inner left ts ≡ Ok (left, ts)
  unfolding e.concat_rest e.parts
  concat_none left ts h = chain_none looks.begins_part (e.part depth inner) ts (looks.concat_of left) h

  pipe_none : (left : Tree) (ts : List Token) → is w.BarGetline (ahead ts) ≡ false → e.pipe_rest depth inner left ts
      ≡ Ok (left, ts)
  unfolding e.pipe_rest e.pipes
  pipe_none left ts h = chain_none (is w.BarGetline) (e.one_pipe depth inner) ts (looks.pipe_of left) h

  compare_none : (p : Bool) (left : Tree) (ts : List Token) → looks.comparison p (ahead ts) ≡ None
      → e.compare_rest depth inner p left ts ≡ Ok (left, ts)
  unfolding e.compare_rest
  compare_none p left ts h = ap (λ (o : Option Comparison). e.compare_by depth inner left o ts) h

  match_none : (p : Bool) (left : Tree) (ts : List Token) → looks.matching (ahead ts) ≡ None
      → e.match_rest depth inner p left ts ≡ Ok (left, ts)
  unfolding e.match_rest
  match_none p left ts h = ap (λ (o : Option Bool). e.match_by depth inner p left o ts) h

  in_none : (left : Tree) (ts : List Token) → is w.In (ahead ts) ≡ false → e.in_rest left ts ≡ Ok (left, ts)
  unfolding e.in_rest e.in_names
  in_none left ts h = chain_none (is w.In) e.in_name ts (looks.member_of left) h

  pub unary_stops : (p : Bool) (left : Tree) (ts : List Token) → ends_chains (ahead ts) ≡ true
      → e.unary_rest depth inner p left ts ≡ Ok (left, ts)
  unfolding e.unary_rest
  unary_stops p left ts h =
      let no = no_chain (ahead ts) h in
      on _ left ts e.in_rest
      (on _ left ts (e.match_rest depth inner p)
      (on _ left ts (e.compare_rest depth inner p)
      (on _ left ts (e.pipe_rest depth inner)
      (on _ left ts (e.concat_rest depth inner)
      (on _ left ts (e.sum_rest depth inner) (product_none left ts no.factor) (sum_none left ts no.addend))
      (concat_none left ts no.part))
      (pipe_none left ts no.pipe))
      (compare_none p left ts (no.compared p)))
      (match_none p left ts no.matched))
      (in_none left ts no.member)

  assigned_none : (p : Bool) (left : Tree) (ts : List Token) → looks.assignment (ahead ts) ≡ None
      → e.assigned depth inner p left ts ≡ Ok (left, ts)
  unfolding e.assigned
  assigned_none p left ts h = ap (λ (o : Option Assignment). e.assigned_by depth inner p left o ts) h

  and_none : (p : Bool) (left : Tree) (ts : List Token) → is w.And (ahead ts) ≡ false → e.and_rest depth inner p left ts
      ≡ Ok (left, ts)
  unfolding e.and_rest e.conjuncts
  and_none p left ts h = chain_none (is w.And) (e.next_conjunct depth inner p) ts (looks.and_of left) h

  or_none : (p : Bool) (left : Tree) (ts : List Token) → is w.Or (ahead ts) ≡ false → e.or_rest depth inner p left ts
      ≡ Ok (left, ts)
  unfolding e.or_rest e.disjuncts
  or_none p left ts h = chain_none (is w.Or) (e.next_disjunct depth inner p) ts (looks.or_of left) h

  choose_none : (p : Bool) (left : Tree) (ts : List Token) → is (ahead ts) w.Question ≡ false
      → e.choose_rest depth inner p left ts ≡ Ok (left, ts)
  unfolding e.choose_rest
  choose_none p left ts h = rw h refl

  pub expression_stops : (p : Bool) (left : Tree) (ts : List Token) → ends_expression (ahead ts) ≡ true
      → e.expr_rest depth inner p left ts ≡ Ok (left, ts)
  unfolding e.expr_rest
  expression_stops p left ts h =
      let no = no_more (ahead ts) h in
      on _ left ts (e.choose_rest depth inner p)
      (on _ left ts (e.or_rest depth inner p)
      (on _ left ts (e.and_rest depth inner p) (assigned_none p left ts no.assigned) (and_none p left ts no.conjunct))
      (or_none p left ts no.disjunct))
      (choose_none p left ts no.choice)
