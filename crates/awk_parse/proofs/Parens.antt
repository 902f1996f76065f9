-- A canonical spelling closes the parentheses that it opens, and no others; so no expression begins
-- like the `NAME in NAME )` of a for.
use Rattle.std.proofs.Common.{◌≡◌, Bool, true, false, ◌&&◌, if◌then◌else◌, Option, Some, None, List, [], ◌∷◌, ◌++◌}
use Rattle.std.proofs.Common.{codes, refl, sym, ap, subst, ◌∙◌, inl, inr, append_assoc}
use Rattle.awk_tokens.specs.declared.token.Token.{Token}
use Rattle.awk_tree.specs.Looks.{each_next}
use Rattle.awk_tree.specs.declared.names.Member.{Member}
use Rattle.awk_tree.specs.declared.operators.Arithmetic.{Arithmetic}
use Rattle.awk_tree.specs.declared.operators.Arithmetic.TheVariants as arithmetic
use Rattle.awk_tree.specs.declared.operators.Comparison.{Comparison}
use Rattle.awk_tree.specs.declared.operators.Comparison.TheVariants as c
use Rattle.awk_tree.specs.declared.operators.Sign.{Sign}
use Rattle.awk_tree.specs.declared.operators.Sign.TheVariants as prefix
use Rattle.awk_tokens.specs.declared.terminals.Terminal.{Terminal}
use Rattle.awk_tokens.specs.declared.terminals.Terminal.TheVariants as w
use Rattle.awk_tree.specs.Tree as t
use Rattle.awk_tree.specs.Tree.{Tree, Trees, Perhaps, Terms, Pipes}
use Rattle.awk_tree.specs.Terminals.{terminal, terminal_of, is, sign}
use Rattle.awk_tokens.specs.Words.{builtin_text}
use Rattle.awk_tree.specs.Canon.{canon, canon_list, canon_commas, canon_comma, canon_target, canon_file, canon_parts}
use Rattle.awk_tree.specs.Canon.{canon_ands, canon_ors, canon_terms, canon_pipes, canon_members, canon_perhaps}
use Rattle.awk_tree.specs.Canon.{builtin_word, arithmetic_text, comparison_text, prefix_text, match_text}
use Rattle.awk_tree.specs.Terminals.{substituting}
use Rattle.awk_parse.proofs.TerminalLemmas.{both_true, is-true}
use Rattle.awk_parse.proofs.Law.{decided}
use Rattle.awk_parse.proofs.Starts.{step_is, assignment_is, builtin_is}

-- whether each `)` up to a `;` closes a `(` of these tokens, or one of those that are open
abbrev closed : List Token → List Token → Bool
closed open_ones [] = true
closed [] (u ∷ us) = if is (terminal u) w.Semicolon then true else if is (terminal u) w.CloseParen then false else if is
    (terminal u) w.OpenParen then closed (u ∷ []) us else closed [] us
closed (o ∷ os) (u ∷ us) = if is (terminal u) w.Semicolon then true else if is (terminal u) w.CloseParen then closed os
    us else if is (terminal u) w.OpenParen then closed (u ∷ o ∷ os) us else closed (o ∷ os) us

-- these tokens change nothing
Even : List Token → Type 0
Even us = (os s : List Token) → closed os (us ++ s) ≡ closed os s

-- no parenthesis and no `;`
abbrev neutral : Terminal → Bool
neutral w.Semicolon = false
neutral w.OpenParen = false
neutral w.CloseParen = false
neutral other = true

neutral_is : (k : Terminal) → neutral k ≡ true → (is k w.Semicolon ≡ false) × (is k w.CloseParen ≡ false)
    × (is k w.OpenParen ≡ false)
neutral_is w.Semicolon h = absurd cc
neutral_is w.OpenParen h = absurd cc
neutral_is w.CloseParen h = absurd cc
neutral_is _ h = (refl, refl, refl)

even_nil : Even []
unfolding Even
even_nil os s = refl

even_append : (a b : List Token) → Even a → Even b → Even (a ++ b)
unfolding Even
even_append a b h k os s = ap (closed os) (append_assoc a b s) ∙ h os (b ++ s) ∙ k os s

even_token : (u : Token) (a : List Token) → neutral (terminal u) ≡ true → Even a → Even (u ∷ a)
unfolding Even
even_token u a n h [] s = let k = neutral_is (terminal u) n in rw (k.0, k.1, k.2) (h [] s)
even_token u a n h (o ∷ os) s = let k = neutral_is (terminal u) n in rw (k.0, k.1, k.2) (h (o ∷ os) s)

even_parens : (a : List Token) → Even a → Even (sign (codes "(") ∷ a ++ sign (codes ")") ∷ [])
unfolding Even terminal_of
even_parens a h [] s = ap (closed (sign (codes "(") ∷ [])) (append_assoc a (sign (codes ")") ∷ []) s)
    ∙ h (sign (codes "(") ∷ []) (sign (codes ")") ∷ s)
even_parens a h (o ∷ os) s = ap (closed (sign (codes "(") ∷ o ∷ os)) (append_assoc a (sign (codes ")") ∷ []) s)
    ∙ h (sign (codes "(") ∷ o ∷ os) (sign (codes ")") ∷ s)

-- what stands behind, and a last token
even_last : (a : List Token) (u : Token) → Even a → neutral (terminal u) ≡ true → Even (a ++ u ∷ [])
even_last a u h n = even_append a (u ∷ []) h (even_token u [] n even_nil)

-- ---- the signs and words

neutral_prefix : (which : Sign) → neutral (terminal (sign (prefix_text which))) ≡ true
unfolding terminal_of
neutral_prefix prefix.Not = refl
neutral_prefix prefix.Plus = refl
neutral_prefix prefix.Minus = refl

neutral_arithmetic : (how : Arithmetic) → neutral (terminal (sign (arithmetic_text how))) ≡ true
unfolding terminal_of
neutral_arithmetic arithmetic.Add = refl
neutral_arithmetic arithmetic.Subtract = refl
neutral_arithmetic arithmetic.Multiply = refl
neutral_arithmetic arithmetic.Divide = refl
neutral_arithmetic arithmetic.Remainder = refl

neutral_comparison : (how : Comparison) → neutral (terminal (sign (comparison_text how))) ≡ true
unfolding terminal_of
neutral_comparison c.Less = refl
neutral_comparison c.LessOrEqual = refl
neutral_comparison c.Equal = refl
neutral_comparison c.NotEqual = refl
neutral_comparison c.Greater = refl
neutral_comparison c.GreaterOrEqual = refl

neutral_match : (unlike : Bool) → neutral (terminal (sign (match_text unlike))) ≡ true
unfolding terminal_of
neutral_match true = refl
neutral_match false = refl

neutral_substitute : (all : Bool) → neutral (terminal (builtin_word (builtin_text (substituting all)))) ≡ true
unfolding terminal_of
neutral_substitute true = refl
neutral_substitute false = refl

-- ---- trees

even_members : (ms : List Member) → Even (canon_members ms)
unfolding terminal_of
even_members [] = even_nil
even_members (m ∷ ms) = even_token _ _ refl (even_token _ _ refl (even_members ms))

mutual
  unfolding terminal_of

  even : (x : Tree) → Even (canon x)
  even (t.number p x) = even_token _ [] refl even_nil
  even (t.quoted p x) = even_token _ [] refl even_nil
  even (t.pattern p x) = even_token _ [] refl even_nil
  even (t.name n) = even_token _ [] refl even_nil
  even (t.element n xs) = even_token _ _ refl (even_token _ _ refl (even_last (canon_list xs) _ (even_list xs) refl))
  even (t.field p x) = even_token _ _ refl (even x)
  even (t.paren p x) = even_parens (canon x) (even x)
  even (t.call n xs) = even_token _ _ refl (even_parens (canon_list xs) (even_list xs))
  even (t.builtin p which xs) = even_token _ _ (ap neutral (builtin_is which))
      (even_parens (canon_list xs) (even_list xs))
  even (t.bare_length p) = even_token _ [] refl even_nil
  even (t.split p x n y) =
      even_token _ _ refl (even_parens _
      (even_append (canon x) _ (even x) (even_token _ _ refl (even_token _ _ refl (even_comma y)))))
  even (t.substitute p all x y z) = even_token _ _ (neutral_substitute all)
      (even_parens _ (even_append _ (canon_comma z) (even_append (canon x) _ (even x) (even_token _ _ refl (even y)))
      (even_comma z)))
  even (t.getline p x y) = even_token _ _ refl (even_append (canon_target x) (canon_file y) (even_target x)
      (even_file y))
  even (t.before p which x) = even_token _ _ (ap neutral (step_is which)) (even x)
  even (t.after x p which) = even_last (canon x) _ (even x) (ap neutral (step_is which))
  even (t.signed p which x) = even_token _ _ (neutral_prefix which) (even x)
  even (t.power x p y) = even_append (canon x) _ (even x) (even_token _ _ refl (even y))
  even (t.product x xs) = even_append (canon x) _ (even x) (even_terms xs)
  even (t.sum x xs) = even_append (canon x) _ (even x) (even_terms xs)
  even (t.concat x xs) = even_append (canon x) _ (even x) (even_parts xs)
  even (t.pipe x xs) = even_append (canon x) _ (even x) (even_pipes xs)
  even (t.compare x p how y) = even_append (canon x) _ (even x) (even_token _ _ (neutral_comparison how) (even y))
  even (t.matched x p unlike y) = even_append (canon x) _ (even x) (even_token _ _ (neutral_match unlike) (even y))
  even (t.group p xs ms) =
      subst Even (append_assoc (sign (codes "(") ∷ canon_list xs) (sign (codes ")") ∷ []) (canon_members ms))
      (even_append (sign (codes "(") ∷ canon_list xs ++ sign (codes ")") ∷ []) (canon_members ms)
      (even_parens (canon_list xs) (even_list xs)) (even_members ms))
  even (t.member x ms) = even_append (canon x) _ (even x) (even_members ms)
  even (t.and x xs) = even_append (canon x) _ (even x) (even_ands xs)
  even (t.or x xs) = even_append (canon x) _ (even x) (even_ors xs)
  even (t.choose x y z) = even_append _ _ (even_append (canon x) _ (even x) (even_token _ _ refl (even y)))
      (even_token _ _ refl (even z))
  even (t.assign x p how y) = even_append (canon x) _ (even x) (even_token _ _ (ap neutral (assignment_is how))
      (even y))

  even_list : (xs : Trees) → Even (canon_list xs)
  even_list t.none = even_nil
  even_list (t.more x xs) = even_append (canon x) _ (even x) (even_commas xs)

  even_commas : (xs : Trees) → Even (canon_commas xs)
  even_commas t.none = even_nil
  even_commas (t.more x xs) = even_token _ _ refl (even_append (canon x) _ (even x) (even_commas xs))

  even_parts : (xs : Trees) → Even (canon_parts xs)
  even_parts t.none = even_nil
  even_parts (t.more x xs) = even_append (canon x) _ (even x) (even_parts xs)

  even_ands : (xs : Trees) → Even (canon_ands xs)
  even_ands t.none = even_nil
  even_ands (t.more x xs) = even_token _ _ refl (even_append (canon x) _ (even x) (even_ands xs))

  even_ors : (xs : Trees) → Even (canon_ors xs)
  even_ors t.none = even_nil
  even_ors (t.more x xs) = even_token _ _ refl (even_append (canon x) _ (even x) (even_ors xs))

  even_comma : (y : Perhaps) → Even (canon_comma y)
  even_comma t.absent = even_nil
  even_comma (t.present x) = even_token _ _ refl (even x)

  even_target : (y : Perhaps) → Even (canon_target y)
  even_target t.absent = even_nil
  even_target (t.present x) = even x

  even_file : (y : Perhaps) → Even (canon_file y)
  even_file t.absent = even_nil
  even_file (t.present x) = even_token _ _ refl (even x)

  even_terms : (xs : Terms) → Even (canon_terms xs)
  even_terms t.no_terms = even_nil
  even_terms (t.term how p x xs) = even_token _ _ (neutral_arithmetic how)
      (even_append (canon x) _ (even x) (even_terms xs))

  even_pipes : (xs : Pipes) → Even (canon_pipes xs)
  even_pipes t.no_pipes = even_nil
  even_pipes (t.piped p x xs) =
      even_token _ _ refl (even_token _ _ refl (even_append (canon_target x) _ (even_target x) (even_pipes xs)))

-- ---- the head of a for

unclosed : (us : List Token) → each_next us ≡ true → closed [] us ≡ false
unclosed [] h = absurd cc
unclosed (a ∷ []) h = absurd cc
unclosed (a ∷ b ∷ []) h = absurd cc
unclosed (a ∷ b ∷ m ∷ []) h = absurd cc
unclosed (a ∷ b ∷ m ∷ e ∷ us) h =
    let p = both_true (is (terminal a) w.Name) (is (terminal b) w.In
    && (is (terminal m) w.Name && is (terminal e) w.CloseParen)) h in
    let q = both_true (is (terminal b) w.In) (is (terminal m) w.Name && is (terminal e) w.CloseParen) p.1 in
    let z = both_true (is (terminal m) w.Name) (is (terminal e) w.CloseParen) q.1 in
    let ka = is-true (terminal a) w.Name refl p.0 in
    let kb = is-true (terminal b) w.In refl q.0 in
    let km = is-true (terminal m) w.Name refl z.0 in
    let ke = is-true (terminal e) w.CloseParen refl z.1 in
    rw (ka, kb, km, ke) refl

even_perhaps : (x : Option Tree) → Even (canon_perhaps x)
even_perhaps None = even_nil
even_perhaps (Some x) = even x

-- an expression and a `;` are no head of a for over an array
pub no_each : (x : Option Tree) (s : List Token) → each_next (canon_perhaps x ++ sign (codes ";") ∷ s) ≡ false
unfolding Even terminal_of
no_each x s =
    let us = canon_perhaps x ++ sign (codes ";") ∷ s in
    elim (decided (each_next us)) [
      | inl h ↦ absurd (let e = even_perhaps x [] (sign (codes ";") ∷ s) in
          let both : true ≡ false = sym e ∙ unclosed us h in cc)
      | inr h ↦ h
    ]
