-- No token of what is spelled is one that no line of the grammar has: a word that is kept and refused is none of them.
use Rattle.std.proofs.Common.{◌≡◌, ◌≢◌, ℕ, Bool, true, false, List, [], ◌∷◌, ◌++◌, Option, Some, None}
use Rattle.std.proofs.Common.{refl, sym, ap, ◌∙◌, ◌⊎◌, inl, inr}
use Rattle.std.specs.List.{All}
use Rattle.std.proofs.lemmas.Bool.{true≢false}
use Rattle.std.proofs.lemmas.List.Elements.{All-nil, All-cons}
use Rattle.awk_tokens.specs.declared.token.Token.{Token}
use Rattle.awk_tokens.specs.declared.kinds.TokenKind.TheVariants as kind
use Rattle.awk_tokens.specs.declared.terminals.Terminal.{Terminal}
use Rattle.awk_tokens.specs.declared.terminals.Terminal.TheVariants as w
use Rattle.awk_tokens.specs.declared.words.Builtin.TheVariants as b
use Rattle.awk_tree.specs.Looks.{sign, step, comparison, matching, assignment, is_factor_sign, is_term_sign, redirect}
use Rattle.awk_tree.specs.Terminals.{terminal, terminal_of, is, substituting}
use Rattle.awk_tree.specs.Tree.{Tree, Statement, Condition, Entry}
use Rattle.awk_tree.specs.declared.names.Member.{Member}
use Rattle.awk_tree.specs.declared.names.Name.{Name}
use Rattle.awk_tree.specs.declared.expressions.Piped.{Piped}
use Rattle.awk_tree.specs.declared.expressions.Term.{Term}
use Rattle.awk_tree.specs.declared.statements.Printed.{Printed}
use Rattle.awk_tree.specs.declared.statements.Redirection.{Redirection}
use Rattle.awk_parse.specs.Rules.{Rule}
use Rattle.awk_parse.specs.Spells as g
use Rattle.awk_parse.specs.Spells.{Newlines, Spells}
use Rattle.awk_parse.specs.SpellsScripts as s
use Rattle.awk_parse.specs.SpellsScripts.{Gap, SpellsScript}
use Rattle.awk_parse.proofs.TerminalLemmas.{ahead_is}

-- ---- tokens

abbrev Fine : Token → Type 0
Fine t = terminal t ≡ w.Refused → ⊥

abbrev Fits : List Token → Type 0
Fits [] = Unit {0}
Fits (t ∷ ts) = Fine t × Fits ts

infixr 10 ◌also◌
abbrev ◌also◌ : {A B : Type 0} → A → B → A × B
p also q = (p, q)

fine : (k : Terminal) (t : Token) → is k w.Refused ≡ false → terminal t ≡ k → Fine t
fine k t other h e = true≢false (sym (ap (λ (v : Terminal). is v w.Refused) (sym h ∙ e)) ∙ other)

by_some : {X : Type 0} (f : Terminal → Option X) (t : Token) (x : X) → f w.Refused ≡ None → f (terminal t) ≡ Some x
    → Fine t
by_some {X} f t x none some e = let q : None ≡ Some x = sym none ∙ ap f (sym e) ∙ some in absurd cc

by_test : (f : Terminal → Bool) (t : Token) → f w.Refused ≡ false → f (terminal t) ≡ true → Fine t
by_test f t none some e = true≢false (sym some ∙ ap f e ∙ none)

joined : (us vs : List Token) → Fits us → Fits vs → Fits (us ++ vs)
joined [] vs p q = q
joined (t ∷ us) vs p q = (p.0, joined us vs p.1 q)

ended : (us : List Token) (c : Token) → Fits us → Fine c → Fits (us ++ c ∷ [])
ended us c p q = joined us (c ∷ []) p (q, tt)

newlines : (ns : List Token) → Newlines ns → Fits ns
newlines [] h = tt
newlines (t ∷ ns) h = (fine w.Newline t refl h.0, newlines ns h.1)

gap : (gs : List Token) → Gap gs → Fits gs
gap [] h = tt
gap (t ∷ gs) h = (either t h.0, gap gs h.1)
  where
    either : (t : Token) → (terminal t ≡ w.Newline) ⊎ (terminal t ≡ w.Semicolon) → Fine t
    either t (inl k) = fine w.Newline t refl k
    either t (inr k) = fine w.Semicolon t refl k

-- ---- expressions

names : (us : List Token) (ms : List Member) (rest : List Token) → g.Names us ms rest → Fits us
names _ _ _ (g.no_name rest) = tt
names _ _ _ (g.one_name t u vs ms rest h i k) =
    fine w.In t refl h also fine w.Name u refl i also names vs ms rest k

mutual
  spelled : (n : ℕ) (r : Rule) (us : List Token) (x : Tree) (rest : List Token) → Spells n r us x rest → Fits us
  spelled _ _ _ _ _ (g.a_number n t rest h) = (fine w.Number t refl h, tt)
  spelled _ _ _ _ _ (g.a_string n t rest h) = (fine w.Quoted t refl h, tt)
  spelled _ _ _ _ _ (g.an_ere n t rest h) = (fine w.Pattern t refl h, tt)
  spelled _ _ _ _ _ (g.an_lvalue n us x rest k) = spelled _ _ us _ _ k
  spelled _ _ _ _ _ (g.a_paren n o c us x rest h j _ k) =
      (fine w.OpenParen o refl h, ended us c (spelled _ _ us _ _ k) (fine w.CloseParen c refl j))
  spelled _ _ _ _ _ (g.a_call n t o c us xs rest h i j _ k) =
      fine w.CallName t refl h also fine w.OpenParen o refl i
      also ended us c (arguments _ us _ _ k) (fine w.CloseParen c refl j)
  spelled _ _ _ _ _ (g.a_bare_length n t rest h _) = (fine (w.Builtin b.Length) t refl h, tt)
  spelled _ _ _ _ _ (g.a_call_of_none n which t o c rest _ h i j _) =
      fine (w.Builtin which) t refl h also fine w.OpenParen o refl i also fine w.CloseParen c refl j also tt
  spelled _ _ _ _ _ (g.a_call_of_one n which t o c us x rest _ h i j _ k) =
      fine (w.Builtin which) t refl h also fine w.OpenParen o refl i
      also ended us c (spelled _ _ us _ _ k) (fine w.CloseParen c refl j)
  spelled _ _ _ _ _ (g.a_call_of_two n which t o c us vs x y rest _ h i j _ k l) =
      fine (w.Builtin which) t refl h also fine w.OpenParen o refl i
      also ended (us ++ vs) c (joined us vs (spelled _ _ us _ _ k) (next _ vs _ _ l)) (fine w.CloseParen c refl j)
  spelled _ _ _ _ _ (g.a_call_of_two_or_three n which t o c us vs ws x y z rest _ h i j _ k l m) =
      fine (w.Builtin which) t refl h also fine w.OpenParen o refl i
      also ended ((us ++ vs) ++ ws) c (joined (us ++ vs) ws (joined us vs (spelled _ _ us _ _ k) (next _ vs _ _ l))
      (further _ ws _ _ m)) (fine w.CloseParen c refl j)
  spelled _ _ _ _ _ (g.a_call_of_some n which t o c us xs rest _ h i j _ k) =
      fine (w.Builtin which) t refl h also fine w.OpenParen o refl i
      also ended us c (list _ us _ _ k) (fine w.CloseParen c refl j)
  spelled _ _ _ _ _ (g.a_split n t o u m c us ns vs x y rest h i k l d j _ a e) =
      fine (w.Builtin b.Split) t refl h also fine w.OpenParen o refl i
      also ended ((us ++ u ∷ ns) ++ m ∷ vs) c (joined (us ++ u ∷ ns) (m ∷ vs)
      (joined us (u ∷ ns) (spelled _ _ us _ _ a) (fine w.Comma u refl k also newlines ns l))
      (fine w.Name m refl d also further _ vs _ _ e)) (fine w.CloseParen c refl j)
  spelled _ _ _ _ _ (g.a_substitute n all t o c us vs ws x y z rest h i j _ k l m) =
      fine (w.Builtin (substituting all)) t refl h also fine w.OpenParen o refl i
      also ended ((us ++ vs) ++ ws) c (joined (us ++ vs) ws (joined us vs (spelled _ _ us _ _ k) (next _ vs _ _ l))
      (into _ ws _ _ m)) (fine w.CloseParen c refl j)
  spelled _ _ _ _ _ (g.a_getline n t us vs x y rest h k l) =
      (fine w.Getline t refl h, joined us vs (target _ us _ _ k) (source _ vs _ _ l))
  spelled _ _ _ _ _ (g.a_name n t rest h _) = (fine w.Name t refl h, tt)
  spelled _ _ _ _ _ (g.an_element n t o c us xs rest h i j _ k) =
      fine w.Name t refl h also fine w.OpenBracket o refl i
      also ended us c (list _ us _ _ k) (fine w.CloseBracket c refl j)
  spelled _ _ _ _ _ (g.a_field n t us x rest h _ k) = (fine w.Dollar t refl h, spelled _ _ us _ _ k)
  spelled _ _ _ _ _ (g.a_signed_dol n which t us x rest h _ k) = (by_some sign t which refl h, spelled _ _ us _ _ k)
  spelled _ _ _ _ _ (g.a_step_dol n which t us x rest h _ k) = (by_some step t which refl h, spelled _ _ us _ _ k)
  spelled _ _ _ _ _ (g.only_prim n us x rest k) = spelled _ _ us _ _ k
  spelled _ _ _ _ _ (g.a_step_before n which t us x rest h _ k) = (by_some step t which refl h, spelled _ _ us _ _ k)
  spelled _ _ _ _ _ (g.a_step_after n which t us x rest k _ h) =
      ended us t (spelled _ _ us _ _ k) (by_some step t which refl h)
  spelled _ _ _ _ _ (g.no_step n us x rest k _) = spelled _ _ us _ _ k
  spelled _ _ _ _ _ (g.only_inc n us x rest k) = spelled _ _ us _ _ k
  spelled _ _ _ _ _ (g.a_power n t us vs x y rest h k _ l) =
      joined us (t ∷ vs) (spelled _ _ us _ _ k) (fine w.Caret t refl h, spelled _ _ vs _ _ l)
  spelled _ _ _ _ _ (g.a_signed n which t us x rest h _ k) = (by_some sign t which refl h, spelled _ _ us _ _ k)
  spelled _ _ _ _ _ (g.only_pow n us x rest k) = spelled _ _ us _ _ k
  spelled _ _ _ _ _ (g.a_product n us vs x xs rest k l) =
      joined us vs (spelled _ _ us _ _ k) (factors _ vs _ _ l)
  spelled _ _ _ _ _ (g.a_sum n us vs x xs rest k l) = joined us vs (spelled _ _ us _ _ k) (addends _ vs _ _ l)
  spelled _ _ _ _ _ (g.a_concat n us vs x xs rest k l) = joined us vs (spelled _ _ us _ _ k) (parts _ vs _ _ l)
  spelled _ _ _ _ _ (g.a_pipe n us vs x xs rest k l) = joined us vs (spelled _ _ us _ _ k) (pipes _ vs _ _ l)
  spelled _ _ _ _ _ (g.only_pipe n p us x rest k) = spelled _ _ us _ _ k
  spelled _ _ _ _ _ (g.a_comparison n p how t us vs x y rest h k l) =
      joined us (t ∷ vs) (spelled _ _ us _ _ k) (by_some (comparison p) t how refl h, spelled _ _ vs _ _ l)
  spelled _ _ _ _ _ (g.only_cmp n p us x rest k) = spelled _ _ us _ _ k
  spelled _ _ _ _ _ (g.a_match n p unlike t us vs x y rest h k l) =
      joined us (t ∷ vs) (spelled _ _ us _ _ k) (by_some matching t unlike refl h, spelled _ _ vs _ _ l)
  spelled _ _ _ _ _ (g.a_member n p us vs x ms rest k l) = joined us vs (spelled _ _ us _ _ k) (names vs _ _ l)
  spelled _ _ _ _ _ (g.a_group n p o c us vs x y zs m ms rest h j _ k l) = (
    fine w.OpenParen o refl h,
    joined us (c ∷ vs) (list _ us _ _ k) (fine w.CloseParen c refl j, names vs _ _ l),
  )
  spelled _ _ _ _ _ (g.an_assignment n p how t us vs x y rest h _ k _ l) =
      joined us (t ∷ vs) (spelled _ _ us _ _ k) (by_some assignment t how refl h, spelled _ _ vs _ _ l)
  spelled _ _ _ _ _ (g.an_and n p last us vs x xs rest k l) =
      joined us vs (spelled _ _ us _ _ k) (ands _ _ _ vs _ _ l)
  spelled _ _ _ _ _ (g.only_set n p us x rest k) = spelled _ _ us _ _ k
  spelled _ _ _ _ _ (g.an_or n p last us vs x xs rest k l) =
      joined us vs (spelled _ _ us _ _ k) (ors _ _ _ vs _ _ l)
  spelled _ _ _ _ _ (g.only_and n p us x rest k) = spelled _ _ us _ _ k
  spelled _ _ _ _ _ (g.only_or n p us x rest k) = spelled _ _ us _ _ k
  spelled _ _ _ _ _ (g.a_choice n p t u us vs ws x y z rest h i k _ l m) =
      joined us (t ∷ (vs ++ u ∷ ws)) (spelled _ _ us _ _ k) (
        fine w.Question t refl h,
        joined vs (u ∷ ws) (spelled _ _ vs _ _ l) (fine w.Colon u refl i, spelled _ _ ws _ _ m),
      )
  spelled _ _ _ _ _ (g.only_cond n p us x rest k) = spelled _ _ us _ _ k
  spelled _ _ _ _ _ (g.an_assigning n p us x rest k) = spelled _ _ us _ _ k

  factors : (n : ℕ) (us : List Token) (xs : List (Term Tree)) (rest : List Token) → g.Factors n us xs rest → Fits us
  factors _ _ _ _ (g.no_factor n rest) = tt
  factors _ _ _ _ (g.one_factor n t us vs x xs rest h k l) =
      joined (t ∷ us) vs (by_test is_factor_sign t refl h, spelled _ _ us _ _ k) (factors _ vs _ _ l)

  addends : (n : ℕ) (us : List Token) (xs : List (Term Tree)) (rest : List Token) → g.Addends n us xs rest → Fits us
  addends _ _ _ _ (g.no_addend n rest) = tt
  addends _ _ _ _ (g.one_addend n t us vs x xs rest h k l) =
      joined (t ∷ us) vs (by_test is_term_sign t refl h, spelled _ _ us _ _ k) (addends _ vs _ _ l)

  parts : (n : ℕ) (us : List Token) (xs : List Tree) (rest : List Token) → g.Parts n us xs rest → Fits us
  parts _ _ _ _ (g.no_part n rest) = tt
  parts _ _ _ _ (g.one_part n us vs x xs rest _ k l) = joined us vs (spelled _ _ us _ _ k) (parts _ vs _ _ l)

  pipes : (n : ℕ) (us : List Token) (xs : List (Piped Tree)) (rest : List Token) → g.Pipes n us xs rest → Fits us
  pipes _ _ _ _ (g.no_pipe n rest) = tt
  pipes _ _ _ _ (g.one_pipe n t u us vs x xs rest h i k l) =
      joined (t ∷ u ∷ us) vs (fine w.Bar t refl h also fine w.Getline u refl i also target _ us _ _ k) (pipes _ vs _ _ l)

  target : (n : ℕ) (us : List Token) (x : Option Tree) (rest : List Token) → g.Target n us x rest → Fits us
  target _ _ _ _ (g.no_target n rest _ _) = tt
  target _ _ _ _ (g.a_target n us x rest k) = spelled _ _ us _ _ k

  source : (n : ℕ) (us : List Token) (x : Option Tree) (rest : List Token) → g.Source n us x rest → Fits us
  source _ _ _ _ (g.no_source n rest _) = tt
  source _ _ _ _ (g.a_source n t us x rest h _ k) = (fine w.Less t refl h, spelled _ _ us _ _ k)

  ands : (n : ℕ) (p last : Bool) (us : List Token) (xs : List Tree) (rest : List Token) → g.Ands n p last us xs rest
      → Fits us
  ands _ _ _ _ _ _ (g.no_and n p rest) = tt
  ands _ _ _ _ _ _ (g.one_and n p last t ns us vs x xs rest h i k l) =
      joined ((t ∷ ns) ++ us) vs (fine w.And t refl h, joined ns us (newlines ns i) (spelled _ _ us _ _ k))
      (ands _ _ _ vs _ _ l)
  ands _ _ _ _ _ _ (g.last_and n p t ns us x rest h i k) =
      (fine w.And t refl h, joined ns us (newlines ns i) (spelled _ _ us _ _ k))

  ors : (n : ℕ) (p last : Bool) (us : List Token) (xs : List Tree) (rest : List Token) → g.Ors n p last us xs rest
      → Fits us
  ors _ _ _ _ _ _ (g.no_or n p rest) = tt
  ors _ _ _ _ _ _ (g.one_or n p last t ns us vs x xs rest h i k l) =
      joined ((t ∷ ns) ++ us) vs (fine w.Or t refl h, joined ns us (newlines ns i) (spelled _ _ us _ _ k))
      (ors _ _ _ vs _ _ l)
  ors _ _ _ _ _ _ (g.last_or n p t ns us x rest h i k) =
      (fine w.Or t refl h, joined ns us (newlines ns i) (spelled _ _ us _ _ k))

  list : (n : ℕ) (us : List Token) (xs : List Tree) (rest : List Token) → g.Listed n us xs rest → Fits us
  list _ _ _ _ (g.a_list n us vs x xs rest k l) = joined us vs (spelled _ _ us _ _ k) (commas _ vs _ _ l)

  commas : (n : ℕ) (us : List Token) (xs : List Tree) (rest : List Token) → g.Commas n us xs rest → Fits us
  commas _ _ _ _ (g.no_comma n rest) = tt
  commas _ _ _ _ (g.one_comma n us vs x xs rest k l) = joined us vs (next _ us _ _ k) (commas _ vs _ _ l)

  next : (n : ℕ) (us : List Token) (x : Tree) (rest : List Token) → g.Next n us x rest → Fits us
  next _ _ _ _ (g.next n t ns us x rest h i k) =
      (fine w.Comma t refl h, joined ns us (newlines ns i) (spelled _ _ us _ _ k))

  further : (n : ℕ) (us : List Token) (x : Option Tree) (rest : List Token) → g.Further n us x rest → Fits us
  further _ _ _ _ (g.no_further n rest) = tt
  further _ _ _ _ (g.further n us x rest k) = next _ us _ _ k

  into : (n : ℕ) (us : List Token) (x : Option Tree) (rest : List Token) → g.Into n us x rest → Fits us
  into _ _ _ _ (g.no_into n rest) = tt
  into _ _ _ _ (g.into n t ns us x rest h i k) =
      (fine w.Comma t refl h, joined ns us (newlines ns i) (spelled _ _ us _ _ k))

  arguments : (n : ℕ) (us : List Token) (xs : List Tree) (rest : List Token) → g.Arguments n us xs rest → Fits us
  arguments _ _ _ _ (g.no_argument n rest) = tt
  arguments _ _ _ _ (g.some_arguments n us xs rest k) = list _ us _ _ k

-- ---- statements

ends : (us rest : List Token) → s.Ends us rest → Fits us
ends _ _ (s.by_semicolon t rest h) = (fine w.Semicolon t refl h, tt)
ends _ _ (s.by_newline t rest h) = (fine w.Newline t refl h, tt)
ends _ _ (s.before_brace rest _) = tt

perhaps : (n : ℕ) (us : List Token) (x : Option Tree) (rest : List Token) → s.Perhaps n us x rest → Fits us
perhaps _ _ _ _ (s.no_expr n rest) = tt
perhaps _ _ _ _ (s.some_expr n us x rest k) = spelled _ _ us _ _ k

items : (n : ℕ) (us : List Token) (xs : List Tree) (rest : List Token) → s.Items n us xs rest → Fits us
items _ _ _ _ (s.no_item n rest) = tt
items _ _ _ _ (s.one_item n t ns us vs x xs rest h i k l) =
    joined ((t ∷ ns) ++ us) vs (fine w.Comma t refl h, joined ns us (newlines ns i) (spelled _ _ us _ _ k))
    (items _ vs _ _ l)

print_list : (n : ℕ) (us : List Token) (xs : Printed Tree) (rest : List Token) → s.PrintList n us xs rest → Fits us
print_list _ _ _ _ (s.plain_list n us vs x xs rest k l) = joined us vs (spelled _ _ us _ _ k) (items _ vs _ _ l)
print_list _ _ _ _ (s.grouped_list n o c us x y zs rest h j _ k _) =
    (fine w.OpenParen o refl h, ended us c (list _ us _ _ k) (fine w.CloseParen c refl j))

redirected : (n : ℕ) (us : List Token) (r : Option (Redirection Tree)) (rest : List Token) → s.Redirected n us r rest
    → Fits us
redirected _ _ _ _ (s.no_redirection n rest _) = tt
redirected _ _ _ _ (s.redirected n how t us x rest h k) = (
  (λ e. let q : None ≡ Some how = sym (ap redirect (ahead_is w.Refused t (us ++ rest) refl e)) ∙ h in absurd cc),
  spelled _ _ us _ _ k,
)

simple : (n : ℕ) (us : List Token) (x : Statement) (rest : List Token) → s.Simple n us x rest → Fits us
simple _ _ _ _ (s.an_expression n us x rest k) = spelled _ _ us _ _ k
simple _ _ _ _ (s.an_empty_print n t vs r rest h k) = (fine w.Print t refl h, redirected _ vs _ _ k)
simple _ _ _ _ (s.a_print n t us vs xs r rest h k l) =
    (fine w.Print t refl h, joined us vs (print_list _ us _ _ k) (redirected _ vs _ _ l))
simple _ _ _ _ (s.a_printf n t us vs xs r rest h k l) =
    (fine w.Printf t refl h, joined us vs (print_list _ us _ _ k) (redirected _ vs _ _ l))
simple _ _ _ _ (s.a_delete_all n t m rest h i _) =
    fine w.Delete t refl h also fine w.Name m refl i also tt
simple _ _ _ _ (s.a_delete n t m o c us xs rest h i j k _ l) =
    fine w.Delete t refl h also fine w.Name m refl i also fine w.OpenBracket o refl j
    also ended us c (list _ us _ _ l) (fine w.CloseBracket c refl k)
simple _ _ _ _ (s.a_jump n which t rest h) = (fine (w.Jump which) t refl h, tt)
simple _ _ _ _ (s.an_exit n t us x rest h k) = (fine w.Exit t refl h, perhaps _ us _ _ k)
simple _ _ _ _ (s.a_return n t us x rest h k) = (fine w.Return t refl h, perhaps _ us _ _ k)

test : (n : ℕ) (us : List Token) (x : Tree) (rest : List Token) → s.Test n us x rest → Fits us
test _ _ _ _ (s.a_test n o c us x rest h j _ k) =
    (fine w.OpenParen o refl h, ended us c (spelled _ _ us _ _ k) (fine w.CloseParen c refl j))

mutual
  statement : (n : ℕ) (us : List Token) (x : Statement) (rest : List Token) → s.SpellsStatement n us x rest → Fits us
  statement _ _ _ _ (s.an_empty n t rest h) = (fine w.Semicolon t refl h, tt)
  statement _ _ _ _ (s.a_simple n us vs x rest k l) = joined us vs (simple _ us _ _ k) (ends vs _ l)
  statement _ _ _ _ (s.a_block n o c us xs rest h j _ k) =
      (fine w.OpenBrace o refl h, ended us c (block _ us _ _ k) (fine w.CloseBrace c refl j))
  statement _ _ _ _ (s.an_if n t us vs x z rest h k l _) =
      (fine w.If t refl h, joined us vs (test _ us _ _ k) (body _ vs _ _ l))
  statement _ _ _ _ (s.an_if_else n t u us vs gs ws x y z rest h i k l m o) = (
    fine w.If t refl h,
    joined ((us ++ vs) ++ gs) (u ∷ ws) (joined (us ++ vs) gs (joined us vs (test _ us _ _ k) (body _ vs _ _ l))
        (gap gs m)) (fine w.Else u refl i, body _ ws _ _ o),
  )
  statement _ _ _ _ (s.a_while n t us vs x z rest h k l) =
      (fine w.While t refl h, joined us vs (test _ us _ _ k) (body _ vs _ _ l))
  statement _ _ _ _ (s.a_do n t u us ns vs ws z x rest h i k l m o) = (
    fine w.Do t refl h,
    joined ((us ++ ns) ++ u ∷ vs) ws (joined (us ++ ns) (u ∷ vs) (joined us ns (body _ us _ _ k) (newlines ns l)) (
      fine w.While u refl i,
      test _ vs _ _ m,
    )) (ends ws _ o),
  )
  statement _ _ _ _ (s.a_for n t o a e c us vs ws bs x y z q rest h i j k l _ p r v m) =
      fine w.For t refl h also fine w.OpenParen o refl i
      also joined ((us ++ a ∷ vs) ++ e ∷ ws) (c ∷ bs) (joined (us ++ a ∷ vs) (e ∷ ws)
      (joined us (a ∷ vs) (perhaps _ us _ _ p) (fine w.Semicolon a refl j also perhaps _ vs _ _ r))
      (fine w.Semicolon e refl k also perhaps _ ws _ _ v)) (fine w.CloseParen c refl l also body _ bs _ _ m)
  statement _ _ _ _ (s.a_for_in n t o k i a c bs q rest h j l m p r _ v) =
      fine w.For t refl h also fine w.OpenParen o refl j also fine w.Name k refl l also fine w.In i refl m
      also fine w.Name a refl p also fine w.CloseParen c refl r also body _ bs _ _ v

  body : (n : ℕ) (us : List Token) (x : Statement) (rest : List Token) → s.Body n us x rest → Fits us
  body _ _ _ _ (s.a_body n ns us x rest _ l k) = joined ns us (newlines ns l) (statement _ us _ _ k)

  block : (n : ℕ) (us : List Token) (xs : List Statement) (rest : List Token) → s.Block n us xs rest → Fits us
  block _ _ _ _ (s.no_statement n ns rest l) = newlines ns l
  block _ _ _ _ (s.one_statement n ns us vs x xs rest l k m) =
      joined (ns ++ us) vs (joined ns us (newlines ns l) (statement _ us _ _ k)) (block _ vs _ _ m)

-- ---- items

action : (us : List Token) (xs : List Statement) (rest : List Token) → s.Action us xs rest → Fits us
action _ _ _ (s.an_action o c us xs rest h j k) =
    (fine w.OpenBrace o refl h, ended us c (block _ us _ _ k) (fine w.CloseBrace c refl j))

pattern : (us : List Token) (x : Condition) (rest : List Token) → s.Pattern us x rest → Fits us
pattern _ _ _ (s.one_expr us x rest k) = spelled _ _ us _ _ k
pattern _ _ _ (s.two_exprs t us ns vs x y rest h k l m) =
    joined (us ++ t ∷ ns) vs (joined us (t ∷ ns) (spelled _ _ us _ _ k) (fine w.Comma t refl h, newlines ns l))
    (spelled _ _ vs _ _ m)

more_params : (us : List Token) (ps : List Name) (rest : List Token) → s.MoreParams us ps rest → Fits us
more_params _ _ _ (s.no_more rest) = tt
more_params _ _ _ (s.one_more t u ns vs ps rest h l i k) =
    joined ((t ∷ ns) ++ u ∷ []) vs (fine w.Comma t refl h, ended ns u (newlines ns l) (fine w.Name u refl i))
    (more_params vs _ _ k)

params : (us : List Token) (ps : List Name) (rest : List Token) → s.Params us ps rest → Fits us
params _ _ _ (s.no_params rest) = tt
params _ _ _ (s.some_params t vs ps rest h k) = (fine w.Name t refl h, more_params vs _ _ k)

function_name : (f : Token) → (terminal f ≡ w.Name) ⊎ (terminal f ≡ w.CallName) → Fine f
function_name f (inl h) = fine w.Name f refl h
function_name f (inr h) = fine w.CallName f refl h

item : (us : List Token) (x : Entry) (rest : List Token) → s.SpellsItem us x rest → Fits us
item _ _ _ (s.a_begin t us xs rest h k) = (fine w.BeginWord t refl h, action us _ _ k)
item _ _ _ (s.an_end t us xs rest h k) = (fine w.EndWord t refl h, action us _ _ k)
item _ _ _ (s.a_pattern us c rest k _) = pattern us _ _ k
item _ _ _ (s.a_rule us vs c xs rest k l) = joined us vs (pattern us _ _ k) (action vs _ _ l)
item _ _ _ (s.only_action us xs rest k) = action us _ _ k
item _ _ _ (s.a_function t f o c us ns vs ps xs rest h i j k l m q) =
    fine w.Function t refl h also function_name f i also fine w.OpenParen o refl j
    also joined us (c ∷ (ns ++ vs)) (params us _ _ l)
    (fine w.CloseParen c refl k also joined ns vs (newlines ns m) (action vs _ _ q))

script : (us : List Token) (xs : List Entry) → SpellsScript us xs → Fits us
script _ _ (s.no_items gs h) = gap gs h
script _ _ (s.an_item gs us vs x xs h k l) =
    joined (gs ++ us) vs (joined gs us (gap gs h) (item us _ _ k)) (script vs _ l)

kinds : (ts : List Token) → Fits ts → All (λ (t : Token). t.kind ≢ kind.Refused) ts
unfolding terminal_of
kinds [] h = All-nil (λ (t : Token). t.kind ≢ kind.Refused)
kinds (t ∷ ts) h =
    All-cons (λ (t : Token). t.kind ≢ kind.Refused) t ts (λ e. h.0 (ap (λ k. terminal_of k t.text) e)) (kinds ts h.1)

pub none_refused : (ts : List Token) (xs : List Entry) → SpellsScript ts xs
    → All (λ (t : Token). t.kind ≢ kind.Refused) ts
none_refused ts xs h = kinds ts (script ts xs h)
