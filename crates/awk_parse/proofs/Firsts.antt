-- What the tokens that spell an expression begin with.
use Rattle.std.proofs.Common.{◌≡◌, ℕ, ◌≤◌, Bool, true, false, ◌||◌, List, [], ◌∷◌, ◌++◌, length, Some, None, refl, ap}
use Rattle.std.proofs.Common.{◌∙◌, arith}
use Rattle.awk_tokens.specs.declared.token.Token.{Token}
use Rattle.awk_tokens.specs.declared.terminals.Step.{Step}
use Rattle.awk_tokens.specs.declared.terminals.Terminal.{Terminal}
use Rattle.awk_tokens.specs.declared.terminals.Terminal.TheVariants as w
use Rattle.awk_tree.specs.Looks.{sign, step}
use Rattle.awk_tree.specs.declared.operators.Sign.{Sign}
use Rattle.awk_tree.specs.Terminals.{substituting}
use Rattle.awk_tree.specs.Tree.{Tree}
use Rattle.awk_tree.specs.Terminals.{terminal, look, ahead}
use Rattle.awk_parse.specs.Rules as rule
use Rattle.awk_parse.specs.Rules.{Rule}
use Rattle.awk_parse.specs.Spells as g
use Rattle.awk_parse.specs.Spells.{Spells}
use Rattle.awk_parse.proofs.TerminalLemmas.{steady, ahead_is}
use Rattle.awk_parse.proofs.Starts.{begins_expression}
use Rattle.awk_parse.proofs.ReadSteps.{is_some}

abbrev pub begins_lvalue : Terminal → Bool
begins_lvalue w.Name = true
begins_lvalue w.Dollar = true
begins_lvalue other = false

abbrev pub begins_prim : Terminal → Bool
begins_prim w.Number = true
begins_prim w.Quoted = true
begins_prim w.Pattern = true
begins_prim w.CallName = true
begins_prim (w.Builtin which) = true
begins_prim w.OpenParen = true
begins_prim w.Getline = true
begins_prim other = begins_lvalue other

abbrev pub begins_inc : Terminal → Bool
begins_inc k = begins_prim k || is_some (step k)

abbrev pub begins : Rule → Terminal → Bool
begins rule.lvalue = begins_lvalue
begins rule.prim = begins_prim
begins rule.inc = begins_inc
begins rule.pow = begins_inc
begins other = begins_expression

abbrev pub Heads : (Terminal → Bool) → List Token → Type 0
Heads f [] = ⊥
Heads f (t ∷ ts) = f (terminal t) ≡ true

pub heads_append : (f : Terminal → Bool) (us vs : List Token) → Heads f us → Heads f (us ++ vs)
heads_append f [] vs h = absurd h
heads_append f (t ∷ us) vs h = h

pub heads_more : (f g : Terminal → Bool) (us : List Token) → ((k : Terminal) → f k ≡ true → g k ≡ true) → Heads f us
    → Heads g us
heads_more f g [] more h = absurd h
heads_more f g (t ∷ us) more h = more (terminal t) h

pub heads_some : (f : Terminal → Bool) (us : List Token) → Heads f us → 1 ≤ length us
heads_some f [] h = absurd h
heads_some f (t ∷ us) h = omega arith

pub heads_look : (f : Terminal → Bool) (us vs : List Token) → Heads f us → f (look (us ++ vs)) ≡ true
heads_look f [] vs h = absurd h
heads_look f (t ∷ us) vs h = h

left_or : (a b : Bool) → a ≡ true → (a || b) ≡ true
left_or true b h = refl
left_or false b h = absurd cc

right_or : (a b : Bool) → b ≡ true → (a || b) ≡ true
right_or true b h = refl
right_or false b h = h

lvalue_prim : (k : Terminal) → begins_lvalue k ≡ true → begins_prim k ≡ true
lvalue_prim w.Name h = refl
lvalue_prim w.Dollar h = refl
lvalue_prim _ h = absurd cc

pub prim_inc : (k : Terminal) → begins_prim k ≡ true → begins_inc k ≡ true
prim_inc k h = left_or (begins_prim k) (is_some (step k)) h

inc_unary : (k : Terminal) → begins_inc k ≡ true → begins_expression k ≡ true
inc_unary w.Number h = refl
inc_unary w.Quoted h = refl
inc_unary w.Pattern h = refl
inc_unary w.Name h = refl
inc_unary w.CallName h = refl
inc_unary (w.Builtin which) h = refl
inc_unary w.Dollar h = refl
inc_unary w.OpenParen h = refl
inc_unary (w.Step which) h = refl
inc_unary w.Getline h = refl
inc_unary _ h = absurd cc

sign_begins : (which : Sign) (k : Terminal) → sign k ≡ Some which → begins_expression k ≡ true
sign_begins which w.Not h = refl
sign_begins which w.Plus h = refl
sign_begins which w.Minus h = refl
sign_begins which _ h = absurd cc

pub heads_ahead : (f : Terminal → Bool) (us vs : List Token) → ((k : Terminal) → f k ≡ true → steady k ≡ true)
    → Heads f us → f (ahead (us ++ vs)) ≡ true
heads_ahead f [] vs s h = absurd h
heads_ahead f (t ∷ us) vs s h = ap f (ahead_is (terminal t) t (us ++ vs) (s (terminal t) h) refl) ∙ h

pub unary_steady : (k : Terminal) → begins_expression k ≡ true → steady k ≡ true
unary_steady w.End h = absurd cc
unary_steady w.Newline h = absurd cc
unary_steady w.Semicolon h = absurd cc
unary_steady w.CloseBrace h = absurd cc
unary_steady w.Bar h = absurd cc
unary_steady w.BarGetline h = absurd cc
unary_steady _ h = refl

pub inc_steady : (k : Terminal) → begins_inc k ≡ true → steady k ≡ true
inc_steady k h = unary_steady k (inc_unary k h)

pub prim_steady : (k : Terminal) → begins_prim k ≡ true → steady k ≡ true
prim_steady k h = inc_steady k (prim_inc k h)

pub prim_no_step : (k : Terminal) → begins_prim k ≡ true → step k ≡ None
prim_no_step (w.Step which) h = absurd cc
prim_no_step _ h = refl

pub inc_no_sign : (k : Terminal) → begins_inc k ≡ true → sign k ≡ None
inc_no_sign w.Not h = absurd cc
inc_no_sign w.Plus h = absurd cc
inc_no_sign w.Minus h = absurd cc
inc_no_sign _ h = refl

pub step_steady : (which : Step) (k : Terminal) → step k ≡ Some which → steady k ≡ true
step_steady which (w.Step other) h = refl
step_steady which _ h = absurd cc

pub sign_steady : (which : Sign) (k : Terminal) → sign k ≡ Some which → steady k ≡ true
sign_steady which w.Not h = refl
sign_steady which w.Plus h = refl
sign_steady which w.Minus h = refl
sign_steady which _ h = absurd cc

a_sign : (t : Token) (us : List Token) (which : Sign) → sign (terminal t) ≡ Some which
    → Heads begins_expression (t ∷ us)
a_sign t us which h = sign_begins which (terminal t) h

a_step : (t : Token) (us : List Token) (which : Step) → step (terminal t) ≡ Some which → Heads begins_inc (t ∷ us)
a_step t us which h = right_or (begins_prim (terminal t)) (is_some (step (terminal t))) (ap is_some h)

pub step_begins : (which : Step) (t : Token) (ts : List Token) → step (terminal t) ≡ Some which
    → begins_inc (ahead (t ∷ ts)) ≡ true
step_begins which t ts h = ap begins_inc (ahead_is (terminal t) t ts (step_steady which (terminal t) h) refl)
    ∙ a_step t ts which h

a_builtin : (t : Token) (us : List Token) (k : Terminal) → terminal t ≡ k → begins_prim k ≡ true
    → Heads begins_prim (t ∷ us)
a_builtin t us k h b = ap begins_prim h ∙ b

substituting_is : (all : Bool) → begins_prim (w.Builtin (substituting all)) ≡ true
substituting_is true = refl
substituting_is false = refl

pub first : (n : ℕ) (r : Rule) (us : List Token) (x : Tree) (rest : List Token) → Spells n r us x rest
    → Heads (begins r) us
first _ _ _ _ _ (g.a_number n t rest h) = ap begins_prim h
first _ _ _ _ _ (g.a_string n t rest h) = ap begins_prim h
first _ _ _ _ _ (g.an_ere n t rest h) = ap begins_prim h
first _ _ _ _ _ (g.an_lvalue n us x rest s) = heads_more begins_lvalue begins_prim us lvalue_prim
    (first n rule.lvalue us x rest s)
first _ _ _ _ _ (g.a_paren n o c us x rest h _ _ _) = ap begins_prim h
first _ _ _ _ _ (g.a_call n t o c us xs rest h _ _ _ _) = ap begins_prim h
first _ _ _ _ _ (g.a_bare_length n t rest h _) = ap begins_prim h
first _ _ _ _ _ (g.a_call_of_none n which t o c rest _ h _ _ _) = ap begins_prim h
first _ _ _ _ _ (g.a_call_of_one n which t o c us x rest _ h _ _ _ _) = ap begins_prim h
first _ _ _ _ _ (g.a_call_of_two n which t o c us vs x y rest _ h _ _ _ _ _) = ap begins_prim h
first _ _ _ _ _ (g.a_call_of_two_or_three n which t o c us vs ws x y z rest _ h _ _ _ _ _ _) = ap begins_prim h
first _ _ _ _ _ (g.a_call_of_some n which t o c us xs rest _ h _ _ _ _) = ap begins_prim h
first _ _ _ _ _ (g.a_split n t o u m c us ns vs x y rest h _ _ _ _ _ _ _ _) = ap begins_prim h
first _ _ _ _ _ (g.a_substitute n all t o c us vs ws x y z rest h _ _ _ _ _ _) = ap begins_prim h
first _ _ _ _ _ (g.a_getline n t us vs x y rest h _ _) = ap begins_prim h
first _ _ _ _ _ (g.a_name n t rest h _) = ap begins_lvalue h
first _ _ _ _ _ (g.an_element n t o c us xs rest h _ _ _ _) = ap begins_lvalue h
first _ _ _ _ _ (g.a_field n t us x rest h _ _) = ap begins_lvalue h
first _ _ _ _ _ (g.a_signed_dol n which t us x rest h _ _) = a_sign t us which h
first _ _ _ _ _ (g.a_step_dol n which t us x rest h _ _) = inc_unary (terminal t) (a_step t us which h)
first _ _ _ _ _ (g.only_prim n us x rest s) = heads_more begins_inc begins_expression us inc_unary
    (heads_more begins_prim begins_inc us prim_inc (first n rule.prim us x rest s))
first _ _ _ _ _ (g.a_step_before n which t us x rest h _ _) = a_step t us which h
first _ _ _ _ _ (g.a_step_after n which t us x rest s _ _) = heads_append begins_inc us (t ∷ [])
    (heads_more begins_prim begins_inc us prim_inc (first n rule.prim us x (t ∷ rest) s))
first _ _ _ _ _ (g.no_step n us x rest s _) = heads_more begins_prim begins_inc us prim_inc
    (first n rule.prim us x rest s)
first _ _ _ _ _ (g.only_inc n us x rest s) = first n rule.inc us x rest s
first _ _ _ _ _ (g.a_power n t us vs x y rest _ s _ _) = heads_append begins_inc us (t ∷ vs)
    (first n rule.inc us x (t ∷ vs ++ rest) s)
first _ _ _ _ _ (g.a_signed n which t us x rest h _ _) = a_sign t us which h
first _ _ _ _ _ (g.only_pow n us x rest s) = heads_more begins_inc begins_expression us inc_unary
    (first n rule.pow us x rest s)
first _ _ _ _ _ (g.a_product n us vs x xs rest s _) = heads_append begins_expression us vs
    (first n rule.unary us x (vs ++ rest) s)
first _ _ _ _ _ (g.a_sum n us vs x xs rest s _) = heads_append begins_expression us vs
    (first n rule.mul us x (vs ++ rest) s)
first _ _ _ _ _ (g.a_concat n us vs x xs rest s _) = heads_append begins_expression us vs
    (first n rule.add us x (vs ++ rest) s)
first _ _ _ _ _ (g.a_pipe n us vs x xs rest s _) = heads_append begins_expression us vs
    (first n rule.cat us x (vs ++ rest) s)
first _ _ _ _ _ (g.only_pipe n p us x rest s) = first n rule.pipe us x rest s
first _ _ _ _ _ (g.a_comparison n p how t us vs x y rest _ s _) = heads_append begins_expression us (t ∷ vs)
    (first n rule.pipe us x (t ∷ vs ++ rest) s)
first _ _ _ _ _ (g.only_cmp n p us x rest s) = first n (rule.cmp p) us x rest s
first _ _ _ _ _ (g.a_match n p unlike t us vs x y rest _ s _) = heads_append begins_expression us (t ∷ vs)
    (first n (rule.cmp p) us x (t ∷ vs ++ rest) s)
first _ _ _ _ _ (g.a_member n p us vs x ms rest s _) = heads_append begins_expression us vs
    (first n (rule.match p) us x (vs ++ rest) s)
first _ _ _ _ _ (g.a_group n p o c us vs x y zs m ms rest h _ _ _ _) = ap begins_expression h
first _ _ _ _ _ (g.an_assignment n p how t us vs x y rest _ _ s _ _) = heads_append begins_expression us (t ∷ vs)
    (first n (rule.isin p) us x (t ∷ vs ++ rest) s)
first _ _ _ _ _ (g.an_and n p last us vs x xs rest s _) = heads_append begins_expression us vs
    (first n (rule.isin p) us x (vs ++ rest) s)
first _ _ _ _ _ (g.only_set n p us x rest s) = first n (rule.set p) us x rest s
first _ _ _ _ _ (g.an_or n p last us vs x xs rest s _) = heads_append begins_expression us vs
    (first n (rule.and p false) us x (vs ++ rest) s)
first _ _ _ _ _ (g.only_and n p us x rest s) = first n (rule.and p true) us x rest s
first _ _ _ _ _ (g.only_or n p us x rest s) = first n (rule.or p false) us x rest s
first _ _ _ _ _ (g.a_choice n p t u us vs ws x y z rest _ _ s _ _ _) = heads_append begins_expression us
    (t ∷ (vs ++ u ∷ ws)) (first n (rule.or p false) us x (t ∷ (vs ++ u ∷ (ws ++ rest))) s)
first _ _ _ _ _ (g.only_cond n p us x rest s) = first n (rule.cond p) us x rest s
first _ _ _ _ _ (g.an_assigning n p us x rest s) = first n (rule.or p true) us x rest s
