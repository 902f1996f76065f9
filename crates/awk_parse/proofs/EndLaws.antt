-- The law of the end of a simple statement and of a do-while.
use Rattle.std.proofs.Common.{◌≡◌, ℕ, Bool, List, [], ◌∷◌, ◌++◌, Ok, codes, refl, sym, ap, subst, ◌∙◌, append_assoc}
use Rattle.awk_tokens.specs.declared.token.Token.{Token}
use Rattle.awk_tokens.specs.declared.kinds.TokenKind.TheVariants as kind
use Rattle.awk_tokens.specs.declared.terminals.Terminal.{Terminal}
use Rattle.awk_tokens.specs.declared.terminals.Terminal.TheVariants as w
use Rattle.awk_tree.specs.Tree.{Statement}
use Rattle.awk_tree.specs.Terminals.{terminal_of, seen, is, look, ahead, sign, keyword, token}
use Rattle.awk_tree.specs.Input.{any, pure}
use Rattle.awk_tree.specs.Statements as st
use Rattle.awk_tree.specs.Canon.{canon_statement, canon_items, bare_statement, end}
use Rattle.awk_parse.specs.SpellsScripts as r
use Rattle.awk_parse.specs.SpellsScripts.{Simple, Ends}
use Rattle.awk_parse.proofs.Law.{Eye, Near, Form, LawOn, Goes, bind_ok, done_is, any_is}
use Rattle.awk_parse.proofs.SimpleLaws.{without_end}

pub ahead_look : (ts : List Token) (k : Terminal) → look ts ≡ k → ((b : Bool) → seen k b ≡ w.End) → ahead ts ≡ w.End
ahead_look [] k h e = refl
ahead_look (t ∷ ts) k h e = ap (λ (v : Terminal). seen v (is (look ts) w.Getline)) h ∙ e (is (look ts) w.Getline)

-- the canonical spelling of a simple statement, and its end
pub with_end : (n : ℕ) (us : List Token) (s : Statement) (rest : List Token) → Simple n us s rest
    → canon_statement s ≡ without_end s ++ end
with_end _ _ _ _ (r.an_expression n us x rest _) = refl
with_end _ _ _ _ (r.an_empty_print n t vs z rest _ _) = refl
with_end _ _ _ _ (r.a_print n t us vs xs z rest _ _ _) = refl
with_end _ _ _ _ (r.a_printf n t us vs xs z rest _ _ _) = refl
with_end _ _ _ _ (r.a_delete_all n t m rest _ _ _) = refl
with_end _ _ _ _ (r.a_delete n t m o c us xs rest _ _ _ _ _ _) =
    sym (append_assoc (keyword (codes "delete") ∷ token kind.Name m.text ∷ sign (codes "[") ∷ canon_items xs)
    (sign (codes "]") ∷ []) end)
with_end _ _ _ _ (r.a_jump n which t rest _) = refl
with_end _ _ _ _ (r.an_exit n t us x rest _ _) = refl
with_end _ _ _ _ (r.a_return n t us x rest _ _) = refl

-- what is spelled with an end behind it
pub data Finished (S : List Token → Statement → List Token → Type 0) : List Token → Statement → List Token
    → Type 0 where
  finished : (us vs : List Token) (s : Statement) (rest : List Token) → S us s (vs ++ rest) → Ends vs rest
      → Finished S (us ++ vs) s rest

abbrev pub open_form : (List Token → Statement → List Token → Type 0) → Form Statement
open_form S = record { plain = without_end; bare = bare_statement; spells = S }

abbrev pub ended_form : (List Token → Statement → List Token → Type 0) → Form Statement
ended_form S = record { plain = λ s. without_end s ++ end; bare = bare_statement; spells = Finished S }

module _ (S : List Token → Statement → List Token → Type 0) (o : Eye) where
  finish : (s y : Statement) (ts used rest : List Token) → ts ≡ used ++ rest → s ≡ y → Ends used rest → ahead ts ≡ w.End
      → Goes Near o (open_form S) (ended_form S) st.ended s ts y rest
  unfolding st.ended any terminal_of
  finish s y ts used rest parts same ends sees =
      subst (λ (z : Statement). Goes Near o (open_form S) (ended_form S) st.ended s ts z rest) same (record {
        used = used;
        parts = parts;
        spelled = λ us k. finished us used s rest (subst (λ (m : List Token). S us s m) parts k) ends;
        more = end;
        whole = refl;
        seen = λ u like. sees;
        reads = λ u like. refl;
      })

  end_at : (k : Terminal) (s y : Statement) (ts rest : List Token) → look ts ≡ k → st.ended_by s k ts ≡ Ok (y, rest)
      → Goes Near o (open_form S) (ended_form S) st.ended s ts y rest
  end_at w.Semicolon s y ts rest sees h =
      let i = bind_ok (any ts) (λ _. pure s) y rest h in
      let p = any_is ts i.0 i.1 i.2 in
      let d = done_is s y i.1 rest i.3 in
      finish s y ts (i.0 ∷ []) rest (p ∙ ap (λ (m : List Token). i.0 ∷ m) d.1) d.0
      (r.by_semicolon i.0 rest (sym (ap look p) ∙ sees)) (ahead_look ts w.Semicolon sees (λ _. refl))
  end_at w.Newline s y ts rest sees h =
      let i = bind_ok (any ts) (λ _. pure s) y rest h in
      let p = any_is ts i.0 i.1 i.2 in
      let d = done_is s y i.1 rest i.3 in
      finish s y ts (i.0 ∷ []) rest (p ∙ ap (λ (m : List Token). i.0 ∷ m) d.1) d.0
      (r.by_newline i.0 rest (sym (ap look p) ∙ sees)) (ahead_look ts w.Newline sees (λ _. refl))
  end_at w.CloseBrace s y ts rest sees h =
      let d = done_is s y ts rest h in
      finish s y ts [] rest d.1 d.0 (r.before_brace rest (ap look (sym d.1) ∙ sees))
      (ahead_look ts w.CloseBrace sees (λ _. refl))
  end_at _ s y ts rest sees h = absurd cc

  pub end_law : LawOn Near o (open_form S) (ended_form S) st.ended
  unfolding st.ended
  end_law s ts y rest h =
      let q = end_at (look ts) s y ts rest refl h in
      record {
        used = q.used;
        parts = q.parts;
        spelled = q.spelled;
        more = q.more;
        whole = q.whole;
        seen = q.seen;
        reads = q.reads;
      }
