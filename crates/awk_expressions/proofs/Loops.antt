-- A loop that collects what `many` reads.
use Rattle.std.proofs.Common.{◌≡◌, ℕ, zero, suc, ◌+◌, ◌-◌, ◌<◌, ◌≤◌, Bool, true, false, length, List, [], ◌∷◌, ◌++◌, Ok}
use Rattle.std.proofs.Common.{Err, refl, ap, sym, map, ◌∙◌, append_assoc, arith}
use Rattle.std.proofs.lemmas.List.{append-nil, map-append}
use Rattle.awk_tokens.specs.declared.token.Token.{Token}
use Rattle.awk_tokens.specs.declared.terminals.Terminal.{Terminal}
use Rattle.awk_tree.specs.declared.fault.ParseError.{ParseError}
use Rattle.awk_tree.specs.declared.fault.ParseError.TheVariants.{Unexpected}
use Rattle.awk_tree.specs.Terminals.{ahead}
use Rattle.awk_tree.specs.Input.{Outcome, Parser, and_then, many_from}

-- what was read before, and what is still read
abbrev pub with_front : {A : Type 0} → List A → Outcome (List A) → Outcome (List A)
with_front front o = and_then o (λ xs ts. Ok (front ++ xs, ts))

pub one_more : {X : Type 0} {x : X} (f : ℕ → X) (n at : ℕ) → at < n → x ≡ f (n - at) → x ≡ f (suc (n - (at + 1)))
one_more f n at below e = let turn : n - at ≡ suc (n - (at + 1)) = omega arith in e ∙ ap f turn

pub no_more : {X : Type 0} {x : X} (f : ℕ → X) (n at : ℕ) → n ≤ at → x ≡ f (n - at) → x ≡ f 0
no_more f n at done e = let none : n - at ≡ 0 = omega arith in e ∙ ap f none

pub deeper : {X : Type 0} (f : ℕ → X) (n : ℕ) → 0 < n → f n ≡ f (suc (n - 1))
deeper f n some = let e : n ≡ suc (n - 1) = omega arith in ap f e

module _ {A : Type 0} (test : Terminal → Bool) (item : Parser A) where
  pub many_stops : (front : List A) (n : ℕ) (ts : List Token) (total : Outcome (List A)) → test (ahead ts) ≡ false
      → with_front front (many_from test item n ts) ≡ total → total ≡ Ok (front, ts)
  unfolding many_from
  many_stops front zero ts total h e = sym e ∙ rw h (ap (λ (xs : List A). Ok (xs, ts)) (append-nil front))
  many_stops front (suc n) ts total h e = sym e ∙ rw h (ap (λ (xs : List A). Ok (xs, ts)) (append-nil front))

  pub many_ends : (front : List A) (n at : ℕ) (ts : List Token) (total : Outcome (List A)) → n ≤ at
      → test (ahead ts) ≡ true → with_front front (many_from test item (n - at) ts) ≡ total
      → total ≡ Err (Unexpected (length ts))
  unfolding many_from
  many_ends front n at ts total le h e = let none : n - at ≡ 0 = omega arith in sym e ∙ rw (none, h) refl

  regroup : (front : List A) (x : A) (o : Outcome (List A)) → with_front front (and_then o (λ xs ts. Ok (x ∷ xs, ts)))
      ≡ with_front (front ++ x ∷ []) o
  regroup front x (Ok p) = ap (λ (xs : List A). Ok (xs, p.1)) (simp append_assoc)
  regroup front x (Err f) = refl

  pub many_goes : (front : List A) (n at : ℕ) (ts : List Token) (x : A) (m : List Token) (total : Outcome (List A))
      → at < n → test (ahead ts) ≡ true → item ts ≡ Ok (x, m)
      → with_front front (many_from test item (n - at) ts) ≡ total
      → with_front (front ++ x ∷ []) (many_from test item (n - (at + 1)) m) ≡ total
  unfolding many_from
  many_goes front n at ts x m total lt h i e =
      let turn : n - at ≡ suc (n - (at + 1)) = omega arith in
      sym (rw (turn, h, i) (regroup front x (many_from test item (n - (at + 1)) m))) ∙ e

  pub many_fails : (front : List A) (n at : ℕ) (ts : List Token) (f : ParseError) (total : Outcome (List A)) → at < n
      → test (ahead ts) ≡ true → item ts ≡ Err f → with_front front (many_from test item (n - at) ts) ≡ total
      → total ≡ Err f
  unfolding many_from
  many_fails front n at ts f total lt h i e =
      let turn : n - at ≡ suc (n - (at + 1)) = omega arith in sym e ∙ rw (turn, h, i) refl

  -- one turn of the loop
  pub many_turn : (front : List A) (n at : ℕ) (ts : List Token) (total : Outcome (List A)) → at < n
      → test (ahead ts) ≡ true → with_front front (many_from test item (n - at) ts) ≡ total
      → total ≡ with_front front (and_then (item ts) (λ x m. and_then (many_from test item (n - (at + 1)) m)
      (λ xs r. Ok (x ∷ xs, r))))
  unfolding many_from
  many_turn front n at ts total lt h e =
      let turn : n - at ≡ suc (n - (at + 1)) = omega arith in sym e ∙ rw (turn, h) refl

-- the same where what is kept is seen by a view
pub viewed_goes : {A B : Type 0} (view : B → A) (test : Terminal → Bool) (item : Parser A) (front : List B) (n at : ℕ)
    (ts : List Token) (x : B) (m : List Token) (total : Outcome (List A)) → at < n → test (ahead ts) ≡ true
    → item ts ≡ Ok (view x, m)
    → with_front (map view front) (many_from test item (n - at) ts) ≡ total
    → with_front (map view (front ++ x ∷ [])) (many_from test item (n - (at + 1)) m) ≡ total
viewed_goes view test item front n at ts x m total lt h i e = rw (map-append view front (x ∷ []))
    (many_goes test item (map view front) n at ts (view x) m total lt h i e)
