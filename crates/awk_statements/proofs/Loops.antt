-- A loop that collects what `until_from` reads. `gs` is what is left behind the gap.
use Rattle.std.proofs.Common.{◌≡◌, ℕ, zero, suc, ◌+◌, ◌-◌, ◌<◌, ◌≤◌, Bool, true, false, length, List, [], ◌∷◌, ◌++◌, Ok}
use Rattle.std.proofs.Common.{Err, refl, ap, sym, map, ◌∙◌, append_assoc, arith}
use Rattle.std.proofs.lemmas.List.{append-nil, map-append}
use Rattle.awk_tokens.specs.declared.token.Token.{Token}
use Rattle.awk_tree.specs.declared.fault.ParseError.TheVariants.{Unexpected}
use Rattle.awk_tree.specs.Input.{Outcome, Parser, and_then}
use Rattle.awk_tree.specs.Statements.{until_from}
use Rattle.awk_expressions.proofs.Loops.{with_front}

module _ {A : Type 0} (gap : List Token → List Token) (ends : List Token → Bool) (part : Parser A) where
  stops : (front : List A) (n : ℕ) (ts : List Token) (total : Outcome (List A)) → ends (gap ts) ≡ true
      → with_front front (until_from gap ends part n ts) ≡ total → total ≡ Ok (front, gap ts)
  unfolding until_from
  stops front zero ts total h e = sym e ∙ rw h (ap (λ (xs : List A). Ok (xs, gap ts)) (append-nil front))
  stops front (suc n) ts total h e = sym e ∙ rw h (ap (λ (xs : List A). Ok (xs, gap ts)) (append-nil front))

  pub until_stops : (front : List A) (n : ℕ) (ts gs : List Token) (total : Outcome (List A)) → gs ≡ gap ts
      → ends gs ≡ true → with_front front (until_from gap ends part n ts) ≡ total → total ≡ Ok (front, gs)
  until_stops front n ts gs total g h e = stops front n ts total (ap ends (sym g) ∙ h) e
      ∙ ap (λ (z : List Token). Ok (front, z)) (sym g)

  refuses : (front : List A) (n at : ℕ) (ts : List Token) (total : Outcome (List A)) → n ≤ at → ends (gap ts) ≡ false
      → with_front front (until_from gap ends part (n - at) ts) ≡ total → total ≡ Err (Unexpected (length (gap ts)))
  unfolding until_from
  refuses front n at ts total le h e = let none : n - at ≡ 0 = omega arith in sym e ∙ rw (none, h) refl

  pub until_refuses : (front : List A) (n at : ℕ) (ts gs : List Token) (total : Outcome (List A)) → n ≤ at → gs ≡ gap ts
      → ends gs ≡ false → with_front front (until_from gap ends part (n - at) ts) ≡ total
      → total ≡ Err (Unexpected (length gs))
  until_refuses front n at ts gs total le g h e = refuses front n at ts total le (ap ends (sym g) ∙ h) e
      ∙ ap (λ (z : List Token). Err (Unexpected (length z))) (sym g)

  regroup : (front : List A) (x : A) (o : Outcome (List A)) → with_front front (and_then o (λ xs ts. Ok (x ∷ xs, ts)))
      ≡ with_front (front ++ x ∷ []) o
  regroup front x (Ok p) = ap (λ (xs : List A). Ok (xs, p.1)) (simp append_assoc)
  regroup front x (Err f) = refl

  goes : (front : List A) (n at : ℕ) (ts : List Token) (x : A) (m : List Token) (total : Outcome (List A)) → at < n
      → ends (gap ts) ≡ false → part (gap ts) ≡ Ok (x, m)
      → with_front front (until_from gap ends part (n - at) ts) ≡ total
      → with_front (front ++ x ∷ []) (until_from gap ends part (n - (at + 1)) m) ≡ total
  unfolding until_from
  goes front n at ts x m total lt h i e =
      let turn : n - at ≡ suc (n - (at + 1)) = omega arith in
      sym (rw (turn, h, i) (regroup front x (until_from gap ends part (n - (at + 1)) m))) ∙ e

  pub until_goes : (front : List A) (n at : ℕ) (ts gs : List Token) (x : A) (m : List Token) (total : Outcome (List A))
      → at < n → gs ≡ gap ts → ends gs ≡ false → part gs ≡ Ok (x, m)
      → with_front front (until_from gap ends part (n - at) ts) ≡ total
      → with_front (front ++ x ∷ []) (until_from gap ends part (n - (at + 1)) m) ≡ total
  until_goes front n at ts gs x m total lt g h i e = goes front n at ts x m total lt (ap ends (sym g) ∙ h)
      (ap part (sym g) ∙ i) e

  turns : (front : List A) (n at : ℕ) (ts : List Token) (total : Outcome (List A)) → at < n → ends (gap ts) ≡ false
      → with_front front (until_from gap ends part (n - at) ts) ≡ total
      → total ≡ with_front front (and_then (part (gap ts)) (λ x m. and_then (until_from gap ends part (n - (at + 1)) m)
      (λ xs r. Ok (x ∷ xs, r))))
  unfolding until_from
  turns front n at ts total lt h e = let turn : n - at ≡ suc (n - (at + 1)) = omega arith in sym e ∙ rw (turn, h) refl

  -- one turn of the loop
  pub until_turn : (front : List A) (n at : ℕ) (ts gs : List Token) (total : Outcome (List A)) → at < n → gs ≡ gap ts
      → ends gs ≡ false → with_front front (until_from gap ends part (n - at) ts) ≡ total
      → total ≡ with_front front (and_then (part gs) (λ x m. and_then (until_from gap ends part (n - (at + 1)) m)
      (λ xs r. Ok (x ∷ xs, r))))
  until_turn front n at ts gs total lt g h e = turns front n at ts total lt (ap ends (sym g) ∙ h) e
      ∙ ap (λ (z : List Token). with_front front
      (and_then (part z) (λ x m. and_then (until_from gap ends part (n - (at + 1)) m) (λ xs r. Ok (x ∷ xs, r)))))
      (sym g)

-- the same where what is kept is seen by a view
pub viewed_until : {A B : Type 0} (view : B → A) (gap : List Token → List Token) (ends : List Token
    → Bool) (part : Parser A) (front : List B) (n at : ℕ) (ts gs : List Token) (x : B) (m : List Token)
    (total : Outcome (List A)) → at < n → gs ≡ gap ts → ends gs ≡ false → part gs ≡ Ok (view x, m)
    → with_front (map view front) (until_from gap ends part (n - at) ts) ≡ total
    → with_front (map view (front ++ x ∷ [])) (until_from gap ends part (n - (at + 1)) m) ≡ total
viewed_until view gap ends part front n at ts gs x m total lt g h i e = rw (map-append view front (x ∷ []))
    (until_goes gap ends part (map view front) n at ts gs (view x) m total lt g h i e)
