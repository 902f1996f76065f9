-- Searches along a list.
use Rattle.std.proofs.Common.{◌≡◌, ◌∙◌, ◌⊎◌, inl, inr, ℕ, ◌+◌, ◌<◌, ◌≤◌, List, [], ◌∷◌, ◌++◌, length, get_or, take}
use Rattle.std.proofs.Common.{drop, None, refl, sym, ap, subst, All, Contains}
use Rattle.std.proofs.lemmas.List.{take_more, take_all, take-append-drop}
use Rattle.std.proofs.lemmas.List.Elements.{All-contains, All-more}
use Rattle.awk_text.specs.declared.place.Place.{Place}
use Rattle.awk_resolve.specs.Search.{Finds, OneAfter}
use Rattle.awk_resolve.proofs.Lists.{drop_here}

-- a search that finds nothing so far, and at the end
module _ {A : Type 0} (P : A → Place → Type 0) (xs : List A) (i : ℕ) where
  pub none_more : (x : A) → i < length xs → x ≡ get_or xs i x → All (λ y. Finds (P y) None) (take i xs)
      → Finds (P x) None → All (λ y. Finds (P y) None) (take (i + 1) xs)
  none_more x h e none not_this = All-more (λ y. Finds (P y) None) xs i x h none
      (subst (λ y. Finds (P y) None) e not_this)

  pub none_of : length xs ≤ i → All (λ y. Finds (P y) None) (take i xs) → (x : A) → Contains xs x → Finds (P x) None
  none_of h none x c = All-contains (λ y. Finds (P y) None) xs x (rw (take_all i xs h) at none) c

-- a list and one element more, parted at an element: it is that one, or it is one of the list
parted_more : {A : Type 0} (before after xs : List A) (x y : A) → before ++ x ∷ after ≡ xs ++ y ∷ []
    → ((before ≡ xs) × (x ≡ y)) ⊎ ((rest : List A) × (xs ≡ before ++ x ∷ rest))
parted_more [] after [] x y e = inl (refl, cc)
parted_more [] after (z ∷ xs) x y e = inr (xs, cc)
parted_more (b ∷ []) after [] x y e = cc
parted_more (b ∷ c ∷ before) after [] x y e = cc
parted_more {A} (b ∷ before) after (z ∷ xs) x y e = by (parted_more before after xs x y cc)
  where
    first : b ≡ z
    first = cc

    by : ((before ≡ xs) × (x ≡ y)) ⊎ ((rest : List A) × (xs ≡ before ++ x ∷ rest)) → ((b ∷ before ≡ z ∷ xs) × (x ≡ y))
        ⊎ ((rest : List A) × (z ∷ xs ≡ b ∷ (before ++ x ∷ rest)))
    by (inl (same, one)) = inl ((cc (first, same)), one)
    by (inr (rest, parted)) = inr (rest, (cc (first, parted)))

-- the same where what is found depends on what stands before
module _ {A : Type 0} (P : List A → A → Place → Type 0) where
  pub nothing_none : Finds (OneAfter P []) None
  nothing_none q ([], after, x, parted, there) = cc
  nothing_none q (b ∷ before, after, x, parted, there) = cc

  pub more_none : (xs : List A) (i : ℕ) (x : A) → i < length xs → x ≡ get_or xs i x
      → Finds (OneAfter P (take i xs)) None → Finds (P (take i xs) x) None → Finds (OneAfter P (take (i + 1) xs)) None
  more_none xs i x h e none not_this q (before, after, y, parted, there) =
      by (parted_more before after (take i xs) y x (sym parted ∙ more))
    where
      more : take (i + 1) xs ≡ take i xs ++ x ∷ []
      more = take_more xs i x h ∙ ap (λ z. take i xs ++ z ∷ []) (sym e)

      by : ((before ≡ take i xs) × (y ≡ x)) ⊎ ((rest : List A) × (take i xs ≡ before ++ y ∷ rest)) → ⊥
      by (inl (same, one)) = not_this q (rw (← same, ← one) there)
      by (inr (rest, parted2)) = none q (before, rest, y, parted2, there)

  pub all_none : (xs : List A) (i : ℕ) → length xs ≤ i → Finds (OneAfter P (take i xs)) None
      → Finds (OneAfter P xs) None
  all_none xs i h none = rw (take_all i xs h) at none

  pub here_after : (xs : List A) (i : ℕ) (x : A) (q : Place) → i < length xs → x ≡ get_or xs i x → P (take i xs) x q
      → OneAfter P xs q
  here_after xs i x q h e there = (
    take i xs,
    drop (i + 1) xs,
    x,
    sym (take-append-drop i xs) ∙ ap (λ l. take i xs ++ l)
        (drop_here xs i x h e),
    there,
  )
