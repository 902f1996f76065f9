-- The first place at which a clash shows, put together from the first ones of the parts.
use Rattle.std.proofs.Common.{◌≡◌, ◌⊎◌, inl, inr, ◌∙◌, ◌+◌, ◌<◌, ◌≤◌, ℕ, List, [], ◌∷◌, ◌++◌, refl, sym, ap, Option}
use Rattle.std.proofs.Common.{Some, None, Contains, arith, length, get_or, take}
use Rattle.std.proofs.lemmas.List.{take_more, take_all}
use Rattle.std.proofs.lemmas.List.Elements.{Contains-append_left, Contains-push, Contains-push_cases}
use Rattle.awk_text.specs.declared.place.Place.{Place}
use Rattle.awk_resolve.specs.Kinds.{NotAfter}
use Rattle.awk_resolve.specs.Clash.{IsFirst, OneOf}

not_after_on : (p q r : Place) → NotAfter p q → NotAfter q r → NotAfter p r
not_after_on p q r (inl a) (inl b) = inl (omega (arith, a, b))
not_after_on p q r (inl a) (inr (b, c)) = inl (omega (arith, a, b))
not_after_on p q r (inr (a, c)) (inl b) = inl (omega (arith, a, b))
not_after_on p q r (inr (a, c)) (inr (b, d)) = inr (a ∙ b, omega (arith, c, d))

pub same_first : (P R : Place → Type 0) (o : Option Place) → ((q : Place) → P q → R q) → ((q : Place) → R q → P q)
    → IsFirst P o → IsFirst R o
same_first P R None f g h = λ q r. h q (g q r)
same_first P R (Some p) f g h = (f p h.0, λ q r. h.1 q (g q r))

-- of the first ones of two sorts
pub both_first : (P R : Place → Type 0) (a b o : Option Place) → IsFirst P a → IsFirst R b
    → IsFirst (λ q. (a ≡ Some q) ⊎ (b ≡ Some q)) o → IsFirst (λ q. P q ⊎ R q) o
both_first P R a b None fa fb h = λ q d. by q d
  where
    left : (q : Place) (a : Option Place) → IsFirst P a → ((p : Place) → a ≡ Some p → ⊥) → P q → ⊥
    left q None f g d = f q d
    left q (Some p) f g d = g p refl

    right : (q : Place) (b : Option Place) → IsFirst R b → ((p : Place) → b ≡ Some p → ⊥) → R q → ⊥
    right q None f g d = f q d
    right q (Some p) f g d = g p refl

    by : (q : Place) → P q ⊎ R q → ⊥
    by q (inl d) = left q a fa (λ p e. h p (inl e)) d
    by q (inr d) = right q b fb (λ p e. h p (inr e)) d
both_first P R a b (Some o) fa fb h = (there h.0, λ q d. below q d)
  where
    at : (T : Place → Type 0) (c : Option Place) → IsFirst T c → c ≡ Some o → T o
    at T c f e = (rw e at f).0

    there : (a ≡ Some o) ⊎ (b ≡ Some o) → P o ⊎ R o
    there (inl e) = inl (at P a fa e)
    there (inr e) = inr (at R b fb e)

    after : (T : Place → Type 0) (q : Place) (c : Option Place) → IsFirst T c
        → ((p : Place) → c ≡ Some p → NotAfter o p) → T q → NotAfter o q
    after T q None f g d = absurd (f q d)
    after T q (Some p) f g d = not_after_on o p q (g p refl) (f.1 q d)

    below : (q : Place) → P q ⊎ R q → NotAfter o q
    below q (inl d) = after P q a fa (λ p e. h.1 p (inl e)) d
    below q (inr d) = after R q b fb (λ p e. h.1 p (inr e)) d

-- ---- along a list

module _ {A : Type 0} (P : A → Place → Type 0) where
  pub more_first : (xs : List A) (i : ℕ) (x : A) → i < length xs → x ≡ get_or xs i x → (a b o : Option Place)
      → IsFirst (OneOf P (take i xs)) a → IsFirst (P x) b
      → IsFirst (λ q. (a ≡ Some q) ⊎ (b ≡ Some q)) o → IsFirst (OneOf P (take (i + 1) xs)) o
  more_first xs i x h e a b o fa fb fo = same_first (λ q. OneOf P (take i xs) q ⊎ P x q) (OneOf P (take (i + 1) xs)) o
      there back (both_first (OneOf P (take i xs)) (P x) a b o fa fb fo)
    where
      more : take (i + 1) xs ≡ take i xs ++ x ∷ []
      more = take_more xs i x h ∙ ap (λ y. take i xs ++ y ∷ []) (sym e)

      there : (q : Place) → OneOf P (take i xs) q ⊎ P x q → OneOf P (take (i + 1) xs) q
      there q (inl (y, c, d)) = (y, rw more (Contains-append_left (take i xs) (x ∷ []) y c), d)
      there q (inr d) = (x, rw more (Contains-push (take i xs) x), d)

      sides : (q : Place) (y : A) → P y q → Contains (take i xs) y ⊎ (x ≡ y) → OneOf P (take i xs) q ⊎ P x q
      sides q y d (inl c) = inl (y, c, d)
      sides q y d (inr same) = inr (rw (← same) at d)

      back : (q : Place) → OneOf P (take (i + 1) xs) q → OneOf P (take i xs) q ⊎ P x q
      back q (y, c, d) = sides q y d (Contains-push_cases (take i xs) x y (rw more at c))

  pub all_first : (xs : List A) (i : ℕ) (o : Option Place) → length xs ≤ i → IsFirst (OneOf P (take i xs)) o
      → IsFirst (OneOf P xs) o
  all_first xs i o h f = rw (take_all i xs h) at f
