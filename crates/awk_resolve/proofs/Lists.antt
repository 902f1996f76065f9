-- Lists from an index on.
use Rattle.std.proofs.Common.{◌≡◌, ◌⊎◌, inl, inr, ℕ, ◌+◌, ◌<◌, List, [], ◌∷◌, arith, suc, zero, length, get_or, drop}
use Rattle.std.proofs.Common.{ap, sym, refl, add-one, Contains}

drop_suc : {A : Type 0} (xs : List A) (i : ℕ) (d : A) → i < length xs → d ≡ get_or xs i d
    → drop i xs ≡ d ∷ drop (suc i) xs
drop_suc [] i d h e = absurd (omega arith)
drop_suc (x ∷ xs) zero d h e = ap (λ y. y ∷ xs) (sym e)
drop_suc (x ∷ xs) (suc i) d h e = drop_suc xs i d (omega arith) e

pub drop_here : {A : Type 0} (xs : List A) (i : ℕ) (d : A) → i < length xs → d ≡ get_or xs i d
    → drop i xs ≡ d ∷ drop (i + 1) xs
drop_here xs i d h e = rw add-one (drop_suc xs i d h e)

pub contains_first : {A : Type 0} (x : A) (xs : List A) → Contains (x ∷ xs) x
contains_first x xs = (0, omega arith, refl)

pub contains_later : {A : Type 0} (x : A) (xs : List A) (y : A) → Contains xs y → Contains (x ∷ xs) y
contains_later x xs y (k, h, e) = (suc k, omega (arith, h), e)

pub contains_none : {A : Type 0} (y : A) → Contains [] y → ⊥
contains_none y (k, h, e) = absurd (omega (arith, h))

pub contains_cases : {A : Type 0} (x : A) (xs : List A) (y : A) → Contains (x ∷ xs) y → (x ≡ y) ⊎ Contains xs y
contains_cases x xs y (zero, h, e) = inl e
contains_cases x xs y (suc k, h, e) = inr (k, omega (arith, h), e)
