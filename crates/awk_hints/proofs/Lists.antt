-- Lists from an index on.
use Rattle.std.proofs.Common.{◌≡◌, ℕ, ◌+◌, ◌<◌, ◌≤◌, List, [], ◌∷◌, ◌++◌, ◌∙◌, arith, suc, zero, length, get_or, drop}
use Rattle.std.proofs.Common.{take, map, ap, sym, add-one, append_assoc, append-nil}
use Rattle.std.proofs.lemmas.List.{drop_all}

drop_suc : {A : Type 0} (xs : List A) (i : ℕ) (d : A) → i < length xs → d ≡ get_or xs i d
    → drop i xs ≡ d ∷ drop (suc i) xs
drop_suc [] i d h e = absurd (omega arith)
drop_suc (x ∷ xs) zero d h e = ap (λ y. y ∷ xs) (sym e)
drop_suc (x ∷ xs) (suc i) d h e = drop_suc xs i d (omega arith) e

pub drop_here : {A : Type 0} (xs : List A) (i : ℕ) (d : A) → i < length xs → d ≡ get_or xs i d
    → drop i xs ≡ d ∷ drop (i + 1) xs
drop_here xs i d h e = rw add-one (drop_suc xs i d h e)

-- one more of what is made of each
pub next_made : {A B : Type 0} (f : A → B) (old mid new : List B) (xs : List A) (i : ℕ) (x : A) → i < length xs
    → x ≡ get_or xs i x → new ≡ mid ++ f x ∷ [] →
    old ++ map f xs ≡ mid ++ map f (drop i xs) → old ++ map f xs ≡ new ++ map f (drop (i + 1) xs)
next_made f old mid new xs i x below is added so_far =
    so_far ∙ ap (λ ys. mid ++ map f ys) (drop_here xs i x below is)
    ∙ sym (append_assoc mid (f x ∷ []) (map f (drop (i + 1) xs)))
    ∙ ap (λ z. z ++ map f (drop (i + 1) xs)) (sym added)

pub all_made : {A B : Type 0} (f : A → B) (old new : List B) (xs : List A) (i : ℕ) → length xs ≤ i
    → old ++ map f xs ≡ new ++ map f (drop i xs) → new ≡ old ++ map f xs
all_made f old new xs i past so_far = sym (so_far ∙ ap (λ ys. new ++ map f ys) (drop_all i xs past) ∙ append-nil new)

take_suc : {A : Type 0} (xs : List A) (i : ℕ) (d : A) → i < length xs → d ≡ get_or xs i d → take (suc i) xs ≡ take i xs
    ++ d ∷ []
take_suc [] i d h e = absurd (omega arith)
take_suc (x ∷ xs) zero d h e = ap (λ y. y ∷ []) (sym e)
take_suc (x ∷ xs) (suc i) d h e = ap (λ ys. x ∷ ys) (take_suc xs i d (omega arith) e)

pub take_here : {A : Type 0} (xs : List A) (i : ℕ) (d : A) → i < length xs → d ≡ get_or xs i d
    → take (i + 1) xs ≡ take i xs ++ d ∷ []
take_here xs i d h e = rw add-one (take_suc xs i d h e)

split_suc : {A : Type 0} (xs : List A) (i : ℕ) (d : A) → i < length xs → d ≡ get_or xs i d
    → xs ≡ take i xs ++ d ∷ drop (suc i) xs
split_suc [] i d h e = absurd (omega arith)
split_suc (x ∷ xs) zero d h e = ap (λ y. y ∷ xs) (sym e)
split_suc (x ∷ xs) (suc i) d h e = ap (λ ys. x ∷ ys) (split_suc xs i d (omega arith) e)

pub split_here : {A : Type 0} (xs : List A) (i : ℕ) (d : A) → i < length xs → d ≡ get_or xs i d
    → xs ≡ take i xs ++ d ∷ drop (i + 1) xs
split_here xs i d h e = rw add-one (split_suc xs i d h e)
