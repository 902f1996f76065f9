-- Lists from an index on.
use Rattle.std.proofs.Common.{◌≡◌, ℕ, ◌+◌, ◌<◌, List, [], ◌∷◌, arith, suc, zero, length, get_or, drop, ap, sym, add-one}

drop_suc : {A : Type 0} (xs : List A) (i : ℕ) (d : A) → i < length xs → d ≡ get_or xs i d
    → drop i xs ≡ d ∷ drop (suc i) xs
drop_suc [] i d h e = absurd (omega arith)
drop_suc (x ∷ xs) zero d h e = ap (λ y. y ∷ xs) (sym e)
drop_suc (x ∷ xs) (suc i) d h e = drop_suc xs i d (omega arith) e

pub drop_here : {A : Type 0} (xs : List A) (i : ℕ) (d : A) → i < length xs → d ≡ get_or xs i d
    → drop i xs ≡ d ∷ drop (i + 1) xs
drop_here xs i d h e = rw add-one (drop_suc xs i d h e)
