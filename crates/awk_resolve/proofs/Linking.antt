-- One number more at an index of a table.
use Rattle.std.proofs.Common.{◌≡◌, ℕ, zero, suc, ◌≤◌, List, [], ◌∷◌, ◌++◌, length, get_or, refl, ap, arith}
use Rattle.std.proofs.Math.ListN.{set}
use Rattle.awk_resolve.specs.Uses.{with_link}

pub set_link : (table : List (List ℕ)) (p n : ℕ) (ns : List ℕ) → ns ≡ get_or table p ns
    → set table p (ns ++ n ∷ []) ≡ with_link p n table
set_link [] p n ns e = refl
set_link (l ∷ ls) zero n ns e = rw e refl
set_link (l ∷ ls) (suc p) n ns e = ap (λ z. l ∷ z) (set_link ls p n ns e)

pub past_link : (table : List (List ℕ)) (p n : ℕ) → length table ≤ p → table ≡ with_link p n table
past_link [] p n h = refl
past_link (l ∷ ls) zero n h = absurd (omega (arith, h))
past_link (l ∷ ls) (suc p) n h = ap (λ z. l ∷ z) (past_link ls p n (omega (arith, h)))
