-- Ranges: what stands behind the end is off.
use Rattle.std.specs.Prelude.{◌≡◌, ◌≢◌, ◌+◌, ◌-◌, ◌<◌, ◌==◌, ◌⊎◌, ℕ, zero, suc, Bool, true, false, if◌then◌else◌, List}
use Rattle.std.specs.Prelude.{[], ◌∷◌, ◌++◌, length, get_or, replicate, refl}
use Rattle.std.proofs.Common.{sym, ◌∙◌, ap, arith, inl, inr, length-append}
use Rattle.std.proofs.lemmas.Bool.Decides.{eqb_tells}
use Rattle.std.proofs.lemmas.List.{get_or-set_same, get_or-set_other, length-replicate}
use Rattle.std.proofs.Math.Path.{fun_ext}
use Rattle.awk_store.specs.Changes.{with_flag}
use Rattle.awk_store.specs.Laws.{TurnsOn}
use Rattle.awk_store.specs.States.{state}

all_off : (n m : ℕ) → get_or (replicate n false) m false ≡ false
all_off zero m = refl
all_off (suc n) zero = refl
all_off (suc n) (suc m) = all_off n m

off_behind : (on : List Bool) (n m : ℕ) → get_or (on ++ replicate n false) m false ≡ get_or on m false
off_behind [] n m = all_off n m
off_behind (b ∷ bs) n zero = refl
off_behind (b ∷ bs) n (suc m) = off_behind bs n m

longer : (on : List Bool) (n : ℕ) → n < length (on ++ replicate ((n + 1) - length on) false)
longer on n = omega (
  arith,
  length-append on (replicate ((n + 1) - length on) false),
  length-replicate ((n + 1) - length on) false,
)

turned_by : (on : List Bool) (n : ℕ) (b : Bool) (m : ℕ) → ((m == n ≡ true) × (m ≡ n)) ⊎ ((m == n ≡ false) × (m ≢ n))
    → (if m == n then b else get_or on m false) ≡ get_or (with_flag on n b) m false
turned_by on n b m (inl (e, same)) =
    rw (e, same) (sym (get_or-set_same (on ++ replicate ((n + 1) - length on) false) n b false (longer on n)))
turned_by on n b m (inr (e, other)) =
    rw e (sym (get_or-set_other (on ++ replicate ((n + 1) - length on) false) n m b false other ∙ off_behind on
    ((n + 1) - length on) m))

pub turns : TurnsOn
turns names k hidden n b = ap (λ on. record (state names k hidden) { on = on })
    (fun_ext (λ m. turned_by k.on n b m (eqb_tells m n)))
