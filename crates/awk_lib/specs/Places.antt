-- What the dense part ends as, once the `&mut` to one of its values has ended.
use Rattle.std.specs.Prelude.{ℕ, Some, slice_get}
use Rattle.std.specs.Borrow.{Fml, RattleType, MutBor, Lends}
use Rattle.std.specs.Vec.{with_item}
use Rattle.awk_lib.specs.Dense.{number_in}
use Rattle.awk_lib.specs.declared.dense.Dense.{Dense}
use Rattle.awk_lib.specs.contracts.dense.Dense as dense

-- the dense part, with the value at place k changed
abbrev pub with_place : {V : Type 0} → Dense V → ℕ → V → Dense V
with_place d k w = record d
    { places = with_item d.places k (Some (record { number = number_in (slice_get d.places.items k); value = w })) }

module _ (V : RattleType) where
  abbrev pub lends_place : MutBor (Dense V.Denot) → ℕ → MutBor V.Denot → Fml
  lends_place s k r = Lends (dense.the_row V) V s r (with_place s.now k)
