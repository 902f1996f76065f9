-- What an array ends as, once the `&mut` to one of its values has ended.
use Rattle.std.specs.Prelude.{ℕ, List, Option, Some}
use Rattle.std.specs.Borrow.{Fml, RattleType, MutBor, Lends, LendsIf}
use Rattle.indexmap.specs.IndexMap.{with_value_at}
use Rattle.awk_lib.specs.Arrays.{Array, with_element}
use Rattle.awk_lib.specs.Numbering.{number_at}
use Rattle.awk_lib.specs.Places.{with_place}
use Rattle.awk_lib.specs.declared.elements.Elements.{Elements}
use Rattle.awk_lib.specs.declared.elements.Slot.{Slot}
use Rattle.awk_lib.specs.declared.elements.Slot.TheVariants.{Dense, Mapped}
use Rattle.awk_lib.specs.contracts.elements.Elements as elements
use Rattle.awk_lib.specs.contracts.array.Array as array

-- the elements, with the value at the place changed
abbrev pub with_value : {V : Type 0} → Elements V → Slot → V → Elements V
with_value es (Dense k) w = record es { dense = with_place es.dense k w }
with_value es (Mapped i) w =
    record es { map = with_value_at es.map i (Some (record { number = number_at es.map.entries i; value = w })) }

module _ (V : RattleType) where
  abbrev pub lends_value : MutBor (Elements V.Denot) → Slot → MutBor V.Denot → Fml
  lends_value s place r = Lends (elements.the_row V) V s r (with_value s.now place)

  -- the key has the last value written through r, and at `None` the array stays as it is
  abbrev pub lends_element : MutBor (Array V.Denot) → List ℕ → Option (MutBor V.Denot) → Fml
  lends_element s key r = LendsIf (array.the_row V) V s r (with_element s.now key) s.now
