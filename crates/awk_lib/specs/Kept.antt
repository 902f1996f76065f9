-- How an array's elements are kept: in the places of the dense part, and in the map; and where each lies.
use Rattle.std.specs.Prelude.{◌≡◌, ℕ, ◌≤◌, Bool, List, ◌++◌, length, slice_get, Some}
use Rattle.std.specs.Fmt.{decimal}
use Rattle.std.specs.List.{AllByRecursion}
use Rattle.awk_lib.specs.Dense.{most_places, dense_rows, IsOutside}
use Rattle.awk_lib.specs.Numbering.{rows, AreNumbered}
use Rattle.awk_lib.specs.declared.elements.Elements.{Elements}
use Rattle.awk_lib.specs.declared.elements.Slot.{Slot}
use Rattle.awk_lib.specs.declared.elements.Slot.TheVariants.{Dense, Mapped}

module _ {V : Type 0} where
  -- the elements in the map, and all elements, as they lie
  abbrev pub mapped_rows : Elements V → List (ℕ × (List ℕ × V))
  mapped_rows es = rows es.map.entries

  abbrev pub rows_of : Elements V → List (ℕ × (List ℕ × V))
  rows_of es = dense_rows 0 es.dense.places.items ++ mapped_rows es

  -- no element of the map has a place in the dense part
  pub record AreApart (es : Elements V) : Type 0 where
    pub few : length es.dense.places.items ≤ most_places
    pub outside : AllByRecursion (λ r. IsOutside (length es.dense.places.items) r.1.0) (mapped_rows es)

  -- the row lies at the place
  abbrev pub Lies : Elements V → Slot → ℕ × (List ℕ × V) → Type 0
  Lies es (Dense k) r =
      (r.1.0 ≡ decimal k) × (slice_get es.dense.places.items k ≡ Some (Some (record { number = r.0; value = r.1.1 })))
  Lies es (Mapped i) r = slice_get es.map.entries i ≡ Some (r.1.0, Some (record { number = r.0; value = r.1.1 }))

  -- what holds of an array's elements
  pub record AreKept (settled : Bool) (next : ℕ) (es : Elements V) : Type 0 where
    pub apart : AreApart es
    pub numbered : AreNumbered settled next (rows_of es)
    pub count : es.count ≡ length (rows_of es)
