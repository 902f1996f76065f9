-- How an array is kept: each value with the number of its element, in any order. Elements are numbered as they are
-- added, so that the list which contracts see is that of the elements in the order of their numbers.
use Rattle.std.specs.Prelude.{◌≡◌, ℕ, ◌<◌, nat_lt, nat_eq, Bool, true, if◌then◌else◌, List, [], ◌∷◌, ◌++◌, Option, map}
use Rattle.std.specs.Prelude.{⊤, slice_get}
use Rattle.std.specs.Map.{values_of}
use Rattle.std.specs.Str.{bytes_eq}
use Rattle.std.specs.List.{AllByRecursion, IsDistinct}
use Rattle.awk_lib.specs.Arrays.{Array}
use Rattle.awk_lib.specs.Dense.{row_under, number_in}
use Rattle.awk_lib.specs.declared.dense.Numbered.{Numbered}

module _ {P : Type 0} where
  -- the row, put before the first one with a greater number
  abbrev pub into : ℕ × P → List (ℕ × P) → List (ℕ × P)
  into row [] = row ∷ []
  into row (r ∷ rs) = if nat_lt r.0 row.0 then r ∷ into row rs else row ∷ r ∷ rs

  abbrev pub in_order : List (ℕ × P) → List (ℕ × P)
  in_order [] = []
  in_order (r ∷ rs) = into r (in_order rs)

  abbrev pub numbers : List (ℕ × P) → List ℕ
  numbers rows = map (λ r. r.0) rows

  -- each number is below those after it
  abbrev pub AreRising : List (ℕ × P) → Type 0
  AreRising [] = ⊤
  AreRising (r ∷ rs) = AllByRecursion (λ s. r.0 < s.0) rs × AreRising rs

module _ {V : Type 0} where
  abbrev pub texts : List (ℕ × (List ℕ × V)) → List (List ℕ)
  texts rows = map (λ r. r.1.0) rows

  -- the pairs in the order of their numbers: the list that contracts see
  abbrev pub shown : List (ℕ × (List ℕ × V)) → Array V
  shown rows = map (λ r. r.1) (in_order rows)

  -- the numbers differ and are below the next one, no two keys are the same, and where the rows are settled they stand
  -- in order
  pub record AreNumbered (settled : Bool) (next : ℕ) (rows : List (ℕ × (List ℕ × V))) : Type 0 where
    pub below : AllByRecursion (λ r. r.0 < next) rows
    pub distinct : IsDistinct nat_eq (numbers rows)
    pub keys : IsDistinct bytes_eq (texts rows)
    pub rising : settled ≡ true → AreRising rows

module _ {V : Type 0} where
  -- the elements as they lie in the map, some of whose places are empty
  abbrev pub rows : List (List ℕ × Option (Numbered V)) → List (ℕ × (List ℕ × V))
  rows [] = []
  rows (e ∷ es) = row_under e.0 e.1 ++ rows es

-- the number of the element that lies at the place
abbrev pub number_at : {V : Type 0} → List (List ℕ × Option (Numbered V)) → ℕ → ℕ
number_at entries place = number_in (slice_get (values_of entries) place)

-- a key with the number of its element
module _ {V : Type 0} where
  abbrev pub key_of : ℕ × (List ℕ × V) → ℕ × List ℕ
  key_of r = (r.0, r.1.0)

  abbrev pub keyed : List (ℕ × (List ℕ × V)) → List (ℕ × List ℕ)
  keyed rows = map key_of rows

abbrev pub listed_key : Numbered (List ℕ) → ℕ × List ℕ
listed_key k = (k.number, k.value)

abbrev pub listed : List (Numbered (List ℕ)) → List (ℕ × List ℕ)
listed keys = map listed_key keys
