-- The dense part of an array: the value of the key that is the digits of k lies at place k of a list.
use Rattle.std.specs.Prelude.{◌≡◌, ℕ, suc, ◌<◌, false, List, [], ◌∷◌, ◌++◌, Option, Some, None}
use Rattle.std.specs.Fmt.{decimal}
use Rattle.std.specs.Option.{option_map_or}
use Rattle.std.specs.Str.{bytes_eq}
use Rattle.awk_lib.specs.declared.dense.Numbered.{Numbered}

-- how many places there are at most: a number below it has at most seven digits
abbrev pub most_places : ℕ
most_places = 10000000

-- the key is not the digits of a number below n
abbrev pub IsOutside : ℕ → List ℕ → Type 0
IsOutside n key = (k : ℕ) → k < n → bytes_eq key (decimal k) ≡ false

module _ {V : Type 0} where
  -- the row of a place that the key has, where something lies there
  abbrev pub row_under : List ℕ → Option (Numbered V) → List (ℕ × (List ℕ × V))
  row_under key None = []
  row_under key (Some x) = (x.number, (key, x.value)) ∷ []

  -- the same of place k
  abbrev pub row_at : ℕ → Option (Numbered V) → List (ℕ × (List ℕ × V))
  row_at k p = row_under (decimal k) p

  -- the rows of the places, the first of which is place k
  abbrev pub dense_rows : ℕ → List (Option (Numbered V)) → List (ℕ × (List ℕ × V))
  dense_rows k [] = []
  dense_rows k (p ∷ ps) = row_at k p ++ dense_rows (suc k) ps

  abbrev pub number_in : Option (Option (Numbered V)) → ℕ
  number_in None = 0
  number_in (Some p) = option_map_or (λ x. x.number) p 0
