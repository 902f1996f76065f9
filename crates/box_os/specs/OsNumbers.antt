-- The numbers of the open streams.
use Rattle.std.specs.Prelude.{ℕ, ◌+◌, ◌≤◌, List, [], ◌∷◌, map}
use Rattle.box_os.specs.declared.table.OpenStream.{OpenStream}

abbrev pub numbers_of : List OpenStream → List ℕ
numbers_of streams = map (λ s. s.number) streams

-- the numbers rise, from low on and below next
abbrev pub Rises : ℕ → ℕ → List ℕ → Type 0
Rises low next [] = low ≤ next
Rises low next (k ∷ ks) = (low ≤ k) × Rises (k + 1) next ks

-- the numbers rise, so each is there once
abbrev pub IsRising : List ℕ → Type 0
IsRising numbers = (next : ℕ) × Rises 3 next numbers
