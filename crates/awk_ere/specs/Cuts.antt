-- Lists that stand one behind the other.
use Rattle.std.specs.Prelude.{ℕ, ◌≤◌, List, [], ◌∷◌, slice_range}

-- the pieces of s that end at these places, the first of which begins at `from`
abbrev pub pieces : ℕ → List ℕ → List ℕ → List (List ℕ)
pieces from s [] = []
pieces from s (e ∷ es) = slice_range s from e ∷ pieces e s es

-- the places come in order, from `from` on, and none is behind `to`
abbrev pub AreEnds : ℕ → ℕ → List ℕ → Type 0
AreEnds from to [] = from ≤ to
AreEnds from to (e ∷ es) = (from ≤ e) × AreEnds e to es
