-- Texts in the order in which they came, each once.
use Rattle.std.specs.Prelude.{ℕ, List, [], ◌∷◌, ◌++◌, if◌then◌else◌}
use Rattle.std.specs.List.{list_any}
use Rattle.std.specs.Str.{bytes_eq}

abbrev pub added : List ℕ → List (List ℕ) → List (List ℕ)
added x xs = if list_any (bytes_eq x) xs then xs else xs ++ x ∷ []
