-- Patterns that stand under a base.
use Rattle.std.specs.Prelude.{◌≡◌, ℕ, Bool, false, List, ◌++◌, map, Option, Some, None}
use Rattle.box_policy.specs.Division.{Symbol, fits}
use Rattle.box_policy.specs.Patterns.{base_symbol}

-- whatever symbols follow those of the base: they have to fit what is left, and nothing left fits none
abbrev pub left_fits : List (Symbol (List ℕ)) → Option (List (List ℕ)) → Bool
left_fits symbols None = false
left_fits symbols (Some left) = fits symbols left

abbrev pub IsBehind : List (List ℕ) → List (List ℕ) → Option (List (List ℕ)) → Type 0
IsBehind base subject left =
    (symbols : List (Symbol (List ℕ))) → fits (map base_symbol base ++ symbols) subject ≡ left_fits symbols left
