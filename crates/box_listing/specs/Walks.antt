-- What the walk over a program owes.
use Rattle.std.specs.Prelude.{◌≡◌, ℕ, List, [], ◌∷◌, ◌++◌, drop, map, ◌⊎◌, Result, OnOk}
use Rattle.awk_program.specs.View.{Names, view_statement, view_rule, view_function}
use Rattle.awk_program.specs.declared.program.Program as code
use Rattle.box_listing.specs.Sites.{items}
use Rattle.box_listing.specs.declared.site.Behind.{Behind}
use Rattle.box_listing.specs.declared.site.Found.{Found}
use Rattle.box_listing.specs.declared.site.Sort.{Sort}

-- Where it comes to its end, these are found behind what was there, whatever the variables are called.
abbrev pub Finds : {A E : Type 0} → Result A E → List Found → List Found → (Names → List Found) → Type 0
Finds result old new found = OnOk result ((t : Names) → new ≡ old ++ found t)

-- The next of a list is found, and n are behind; or there is none.
abbrev pub Takes : {X : Type 0} → (Names → X → List Found) → List X → (at n : ℕ) → (old new : List Found) → Type 0
Takes {X} found xs at n old new =
    ((drop at xs ≡ []) × (n ≡ at) × (new ≡ old))
    ⊎ ((x : X) × (drop at xs ≡ x ∷ drop n xs) × ((t : Names) → new ≡ old ++ found t x))

-- what is found in the items that are left
abbrev pub left : List Sort → Behind → Names → code.Program → List Found
left order n t x =
    items order (map (map (view_statement t)) (drop n.begin x.begin)) (map (view_rule t) (drop n.rules x.rules))
    (map (map (view_statement t)) (drop n.end x.end))
    (map (view_function t) (drop n.functions x.functions))
