-- Whether a list can be divided among the symbols of a pattern.
use Rattle.std.specs.Prelude.{Bool, true, false, ◌&&◌, List, [], ◌∷◌, map, if◌then◌else◌}
use Rattle.std.specs.List.{list_any, list_all}

-- a symbol stands for one element that passes its test, or for any run of elements that pass it, the empty one too
pub record Symbol (A : Type 0) : Type 0 where
  pub is_run : Bool
  pub test : A → Bool

-- there is one element, and it passes
abbrev pub is_one : {A : Type 0} → (A → Bool) → List A → Bool
is_one test [] = false
is_one test (x ∷ []) = test x
is_one test (x ∷ y ∷ more) = false

-- the symbol stands for this part
abbrev pub takes : {A : Type 0} → Symbol A → List A → Bool
takes symbol part = if symbol.is_run then list_all symbol.test part else is_one symbol.test part

-- each way to cut a list in two
abbrev pub cuts : {A : Type 0} → List A → List (List A × List A)
cuts [] = ([], []) ∷ []
cuts (x ∷ xs) = ([], x ∷ xs) ∷ map (λ cut. (x ∷ cut.0, cut.1)) (cuts xs)

-- there is a division: some first part is what the first symbol stands for, and the rest can be divided among the
-- others
abbrev pub fits : {A : Type 0} → List (Symbol A) → List A → Bool
fits [] [] = true
fits [] (x ∷ xs) = false
fits (symbol ∷ symbols) subject = list_any (λ cut. takes symbol cut.0 && fits symbols cut.1) (cuts subject)
