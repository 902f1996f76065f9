-- A division of a list among the symbols of a pattern.
use Rattle.std.specs.Prelude.{◌≡◌, true, List, [], ◌∷◌, ◌++◌}
use Rattle.std.specs.List.{AllZip}
use Rattle.box_policy.specs.Division.{Symbol, takes}

-- the parts in a row
abbrev pub joined : {A : Type 0} → List (List A) → List A
joined [] = []
joined (part ∷ parts) = part ++ joined parts

-- there are as many parts as symbols, each symbol stands for its part, and the parts in a row are the subject
pub record Divides {A : Type 0} (symbols : List (Symbol A)) (subject : List A) : Type 0 where
  pub parts : List (List A)
  pub taken : AllZip (λ symbol part. takes symbol part ≡ true) symbols parts
  pub whole : joined parts ≡ subject
