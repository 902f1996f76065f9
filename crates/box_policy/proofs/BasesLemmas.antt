-- The components of a base before those of a pattern.
use Rattle.std.proofs.Common.{◌≡◌, ◌∙◌, Bool, true, false, ◌&&◌, List, [], ◌∷◌, ◌++◌, ℕ, map, ap, sym}
use Rattle.std.specs.Str.{bytes_eq}
use Rattle.box_policy.specs.Division.{Symbol, fits}
use Rattle.box_policy.specs.Patterns.{base_symbol}
use Rattle.box_policy.proofs.DivisionLemmas.{fits-none, fits-more}

fits-base : (piece name : List ℕ) (symbols : List (Symbol (List ℕ))) (names : List (List ℕ))
    → fits (base_symbol piece ∷ symbols) (name ∷ names) ≡ (bytes_eq piece name && fits symbols names)
fits-base piece name symbols names = fits-more false (λ other. bytes_eq piece other) symbols name names

-- the same component on both sides
pub base_more : (piece name : List ℕ) (pieces names left subject : List (List ℕ)) (symbols : List (Symbol (List ℕ)))
    → bytes_eq piece name ≡ true → left ≡ piece ∷ pieces → subject ≡ name ∷ names
    → fits (map base_symbol left ++ symbols) subject ≡ fits (map base_symbol pieces ++ symbols) names
base_more piece name pieces names left subject symbols same is_left is_subject =
    rw (is_left, is_subject) (fits-base piece name (map base_symbol pieces ++ symbols) names
    ∙ ap (λ b. b && fits (map base_symbol pieces ++ symbols) names) same)

-- another one
pub base_other : (piece name : List ℕ) (pieces names left subject : List (List ℕ)) (symbols : List (Symbol (List ℕ)))
    → bytes_eq piece name ≡ false → left ≡ piece ∷ pieces → subject ≡ name ∷ names
    → fits (map base_symbol left ++ symbols) subject ≡ false
base_other piece name pieces names left subject symbols differs is_left is_subject =
    rw (is_left, is_subject) (fits-base piece name (map base_symbol pieces ++ symbols) names
    ∙ ap (λ b. b && fits (map base_symbol pieces ++ symbols) names) differs)

-- none where one is wanted
pub base_none : (piece : List ℕ) (pieces left subject : List (List ℕ)) (symbols : List (Symbol (List ℕ)))
    → left ≡ piece ∷ pieces → subject ≡ []
    → fits (map base_symbol left ++ symbols) subject ≡ false
base_none piece pieces left subject symbols is_left is_subject =
    rw (is_left, is_subject) (fits-none false (λ other. bytes_eq piece other) (map base_symbol pieces ++ symbols))
