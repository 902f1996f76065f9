-- How many places the components of a path take.
use Rattle.std.proofs.Common.{◌≡◌, ◌∙◌, ◌≤◌, ◌<◌, ◌+◌, ◌*◌, ℕ, Bool, true, false, List, [], ◌∷◌, length, cond, arith}
use Rattle.std.proofs.Common.{refl, ap, sym, filter}
use Rattle.std.specs.Prelude.{◌==◌}
use Rattle.std.specs.List.{slice_split, onto_first}
use Rattle.std.proofs.lemmas.Bool.{cond_both}
use Rattle.box_policy.specs.Paths.{is_name, names}
use Rattle.box_policy.specs.Tokens.{width}

-- the bytes of the pieces, and one for each
total : List (List ℕ) → ℕ
total [] = 0
total (piece ∷ pieces) = length piece + 1 + total pieces

total_onto : (b : ℕ) (pieces : List (List ℕ)) → 0 < total pieces → total (onto_first b pieces) ≡ total pieces + 1
unfolding total
total_onto b [] h = absurd (omega arith)
total_onto b (piece ∷ pieces) h = omega arith

total_split : (text : List ℕ) → total (slice_split (λ b. b == 47) text) ≡ length text + 1
unfolding total
total_split [] = refl
total_split (b ∷ bs) =
    cond_both (b == 47) ([] ∷ slice_split (λ c. c == 47) bs) (onto_first b (slice_split (λ c. c == 47) bs))
    (λ (pieces : List (List ℕ)). total pieces ≡ length (b ∷ bs) + 1)
    (λ _. omega (arith, total_split bs))
    (λ _. omega (arith, total_split bs, total_onto b (slice_split (λ c. c == 47) bs) (omega (arith, total_split bs))))

narrow : (pieces : List (List ℕ)) → 2 * width (filter is_name pieces) ≤ 3 * total pieces
unfolding total
narrow [] = omega arith
narrow ([] ∷ pieces) = omega (arith, narrow pieces)
narrow ((x ∷ xs) ∷ pieces) =
    cond_both (is_name (x ∷ xs)) ((x ∷ xs) ∷ filter is_name pieces) (filter is_name pieces)
    (λ (found : List (List ℕ)). 2 * width found ≤ 3 * total ((x ∷ xs) ∷ pieces))
    (λ _. omega (arith, narrow pieces)) (λ _. omega (arith, narrow pieces))

pub width-names : (text : List ℕ) → 2 * width (names text) ≤ 3 * length text + 3
width-names text = omega (arith, narrow (slice_split (λ b. b == 47) text), total_split text)
