-- The text of a double without a fraction.
use Rattle.std.proofs.Common.{ℕ, zero, suc, ◌≡◌, ◌+◌, ◌-◌, ◌<◌, List, [], ◌∷◌, ◌++◌, length, map, replicate, reverse, refl, sym, ap, ◌∙◌}
use Rattle.std.proofs.Common.{arith, Bool}
use Rattle.std.proofs.lemmas.List.{length-map, length-reverse}
use Rattle.std.specs.Bool.{if◌then◌else◌}
use Rattle.std.specs.Float.{Float, is_sign_negative}
use Rattle.awk_numbers.specs.Decimal.{fixed, fixed_text}
use Rattle.awk_numbers.specs.Digits.{rounded}
use Rattle.awk_numbers.specs.Figures.{AreFigures}
use Rattle.awk_numbers.proofs.Closest.{as_fixed}
use Rattle.awk_numbers.proofs.Figures.{are_digits}

whole_text : (x : Float) (ds own : List ℕ) → AreFigures ds (rounded x 0) → own ≡ map (λ d. 48 + d) (reverse ds)
    → replicate (1 - length own) 48 ++ own ≡ fixed x 0
whole_text x ds own are e =
    as_fixed x 0 own (e ∙ sym (ap (map (λ (d : ℕ). 48 + d)) (are_digits ds (rounded x 0) are)))

pub none_text : (x : Float) (ds old new : List ℕ) → AreFigures ds (rounded x 0) → length ds ≡ 0 → old ≡ []
    → new ≡ old ++ (48 ∷ []) → new ≡ fixed x 0
none_text x [] old new are l o n = n ∙ ap (λ (t : List ℕ). t ++ (48 ∷ [])) o ∙ whole_text x [] [] are refl
none_text x (d ∷ ds) old new are l o n = absurd (omega (arith, l))

positive : (n : ℕ) → (n ≡ 0 → ⊥) → 0 < n
positive zero h = absurd (h refl)
positive (suc n) h = omega arith

pub some_text : (x : Float) (ds old new : List ℕ) → AreFigures ds (rounded x 0) → (length ds ≡ 0 → ⊥) → old ≡ []
    → new ≡ old ++ map (λ d. 48 + d) (reverse ds) → new ≡ fixed x 0
some_text x ds old new are l o n =
    let own = map (λ (d : ℕ). 48 + d) (reverse ds) in
    let same : length own ≡ length ds = length-map (reverse ds) (λ (d : ℕ). 48 + d) ∙ length-reverse ds in
    let none : 0 ≡ 1 - length own = omega (arith, same, positive (length ds) l) in
    n ∙ ap (λ (t : List ℕ). t ++ own) o ∙ ap (λ (k : ℕ). replicate k 48 ++ own) none ∙ whole_text x ds own are refl

pub signed : (x : Float) (minus : Bool) (size new : List ℕ) → minus ≡ is_sign_negative x → size ≡ fixed x 0
    → new ≡ (if minus then 45 ∷ size else size) → new ≡ fixed_text x 0
signed x minus size new m e n =
    n ∙ (λ i. if m i then 45 ∷ e i else e i)
