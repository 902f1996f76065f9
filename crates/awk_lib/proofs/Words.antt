-- Texts that are the same where the numbers that their bytes write are.
use Rattle.std.proofs.Common.{◌≡◌, ℕ, ◌<◌, Bool, true, false, nat_eq, List, [], ◌∷◌, length, get_or, refl, sym, ap, ◌∙◌}
use Rattle.std.proofs.Common.{true≢false, arith}
use Rattle.std.proofs.NetLemmas.Arrays.{four_items, eight_items}
use Rattle.std.specs.Cmp.Lexicographic.{bytes_decides}
use Rattle.std.specs.Int.{w32, w64, from_le_bytes}
use Rattle.std.specs.Str.{bytes_eq}
use Rattle.std.proofs.lemmas.Bool.Decides.{nat_tests}

-- a number of a text that tells it tells whether two are the same
pub told : (number : List ℕ → ℕ) (p q : List ℕ) → (number p ≡ number q → p ≡ q) → nat_eq (number p) (number q)
    ≡ bytes_eq p q
told number p q only = by (nat_eq (number p) (number q)) (bytes_eq p q) refl refl
  where
    by : (a b : Bool) → nat_eq (number p) (number q) ≡ a → bytes_eq p q ≡ b → nat_eq (number p) (number q)
        ≡ bytes_eq p q
    by true true x y = x ∙ sym y
    by false false x y = x ∙ sym y
    by true false x y =
        let same : number p ≡ number q = grind (arith, nat_tests, x) in
        absurd (true≢false (sym ((bytes_decides p q).1 (only same)) ∙ y))
    by false true x y =
        let same : number p ≡ number q = ap number ((bytes_decides p q).0 y) in
        let impossible : ⊥ = grind (arith, nat_tests, x, same) in absurd impossible

module _ (p q : List ℕ) (small_p : (k : ℕ) → get_or p k 0 < 256) (small_q : (k : ℕ) → get_or q k 0 < 256) where
  pub four : length p ≡ 4 → length q ≡ 4 → from_le_bytes w32 p ≡ from_le_bytes w32 q → p ≡ q
  four a b e =
      let d : (get_or p 0 0 ≡ get_or q 0 0) × (get_or p 1 0 ≡ get_or q 1 0) × (get_or p 2 0 ≡ get_or q 2 0)
      × (get_or p 3 0 ≡ get_or q 3 0) =
      omega (arith, e, small_p 0, small_p 1, small_p 2, small_p 3, small_q 0, small_q 1, small_q 2, small_q 3) in
      four_items p a ∙ (λ i. d.0 i ∷ d.1 i ∷ d.2 i ∷ d.3 i ∷ []) ∙ sym (four_items q b)

  pub eight : length p ≡ 8 → length q ≡ 8 → from_le_bytes w64 p ≡ from_le_bytes w64 q → p ≡ q
  eight a b e =
      let d : (get_or p 0 0 ≡ get_or q 0 0) × (get_or p 1 0 ≡ get_or q 1 0) × (get_or p 2 0 ≡ get_or q 2 0)
      × (get_or p 3 0 ≡ get_or q 3 0) × (get_or p 4 0 ≡ get_or q 4 0) × (get_or p 5 0 ≡ get_or q 5 0)
      × (get_or p 6 0 ≡ get_or q 6 0) × (get_or p 7 0 ≡ get_or q 7 0) =
      omega (
        arith,
        e,
        small_p 0,
        small_p 1,
        small_p 2,
        small_p 3,
        small_p 4,
        small_p 5,
        small_p 6,
        small_p 7,
        small_q 0,
        small_q 1,
        small_q 2,
        small_q 3,
        small_q 4,
        small_q 5,
        small_q 6,
        small_q 7,
      ) in
      eight_items p a ∙ (λ i. d.0 i ∷ d.1 i ∷ d.2 i ∷ d.3 i ∷ d.4 i ∷ d.5 i ∷ d.6 i ∷ d.7 i ∷ [])
      ∙ sym (eight_items q b)
