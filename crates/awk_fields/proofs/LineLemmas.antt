-- A byte that is looked for in thirty-two bytes at a time.
use Rattle.std.proofs.Common.{◌≡◌, ◌==◌, ℕ, ◌+◌, ◌*◌, ◌%◌, ◌^◌, ◌<◌, ◌≤◌, Bool, true, false, not, cond, eqb, List, []}
use Rattle.std.proofs.Common.{◌∷◌, map, length, drop, replicate, refl, sym, ap, ap₂, ◌∙◌, arith}
use Rattle.std.proofs.lemmas.Bool.{eq-eqb, ne_eqb}
use Rattle.std.proofs.lemmas.List.{length-map}
use Rattle.std.proofs.lemmas.List.Folds.{prefix_len-append}
use Rattle.std.proofs.lemmas.List.Sums.{prefix_len-le-length}
use Rattle.std.proofs.lemmas.Simd.{zip2_splat, mask_l-mod, chunk-drop, length-chunk, leading_from_mask_l}
use Rattle.std.proofs.lemmas.Simd.{trailing_mask_l}
use Rattle.std.specs.List.{position_or_len}
use lib.Count.{count_trailing_zeros}
use lib.Lanes.{zip2, chunk, mask_l, top}

abbrev hit : ℕ → ℕ → ℕ
hit a b = cond (eqb a b) 255 0

lane : (b : Bool) → top 7 (cond b 255 0) ≡ b
lane true = refl
lane false = refl

lanes : (mark : ℕ) (v : List ℕ) → map (top 7) (map (λ x. hit x mark) v) ≡ map (λ b. b == mark) v
lanes mark [] = refl
lanes mark (x ∷ xs) = ap₂ (λ b r. b ∷ r) (lane (eqb x mark)) (lanes mark xs)

pub marks_mask : (mark : ℕ) (v : List ℕ) → length v ≡ 32 → mask_l (map (top 7) (zip2 hit v (replicate 32 mark))) % 2 ^
    64 ≡ mask_l (map (λ b. b == mark) v)
marks_mask mark v long =
    ap (λ l. mask_l (map (top 7) l) % 2 ^ 64) (zip2_splat hit v 32 mark long)
    ∙ ap (λ l. mask_l l % 2 ^ 64) (lanes mark v)
    ∙ mask_l-mod (map (λ b. b == mark) v) 64 (omega (arith, length-map v (λ b. b == mark)))

module _ (p : ℕ → Bool) where
  -- where no byte of a list is marked, each passes
  none_passes : (b : Bool) (n l m : ℕ) → n ≤ l → cond (not b) (1 + n) 0 ≡ 1 + l → (n ≡ l → m ≡ 0)
      → cond b 1 0 + 2 * m ≡ 0
  none_passes true n l m le e more = let no : ⊥ = omega arith in absurd no
  none_passes false n l m le e more = let z = more (omega arith) in omega arith

  all_pass : (xs : List ℕ) → position_or_len p xs ≡ length xs → mask_l (map p xs) ≡ 0
  all_pass [] e = refl
  all_pass (x ∷ xs) e = none_passes (p x) _ (length xs) _ (prefix_len-le-length (λ y. not (p y)) xs) (omega arith)
      (all_pass xs)

  module _ (s : List ℕ) (i : ℕ) (room : i + 32 ≤ length s) where
    abbrev bytes : List ℕ
    bytes = chunk i 32 s

    split : position_or_len p (drop i s) ≡ cond (eqb (position_or_len p bytes) (length bytes))
        (length bytes + position_or_len p (drop (i + 32) s)) (position_or_len p bytes)
    split = ap (position_or_len p) (chunk-drop i 32 s) ∙ prefix_len-append (λ x. not (p x)) bytes (drop (i + 32) s)

    pub no_mark : mask_l (map p bytes) ≡ 0 → position_or_len p (drop i s) ≡ 32 + position_or_len p (drop (i + 32) s)
    no_mark none =
        split ∙ ap (λ b. cond b (length bytes + position_or_len p (drop (i + 32) s)) (position_or_len p bytes))
        (eq-eqb _ _ (leading_from_mask_l p bytes none))
        ∙ ap (λ k. k + position_or_len p (drop (i + 32) s)) (length-chunk i 32 s room)

    pub first_mark : 0 < mask_l (map p bytes) → position_or_len p (drop i s) ≡ count_trailing_zeros 64
        (mask_l (map p bytes))
    first_mark some =
        split ∙ ap (λ b. cond b (length bytes + position_or_len p (drop (i + 32) s)) (position_or_len p bytes))
        (ne_eqb _ _ (λ (e : position_or_len p bytes ≡ length bytes). omega (arith, all_pass bytes e)))
        ∙ sym (trailing_mask_l p 64 bytes (omega (arith, length-chunk i 32 s room)) some)
