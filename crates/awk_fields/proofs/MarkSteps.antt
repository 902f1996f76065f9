-- The first mark of a text, block by block.
use Rattle.std.proofs.Common.{◌≡◌, ℕ, ◌+◌, ◌-◌, ◌≤◌, ◌<◌, Bool, min, List, map, length, take, drop, ap, ◌∙◌, arith}
use Rattle.std.proofs.Common.{length-drop}
use lib.Count.{count_trailing_zeros}
use lib.Lanes.{mask_l}
use Rattle.std.proofs.lemmas.List.{drop-drop, length-map, length-take, take_rest}
use Rattle.std.specs.List.{position_or_len}
use Rattle.awk_fields.proofs.Bits.{first_place}
use Rattle.awk_fields.proofs.Edges.{meets, no_meet}
use Rattle.awk_fields.proofs.FoundLemmas.{position_on}

module _ (p : ℕ → Bool) (s : List ℕ) (from found : ℕ) (found_is : found ≡ mask_l (map p (take 64 (drop from s)))) where
  -- the block has a mark
  pub mark_found : 0 < found → count_trailing_zeros 64 found ≡ position_or_len p (drop from s)
  mark_found some =
      let u = drop from s in
      let bits = map p (take 64 u) in
      let have : 0 < mask_l bits = omega (arith, found_is) in
      ap (count_trailing_zeros 64) found_is ∙ first_place 64 bits
      (omega (arith, length-map (take 64 u) p, length-take 64 u)) have ∙ (meets p 64 u have).place

  -- it has none
  pub mark_behind : found ≡ 0 → from ≤ length s → (step : ℕ) → step ≡ min (length s - from) 64
      → position_or_len p (drop from s) ≡ step + position_or_len p (drop (from + step) s)
  mark_behind none inside step step_is =
      let u = drop from s in
      let clear = no_meet p 64 u (omega (arith, found_is)) in
      position_on p step u (omega (arith, clear, length-drop from s)) ∙ ap (λ l. step + position_or_len p l)
      (drop-drop step from s)

-- a search from a place on, before which there is none
pub mark_from : (p q : ℕ → Bool) (s : List ℕ) (from len : ℕ) → p ≡ q → from ≤ position_or_len q s
    → len ≡ position_or_len p (take (length s - from) (drop from s)) → from + len ≡ position_or_len q s
mark_from p q s from len same known len_is =
    let here : len ≡ position_or_len q (drop from s) = len_is ∙ (λ i. position_or_len (same i) (take_rest s from i)) in
    omega (arith, here, position_on q from s known)
