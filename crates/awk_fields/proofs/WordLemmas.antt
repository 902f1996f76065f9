-- The runs of a text that hold no byte of a kind.
use Rattle.std.proofs.Common.{◌≡◌, ℕ, zero, suc, ◌+◌, ◌≤◌, ◌<◌, Bool, true, false, cond, List, [], ◌∷◌, length, take}
use Rattle.std.proofs.Common.{drop, filter, get_or, sym, ap, refl, ◌∙◌, arith, inl, inr}
use Rattle.std.proofs.lemmas.Bool.{cases_lt}
use Rattle.std.specs.List.{slice_split, prefix_len, position_or_len, before_first, after_first}
use Rattle.std.proofs.lemmas.List.{drop_more, drop_all, take_all}
use Rattle.std.proofs.lemmas.List.Splits.{slice_split-cons_yes, slice_split_first, slice_split_none}
use Rattle.std.proofs.lemmas.List.Sums.{passes_at_first, fails_before_first}
use Rattle.awk_fields.specs.Fields.{has_bytes}

abbrev pub runs : (ℕ → Bool) → List ℕ → List (List ℕ)
runs p s = filter has_bytes (slice_split p s)

module _ (p : ℕ → Bool) where
  -- bytes of the kind in front are no part of a run
  skip_by : (b : ℕ) (t : Bool) (j : ℕ) (s : List ℕ) → p b ≡ t → suc j ≤ cond t (1 + prefix_len p s) 0
      → (j ≤ prefix_len p s → runs p (drop j s) ≡ runs p s) → runs p (drop j s) ≡ runs p (b ∷ s)
  skip_by b true j s e le rest = rest (omega arith) ∙ sym (ap (filter has_bytes) (slice_split-cons_yes p b s e))
  skip_by b false j s e le rest = absurd (omega arith)

  pub runs_skip : (j : ℕ) (s : List ℕ) → j ≤ prefix_len p s → runs p (drop j s) ≡ runs p s
  runs_skip zero s le = refl
  runs_skip (suc j) [] le = refl
  runs_skip (suc j) (b ∷ s) le = skip_by b (p b) j s refl le (runs_skip j s)

  has_front : (n : ℕ) (s : List ℕ) → 0 < n → 0 < length s → has_bytes (take n s) ≡ true
  has_front zero s some more = absurd (omega arith)
  has_front (suc n) [] some more = absurd (omega arith)
  has_front (suc n) (b ∷ s) some more = refl

  kept : (w : List ℕ) (rest : List (List ℕ)) → has_bytes w ≡ true
      → filter has_bytes (w ∷ rest) ≡ w ∷ filter has_bytes rest
  kept w rest e = ap (λ t. cond t (w ∷ filter has_bytes rest) (filter has_bytes rest)) e

  -- the run in front, and those behind it
  pub runs_word : (s : List ℕ) → 0 < position_or_len p s → 0 < length s
      → runs p s ≡ before_first p s ∷ runs p (drop (position_or_len p s) s)
  runs_word s some more = elim (cases_lt (position_or_len p s) (length s)) [ inl lt ↦ inside lt | inr ge ↦ whole ge ]
    where
      inside : position_or_len p s < length s → runs p s ≡ before_first p s ∷ runs p (drop (position_or_len p s) s)
      inside lt =
          let first = slice_split_first p s 0 lt in
          let rest = drop_more s (position_or_len p s) 0 lt in
          ap (filter has_bytes) first ∙ (kept (before_first p s) (slice_split p (after_first p s))
          (has_front (position_or_len p s) s some more)
          ∙ ap (λ r. before_first p s ∷ filter has_bytes r)
          (sym (ap (slice_split p) rest ∙ slice_split-cons_yes p (get_or s (position_or_len p s) 0)
          (after_first p s) (passes_at_first p s 0 lt))))

      whole : length s ≤ position_or_len p s → runs p s ≡ before_first p s ∷ runs p (drop (position_or_len p s) s)
      whole ge =
          let all = take_all (position_or_len p s) s ge in
          let none = drop_all (position_or_len p s) s ge in
          ap (filter has_bytes) (slice_split_none p s (λ k d lt. fails_before_first p s k d (omega arith)))
          ∙ (kept s [] (ap has_bytes (sym all) ∙ has_front (position_or_len p s) s some more)
          ∙ (ap (λ w. w ∷ []) (sym all) ∙ ap (λ r. before_first p s ∷ runs p r) (sym none)))
