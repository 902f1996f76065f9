-- Rows that lie between others, and those of the dense part.
use Rattle.std.proofs.Common.{◌≡◌, ℕ, zero, suc, ◌+◌, ◌<◌, false, cond, List, [], ◌∷◌, ◌++◌, map, length, take}
use Rattle.std.proofs.Common.{slice_get, slice_set, Option, None, Some, is_some, refl, sym, ap, ◌∙◌, true≢false, arith}
use Rattle.std.proofs.Common.{append_assoc, append-nil, add-one, IsPermutation}
use Rattle.std.proofs.lemmas.List.Sorted.{IsPermutation-trans, IsPermutation-sym, IsPermutation-to_front}
use Rattle.std.proofs.lemmas.List.Sorted.{IsPermutation-middle}
use Rattle.std.proofs.lemmas.Option.{same_Some}
use Rattle.std.specs.Fmt.{decimal}
use Rattle.std.specs.List.{AllByRecursion}
use Rattle.std.specs.Map.{lookup}
use Rattle.std.specs.Str.{bytes_eq}
use Rattle.awk_lib.specs.Dense.{row_at, dense_rows}
use Rattle.awk_lib.specs.Numbering.{AreRising}
use Rattle.awk_lib.specs.declared.dense.Numbered.{Numbered}
use Rattle.awk_lib.proofs.Rows.{Row, set_at}

-- ---- one more item

module _ {X : Type 0} where
  pub at_end : (xs : List X) (x : X) (m : ℕ) → m ≡ length xs → slice_get (xs ++ x ∷ []) m ≡ Some x
  at_end xs x m is = ap (slice_get (xs ++ x ∷ [])) is ∙ last xs
    where
      last : (l : List X) → slice_get (l ++ x ∷ []) (length l) ≡ Some x
      last [] = refl
      last (y ∷ l) = last l

  pub one_more : (xs : List X) (x : X) → length (xs ++ x ∷ []) ≡ length xs + 1
  one_more [] x = refl
  one_more (y ∷ xs) x = let rest = one_more xs x in omega (arith, rest)

  pub no_items : (xs : List X) → length xs ≡ 0 → xs ≡ []
  no_items [] z = refl
  no_items (x ∷ xs) z = let impossible : ⊥ = omega (arith, z) in absurd impossible

module _ {V : Type 0} where
  -- ---- what holds of each row

  pub all_append : (Q : Row V → Type 0) (A B : List (Row V)) → AllByRecursion Q A → AllByRecursion Q B
      → AllByRecursion Q (A ++ B)
  all_append Q [] B a b = b
  all_append Q (x ∷ A) B a b = (a.0, all_append Q A B a.1 b)

  pub all_right : (Q : Row V → Type 0) (A B : List (Row V)) → AllByRecursion Q (A ++ B) → AllByRecursion Q B
  all_right Q [] B h = h
  all_right Q (x ∷ A) B h = all_right Q A B h.1

  pub all_without : (Q : Row V → Type 0) (A R : List (Row V)) (r : Row V) → AllByRecursion Q (A ++ r ∷ R)
      → AllByRecursion Q (A ++ R)
  all_without Q [] R r h = h.1
  all_without Q (x ∷ A) R r h = (h.0, all_without Q A R r h.1)

  pub all_valued : (Q : List ℕ → Type 0) (A R : List (Row V)) (r : Row V) (w : V)
      → AllByRecursion (λ q. Q q.1.0) (A ++ r ∷ R) → AllByRecursion (λ q. Q q.1.0) (A ++ (r.0, (r.1.0, w)) ∷ R)
  all_valued Q [] R r w h = h
  all_valued Q (x ∷ A) R r w h = (h.0, all_valued Q A R r w h.1)

  pub none_lookup : (key : List ℕ) (rs : List (Row V)) → AllByRecursion (λ r. bytes_eq key r.1.0 ≡ false) rs
      → lookup (bytes_eq key) (map (λ r. r.1) rs) ≡ None
  none_lookup key [] h = refl
  none_lookup key (r ∷ rs) h = ap (λ b. cond b (Some r.1.1) (lookup (bytes_eq key) (map (λ s. s.1) rs))) h.0
      ∙ none_lookup key rs h.1

  pub rising_without : (A R : List (Row V)) (r : Row V) → AreRising (A ++ r ∷ R) → AreRising (A ++ R)
  rising_without [] R r h = h.1
  rising_without (x ∷ A) R r h = (all_without (λ s. x.0 < s.0) A R r h.0, rising_without A R r h.1)

  -- ---- one row among others

  pub inserted : (A B : List (Row V)) (x : Row V) → IsPermutation ((A ++ B) ++ x ∷ []) (A ++ x ∷ B)
  inserted A B x =
      IsPermutation-trans ((A ++ B) ++ x ∷ []) (x ∷ (A ++ B)) (A ++ x ∷ B) (IsPermutation-to_front (A ++ B) x)
      (IsPermutation-sym (A ++ x ∷ B) (x ∷ (A ++ B)) (IsPermutation-middle A x B))

  pub at_seam : (A R : List (Row V)) (r : Row V) → (m : ℕ) × (slice_get (A ++ r ∷ R) m ≡ Some r)
      × ((w : V) → set_at (A ++ r ∷ R) m w ≡ A ++ (r.0, (r.1.0, w)) ∷ R)
  at_seam [] R r = (0, refl, λ w. refl)
  at_seam (x ∷ A) R r = let m = at_seam A R r in (suc m.0, m.1, λ w. ap (λ l. x ∷ l) (m.2 w))

  -- ---- the rows of the dense part

  pub all_dense : (Q : Row V → Type 0) (j : ℕ) (ps : List (Option (Numbered V)))
      → ((i n : ℕ) (x : Numbered V) → n ≡ j + i → slice_get ps i ≡ Some (Some x) → Q (x.number, (decimal n, x.value)))
      → AllByRecursion Q (dense_rows j ps)
  all_dense Q j [] f = tt
  all_dense Q j (None ∷ ps) f = all_dense Q (suc j) ps (λ i n x is at. f (suc i) n x (omega (arith, is)) at)
  all_dense Q j (Some y ∷ ps) f =
      (f 0 j y (omega arith) refl, all_dense Q (suc j) ps (λ i n x is at. f (suc i) n x (omega (arith, is)) at))

  -- the rows before those of place i and behind them, whatever lies there
  pub split : (j : ℕ) (ps : List (Option (Numbered V))) (i n : ℕ) → n ≡ j + i → i < length ps
      → (A : List (Row V)) × (B : List (Row V)) × ((o : Option (Numbered V)) → dense_rows j (slice_set ps i o) ≡ A
      ++ (row_at n o ++ B)) × ((o : Option (Numbered V)) → slice_get ps i ≡ Some o
      → dense_rows j ps ≡ A ++ (row_at n o ++ B))
  split j [] i n is l = let impossible : ⊥ = omega (arith, l) in absurd impossible
  split j (p ∷ ps) zero n is l =
      let here : j ≡ n = omega (arith, is) in (
        [],
        dense_rows (suc j) ps,
        λ o. ap (λ k. row_at k o ++ dense_rows (suc j) ps) here,
        λ o e. let same =
            same_Some p o e in λ i. row_at (here i) (same i) ++ dense_rows (suc j) ps,
      )
  split j (p ∷ ps) (suc i) n is l =
      let rest = split (suc j) ps i n (omega (arith, is)) (omega (arith, l)) in (
        row_at j p ++ rest.0,
        rest.1,
        λ o. ap (λ t. row_at j p ++ t) (rest.2 o) ∙ sym (append_assoc (row_at j p) rest.0 (row_at n o ++ rest.1)),
        λ o e. ap (λ t. row_at j p ++ t) (rest.3 o e) ∙ sym (append_assoc (row_at j p) rest.0 (row_at n o ++ rest.1)),
      )

  pub dense_pad : (j : ℕ) (ps : List (Option (Numbered V))) → dense_rows j (ps ++ None ∷ []) ≡ dense_rows j ps
  dense_pad j [] = refl
  dense_pad j (p ∷ ps) = ap (λ t. row_at j p ++ t) (dense_pad (suc j) ps)

  pub dense_push : (j : ℕ) (ps : List (Option (Numbered V))) (n : ℕ) (x : Numbered V) → n ≡ j + length ps
      → dense_rows j (ps ++ Some x ∷ []) ≡ dense_rows j ps ++ (x.number, (decimal n, x.value)) ∷ []
  dense_push j [] n x is = let here : j ≡ n = omega (arith, is) in ap (λ k. (x.number, (decimal k, x.value)) ∷ []) here
  dense_push j (p ∷ ps) n x is =
      ap (λ t. row_at j p ++ t) (dense_push (suc j) ps n x (omega (arith, is)))
      ∙ sym (append_assoc (row_at j p) (dense_rows (suc j) ps) ((x.number, (decimal n, x.value)) ∷ []))

  dense_suc : (j : ℕ) (ps : List (Option (Numbered V))) (i n : ℕ) (o : Option (Numbered V)) → n ≡ j + i
      → slice_get ps i ≡ Some o → dense_rows j (take (suc i) ps) ≡ dense_rows j (take i ps) ++ row_at n o
  dense_suc j [] i n o is at = absurd (true≢false (sym (ap is_some at)))
  dense_suc j (p ∷ ps) zero n o is at =
      let here : j ≡ n = omega (arith, is) in
      let same = same_Some p o at in
      append-nil (row_at j p) ∙ (λ i. row_at (here i) (same i))
  dense_suc j (p ∷ ps) (suc i) n o is at =
      ap (λ t. row_at j p ++ t) (dense_suc (suc j) ps i n o (omega (arith, is)) at)
      ∙ sym (append_assoc (row_at j p) (dense_rows (suc j) (take i ps)) (row_at n o))

  pub dense_next : (ps : List (Option (Numbered V))) (i : ℕ) (o : Option (Numbered V)) → slice_get ps i ≡ Some o
      → dense_rows 0 (take (i + 1) ps) ≡ dense_rows 0 (take i ps) ++ row_at i o
  dense_next ps i o at = ap (λ m. dense_rows 0 (take m ps)) (add-one i) ∙ dense_suc 0 ps i i o (omega arith) at
