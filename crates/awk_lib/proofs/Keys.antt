-- The keys of rows, as they lie and in the order of their numbers.
use Rattle.std.proofs.Common.{◌≡◌, ℕ, nat_eq, List, [], ◌∷◌, ◌++◌, map, refl, sym, ap, ◌∙◌, subst, append_assoc}
use Rattle.std.proofs.Common.{IsPermutation}
use Rattle.std.proofs.lemmas.List.{map-append}
use Rattle.std.proofs.lemmas.List.Sorted.{IsPermutation-map, IsNonDecreasingBy-from_sort}
use Rattle.std.specs.List.{IsDistinct}
use Rattle.std.specs.List.Sorted.{IsSortedByKey}
use Rattle.std.specs.Ordering.{nat_cmp}
use Rattle.awk_lib.specs.Arrays.{keys}
use Rattle.awk_lib.specs.Numbering.{in_order, numbers, shown, texts, key_of, keyed, listed_key, listed, AreRising}
use Rattle.awk_lib.specs.declared.dense.Numbered.{Numbered}
use Rattle.awk_lib.proofs.Order.{numbers_permuted, in_order_map, in_order_same, in_order_rising, rising_sorted}
use Rattle.awk_lib.proofs.Rows.{Row}

texts_listed : (ks : List (Numbered (List ℕ))) → map (λ k. k.value) ks ≡ map (λ q. q.1) (listed ks)
texts_listed [] = refl
texts_listed (k ∷ ks) = ap (λ l. k.value ∷ l) (texts_listed ks)

numbers_listed : (ks : List (Numbered (List ℕ))) → numbers (listed ks) ≡ map (λ k. k.number) ks
numbers_listed [] = refl
numbers_listed (k ∷ ks) = ap (λ l. k.number ∷ l) (numbers_listed ks)

module _ {V : Type 0} where
  -- one more key
  pub listed_push : (ks : List (Numbered (List ℕ))) (x : Numbered (List ℕ)) (before : List (ℕ × List ℕ))
      (rs : List (Row V)) (r : Row V) → listed ks ≡ before ++ keyed rs → listed_key x ≡ key_of r
      → listed (ks ++ x ∷ []) ≡ before ++ keyed (rs ++ r ∷ [])
  listed_push ks x before rs r so_far same =
      map-append listed_key ks (x ∷ []) ∙ (λ i. so_far i ++ same i ∷ []) ∙ append_assoc before (keyed rs)
      (key_of r ∷ []) ∙ ap (λ t. before ++ t) (sym (map-append key_of rs (r ∷ [])))

  numbers_keyed : (rs : List (Row V)) → numbers (keyed rs) ≡ numbers rs
  numbers_keyed [] = refl
  numbers_keyed (r ∷ rs) = ap (λ l. r.0 ∷ l) (numbers_keyed rs)

  texts_keyed : (rs : List (Row V)) → map (λ q. q.1) (keyed rs) ≡ keys (map (λ r. r.1) rs)
  texts_keyed [] = refl
  texts_keyed (r ∷ rs) = ap (λ l. r.1.0 ∷ l) (texts_keyed rs)

  texts_rows : (rs : List (Row V)) → map (λ r. r.1.0) rs ≡ keys (map (λ r. r.1) rs)
  texts_rows [] = refl
  texts_rows (r ∷ rs) = ap (λ l. r.1.0 ∷ l) (texts_rows rs)

  -- one more key without its number
  pub texts_push : (ks : List (List ℕ)) (t : List ℕ) (before : List (List ℕ)) (rs : List (Row V)) (r : Row V)
      → ks ≡ before ++ texts rs → t ≡ r.1.0 → ks ++ t ∷ [] ≡ before ++ texts (rs ++ r ∷ [])
  texts_push ks t before rs r so_far same =
      (λ i. so_far i ++ same i ∷ []) ∙ append_assoc before (texts rs) (r.1.0 ∷ []) ∙ ap (λ l. before ++ l)
      (sym (map-append (λ (q : Row V). q.1.0) rs (r ∷ [])))

  pub keys_rising : (rs : List (Row V)) → AreRising rs → map (λ r. r.1.0) rs ≡ keys (shown rs)
  keys_rising rs h = texts_rows rs ∙ sym (ap (λ l. keys (map (λ r. r.1) l)) (in_order_rising rs h))

  -- the keys that were sorted by their numbers
  pub keys_sorted : (rs : List (Row V)) (found sorted : List (Numbered (List ℕ))) → listed found ≡ keyed rs
      → IsPermutation found sorted → IsSortedByKey (λ k. k.number) nat_cmp sorted → IsDistinct nat_eq (numbers rs)
      → map (λ k. k.value) sorted ≡ keys (shown rs)
  keys_sorted rs found sorted is permuted in_turn d =
      let moves = subst (λ l. IsPermutation l (listed sorted)) is (IsPermutation-map listed_key found sorted permuted)
      in
      let apart = subst (IsDistinct nat_eq) (sym (numbers_keyed rs)) d in
      let sorted_apart = subst (IsDistinct nat_eq) (numbers_listed sorted)
      (numbers_permuted (keyed rs) (listed sorted) moves apart) in
      let rising : AreRising (listed sorted) = rising_sorted (λ (k : Numbered (List ℕ)). k.number)
      (λ (k : Numbered (List ℕ)). k.value) sorted (IsNonDecreasingBy-from_sort (λ (k : Numbered (List ℕ)). k.number)
      sorted in_turn) sorted_apart in
      texts_listed sorted
      ∙ ap (map (λ q. q.1)) (sym (in_order_rising (listed sorted) rising)
      ∙ sym (in_order_same (keyed rs) (listed sorted) moves apart) ∙ in_order_map key_of (λ r. refl) rs)
      ∙ texts_keyed (in_order rs)
