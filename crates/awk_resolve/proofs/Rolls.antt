-- A roll as contracts see it. Where it is kept the keys are not the texts but have them.
use Rattle.std.proofs.Common.{◌≡◌, ◌+◌, ◌≤◌, ◌∙◌, ℕ, Bool, true, false, List, [], ◌∷◌, ◌++◌, map, cond, if◌then◌else◌}
use Rattle.std.proofs.Common.{◌||◌, not, Some, None, get_or, length, ltb, position, Result, Ok, Err, IfOk, OnOk, ap}
use Rattle.std.proofs.Common.{sym, refl, arith}
use Rattle.std.proofs.lemmas.List.Folds.{list_any_none, list_any_at}
use Rattle.std.proofs.lemmas.List.Sums.{fails_before_first}
use Rattle.std.proofs.lemmas.List.{length-map}
use Rattle.std.proofs.lemmas.List.Quantifiers.{position-Some}
use Rattle.std.proofs.lemmas.Slice.Eq.{bytes_eq-Decides}
use Rattle.std.specs.List.{list_any, position_or_len}
use Rattle.std.specs.Str.{bytes_eq}
use Rattle.awk_resolve.specs.Rolls.{added}

module _ {K : Type 0} (items : K → List ℕ) where
  any_named : (x : List ℕ) (ks : List K) → list_any (bytes_eq x) (map items ks) ≡ list_any (λ k. bytes_eq x (items k))
      ks
  any_named x [] = refl
  any_named x (k ∷ ks) = ap (λ b. bytes_eq x (items k) || b) (any_named x ks)

  first_named : (x : List ℕ) (ks : List K) → position_or_len (bytes_eq x) (map items ks) ≡ position_or_len
      (λ k. bytes_eq x (items k)) ks
  first_named x [] = refl
  first_named x (k ∷ ks) = ap (λ n. cond (not (bytes_eq x (items k))) (1 + n) 0) (first_named x ks)

  pub position_named : (x : List ℕ) (ks : List K) → position (bytes_eq x) (map items ks)
      ≡ position (λ k. bytes_eq x (items k)) ks
  position_named x ks = rw (first_named x ks, length-map ks items) refl

  map_last : (k : K) (ks : List K) → map items (ks ++ k ∷ []) ≡ map items ks ++ items k ∷ []
  map_last k [] = refl
  map_last k (j ∷ ks) = ap (λ xs. items j ∷ xs) (map_last k ks)

  pub added_named : (k : K) (ks : List K)
      → map items (if list_any (λ j. bytes_eq (items k) (items j)) ks then ks else ks ++ k ∷ []) ≡ added (items k)
      (map items ks)
  added_named k ks = rw (any_named (items k) ks) (by (list_any (λ j. bytes_eq (items k) (items j)) ks))
    where
      by : (b : Bool) → map items (if b then ks else ks ++ k ∷ []) ≡ (if b then map items ks else map items ks
          ++ items k ∷ [])
      by true = refl
      by false = map_last k ks

-- a text that is found in a list stands there
pub stands : (x : List ℕ) (xs : List (List ℕ)) (n : ℕ) → position (bytes_eq x) xs ≡ Some n → get_or xs n [] ≡ x
stands x xs n e = sym ((bytes_eq-Decides x (get_or xs n [])).0 (position-Some (bytes_eq x) xs n [] e).1)

pub stands_small : (x : List ℕ) (xs : List (List ℕ)) {E : Type 0} (n : ℕ) (r : Result ℕ E)
    → position (bytes_eq x) xs ≡ Some n → IfOk r (λ m. m ≡ n) → IfOk r (λ m. get_or xs m [] ≡ x)
stands_small x xs n (Ok m) some same = ap (λ k. get_or xs k []) same ∙ stands x xs n some
stands_small x xs n (Err e) some same = tt

-- and is not added
pub added_found : (x : List ℕ) (xs : List (List ℕ)) (n : ℕ) → position (bytes_eq x) xs ≡ Some n → added x xs ≡ xs
added_found x xs n e =
    let at = position-Some (bytes_eq x) xs n [] e in
    let there : list_any (bytes_eq x) xs ≡ true = list_any_at (bytes_eq x) xs n [] at.0 at.1 in
    rw there refl

-- a text that stands nowhere in a list is put last
none_past : (n m : ℕ) → cond (ltb n m) (Some n) None ≡ None → m ≤ n
none_past n m e = grind arith

not_before : (p : List ℕ → Bool) (xs : List (List ℕ)) → length xs ≤ position_or_len p xs → list_any p xs ≡ false
not_before p xs h = list_any_none p xs (λ k d i. fails_before_first p xs k d (omega arith))

pub none_among : (x : List ℕ) (xs : List (List ℕ)) → position (bytes_eq x) xs ≡ None → list_any (bytes_eq x) xs ≡ false
none_among x xs e = not_before (bytes_eq x) xs (none_past (position_or_len (bytes_eq x) xs) (length xs) e)

pub added_last : (x : List ℕ) (xs : List (List ℕ)) → position (bytes_eq x) xs ≡ None → added x xs ≡ xs ++ x ∷ []
added_last x xs e = rw (none_among x xs e) refl

pub pushed_last : {E : Type 0} (x : List ℕ) (xs new : List (List ℕ)) (r : Result Unit E)
    → position (bytes_eq x) xs ≡ None → OnOk r (new ≡ added x xs) → OnOk r (new ≡ xs ++ x ∷ [])
pushed_last x xs new (Ok u) none e = e ∙ added_last x xs none
pushed_last x xs new (Err f) none e = tt
