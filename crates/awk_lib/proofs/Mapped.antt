-- The rows of the map, some of whose places are empty.
use Rattle.std.proofs.Common.{◌≡◌, ℕ, zero, suc, ◌+◌, ◌-◌, ◌<◌, nat_eq, Bool, true, false, not, cond, if◌then◌else◌}
use Rattle.std.proofs.Common.{List, [], ◌∷◌, ◌++◌, map, filter, length, get_or, slice_get, position, Option, None, Some}
use Rattle.std.proofs.Common.{is_some, refl, sym, ap, ◌∙◌, subst, true≢false, arith, append_assoc, append-nil}
use Rattle.std.proofs.Common.{IsPermutation}
use Rattle.std.proofs.lemmas.List.{map-append, length-map, get_or-map}
use Rattle.std.proofs.lemmas.List.Quantifiers.{position-Some}
use Rattle.std.proofs.lemmas.List.Sorted.{IsPermutation-refl, IsPermutation-cons, IsPermutation-map}
use Rattle.std.proofs.lemmas.List.Sorted.{IsPermutation-to_front, IsNonDecreasingBy-from_sort, length_permutation}
use Rattle.std.proofs.lemmas.Map.{none_passes_from_lookup}
use Rattle.std.proofs.lemmas.Map.Keys.{IsDistinct-head, IsDistinct-tail}
use Rattle.std.proofs.lemmas.Option.{same_Some, slice_get-get_or}
use Rattle.std.proofs.lemmas.Slice.Eq.{bytes_eq-Decides}
use Rattle.std.specs.Borrow.{Bor}
use Rattle.std.specs.Cmp.Lexicographic.{nat_list_eq_equiv}
use Rattle.std.specs.List.{AllByRecursion, IsDistinct, position_or_len}
use Rattle.std.specs.List.Sorted.{IsSortedByKey}
use Rattle.std.specs.Map.{lookup, keys_of, values_of}
use Rattle.std.specs.Map.Iter.{deref_pair}
use Rattle.std.specs.Option.{option_map_or, option_to_list}
use Rattle.std.specs.Ordering.{nat_cmp}
use Rattle.std.specs.Str.{bytes_eq}
use Rattle.indexmap.specs.IndexMap.{insert_entry, set_value_at}
use Rattle.awk_lib.specs.Dense.{row_under}
use Rattle.awk_lib.specs.Numbering.{numbers, rows, number_at, AreRising}
use Rattle.awk_lib.specs.declared.dense.Numbered.{Numbered}
use Rattle.awk_lib.proofs.Order.{all_mapped, all_permuted, rising_sorted}
use Rattle.awk_lib.proofs.Rows.{Row, at_place}
use Rattle.awk_lib.proofs.Seams.{no_items, all_append, at_end, one_more}

-- a place of the map: its key, and what lies there
abbrev Entry : Type 0 → Type 0
Entry V = List ℕ × Option (Numbered V)

pub all_filtered : {X : Type 0} (test : X → Bool) (xs : List X) → AllByRecursion (λ x. test x ≡ true) (filter test xs)
all_filtered test [] = tt
all_filtered test (x ∷ xs) = by (test x) refl (all_filtered test xs)
  where
    by : (b : Bool) → test x ≡ b → AllByRecursion (λ x. test x ≡ true) (filter test xs)
        → AllByRecursion (λ x. test x ≡ true) (cond b (x ∷ filter test xs) (filter test xs))
    by true e rest = (e, rest)
    by false e rest = rest

module _ {V : Type 0} where
  -- ---- a key that has no row

  all_under : (Q : Row V → Type 0) (t : List ℕ) (p : Option (Numbered V))
      → ((x : Numbered V) → Q (x.number, (t, x.value))) → AllByRecursion Q (row_under t p)
  all_under Q t None f = tt
  all_under Q t (Some x) f = (f x, tt)

  other_rows : (key : List ℕ) (es : List (Entry V)) → AllByRecursion (λ e. bytes_eq key e.0 ≡ false) es
      → AllByRecursion (λ r. bytes_eq key r.1.0 ≡ false) (rows es)
  other_rows key [] h = tt
  other_rows key (e ∷ es) h =
      all_append (λ r. bytes_eq key r.1.0 ≡ false) (row_under e.0 e.1) (rows es)
      (all_under (λ r. bytes_eq key r.1.0 ≡ false) e.0 e.1 (λ x. h.0)) (other_rows key es h.1)

  -- it is not in the map
  pub no_entry : (key : List ℕ) (es : List (Entry V)) → lookup (bytes_eq key) es ≡ None
      → AllByRecursion (λ r. bytes_eq key r.1.0 ≡ false) (rows es)
  no_entry key es none = other_rows key es (none_passes_from_lookup (bytes_eq key) es none)

  -- or its place is empty
  pub empty_entry : (key : List ℕ) (es : List (Entry V)) (i : ℕ) (k : List ℕ) → IsDistinct bytes_eq (keys_of es)
      → slice_get es i ≡ Some (k, None)
      → bytes_eq key k ≡ true → AllByRecursion (λ r. bytes_eq key r.1.0 ≡ false) (rows es)
  empty_entry key [] i k d at hit = tt
  empty_entry key (e ∷ es) zero k d at hit =
      let same : e ≡ (k, None) = same_Some e (k, None) at in
      let here : key ≡ e.0 = (bytes_eq-Decides key e.0).0 (ap (λ (x : Entry V). bytes_eq key x.0) same ∙ hit) in
      let others = all_mapped (λ (x : Entry V). x.0) (λ q. bytes_eq e.0 q ≡ false) es
      (IsDistinct-head bytes_eq e.0 (keys_of es) d) in
      subst (λ p. AllByRecursion (λ r. bytes_eq key r.1.0 ≡ false) (row_under e.0 p ++ rows es))
      (sym (ap (λ (x : Entry V). x.1) same))
      (other_rows key es (subst (λ t. AllByRecursion (λ x. bytes_eq t x.0 ≡ false) es) (sym here) others))
  empty_entry key (e ∷ es) (suc i) k d at hit =
      let others = all_mapped (λ (x : Entry V). x.0) (λ q. bytes_eq e.0 q ≡ false) es
      (IsDistinct-head bytes_eq e.0 (keys_of es) d) in
      let other = at_place (λ x. bytes_eq e.0 x.0 ≡ false) es i (k, None) at others in
      let there : key ≡ k = (bytes_eq-Decides key k).0 hit in
      let miss : bytes_eq key e.0 ≡ false = ap (λ t. bytes_eq t e.0) there ∙ nat_list_eq_equiv.symm k e.0 ∙ other in
      all_append (λ r. bytes_eq key r.1.0 ≡ false) (row_under e.0 e.1) (rows es)
      (all_under (λ r. bytes_eq key r.1.0 ≡ false) e.0 e.1 (λ x. miss))
      (empty_entry key es i k (IsDistinct-tail bytes_eq e.0 (keys_of es) d) at hit)

  -- ---- one place

  -- the one that a look-up found
  pub found_entry : (key : List ℕ) (es : List (Entry V)) (i : ℕ) → position (bytes_eq key) (keys_of es) ≡ Some i
      → (k : List ℕ) × (p : Option (Numbered V)) × (slice_get es i ≡ Some (k, p)) × (bytes_eq key k ≡ true)
  found_entry key [] i h = absurd (true≢false (sym (ap is_some h)))
  found_entry key (e ∷ es) i h =
      let k = position-Some (bytes_eq key) (keys_of (e ∷ es)) i e.0 h in
      let here : i < length (e ∷ es) = omega (arith, k.0, length-map (e ∷ es) (λ x. x.0)) in
      let x = get_or (e ∷ es) i e in
      let hit : bytes_eq key x.0 ≡ true =
      ap (λ q. bytes_eq key q) (sym (get_or-map (λ (x : Entry V). x.0) (e ∷ es) i e e.0 here)) ∙ k.1 in
      (x.0, x.1, slice_get-get_or (e ∷ es) i e here, hit)

  -- the rows before that of a place and behind it, whatever lies there
  pub split_rows : (es : List (Entry V)) (i : ℕ) (k : List ℕ) (p : Option (Numbered V)) → slice_get es i ≡ Some (k, p)
      → (A : List (Row V)) × (B : List (Row V)) × (rows es ≡ A ++ (row_under k p ++ B))
      × ((q : Option (Numbered V)) → rows (set_value_at es i q) ≡ A ++ (row_under k q ++ B))
  split_rows [] i k p at = absurd (true≢false (sym (ap is_some at)))
  split_rows (e ∷ es) zero k p at =
      let same : e ≡ (k, p) = same_Some e (k, p) at in (
        [],
        rows es,
        ap (λ (x : Entry V). row_under x.0 x.1 ++ rows es) same,
        λ q. ap (λ (x : Entry V). row_under x.0 q ++ rows es) same,
      )
  split_rows (e ∷ es) (suc i) k p at =
      let rest = split_rows es i k p at in
      let here = row_under e.0 e.1 in (
        here ++ rest.0,
        rest.1,
        ap (λ t. here ++ t) rest.2 ∙ sym (append_assoc here rest.0 (row_under k p ++ rest.1)),
        λ q. ap (λ t. here ++ t) (rest.3 q) ∙ sym (append_assoc here rest.0 (row_under k q ++ rest.1)),
      )

  pub number_there : (es : List (Entry V)) (i : ℕ) (k : List ℕ) (x : Numbered V) → slice_get es i ≡ Some (k, Some x)
      → number_at es i ≡ x.number
  number_there [] i k x at = absurd (true≢false (sym (ap is_some at)))
  number_there (e ∷ es) zero k x at = ap (λ (y : Entry V). option_map_or (λ z. z.number) y.1 0)
      (same_Some e (k, Some x) at)
  number_there (e ∷ es) (suc i) k x at = number_there es i k x at

  pub value_at : (es : List (Entry V)) (i : ℕ) (k : List ℕ) (p : Option (Numbered V)) → slice_get es i ≡ Some (k, p)
      → slice_get (values_of es) i ≡ Some p
  value_at [] i k p at = absurd (true≢false (sym (ap is_some at)))
  value_at (e ∷ es) zero k p at = ap (λ (y : Entry V). Some y.1) (same_Some e (k, p) at)
  value_at (e ∷ es) (suc i) k p at = value_at es i k p at

  -- ---- an element that is added, under a key that has no row

  module _ (k : List ℕ) (x : Numbered V) where
    abbrev new_row : Row V
    new_row = (x.number, (k, x.value))

    abbrev with_new : List (Entry V) → List (Entry V)
    with_new es = insert_entry bytes_eq es k (Some x)

    pub inserted_rows : (es : List (Entry V)) → AllByRecursion (λ r. bytes_eq k r.1.0 ≡ false) (rows es)
        → IsPermutation (rows es ++ new_row ∷ []) (rows (with_new es))
    inserted_rows [] h = IsPermutation-refl (new_row ∷ [])
    inserted_rows (e ∷ es) h = by (bytes_eq k e.0) refl e.1 h (inserted_rows es)
      where
        by : (b : Bool) → bytes_eq k e.0 ≡ b → (p : Option (Numbered V))
            → AllByRecursion (λ r. bytes_eq k r.1.0 ≡ false) (row_under e.0 p ++ rows es)
            → (AllByRecursion (λ r. bytes_eq k r.1.0 ≡ false) (rows es)
            → IsPermutation (rows es ++ new_row ∷ []) (rows (with_new es)))
            → IsPermutation ((row_under e.0 p ++ rows es) ++ new_row ∷ [])
            (rows (if b then (e.0, Some x) ∷ es else (e.0, p) ∷ with_new es))
        by true hit None h rest =
            subst (λ t. IsPermutation (rows es ++ new_row ∷ []) ((x.number, (t, x.value)) ∷ rows es))
            ((bytes_eq-Decides k e.0).0 hit) (IsPermutation-to_front (rows es) new_row)
        by true hit (Some y) h rest = absurd (true≢false (sym hit ∙ h.0))
        by false miss None h rest = rest h
        by false miss (Some y) h rest = IsPermutation-cons (y.number, (e.0, y.value)) (rows es ++ new_row ∷ [])
            (rows (with_new es)) (rest h.1)

    pub inserted_last : (es : List (Entry V)) (i : ℕ) → AllByRecursion (λ r. bytes_eq k r.1.0 ≡ false) (rows es)
        → i ≡ position_or_len (bytes_eq k) (keys_of es)
        → i + 1 ≡ length (with_new es) → rows (with_new es) ≡ rows es ++ new_row ∷ []
    inserted_last [] i h is last = refl
    inserted_last (e ∷ es) i h is last = by (bytes_eq k e.0) refl e.1 h i is last (inserted_last es)
      where
        by : (b : Bool) → bytes_eq k e.0 ≡ b → (p : Option (Numbered V))
            → AllByRecursion (λ r. bytes_eq k r.1.0 ≡ false) (row_under e.0 p ++ rows es) → (i : ℕ)
            → i ≡ cond (not b) (1 + position_or_len (bytes_eq k) (keys_of es)) 0
            → i + 1 ≡ length (if b then (e.0, Some x) ∷ es else (e.0, p) ∷ with_new es)
            → ((j : ℕ) → AllByRecursion (λ r. bytes_eq k r.1.0 ≡ false) (rows es)
            → j ≡ position_or_len (bytes_eq k) (keys_of es) → j + 1 ≡ length (with_new es)
            → rows (with_new es) ≡ rows es ++ new_row ∷ [])
            → rows (if b then (e.0, Some x) ∷ es else (e.0, p) ∷ with_new es) ≡ (row_under e.0 p ++ rows es)
            ++ new_row ∷ []
        by true hit None h i is last rest =
            let empty : es ≡ [] = no_items es (omega (arith, is, last)) in
            let same = sym ((bytes_eq-Decides k e.0).0 hit) in
            subst (λ l. (x.number, (e.0, x.value)) ∷ rows l ≡ rows l ++ new_row ∷ []) (sym empty)
            (λ j. (x.number, (same j, x.value)) ∷ [])
        by true hit (Some y) h i is last rest = absurd (true≢false (sym hit ∙ h.0))
        by false miss None h zero is last rest = let impossible : ⊥ = omega (arith, is) in absurd impossible
        by false miss None h (suc i) is last rest = rest i h (omega (arith, is)) (omega (arith, last))
        by false miss (Some y) h zero is last rest = let impossible : ⊥ = omega (arith, is) in absurd impossible
        by false miss (Some y) h (suc i) is last rest = ap (λ l. (y.number, (e.0, y.value)) ∷ l)
            (rest i h.1 (omega (arith, is)) (omega (arith, last)))

    pub inserted_there : (es : List (Entry V)) (i : ℕ) → i ≡ position_or_len (bytes_eq k) (keys_of es)
        → slice_get (with_new es) i ≡ Some (k, Some x)
    inserted_there [] zero is = refl
    inserted_there [] (suc i) is = let impossible : ⊥ = omega (arith, is) in absurd impossible
    inserted_there (e ∷ es) i is = by (bytes_eq k e.0) refl i is (inserted_there es)
      where
        by : (b : Bool) → bytes_eq k e.0 ≡ b → (i : ℕ)
            → i ≡ cond (not b) (1 + position_or_len (bytes_eq k) (keys_of es)) 0
            → ((j : ℕ) → j ≡ position_or_len (bytes_eq k) (keys_of es) → slice_get (with_new es) j ≡ Some (k, Some x))
            → slice_get (if b then (e.0, Some x) ∷ es else e ∷ with_new es) i ≡ Some (k, Some x)
        by true hit zero is rest = ap (λ t. Some (t, Some x)) (sym ((bytes_eq-Decides k e.0).0 hit))
        by true hit (suc i) is rest = let impossible : ⊥ = omega (arith, is) in absurd impossible
        by false miss zero is rest = let impossible : ⊥ = omega (arith, is) in absurd impossible
        by false miss (suc i) is rest = rest i (omega (arith, is))

  -- ---- one place after the other

  rows_append : (es fs : List (Entry V)) → rows (es ++ fs) ≡ rows es ++ rows fs
  rows_append [] fs = refl
  rows_append (e ∷ es) fs = ap (λ l. row_under e.0 e.1 ++ l) (rows_append es fs)
      ∙ sym (append_assoc (row_under e.0 e.1) (rows es) (rows fs))

  pub next_rows : (es : List (Bor (List ℕ) × Bor (Option (Numbered V)))) (e : Bor (List ℕ) × Bor (Option (Numbered V)))
      (p : Option (Numbered V)) → e.1.now ≡ p
      → rows (map deref_pair (es ++ e ∷ [])) ≡ rows (map deref_pair es) ++ row_under e.0.now p
  next_rows es e p is =
      ap rows (map-append deref_pair es (e ∷ [])) ∙ rows_append (map deref_pair es) (deref_pair e ∷ [])
      ∙ ap (λ l. rows (map deref_pair es) ++ l) (append-nil (row_under e.0.now e.1.now) ∙ ap (row_under e.0.now) is)

  -- the last place goes, and it is empty
  pub popped_rows : (es fs : List (Entry V)) (o : Option (Entry V)) (k : List ℕ) → es ≡ fs ++ option_to_list o
      → slice_get es (length es - 1) ≡ Some (k, None) → rows fs ≡ rows es
  popped_rows es fs None k is at = ap rows (sym (is ∙ append-nil fs))
  popped_rows es fs (Some p) k is at =
      let last : length es - 1 ≡ length fs = omega (arith, ap length is, one_more fs p) in
      let there : slice_get es (length es - 1) ≡ Some p = (λ i. slice_get (is i) (last i))
      ∙ at_end fs p (length fs) refl in
      let empty : p.1 ≡ None = ap (λ (e : Entry V). e.1) (same_Some p (k, None) (sym there ∙ at)) in
      sym (ap rows is ∙ rows_append fs (p ∷ []) ∙ ap (λ l. rows fs ++ l) (append-nil (row_under p.0 p.1)
      ∙ ap (row_under p.0) empty) ∙ append-nil (rows fs))

  -- ---- without the empty places

  pub filtered_rows : (es : List (Entry V)) → rows (filter (λ e. is_some e.1) es) ≡ rows es
  filtered_rows [] = refl
  filtered_rows (e ∷ es) = by e.1 (filtered_rows es)
    where
      by : (p : Option (Numbered V)) → rows (filter (λ e. is_some e.1) es) ≡ rows es
          → rows (cond (is_some p) ((e.0, p) ∷ filter (λ e. is_some e.1) es) (filter (λ e. is_some e.1) es))
          ≡ row_under e.0 p ++ rows es
      by None rest = rest
      by (Some x) rest = ap (λ l. (x.number, (e.0, x.value)) ∷ l) rest

  abbrev number_of : Entry V → ℕ
  number_of e = option_map_or (λ x. x.number) e.1 0

  abbrev pair_of : V → Entry V → List ℕ × V
  pair_of d e = (e.0, option_map_or (λ x. x.value) e.1 d)

  filled_rows : (d : V) (es : List (Entry V)) → AllByRecursion (λ e. is_some e.1 ≡ true) es
      → rows es ≡ map (λ e. (number_of e, pair_of d e)) es
  filled_rows d [] h = refl
  filled_rows d (e ∷ es) h = by e.1 h.0 (filled_rows d es h.1)
    where
      by : (p : Option (Numbered V)) → is_some p ≡ true → rows es ≡ map (λ e. (number_of e, pair_of d e)) es
          → row_under e.0 p ++ rows es ≡ (number_of (e.0, p), pair_of d (e.0, p)) ∷ map
          (λ e. (number_of e, pair_of d e)) es
      by None h rest = absurd (true≢false (sym h))
      by (Some x) h rest = ap (λ l. (x.number, (e.0, x.value)) ∷ l) rest

  numbers_filled : (d : V) (es : List (Entry V)) → numbers (map (λ e. (number_of e, pair_of d e)) es) ≡ map number_of es
  numbers_filled d [] = refl
  numbers_filled d (e ∷ es) = ap (λ l. number_of e ∷ l) (numbers_filled d es)

  -- where none is empty, any order of the places is one of the rows; and it rises where they were sorted by their
  -- numbers
  pub sorted_rows : (es fs : List (Entry V)) → AllByRecursion (λ e. is_some e.1 ≡ true) es → IsPermutation es fs
      → IsPermutation (rows es) (rows fs) × (IsSortedByKey (λ e. option_map_or (λ x. x.number) e.1 0) nat_cmp fs
      → IsDistinct nat_eq (numbers (rows fs)) → AreRising (rows fs))
  sorted_rows [] fs h p = subst (λ l. IsPermutation [] (rows l) × (IsSortedByKey number_of nat_cmp l
      → IsDistinct nat_eq (numbers (rows l)) → AreRising (rows l))) (sym (no_items fs (length_permutation [] fs p)))
      (IsPermutation-refl [], λ s d. tt)
  sorted_rows (e ∷ es) fs h p = by e.1 h.0
    where
      by : (q : Option (Numbered V)) → is_some q ≡ true
          → IsPermutation (rows (e ∷ es)) (rows fs) × (IsSortedByKey number_of nat_cmp fs
          → IsDistinct nat_eq (numbers (rows fs)) → AreRising (rows fs))
      by None z = absurd (true≢false (sym z))
      by (Some x) z =
          let d = x.value in
          let before = sym (filled_rows d (e ∷ es) h) in
          let after = sym (filled_rows d fs (all_permuted (λ e. is_some e.1 ≡ true) (e ∷ es) fs p h)) in (
            subst (λ l. IsPermutation l (rows fs)) before
                (subst (IsPermutation (map (λ e. (number_of e, pair_of d e)) (e ∷ es))) after
                (IsPermutation-map (λ e. (number_of e, pair_of d e)) (e ∷ es) fs p)),
            λ sorted apart. subst AreRising after (rising_sorted number_of (pair_of d) fs
                (IsNonDecreasingBy-from_sort number_of fs sorted)
                (subst (IsDistinct nat_eq) (ap numbers (sym after) ∙ numbers_filled d fs) apart)),
          )
