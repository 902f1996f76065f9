-- What each call does to the elements of an array, and so to its list.
use Rattle.std.proofs.Common.{◌≡◌, ℕ, zero, suc, ◌+◌, ◌<◌, ◌≤◌, ◌^◌, nat_lt, nat_eq, Bool, true, false, if◌then◌else◌}
use Rattle.std.proofs.Common.{◌||◌, ◌&&◌, ◌⊎◌, inl, inr, List, [], ◌∷◌, ◌++◌, map, length, slice_get, slice_set, Option}
use Rattle.std.proofs.Common.{None, Some, is_some, Ok, Err, refl, sym, ap, ◌∙◌, subst, true≢false, arith, append_assoc}
use Rattle.std.proofs.Common.{append-nil, length-set, get_or, ⊎_elim, IsPermutation}
use Rattle.std.proofs.lemmas.Bool.{cases_lt}
use Rattle.std.proofs.lemmas.Bool.Decides.{nat_tests}
use Rattle.std.proofs.lemmas.Fmt.{decimal_injective}
use Rattle.std.proofs.lemmas.List.{map-append, length-map}
use Rattle.std.proofs.lemmas.List.Sorted.{IsPermutation-map, IsPermutation-middle, IsPermutation-append_right}
use Rattle.std.proofs.lemmas.List.Sorted.{length_permutation}
use Rattle.std.proofs.lemmas.Option.{same_Some, slice_get_within, slice_get_read, slice_get-get_or}
use Rattle.std.specs.Cmp.Lexicographic.{nat_list_eq_equiv}
use Rattle.std.specs.Fmt.{decimal}
use Rattle.std.specs.List.{AllByRecursion, IsDistinct, position_or_len}
use Rattle.std.specs.Map.{lookup, keys_of, values_of}
use Rattle.indexmap.specs.IndexMap.{insert_entry, set_value_at}
use Rattle.std.specs.Option.{IfSome}
use Rattle.std.specs.Str.{bytes_eq}
use Rattle.awk_text.specs.declared.fault.Fault.TheVariants.{TooManyElements}
use Rattle.awk_lib.specs.Arrays.{Array, element, has, put, with_element, most_elements}
use Rattle.awk_lib.specs.Dense.{most_places, dense_rows, number_in, IsOutside}
use Rattle.awk_lib.specs.Kept.{mapped_rows, rows_of, AreApart, Lies, AreKept}
use Rattle.awk_lib.specs.Lends.{with_value}
use Rattle.awk_lib.specs.Numbering.{numbers, number_at, rows, texts, shown, AreNumbered, AreRising}
use Rattle.awk_lib.specs.declared.dense.Numbered.{Numbered}
use Rattle.awk_lib.specs.declared.dense.Dense as d
use Rattle.awk_lib.specs.declared.elements.Elements.{Elements}
use Rattle.awk_lib.specs.declared.elements.Slot.{Slot}
use Rattle.awk_lib.specs.declared.elements.Slot.TheVariants.{Dense, Mapped}
use Rattle.awk_lib.proofs.Digits.{differs, outside_number}
use Rattle.awk_lib.proofs.Order.{all_weaker, all_both, all_push, all_permuted}
use Rattle.awk_lib.proofs.Mapped.{value_at, split_rows, number_there, inserted_rows, inserted_last, inserted_there}
use Rattle.awk_lib.proofs.Rows.{Row, none_numbered, set_at, set_row, set_at_row, lookup_at, lookup_shown, absent_rows}
use Rattle.awk_lib.proofs.Rows.{at_place, length_shown, set_numbered, shown_set, set_none, added, shown_added, moved}
use Rattle.awk_lib.proofs.Rows.{shown_moved, gone, put_allowed, put_refused}
use Rattle.awk_lib.proofs.Seams.{no_items, all_append, all_right, all_without, all_valued, none_lookup, rising_without}
use Rattle.awk_lib.proofs.Seams.{inserted, at_seam, at_end, one_more, all_dense, split, dense_push}

pub and_left : (a b : Bool) → (a && b) ≡ true → a ≡ true
and_left true b e = refl
and_left false b e = e

pub and_right : (a b : Bool) → (a && b) ≡ true → b ≡ true
and_right true b e = e
and_right false b e = absurd (true≢false (sym e))

pub few : (n : ℕ) → n < most_elements → nat_lt n most_elements ≡ true
few n l = grind (arith, nat_tests, l)

module _ {V : Type 0} where
  pub mapped_value : (es : Elements V) (i : ℕ) (p : Option (Numbered V)) (r : Row V) → Lies es (Mapped i) r
      → slice_get (values_of es.map.entries) i ≡ Some p → p ≡ Some (record { number = r.0; value = r.1.1 })
  mapped_value es i p r lies is =
      let x : Numbered V = record { number = r.0; value = r.1.1 } in
      same_Some p (Some x) (sym is ∙ value_at es.map.entries i r.1.0 (Some x) lies)

  pub mapped_within : (es : Elements V) (i : ℕ) (r : Row V) → Lies es (Mapped i) r → i < length es.map.entries
  mapped_within es i r lies = slice_get_within es.map.entries i (r.1.0, Some (record { number = r.0; value = r.1.1 }))
      lies

  -- the rows before that of a place of the map and behind it, and those with another value there, or none
  pub mapped_parts : (es : Elements V) (i : ℕ) (r : Row V) → Lies es (Mapped i) r
      → (A : List (Row V)) × (B : List (Row V)) × (mapped_rows es ≡ A ++ r ∷ B)
      × ((w : V) → mapped_rows (with_value es (Mapped i) w) ≡ A ++ (r.0, (r.1.0, w)) ∷ B)
      × (rows (set_value_at es.map.entries i None) ≡ A ++ B)
  mapped_parts es i r lies =
      let x : Numbered V = record { number = r.0; value = r.1.1 } in
      let s = split_rows es.map.entries i r.1.0 (Some x) lies in
      let number = number_there es.map.entries i r.1.0 x lies in (
        s.0,
        s.1,
        s.2,
        λ w. s.3 (Some (record { number = number_at es.map.entries i; value = w }))
            ∙ (λ j. s.0 ++ (number j, (r.1.0, w)) ∷ s.1),
        s.3 None,
      )

  pub dense_read : (ps qs : List (Option (Numbered V))) (k : ℕ) (o : Option (Numbered V)) → qs ≡ ps → k < length qs
      → o ≡ get_or qs k o → slice_get ps k ≡ Some o
  dense_read ps qs k o same within is = ap (λ l. slice_get l k) (sym same) ∙ slice_get_read qs (length qs) k o refl
      within is

  -- ---- where a key lies, or that it is not there

  pub found_dense : (es : Elements V) (key : List ℕ) (k : ℕ) (x : Numbered V) → key ≡ decimal k
      → slice_get es.dense.places.items k ≡ Some (Some x)
      → (r : Row V) × Lies es (Dense k) r × (bytes_eq key r.1.0 ≡ true)
  found_dense es key k x is at = (
    (x.number, (decimal k, x.value)),
    (refl, at),
    ap (bytes_eq key) (sym is)
        ∙ nat_list_eq_equiv.refl key,
  )

  pub found_mapped : (es : Elements V) (key : List ℕ) (i : ℕ) (k : List ℕ) (x : Numbered V)
      → slice_get es.map.entries i ≡ Some (k, Some x) → bytes_eq key k ≡ true
      → (r : Row V) × Lies es (Mapped i) r × (bytes_eq key r.1.0 ≡ true)
  found_mapped es key i k x at hit = ((x.number, (k, x.value)), at, hit)

  mapped_outside : (es : Elements V) (key : List ℕ) (k : ℕ) → AreApart es → key ≡ decimal k
      → k < length es.dense.places.items → AllByRecursion (λ r. bytes_eq key r.1.0 ≡ false) (mapped_rows es)
  mapped_outside es key k a is l =
      all_weaker (λ r. IsOutside (length es.dense.places.items) r.1.0) (λ r. bytes_eq key r.1.0 ≡ false)
      (λ r o. ap (λ t. bytes_eq t r.1.0) is ∙ nat_list_eq_equiv.symm (decimal k) r.1.0 ∙ o k l) (mapped_rows es)
      a.outside

  pub missing_dense : (es : Elements V) (key : List ℕ) (k : ℕ) → AreApart es → key ≡ decimal k
      → slice_get es.dense.places.items k ≡ Some None → lookup (bytes_eq key) (map (λ r. r.1) (rows_of es)) ≡ None
  missing_dense es key k a is at =
      let ps = es.dense.places.items in
      let within = slice_get_within ps k None at in
      let few = a.few in
      none_lookup key (rows_of es) (all_append (λ r. bytes_eq key r.1.0 ≡ false) (dense_rows 0 ps) (mapped_rows es)
      (all_dense (λ r. bytes_eq key r.1.0 ≡ false) 0 ps (λ i n x n_is there.
      differs key n (λ e.
      let inside = slice_get_within ps i (Some x) there in
      let same : k ≡ n = decimal_injective k n (omega (arith, within, few)) (omega (arith, inside, few, n_is))
      (sym is ∙ e) in
      let index : i ≡ k = omega (arith, same, n_is) in
      true≢false (sym (ap (λ (o : Option (Option (Numbered V))). filled o) (sym at ∙ ap (slice_get ps) (sym index)
      ∙ there))))))
      (mapped_outside es key k a is within))
    where
      filled : Option (Option (Numbered V)) → Bool
      filled None = false
      filled (Some None) = false
      filled (Some (Some x)) = true

  pub dense_outside : (es : Elements V) (key : List ℕ) → IsOutside (length es.dense.places.items) key
      → AllByRecursion (λ r. bytes_eq key r.1.0 ≡ false) (dense_rows 0 es.dense.places.items)
  dense_outside es key o =
      all_dense (λ r. bytes_eq key r.1.0 ≡ false) 0 es.dense.places.items
      (λ i n x is at. o n (omega (arith, is, slice_get_within es.dense.places.items i (Some x) at)))

  pub missing_mapped : (es : Elements V) (key : List ℕ) → IsOutside (length es.dense.places.items) key
      → AllByRecursion (λ r. bytes_eq key r.1.0 ≡ false) (mapped_rows es)
      → lookup (bytes_eq key) (map (λ r. r.1) (rows_of es)) ≡ None
  missing_mapped es key o none =
      none_lookup key (rows_of es) (all_append (λ r. bytes_eq key r.1.0 ≡ false) (dense_rows 0 es.dense.places.items)
      (mapped_rows es) (dense_outside es key o) none)

  none_mapped : (key : List ℕ) (xs : List (List ℕ × Option (Numbered V))) → length xs ≡ 0
      → AllByRecursion (λ r. bytes_eq key r.1.0 ≡ false) (rows xs)
  none_mapped key [] e = tt
  none_mapped key (x ∷ xs) e = absurd (let h = e in omega (arith, h))

  -- the digits of a number without a place, where the map is empty
  pub missing_number : (es : Elements V) (n : ℕ) → n < 2 ^ 64 → length es.dense.places.items ≤ n
      → length es.map.entries ≡ 0
      → lookup (bytes_eq (decimal n)) (map (λ r. r.1) (rows_of es)) ≡ None
  missing_number es n small beyond none =
      missing_mapped es (decimal n) (outside_number n (length es.dense.places.items) small beyond)
      (none_mapped (decimal n) es.map.entries none)

  -- ---- a value that is written

  pub placed : (es : Elements V) (p : Slot) (r : Row V) → Lies es p r
      → (m : ℕ) × (slice_get (rows_of es) m ≡ Some r)
      × ((w : V) → rows_of (with_value es p w) ≡ set_at (rows_of es) m w)
  placed es (Dense k) r lies =
      let ps = es.dense.places.items in
      let M = mapped_rows es in
      let x : Numbered V = record { number = r.0; value = r.1.1 } in
      let row : Row V = (r.0, (decimal k, r.1.1)) in
      let s = split 0 ps k k (omega arith) (slice_get_within ps k (Some x) lies.1) in
      let seam = at_seam s.0 (s.1 ++ M) row in
      let old : rows_of es ≡ s.0 ++ row ∷ (s.1 ++ M) = ap (λ t. t ++ M) (s.3 (Some x) lies.1) ∙ append_assoc s.0
      (row ∷ s.1) M in
      let text = sym lies.0 in (
        seam.0,
        ap (λ t. slice_get t seam.0) old ∙ seam.1 ∙ (λ i. Some (r.0, (text i, r.1.1))),
        λ w. ap (λ (o : Option (Option (Numbered V))). dense_rows 0
            (slice_set ps k (Some (record { number = number_in o; value = w }))) ++ M) lies.1
            ∙ ap (λ t. t ++ M) (s.2 (Some (record { number = r.0; value = w }))) ∙ append_assoc s.0
            ((r.0, (decimal k, w)) ∷ s.1) M
            ∙ sym (seam.2 w) ∙ ap (λ t. set_at t seam.0 w) (sym old),
      )
  placed es (Mapped i) r lies =
      let D = dense_rows 0 es.dense.places.items in
      let m = mapped_parts es i r lies in
      let seam = at_seam (D ++ m.0) m.1 r in
      let old : rows_of es ≡ (D ++ m.0) ++ r ∷ m.1 = ap (λ t. D ++ t) m.2 ∙ sym (append_assoc D m.0 (r ∷ m.1)) in (
        seam.0,
        ap (λ t. slice_get t seam.0) old ∙ seam.1,
        λ w. ap (λ t. D ++ t) (m.3 w) ∙ sym (append_assoc D m.0 ((r.0, (r.1.0, w)) ∷ m.1)) ∙ sym (seam.2 w)
            ∙ ap (λ t. set_at t seam.0 w) (sym old),
      )

  apart_value : (es : Elements V) (p : Slot) (r : Row V) (w : V) → Lies es p r → AreApart es
      → AreApart (with_value es p w)
  apart_value es (Dense k) r w lies a =
      let ps = es.dense.places.items in
      let same = sym (length-set ps k (Some (record { number = number_in (slice_get ps k); value = w }))) in
      record {
        few = subst (λ n. n ≤ most_places) same a.few;
        outside =
            subst (λ n. AllByRecursion (λ r. IsOutside n r.1.0) (mapped_rows es)) same a.outside;
      }
  apart_value es (Mapped i) r w lies a =
      let Q = λ (q : Row V). IsOutside (length es.dense.places.items) q.1.0 in
      let m = mapped_parts es i r lies in
      record {
        few = a.few;
        outside = subst (AllByRecursion Q) (sym (m.3 w))
            (all_valued (IsOutside (length es.dense.places.items)) m.0 m.1 r w (subst (AllByRecursion Q) m.2 a.outside));
      }

  count_value : (es : Elements V) (p : Slot) (w : V) → (with_value es p w).count ≡ es.count
  count_value es (Dense k) w = refl
  count_value es (Mapped i) w = refl

  module _ (es : Elements V) (p : Slot) (r : Row V) (key : List ℕ) (lies : Lies es p r) (hit : bytes_eq key r.1.0
      ≡ true) where
    pub value_there : IsDistinct bytes_eq (texts (rows_of es)) → element (shown (rows_of es)) key ≡ Some r.1.1
    value_there d =
        let m = placed es p r lies in lookup_shown key (rows_of es) d ∙ lookup_at (rows_of es) m.0 r key m.1 hit d

    value_rows : (w : V) → IsDistinct bytes_eq (texts (rows_of es)) → rows_of (with_value es p w) ≡ map (set_row key w)
        (rows_of es)
    value_rows w d = let m = placed es p r lies in m.2 w ∙ set_at_row (rows_of es) m.0 r key w m.1 hit d

    pub value_shown : (w : V) → IsDistinct bytes_eq (texts (rows_of es)) → shown (rows_of (with_value es p w))
        ≡ with_element (shown (rows_of es)) key w
    value_shown w d = ap shown (value_rows w d) ∙ shown_set (rows_of es) key w (ap is_some (value_there d))

    pub value_kept : (settled : Bool) (n : ℕ) (w : V) → AreKept settled n es → AreKept settled n (with_value es p w)
    value_kept settled n w a = record {
      apart = apart_value es p r w lies a.apart;
      numbered = subst (AreNumbered settled n) (sym (value_rows w a.numbered.keys))
          (set_numbered settled n (rows_of es) key w a.numbered);
      count = count_value es p w ∙ a.count ∙ sym (ap length (value_rows w a.numbered.keys) ∙ length-map (rows_of es)
          (set_row key w));
    }

  pub missing_element : (es : Elements V) (key : List ℕ) → IsDistinct bytes_eq (texts (rows_of es))
      → lookup (bytes_eq key) (map (λ r. r.1) (rows_of es)) ≡ None → element (shown (rows_of es)) key ≡ None
  missing_element es key d none = lookup_shown key (rows_of es) d ∙ none

  pub found_has : (es : Elements V) (key : List ℕ) (o : Option Slot) → IsDistinct bytes_eq (texts (rows_of es))
      → IfSome o (λ p. (r : Row V) × Lies es p r × (bytes_eq key r.1.0 ≡ true))
      → (o ≡ None → lookup (bytes_eq key) (map (λ r. r.1) (rows_of es)) ≡ None)
      → is_some o ≡ has (shown (rows_of es)) key
  found_has es key None d some none = sym (ap is_some (missing_element es key d (none refl)))
  found_has es key (Some p) d some none = sym (ap is_some (value_there es p some.0 key some.1 some.2 d))

  -- ---- a key that is added

  module _ (settled : Bool) (n : ℕ) (es fs : Elements V) (key : List ℕ) (v : V) (a : AreKept settled n es)
      (none : lookup (bytes_eq key) (map (λ r. r.1) (rows_of es)) ≡ None)
      (permuted : IsPermutation (rows_of es ++ (n, (key, v)) ∷ []) (rows_of fs)) where
    absent : element (shown (rows_of es)) key ≡ None
    absent = lookup_shown key (rows_of es) a.numbered.keys ∙ none

    pub added_kept : (is_last : Bool) (m : ℕ) → (is_last ≡ true → rows_of fs ≡ rows_of es ++ (n, (key, v)) ∷ [])
        → AreApart fs → fs.count ≡ es.count + 1 → m ≡ n + 1 → AreKept (settled && is_last) m fs
    added_kept is_last m last apart count next =
        let more = added settled n (rows_of es) key v a.numbered none in
        record {
          apart = apart;
          numbered = subst (λ k. AreNumbered (settled && is_last) k (rows_of fs)) (sym next)
              (moved settled (settled && is_last) (n + 1) (rows_of es ++ (n, (key, v)) ∷ []) (rows_of fs) more permuted
              (λ e. subst AreRising (sym (last (and_right settled is_last e)))
              (more.rising (and_left settled is_last e))));
          count = count ∙ ap (λ k. k + 1) a.count ∙ sym (length_permutation (rows_of es ++ (n, (key, v)) ∷ [])
              (rows_of fs) permuted ∙ one_more (rows_of es) (n, (key, v)));
        }

    pub added_shown : shown (rows_of fs) ≡ with_element (shown (rows_of es)) key v
    added_shown =
        shown_moved settled (n + 1) (rows_of es ++ (n, (key, v)) ∷ []) (rows_of fs)
        (added settled n (rows_of es) key v a.numbered none) permuted
        ∙ shown_added settled n (rows_of es) key v a.numbered none

    -- and another value is written there
    pub added_value : (p : Slot) (w : V) → Lies fs p (n, (key, v)) → IsDistinct bytes_eq (texts (rows_of fs))
        → shown (rows_of (with_value fs p w)) ≡ with_element (shown (rows_of es)) key w
    added_value p w lies d =
        let f = set_row key w in
        let x : Row V = (n, (key, v)) in
        let y : Row V = (n, (key, w)) in
        let hit = nat_list_eq_equiv.refl key in
        let first : f x ≡ y = ap (λ b. if b then y else x) hit in
        let others = set_none key w (rows_of es) (absent_rows key (rows_of es) none) in
        let before : map f (rows_of es ++ x ∷ []) ≡ rows_of es ++ y ∷ [] = map-append f (rows_of es) (x ∷ [])
        ∙ (λ i. others i ++ first i ∷ []) in
        let moves = subst (λ l. IsPermutation l (map f (rows_of fs))) before (IsPermutation-map f (rows_of es ++ x ∷ [])
        (rows_of fs) permuted) in
        ap shown (value_rows fs p x key lies hit w d)
        ∙ shown_moved settled (n + 1) (rows_of es ++ y ∷ []) (map f (rows_of fs))
        (added settled n (rows_of es) key w a.numbered none) moves
        ∙ shown_added settled n (rows_of es) key w a.numbered none

  -- ---- whether there is room

  pub count_shown : (settled : Bool) (n : ℕ) (es : Elements V) → AreKept settled n es
      → es.count ≡ length (shown (rows_of es))
  count_shown settled n es a = a.count ∙ sym (length_shown (rows_of es))

  pub room : (array : Array V) (key : List ℕ) (w : V) (n : ℕ) → n ≡ length array → nat_lt n most_elements ≡ true
      → put array key w ≡ Ok (with_element array key w)
  room array key w n is few = put_allowed array key w (or_true (has array key) (nat_lt (length array) most_elements)
      (ap (λ k. nat_lt k most_elements) (sym is) ∙ few))
    where
      or_true : (a b : Bool) → b ≡ true → (a || b) ≡ true
      or_true true b e = refl
      or_true false b e = e

  pub no_room : (array : Array V) (key : List ℕ) (w : V) (n : ℕ) → n ≡ length array → most_elements ≤ n
      → element array key ≡ None → put array key w ≡ Err TooManyElements
  no_room array key w n is many none =
      let full : nat_lt n most_elements ≡ false = grind (arith, nat_tests, many) in
      let absent = ap is_some none in
      let over = ap (λ k. nat_lt k most_elements) (sym is) ∙ full in
      put_refused array key w (λ i. absent i || over i)

  pub none_from : (es : Elements V) (key : List ℕ) (array : Array V) → IsDistinct bytes_eq (texts (rows_of es))
      → shown (rows_of es) ≡ array → element array key ≡ None → lookup (bytes_eq key) (map (λ r. r.1) (rows_of es))
      ≡ None
  none_from es key array d is none = sym (lookup_shown key (rows_of es) d) ∙ ap (λ l. element l key) is ∙ none

  -- ---- a key that goes

  pub some_count : (es : Elements V) (p : Slot) (r : Row V) → Lies es p r → es.count ≡ length (rows_of es)
      → 0 < es.count
  some_count es p r lies count =
      let m = placed es p r lies in let l = slice_get_within (rows_of es) m.0 r m.1 in omega (arith, count, l)

  pub removed_kept : (settled : Bool) (n : ℕ) (es fs : Elements V) (r : Row V) → AreKept settled n es
      → IsPermutation (rows_of es) (r ∷ rows_of fs) → AreApart fs → fs.count + 1 ≡ es.count
      → (AreRising (rows_of es) → AreRising (rows_of fs)) → AreKept settled n fs
  removed_kept settled n es fs r a permuted apart count rising = record {
    apart = apart;
    numbered = gone settled n (rows_of es) r (rows_of fs) a.numbered permuted rising;
    count =
        let fewer = length_permutation (rows_of es) (r ∷ rows_of fs) permuted in
        let whole = a.count in omega (arith, fewer, whole, count);
  }

  -- ---- an element of the dense part, or of the map, that goes

  without_row : (X Y A B : List (Row V)) (r : Row V) → X ≡ A ++ r ∷ B → Y ≡ A ++ B → IsPermutation X (r ∷ Y)
      × (AreRising X → AreRising Y)
  without_row X Y A B r before after = (
    subst (λ l. IsPermutation l (r ∷ Y)) (sym before) (subst (λ l. IsPermutation (A ++ r ∷ B) (r ∷ l)) (sym after)
        (IsPermutation-middle A r B)),
    λ rising. subst AreRising (sym after) (rising_without A B r (subst AreRising before rising)),
  )

  gone_dense : (es : Elements V) (k : ℕ) (r : Row V) → Lies es (Dense k) r
      → (A : List (Row V)) × (R : List (Row V)) × (rows_of es ≡ A ++ r ∷ R)
      × (dense_rows 0 (slice_set es.dense.places.items k None) ++ mapped_rows es ≡ A ++ R)
  gone_dense es k r lies =
      let ps = es.dense.places.items in
      let M = mapped_rows es in
      let x : Numbered V = record { number = r.0; value = r.1.1 } in
      let row : Row V = (r.0, (decimal k, r.1.1)) in
      let s = split 0 ps k k (omega arith) (slice_get_within ps k (Some x) lies.1) in
      let text = sym lies.0 in (
        s.0,
        s.1 ++ M,
        ap (λ t. t ++ M) (s.3 (Some x) lies.1) ∙ append_assoc s.0 (row ∷ s.1) M
            ∙ (λ i. s.0 ++ (r.0, (text i, r.1.1)) ∷ (s.1 ++ M)),
        ap (λ t. t ++ M) (s.2 None) ∙ append_assoc s.0 s.1 M,
      )

  -- ---- what the elements still are, part by part

  pub apart_from : (fs : Elements V) (n : ℕ) → length fs.dense.places.items ≡ n → n ≤ most_places
      → AllByRecursion (λ r. IsOutside n r.1.0) (mapped_rows fs) → AreApart fs
  apart_from fs n is few outside = record {
    few = subst (λ k. k ≤ most_places) (sym is) few;
    outside =
        subst (λ k. AllByRecursion (λ r. IsOutside k r.1.0) (mapped_rows fs)) (sym is) outside;
  }

  pub none_kept : (settled : Bool) (n : ℕ) (es : Elements V) → rows_of es ≡ [] → es.count ≡ 0 → AreApart es
      → AreKept settled n es
  none_kept settled n es none count apart = record {
    apart = apart;
    numbered = subst (AreNumbered settled n) (sym none) (none_numbered settled n);
    count = count ∙ sym (ap length none);
  }

  pub dense_gone : (es : Elements V) (k : ℕ) (r : Row V) (ps : List (Option (Numbered V))) → Lies es (Dense k) r
      → ps ≡ slice_set es.dense.places.items k None
      → IsPermutation (rows_of es) (r ∷ (dense_rows 0 ps ++ mapped_rows es))
      × (AreRising (rows_of es) → AreRising (dense_rows 0 ps ++ mapped_rows es))
  dense_gone es k r ps lies is =
      let g = gone_dense es k r lies in
      without_row (rows_of es) (dense_rows 0 ps ++ mapped_rows es) g.0 g.1 r g.2
      (ap (λ t. dense_rows 0 t ++ mapped_rows es) is ∙ g.3)

  pub mapped_gone : (es fs : Elements V) (i : ℕ) (r : Row V) → Lies es (Mapped i) r → fs.dense ≡ es.dense
      → mapped_rows fs ≡ rows (set_value_at es.map.entries i None)
      → IsPermutation (rows_of es) (r ∷ rows_of fs) × (AreRising (rows_of es) → AreRising (rows_of fs))
  mapped_gone es fs i r lies same is =
      let D = dense_rows 0 es.dense.places.items in
      let m = mapped_parts es i r lies in
      let now : rows_of fs ≡ (D ++ m.0) ++ m.1 = (λ j. dense_rows 0 (same j).places.items ++ (is ∙ m.4) j)
      ∙ sym (append_assoc D m.0 m.1) in
      without_row (rows_of es) (rows_of fs) (D ++ m.0) m.1 r (ap (λ t. D ++ t) m.2 ∙ sym (append_assoc D m.0 (r ∷ m.1)))
      now

  pub mapped_gone_apart : (es fs : Elements V) (i : ℕ) (r : Row V) → Lies es (Mapped i) r → fs.dense ≡ es.dense
      → mapped_rows fs ≡ rows (set_value_at es.map.entries i None) → AreApart es → AreApart fs
  mapped_gone_apart es fs i r lies same is a =
      let n = length es.dense.places.items in
      let m = mapped_parts es i r lies in
      apart_from fs n (ap (λ (d : d.Dense V). length d.places.items) same) a.few
      (subst (AllByRecursion (λ q. IsOutside n q.1.0)) (sym (is ∙ m.4)) (all_without (λ q. IsOutside n q.1.0) m.0 m.1 r
      (subst (AllByRecursion (λ q. IsOutside n q.1.0)) m.2 a.outside)))

  pub mapped_absent : (es : Elements V) (key : List ℕ) → lookup (bytes_eq key) (map (λ r. r.1) (rows_of es)) ≡ None
      → AllByRecursion (λ r. bytes_eq key r.1.0 ≡ false) (mapped_rows es)
  mapped_absent es key none = all_right (λ r. bytes_eq key r.1.0 ≡ false) (dense_rows 0 es.dense.places.items)
      (mapped_rows es) (absent_rows key (rows_of es) none)

  -- ---- a key that is put into the map

  module _ (es fs : Elements V) (x : Row V) (same : fs.dense ≡ es.dense) where
    mapped_added : IsPermutation (mapped_rows es ++ x ∷ []) (mapped_rows fs)
        → IsPermutation (rows_of es ++ x ∷ []) (rows_of fs)
    mapped_added more =
        let D = dense_rows 0 es.dense.places.items in
        let M = mapped_rows es in
        subst (λ l. IsPermutation l (rows_of fs)) (sym (append_assoc D M (x ∷ [])))
        (subst (λ (d : d.Dense V). IsPermutation (D ++ (M ++ x ∷ [])) (dense_rows 0 d.places.items ++ mapped_rows fs))
        (sym same) (IsPermutation-append_right D (M ++ x ∷ []) (mapped_rows fs) more))

    mapped_last : mapped_rows fs ≡ mapped_rows es ++ x ∷ [] → rows_of fs ≡ rows_of es ++ x ∷ []
    mapped_last more = (λ i. dense_rows 0 (same i).places.items ++ more i)
        ∙ sym (append_assoc (dense_rows 0 es.dense.places.items) (mapped_rows es) (x ∷ []))

    mapped_apart : IsPermutation (mapped_rows es ++ x ∷ []) (mapped_rows fs) → AreApart es
        → IsOutside (length es.dense.places.items) x.1.0 → AreApart fs
    mapped_apart more a o =
        let Q = λ (r : Row V). IsOutside (length es.dense.places.items) r.1.0 in
        apart_from fs (length es.dense.places.items) (ap (λ (d : d.Dense V). length d.places.items) same) a.few
        (all_permuted Q (mapped_rows es ++ x ∷ []) (mapped_rows fs) more
        (all_push Q (mapped_rows es) x a.outside o))

  module _ (es fs : Elements V) (key : List ℕ) (x : Numbered V)
      (none : lookup (bytes_eq key) (map (λ r. r.1) (rows_of es)) ≡ None) (same : fs.dense ≡ es.dense)
      (now : fs.map.entries ≡ insert_entry bytes_eq es.map.entries key (Some x)) where
    more_mapped : IsPermutation (mapped_rows es ++ (x.number, (key, x.value)) ∷ []) (mapped_rows fs)
    more_mapped = subst (λ l. IsPermutation (mapped_rows es ++ (x.number, (key, x.value)) ∷ []) (rows l)) (sym now)
        (inserted_rows key x es.map.entries (mapped_absent es key none))

    pub put_mapped : IsPermutation (rows_of es ++ (x.number, (key, x.value)) ∷ []) (rows_of fs)
    put_mapped = mapped_added es fs (x.number, (key, x.value)) same more_mapped

    pub put_apart : AreApart es → IsOutside (length es.dense.places.items) key → AreApart fs
    put_apart = mapped_apart es fs (x.number, (key, x.value)) same more_mapped

    module _ (i : ℕ) (at : i ≡ position_or_len (bytes_eq key) (keys_of es.map.entries)) where
      pub put_there : Lies fs (Mapped i) (x.number, (key, x.value))
      put_there = ap (λ l. slice_get l i) now ∙ inserted_there key x es.map.entries i at

      pub put_last : i + 1 ≡ length fs.map.entries → rows_of fs ≡ rows_of es ++ (x.number, (key, x.value)) ∷ []
      put_last last = mapped_last es fs (x.number, (key, x.value)) same
          (ap rows now ∙ inserted_last key x es.map.entries i (mapped_absent es key none) at (last ∙ ap length now))

  -- ---- a key that is put into the dense part

  empty_place : (es : Elements V) (k : ℕ) (o : Option (Numbered V))
      → lookup (bytes_eq (decimal k)) (map (λ r. r.1) (rows_of es)) ≡ None → slice_get es.dense.places.items k ≡ Some o
      → o ≡ None
  empty_place es k None none at = refl
  empty_place es k (Some x) none at =
      let m = placed es (Dense k) (x.number, (decimal k, x.value)) (refl, at) in
      let differs = at_place (λ r. bytes_eq (decimal k) r.1.0 ≡ false) (rows_of es) m.0 (x.number, (decimal k, x.value))
      m.1 (absent_rows (decimal k) (rows_of es) none) in
      absurd (true≢false (sym (nat_list_eq_equiv.refl (decimal k)) ∙ differs))

  pub dense_filled : (es : Elements V) (k number : ℕ) (value : V) (ps : List (Option (Numbered V)))
      → lookup (bytes_eq (decimal k)) (map (λ r. r.1) (rows_of es)) ≡ None → k < length es.dense.places.items
      → ps ≡ slice_set es.dense.places.items k (Some (record { number = number; value = value }))
      → IsPermutation (rows_of es ++ (number, (decimal k, value)) ∷ []) (dense_rows 0 ps ++ mapped_rows es)
      × (slice_get ps k ≡ Some (Some (record { number = number; value = value })))
      × (length ps ≡ length es.dense.places.items)
  dense_filled es k number value ps none within is =
      let old = es.dense.places.items in
      let M = mapped_rows es in
      let x : Row V = (number, (decimal k, value)) in
      let o : Option (Numbered V) = get_or old k None in
      let there = slice_get-get_or old k None within in
      let empty = empty_place es k o none there in
      let s = split 0 old k k (omega arith) within in
      let before : rows_of es ≡ s.0 ++ (s.1 ++ M) = ap (λ t. t ++ M) (s.3 None (there ∙ ap Some empty))
      ∙ append_assoc s.0 s.1 M in
      let after : dense_rows 0 ps ++ M ≡ s.0 ++ x ∷ (s.1 ++ M) = ap (λ t. dense_rows 0 t ++ M) is ∙ ap (λ t. t ++ M)
      (s.2 (Some (record { number = number; value = value }))) ∙ append_assoc s.0 (x ∷ s.1) M in (
        subst (λ l. IsPermutation (l ++ x ∷ []) (dense_rows 0 ps ++ M)) (sym before)
            (subst (IsPermutation ((s.0 ++ (s.1 ++ M)) ++ x ∷ [])) (sym after) (inserted s.0 (s.1 ++ M) x)),
        ap (λ l. slice_get l k) is ∙ set_there old k (Some (record { number = number; value = value })) within,
        ap length is ∙ length-set old k (Some (record { number = number; value = value })),
      )
    where
      set_there : (l : List (Option (Numbered V))) (i : ℕ) (y : Option (Numbered V)) → i < length l
          → slice_get (slice_set l i y) i ≡ Some y
      set_there [] i y l = let impossible : ⊥ = omega (arith, l) in absurd impossible
      set_there (z ∷ zs) zero y l = refl
      set_there (z ∷ zs) (suc i) y l = set_there zs i y (omega (arith, l))

  pub dense_pushed : (es : Elements V) (k number : ℕ) (value : V) (padded ps : List (Option (Numbered V)))
      → dense_rows 0 padded ≡ dense_rows 0 es.dense.places.items → length padded ≡ k
      → ps ≡ padded ++ Some (record { number = number; value = value }) ∷ []
      → IsPermutation (rows_of es ++ (number, (decimal k, value)) ∷ []) (dense_rows 0 ps ++ mapped_rows es)
      × (slice_get ps k ≡ Some (Some (record { number = number; value = value }))) × (length ps ≡ k + 1)
      × (mapped_rows es ≡ [] → dense_rows 0 ps ++ mapped_rows es ≡ rows_of es ++ (number, (decimal k, value)) ∷ [])
  dense_pushed es k number value padded ps same len is =
      let D = dense_rows 0 es.dense.places.items in
      let M = mapped_rows es in
      let x : Row V = (number, (decimal k, value)) in
      let y : Numbered V = record { number = number; value = value } in
      let after : dense_rows 0 ps ≡ D ++ x ∷ [] = ap (dense_rows 0) is ∙ dense_push 0 padded k y (omega (arith, len))
      ∙ ap (λ t. t ++ x ∷ []) same in (
        subst (IsPermutation ((D ++ M) ++ x ∷ [])) (sym (ap (λ t. t ++ M) after ∙ append_assoc D (x ∷ []) M))
            (inserted D M x),
        ap (λ l. slice_get l k) is ∙ at_end padded (Some y) k (sym len),
        ap length is ∙ one_more padded (Some y) ∙ ap (λ n. n + 1) len,
        λ none. (λ i. after i ++ none i) ∙ append-nil (D ++ x ∷ []) ∙ ap (λ t. t ++ x ∷ [])
            (sym (append-nil D) ∙ ap (λ t. D ++ t) (sym none)),
      )

  pub no_mapped : (es : Elements V) → length es.map.entries ≡ 0 → mapped_rows es ≡ []
  no_mapped es none = ap rows (no_items es.map.entries none)

  -- the keys of the map are no digits of the numbers of the places there are, once place k is the last
  pub outside_pushed : (es : Elements V) (k : ℕ) → AreApart es
      → lookup (bytes_eq (decimal k)) (map (λ r. r.1) (rows_of es)) ≡ None
      → ((length es.map.entries ≡ 0) ⊎ (k ≡ length es.dense.places.items))
      → AllByRecursion (λ r. IsOutside (k + 1) r.1.0) (mapped_rows es)
  outside_pushed es k a none (inl empty) = subst (AllByRecursion (λ r. IsOutside (k + 1) r.1.0))
      (sym (no_mapped es empty)) tt
  outside_pushed es k a none (inr next) =
      let len = length es.dense.places.items in
      let M = mapped_rows es in
      let absent = all_right (λ r. bytes_eq (decimal k) r.1.0 ≡ false) (dense_rows 0 es.dense.places.items) M
      (absent_rows (decimal k) (rows_of es) none) in
      all_weaker (λ r. IsOutside len r.1.0 × (bytes_eq (decimal k) r.1.0 ≡ false)) (λ r. IsOutside (k + 1) r.1.0)
      (λ r h. one r.1.0 h.0 h.1) M
      (all_both (λ r. IsOutside len r.1.0) (λ r. bytes_eq (decimal k) r.1.0 ≡ false) M a.outside absent)
    where
      one : (t : List ℕ) → IsOutside (length es.dense.places.items) t → bytes_eq (decimal k) t ≡ false
          → IsOutside (k + 1) t
      one t o other j l = ⊎_elim (λ below. o j (omega (arith, below, next))) (λ beyond. let same : j ≡ k =
          omega (arith, beyond, l) in ap (λ n. bytes_eq t (decimal n)) same ∙ nat_list_eq_equiv.symm t (decimal k)
          ∙ other) (cases_lt j k)

  -- and where places were only made
  pub outside_padded : (es : Elements V) (k n : ℕ) → AreApart es
      → ((length es.map.entries ≡ 0) ⊎ (k ≡ length es.dense.places.items)) → length es.dense.places.items ≤ n → n ≤ k
      → AllByRecursion (λ r. IsOutside n r.1.0) (mapped_rows es)
  outside_padded es k n a (inl empty) low high = subst (AllByRecursion (λ r. IsOutside n r.1.0))
      (sym (no_mapped es empty)) tt
  outside_padded es k n a (inr next) low high =
      let same : length es.dense.places.items ≡ n = omega (arith, next, low, high) in
      subst (λ m. AllByRecursion (λ r. IsOutside m r.1.0) (mapped_rows es)) same a.outside

  -- ---- the map in the order of its numbers

  module _ (es fs : Elements V) (permuted : IsPermutation (mapped_rows es) (mapped_rows fs))
      (same : fs.dense ≡ es.dense) where
    moves : IsPermutation (rows_of es) (rows_of fs)
    moves =
        subst (λ (d : d.Dense V). IsPermutation (rows_of es) (dense_rows 0 d.places.items ++ mapped_rows fs)) (sym same)
        (IsPermutation-append_right (dense_rows 0 es.dense.places.items) (mapped_rows es) (mapped_rows fs) permuted)

    pub moved_kept : (settled now : Bool) (n : ℕ) → AreKept settled n es → fs.count ≡ es.count
        → (now ≡ true → AreRising (rows_of fs)) → AreKept now n fs
    moved_kept settled now n a count rising = record {
      apart = apart_from fs (length es.dense.places.items) (ap (λ (d : d.Dense V). length d.places.items) same)
          a.apart.few
          (all_permuted (λ r. IsOutside (length es.dense.places.items) r.1.0) (mapped_rows es) (mapped_rows fs) permuted
          a.apart.outside);
      numbered = moved settled now n (rows_of es) (rows_of fs) a.numbered moves rising;
      count = count ∙ a.count ∙ sym (length_permutation (rows_of es) (rows_of fs) moves);
    }

    pub moved_shown : (settled : Bool) (n : ℕ) → AreKept settled n es → shown (rows_of fs) ≡ shown (rows_of es)
    moved_shown settled n a = shown_moved settled n (rows_of es) (rows_of fs) a.numbered moves

    pub moved_rising : (settled : Bool) (n : ℕ) → AreKept settled n es → length es.dense.places.items ≡ 0
        → (IsDistinct nat_eq (numbers (mapped_rows es)) → AreRising (mapped_rows fs)) → AreRising (rows_of fs)
    moved_rising settled n a none rising =
        let empty = no_dense es.dense.places.items none in
        let whole : rows_of fs ≡ mapped_rows fs = (λ i. dense_rows 0 (same i).places.items ++ mapped_rows fs)
        ∙ ap (λ l. l ++ mapped_rows fs) empty in
        let before : rows_of es ≡ mapped_rows es = ap (λ l. l ++ mapped_rows es) empty in
        subst AreRising (sym whole) (rising (subst (λ l. IsDistinct nat_eq (numbers l)) before a.numbered.distinct))
      where
        no_dense : (ps : List (Option (Numbered V))) → length ps ≡ 0 → dense_rows 0 ps ≡ []
        no_dense [] z = refl
        no_dense (p ∷ ps) z = let impossible : ⊥ = omega (arith, z) in absurd impossible

  -- ---- the last element that goes

  pub emptied : (settled : Bool) (n : ℕ) (es fs : Elements V) (r : Row V) → AreKept settled n es
      → IsPermutation (rows_of es) (r ∷ rows_of fs) → fs.count + 1 ≡ es.count → fs.count ≡ 0 → rows_of fs ≡ []
  emptied settled n es fs r a permuted count zero_now =
      let fewer = length_permutation (rows_of es) (r ∷ rows_of fs) permuted in
      let whole = a.count in
      no_items (rows_of fs) (omega (arith, fewer, whole, count, zero_now))
