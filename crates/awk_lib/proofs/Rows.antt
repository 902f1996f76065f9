-- What each call does to the rows of an array, and so to its list.
use Rattle.std.proofs.Common.{◌≡◌, ℕ, zero, suc, ◌+◌, ◌<◌, nat_lt, nat_eq, Bool, true, false, not, cond, if◌then◌else◌}
use Rattle.std.proofs.Common.{◌||◌, List, [], ◌∷◌, ◌++◌, map, length, slice_get, Option, None, Some, is_some, Ok, Err}
use Rattle.std.proofs.Common.{refl, sym, ap, ◌∙◌, subst, true≢false, arith, IsPermutation}
use Rattle.std.proofs.lemmas.Bool.Decides.{nat_tests}
use Rattle.std.proofs.lemmas.List.{map-append, length-map}
use Rattle.std.proofs.lemmas.List.Sorted.{length_permutation, IsPermutation-map}
use Rattle.std.proofs.lemmas.Map.{none_passes_from_lookup}
use Rattle.std.proofs.lemmas.Map.Keys.{IsDistinct-head, IsDistinct-tail, IsDistinct-IsPermutation}
use Rattle.std.proofs.lemmas.Slice.Eq.{bytes_eq-Decides}
use Rattle.std.specs.Cmp.Lexicographic.{nat_list_eq_equiv}
use Rattle.std.specs.List.{AllByRecursion, IsDistinct}
use Rattle.std.specs.Map.{lookup}
use Rattle.std.specs.Str.{bytes_eq}
use Rattle.awk_lib.specs.Arrays.{Array, element, has, put, with_element, without, most_elements}
use Rattle.awk_text.specs.declared.fault.Fault.TheVariants.{TooManyElements}
use Rattle.awk_lib.specs.Numbering.{into, in_order, numbers, texts, shown, AreNumbered, AreRising}
use Rattle.awk_lib.proofs.Order.{all_weaker, all_push, all_permuted, all_mapped, map_all, distinct_push}
use Rattle.awk_lib.proofs.Order.{in_order_permutes, in_order_push, rising_push, in_order_same, numbers_permuted}
use Rattle.awk_lib.proofs.Order.{numbers_map, in_order_map, below_map, rising_map}

pub none_of : {A : Type 0} (o : Option A) → is_some o ≡ false → o ≡ None
none_of None e = refl
none_of (Some x) e = absurd (true≢false e)

pub some_of : {A : Type 0} (o : Option A) → is_some o ≡ true → (x : A) × (o ≡ Some x)
some_of None e = absurd (true≢false (sym e))
some_of (Some x) e = (x, refl)

crossed : {A : Type 0} (a b : Bool) (x y z : A) → (a ≡ true → b ≡ false) → cond b y (cond a x z) ≡ cond a x (cond b y z)
crossed false b x y z h = refl
crossed true b x y z h = ap (λ c. cond c y x) (h refl)

abbrev pub Row : Type 0 → Type 0
Row V = ℕ × (List ℕ × V)

-- what holds of an array with no elements
pub none_numbered : {V : Type 0} (settled : Bool) (n : ℕ) → AreNumbered {V = V} settled n []
unfolding IsDistinct
none_numbered settled n = record { below = tt; distinct = tt; keys = tt; rising = λ e. tt }

abbrev unwrap_row : {X : Type 0} → X → Option X → X
unwrap_row d None = d
unwrap_row d (Some x) = x

pub at_place : {X : Type 0} (Q : X → Type 0) (xs : List X) (i : ℕ) (x : X) → slice_get xs i ≡ Some x
    → AllByRecursion Q xs → Q x
at_place Q [] i x at h = absurd (true≢false (sym (ap is_some at)))
at_place Q (y ∷ ys) zero x at h = subst Q (ap (λ o. unwrap_row y o) at) h.0
at_place Q (y ∷ ys) (suc i) x at h = at_place Q ys i x at h.1

-- ---- what `put` answers

pub put_allowed : {V : Type 0} (array : Array V) (key : List ℕ) (v : V)
    → (has array key || nat_lt (length array) most_elements) ≡ true → put array key v ≡ Ok (with_element array key v)
put_allowed array key v e = ap (λ b. if b then Ok (with_element array key v) else Err TooManyElements) e

pub put_refused : {V : Type 0} (array : Array V) (key : List ℕ) (v : V)
    → (has array key || nat_lt (length array) most_elements) ≡ false → put array key v ≡ Err TooManyElements
put_refused array key v e = ap (λ b. if b then Ok (with_element array key v) else Err TooManyElements) e

module _ {V : Type 0} where
  -- ---- how many there are

  pub length_shown : (rs : List (Row V)) → length (shown rs) ≡ length rs
  length_shown rs = length-map (in_order rs) (λ r. r.1) ∙ length_permutation rs (in_order rs) (in_order_permutes rs)

  -- ---- what a key has

  -- no other row has the key of the first
  alone : (key : List ℕ) (r : (Row V)) (rs : List (Row V)) → IsDistinct bytes_eq (texts (r ∷ rs))
      → bytes_eq key r.1.0 ≡ true → AllByRecursion (λ s. bytes_eq key s.1.0 ≡ false) rs
  alone key r rs d e =
      let same : key ≡ r.1.0 = (bytes_eq-Decides key r.1.0).0 e in
      all_mapped (λ (s : (Row V)). s.1.0) (λ t. bytes_eq key t ≡ false) rs
      (subst (λ k. AllByRecursion (λ t. bytes_eq k t ≡ false) (texts rs)) (sym same)
      (IsDistinct-head bytes_eq r.1.0 (texts rs) d))

  lookup_into : (key : List ℕ) (r : (Row V)) (rs : List (Row V))
      → (bytes_eq key r.1.0 ≡ true → AllByRecursion (λ s. bytes_eq key s.1.0 ≡ false) rs)
      → lookup (bytes_eq key) (map (λ s. s.1) (into r rs)) ≡ cond (bytes_eq key r.1.0) (Some r.1.1)
      (lookup (bytes_eq key) (map (λ s. s.1) rs))
  lookup_into key r [] h = refl
  lookup_into key r (s ∷ ss) h = by (nat_lt s.0 r.0) (lookup_into key r ss (λ e. (h e).1))
    where
      by : (b : Bool)
          → lookup (bytes_eq key) (map (λ s. s.1) (into r ss)) ≡ cond (bytes_eq key r.1.0) (Some r.1.1)
          (lookup (bytes_eq key) (map (λ s. s.1) ss))
          → lookup (bytes_eq key) (map (λ s. s.1) (if b then s ∷ into r ss else r ∷ s ∷ ss))
          ≡ cond (bytes_eq key r.1.0) (Some r.1.1) (cond (bytes_eq key s.1.0) (Some s.1.1)
          (lookup (bytes_eq key) (map (λ s. s.1) ss)))
      by true rest =
          ap (cond (bytes_eq key s.1.0) (Some s.1.1)) rest
          ∙ crossed (bytes_eq key r.1.0) (bytes_eq key s.1.0) (Some r.1.1) (Some s.1.1)
          (lookup (bytes_eq key) (map (λ s. s.1) ss)) (λ e. (h e).0)
      by false rest = refl

  pub lookup_shown : (key : List ℕ) (rs : List (Row V)) → IsDistinct bytes_eq (texts rs)
      → element (shown rs) key ≡ lookup (bytes_eq key) (map (λ r. r.1) rs)
  lookup_shown key [] d = refl
  lookup_shown key (r ∷ rs) d =
      lookup_into key r (in_order rs) (λ e. all_permuted (λ s. bytes_eq key s.1.0 ≡ false) rs (in_order rs)
      (in_order_permutes rs) (alone key r rs d e))
      ∙ ap (cond (bytes_eq key r.1.0) (Some r.1.1)) (lookup_shown key rs (IsDistinct-tail bytes_eq r.1.0 (texts rs) d))

  pub absent_rows : (key : List ℕ) (rs : List (Row V)) → lookup (bytes_eq key) (map (λ r. r.1) rs) ≡ None
      → AllByRecursion (λ r. bytes_eq key r.1.0 ≡ false) rs
  absent_rows key rs none =
      all_mapped (λ (r : (Row V)). r.1) (λ p. bytes_eq key p.0 ≡ false) rs (none_passes_from_lookup (bytes_eq key)
      (map (λ r. r.1) rs) none)

  pub texts_permuted : (rs ss : List (Row V)) → IsPermutation rs ss → IsDistinct bytes_eq (texts rs)
      → IsDistinct bytes_eq (texts ss)
  texts_permuted rs ss p d = IsDistinct-IsPermutation bytes_eq nat_list_eq_equiv.symm (texts rs) (texts ss)
      (IsPermutation-map (λ r. r.1.0) rs ss p) d

  -- ---- a new key

  -- once the row of a new key is there
  pub added : (settled : Bool) (n : ℕ) (rs : List (Row V)) (key : List ℕ) (v : V) → AreNumbered settled n rs
      → lookup (bytes_eq key) (map (λ r. r.1) rs) ≡ None → AreNumbered settled (n + 1) (rs ++ (n, (key, v)) ∷ [])
  added settled n rs key v a none =
      let x : (Row V) = (n, (key, v)) in
      record {
        below = all_push (λ r. r.0 < n + 1) rs x (all_weaker (λ r. r.0 < n) (λ r. r.0 < n + 1) (λ r l. omega (arith, l))
            rs a.below) (omega arith);
        distinct = subst (IsDistinct nat_eq) (sym (map-append (λ (r : (Row V)). r.0) rs (x ∷ [])))
            (distinct_push nat_eq (numbers rs) n (map_all (λ (r : (Row V)). r.0) (λ m. nat_eq m n ≡ false) rs
            (all_weaker (λ r. r.0 < n) (λ r. nat_eq r.0 n ≡ false) (λ r l. grind (arith, nat_tests, l)) rs a.below))
            a.distinct);
        keys = subst (IsDistinct bytes_eq) (sym (map-append (λ (r : (Row V)). r.1.0) rs (x ∷ [])))
            (distinct_push bytes_eq (texts rs) key
            (map_all (λ (r : (Row V)). r.1.0) (λ t. bytes_eq t key ≡ false) rs
            (all_weaker (λ r. bytes_eq key r.1.0 ≡ false) (λ r. bytes_eq r.1.0 key ≡ false)
            (λ r o. nat_list_eq_equiv.symm r.1.0 key ∙ o) rs (absent_rows key rs none)))
            a.keys);
        rising = λ e. rising_push rs x a.below (a.rising e);
      }

  pub shown_added : (settled : Bool) (n : ℕ) (rs : List (Row V)) (key : List ℕ) (v : V) → AreNumbered settled n rs
      → lookup (bytes_eq key) (map (λ r. r.1) rs) ≡ None
      → shown (rs ++ (n, (key, v)) ∷ []) ≡ with_element (shown rs) key v
  shown_added settled n rs key v a none =
      let x : (Row V) = (n, (key, v)) in
      let absent : has (shown rs) key ≡ false = ap is_some (lookup_shown key rs a.keys ∙ none) in
      ap (map (λ r. r.1)) (in_order_push rs x a.below) ∙ map-append (λ (r : (Row V)). r.1) (in_order rs) (x ∷ [])
      ∙ sym (ap (λ b. if b then map (λ p. if bytes_eq key p.0 then (p.0, v) else p) (shown rs) else shown rs
      ++ (key, v) ∷ []) absent)

  -- ---- a key that is there

  abbrev pub set_row : List ℕ → V → (Row V) → (Row V)
  set_row key v r = if bytes_eq key r.1.0 then (r.0, (r.1.0, v)) else r

  keeps_number : (key : List ℕ) (v : V) (r : (Row V)) → (set_row key v r).0 ≡ r.0
  keeps_number key v r = by (bytes_eq key r.1.0)
    where
      by : (b : Bool) → (if b then (r.0, (r.1.0, v)) else r).0 ≡ r.0
      by true = refl
      by false = refl

  keeps_text : (key : List ℕ) (v : V) (r : (Row V)) → (set_row key v r).1.0 ≡ r.1.0
  keeps_text key v r = by (bytes_eq key r.1.0)
    where
      by : (b : Bool) → (if b then (r.0, (r.1.0, v)) else r).1.0 ≡ r.1.0
      by true = refl
      by false = refl

  texts_set : (key : List ℕ) (v : V) (rs : List (Row V)) → texts (map (set_row key v) rs) ≡ texts rs
  texts_set key v [] = refl
  texts_set key v (r ∷ rs) = let rest = texts_set key v rs in λ i. keeps_text key v r i ∷ rest i

  pairs_set : (key : List ℕ) (v : V) (rs : List (Row V)) → map (λ r. r.1) (map (set_row key v) rs)
      ≡ map (λ p. if bytes_eq key p.0 then (p.0, v) else p) (map (λ r. r.1) rs)
  pairs_set key v [] = refl
  pairs_set key v (r ∷ rs) = let rest = pairs_set key v rs in λ i. by (bytes_eq key r.1.0) i ∷ rest i
    where
      by : (b : Bool) → (if b then (r.0, (r.1.0, v)) else r).1 ≡ (if b then (r.1.0, v) else r.1)
      by true = refl
      by false = refl

  pub set_numbered : (settled : Bool) (n : ℕ) (rs : List (Row V)) (key : List ℕ) (v : V) → AreNumbered settled n rs
      → AreNumbered settled n (map (set_row key v) rs)
  set_numbered settled n rs key v a = record {
    below = below_map (set_row key v) (keeps_number key v) (λ m. m < n) rs a.below;
    distinct = subst (IsDistinct nat_eq) (sym (numbers_map (set_row key v) (keeps_number key v) rs)) a.distinct;
    keys = subst (IsDistinct bytes_eq) (sym (texts_set key v rs)) a.keys;
    rising = λ e. rising_map (set_row key v) (keeps_number key v) rs (a.rising e);
  }

  pub shown_set : (rs : List (Row V)) (key : List ℕ) (v : V) → has (shown rs) key ≡ true
      → shown (map (set_row key v) rs) ≡ with_element (shown rs) key v
  shown_set rs key v there =
      ap (map (λ r. r.1)) (in_order_map (set_row key v) (keeps_number key v) rs) ∙ pairs_set key v (in_order rs)
      ∙ sym (ap (λ b. if b then map (λ p. if bytes_eq key p.0 then (p.0, v) else p) (shown rs) else shown rs
      ++ (key, v) ∷ []) there)

  pub set_none : (key : List ℕ) (v : V) (rs : List (Row V)) → AllByRecursion (λ r. bytes_eq key r.1.0 ≡ false) rs
      → map (set_row key v) rs ≡ rs
  set_none key v [] h = refl
  set_none key v (r ∷ rs) h =
      let first : set_row key v r ≡ r = ap (λ b. if b then (r.0, (r.1.0, v)) else r) h.0 in
      let rest = set_none key v rs h.1 in
      λ i. first i ∷ rest i

  pairs_none : (key : List ℕ) (v : V) (rs : List (Row V)) → AllByRecursion (λ r. bytes_eq key r.1.0 ≡ false) rs
      → map (λ p. if bytes_eq key p.0 then (p.0, v) else p) (map (λ r. r.1) rs) ≡ map (λ r. r.1) rs
  pairs_none key v rs h = sym (pairs_set key v rs) ∙ ap (map (λ r. r.1)) (set_none key v rs h)

  pairs_same : (key : List ℕ) (v : V) (rs : List (Row V)) → IsDistinct bytes_eq (texts rs)
      → lookup (bytes_eq key) (map (λ r. r.1) rs) ≡ Some v
      → map (λ p. if bytes_eq key p.0 then (p.0, v) else p) (map (λ r. r.1) rs) ≡ map (λ r. r.1) rs
  pairs_same key v [] d at = refl
  pairs_same key v (r ∷ rs) d at =
      by (bytes_eq key r.1.0) at (λ e. pairs_none key v rs (alone key r rs d e))
      (pairs_same key v rs (IsDistinct-tail bytes_eq r.1.0 (texts rs) d))
    where
      by : (b : Bool) → cond b (Some r.1.1) (lookup (bytes_eq key) (map (λ r. r.1) rs)) ≡ Some v
          → (b ≡ true → map (λ p. if bytes_eq key p.0 then (p.0, v) else p) (map (λ r. r.1) rs) ≡ map (λ r. r.1) rs)
          → (lookup (bytes_eq key) (map (λ r. r.1) rs) ≡ Some v → map (λ p. if bytes_eq key p.0 then (p.0, v) else p)
          (map (λ r. r.1) rs) ≡ map (λ r. r.1) rs)
          → (if b then (r.1.0, v) else r.1) ∷ map (λ p. if bytes_eq key p.0 then (p.0, v) else p) (map (λ r. r.1) rs)
          ≡ r.1 ∷ map (λ r. r.1) rs
      by true at none rest =
          let value : v ≡ r.1.1 = sym (ap (λ o. unwrap_row v o) at) in
          let others = none refl in
          λ i. (r.1.0, value i) ∷ others i
      by false at none rest = ap (λ l. r.1 ∷ l) (rest at)

  -- writing the value that is there changes nothing
  pub same_shown : (rs : List (Row V)) (key : List ℕ) (v : V) → IsDistinct bytes_eq (texts rs)
      → element (shown rs) key ≡ Some v → with_element (shown rs) key v ≡ shown rs
  same_shown rs key v d at =
      ap (λ b. if b then map (λ p. if bytes_eq key p.0 then (p.0, v) else p) (shown rs) else shown rs ++ (key, v) ∷ [])
      (ap is_some at)
      ∙ pairs_same key v (in_order rs) (texts_permuted rs (in_order rs) (in_order_permutes rs) d) at

  -- the rows with another value at the place
  abbrev pub set_at : List (Row V) → ℕ → V → List (Row V)
  set_at [] i v = []
  set_at (r ∷ rs) zero v = (r.0, (r.1.0, v)) ∷ rs
  set_at (r ∷ rs) (suc i) v = r ∷ set_at rs i v

  pub set_at_row : (rs : List (Row V)) (i : ℕ) (r : (Row V)) (key : List ℕ) (v : V) → slice_get rs i ≡ Some r
      → bytes_eq key r.1.0 ≡ true → IsDistinct bytes_eq (texts rs) → set_at rs i v ≡ map (set_row key v) rs
  set_at_row [] i r key v at e d = absurd (true≢false (sym (ap is_some at)))
  set_at_row (s ∷ ss) zero r key v at e d =
      let same : s ≡ r = ap (λ o. unwrap_row s o) at in
      let hit : bytes_eq key s.1.0 ≡ true = ap (λ (x : (Row V)). bytes_eq key x.1.0) same ∙ e in
      let first : (s.0, (s.1.0, v)) ≡ set_row key v s = sym (ap (λ b. if b then (s.0, (s.1.0, v)) else s) hit) in
      let rest = sym (set_none key v ss (alone key s ss d hit)) in
      λ i. first i ∷ rest i
  set_at_row (s ∷ ss) (suc i) r key v at e d =
      let later = at_place (λ t. bytes_eq s.1.0 t.1.0 ≡ false) ss i r at (all_mapped (λ (t : (Row V)). t.1.0)
      (λ t. bytes_eq s.1.0 t ≡ false) ss (IsDistinct-head bytes_eq s.1.0 (texts ss) d)) in
      let same : key ≡ r.1.0 = (bytes_eq-Decides key r.1.0).0 e in
      let miss : bytes_eq key s.1.0 ≡ false = ap (λ t. bytes_eq t s.1.0) same ∙ nat_list_eq_equiv.symm r.1.0 s.1.0
      ∙ later in
      let first : s ≡ set_row key v s = sym (ap (λ b. if b then (s.0, (s.1.0, v)) else s) miss) in
      let rest = set_at_row ss i r key v at e (IsDistinct-tail bytes_eq s.1.0 (texts ss) d) in
      λ i. first i ∷ rest i

  pub lookup_at : (rs : List (Row V)) (i : ℕ) (r : (Row V)) (key : List ℕ) → slice_get rs i ≡ Some r
      → bytes_eq key r.1.0 ≡ true → IsDistinct bytes_eq (texts rs) → lookup (bytes_eq key) (map (λ r. r.1) rs)
      ≡ Some r.1.1
  lookup_at [] i r key at e d = absurd (true≢false (sym (ap is_some at)))
  lookup_at (s ∷ ss) zero r key at e d =
      let same : s ≡ r = ap (λ o. unwrap_row s o) at in
      let hit : bytes_eq key s.1.0 ≡ true = ap (λ (x : (Row V)). bytes_eq key x.1.0) same ∙ e in
      ap (λ b. cond b (Some s.1.1) (lookup (bytes_eq key) (map (λ r. r.1) ss))) hit ∙ ap (λ (x : (Row V)). Some x.1.1)
      same
  lookup_at (s ∷ ss) (suc i) r key at e d =
      let later = at_place (λ t. bytes_eq s.1.0 t.1.0 ≡ false) ss i r at (all_mapped (λ (t : (Row V)). t.1.0)
      (λ t. bytes_eq s.1.0 t ≡ false) ss (IsDistinct-head bytes_eq s.1.0 (texts ss) d)) in
      let same : key ≡ r.1.0 = (bytes_eq-Decides key r.1.0).0 e in
      let miss : bytes_eq key s.1.0 ≡ false = ap (λ t. bytes_eq t s.1.0) same ∙ nat_list_eq_equiv.symm r.1.0 s.1.0
      ∙ later in
      ap (λ b. cond b (Some s.1.1) (lookup (bytes_eq key) (map (λ r. r.1) ss))) miss ∙ lookup_at ss i r key at e
      (IsDistinct-tail bytes_eq s.1.0 (texts ss) d)

  -- ---- a key that goes

  filter_none : (key : List ℕ) (ps : Array V) → AllByRecursion (λ p. bytes_eq key p.0 ≡ false) ps → without ps key ≡ ps
  filter_none key [] h = refl
  filter_none key (p ∷ ps) h =
      ap (λ b. cond (not b) (p ∷ without ps key) (without ps key)) h.0 ∙ ap (λ l. p ∷ l) (filter_none key ps h.1)

  pub none_without : (key : List ℕ) (ps : Array V) → element ps key ≡ None → without ps key ≡ ps
  none_without key ps none = filter_none key ps (none_passes_from_lookup (bytes_eq key) ps none)

  without_into : (key : List ℕ) (r : (Row V)) (rs : List (Row V)) → bytes_eq key r.1.0 ≡ true
      → AllByRecursion (λ s. bytes_eq key s.1.0 ≡ false) rs → without (map (λ s. s.1) (into r rs)) key
      ≡ map (λ s. s.1) rs
  without_into key r [] e h = ap (λ b. cond (not b) (r.1 ∷ []) []) e
  without_into key r (s ∷ ss) e h = by (nat_lt s.0 r.0) (without_into key r ss e h.1)
    where
      all : without (map (λ s. s.1) (s ∷ ss)) key ≡ map (λ s. s.1) (s ∷ ss)
      all = filter_none key (map (λ s. s.1) (s ∷ ss)) (map_all (λ (s : (Row V)). s.1) (λ p. bytes_eq key p.0 ≡ false)
          (s ∷ ss) h)

      by : (b : Bool) → without (map (λ s. s.1) (into r ss)) key ≡ map (λ s. s.1) ss
          → without (map (λ s. s.1) (if b then s ∷ into r ss else r ∷ s ∷ ss)) key ≡ map (λ s. s.1) (s ∷ ss)
      by true rest = ap (λ b. cond (not b) (s.1 ∷ without (map (λ s. s.1) (into r ss)) key)
          (without (map (λ s. s.1) (into r ss)) key)) h.0 ∙ ap (λ l. s.1 ∷ l) rest
      by false rest = ap (λ b. cond (not b) (r.1 ∷ without (map (λ s. s.1) (s ∷ ss)) key)
          (without (map (λ s. s.1) (s ∷ ss)) key)) e ∙ all

  pub shown_gone : (settled : Bool) (n : ℕ) (rs : List (Row V)) (r : (Row V)) (ss : List (Row V)) (key : List ℕ)
      → AreNumbered settled n rs → IsPermutation rs (r ∷ ss) → bytes_eq key r.1.0 ≡ true
      → shown ss ≡ without (shown rs) key
  shown_gone settled n rs r ss key a p e =
      let others = alone key r ss (texts_permuted rs (r ∷ ss) p a.keys) e in
      sym (ap (λ l. without (map (λ s. s.1) l) key) (in_order_same rs (r ∷ ss) p a.distinct)
      ∙ without_into key r (in_order ss) e (all_permuted (λ s. bytes_eq key s.1.0 ≡ false) ss (in_order ss)
      (in_order_permutes ss) others))

  pub gone : (settled : Bool) (n : ℕ) (rs : List (Row V)) (r : (Row V)) (ss : List (Row V)) → AreNumbered settled n rs
      → IsPermutation rs (r ∷ ss) → (AreRising rs → AreRising ss) → AreNumbered settled n ss
  gone settled n rs r ss a p rising = record {
    below = (all_permuted (λ r. r.0 < n) rs (r ∷ ss) p a.below).1;
    distinct = IsDistinct-tail nat_eq r.0 (numbers ss) (numbers_permuted rs (r ∷ ss) p a.distinct);
    keys = IsDistinct-tail bytes_eq r.1.0 (texts ss) (texts_permuted rs (r ∷ ss) p a.keys);
    rising = λ e. rising (a.rising e);
  }

  -- ---- the order of the numbers

  pub moved : (settled now : Bool) (n : ℕ) (rs ss : List (Row V)) → AreNumbered settled n rs → IsPermutation rs ss
      → (now ≡ true → AreRising ss) → AreNumbered now n ss
  moved settled now n rs ss a p rising = record {
    below = all_permuted (λ r. r.0 < n) rs ss p a.below;
    distinct = numbers_permuted rs ss p a.distinct;
    keys = texts_permuted rs ss p a.keys;
    rising = rising;
  }

  pub shown_moved : (settled : Bool) (n : ℕ) (rs ss : List (Row V)) → AreNumbered settled n rs → IsPermutation rs ss
      → shown ss ≡ shown rs
  shown_moved settled n rs ss a p = ap (map (λ r. r.1)) (sym (in_order_same rs ss p a.distinct))
