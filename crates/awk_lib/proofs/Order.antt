-- Rows in the order of their numbers: what putting them in order keeps, and that there is one such order.
use Rattle.std.proofs.Common.{◌≡◌, ℕ, suc, ◌<◌, ◌≤◌, nat_lt, nat_eq, Bool, true, false, if◌then◌else◌, List, [], ◌∷◌}
use Rattle.std.proofs.Common.{◌++◌, map, refl, sym, ap, ◌∙◌, subst, ◌⊎◌, inl, inr, arith, IsPermutation}
use Rattle.std.proofs.lemmas.Bool.Decides.{nat_tests}
use Rattle.std.proofs.lemmas.Cmp.{nat_eq_equiv}
use Rattle.std.proofs.lemmas.List.Elements.{All-from_recursion, recursion_from_All}
use Rattle.std.proofs.lemmas.List.Sorted.{IsPermutation-refl, IsPermutation-sym, IsPermutation-trans}
use Rattle.std.proofs.lemmas.List.Sorted.{IsPermutation-cons, IsPermutation-middle, IsPermutation-map, All-permutation}
use Rattle.std.proofs.lemmas.Map.Keys.{IsDistinct-head, IsDistinct-tail, IsDistinct-cons, IsDistinct-IsPermutation}
use Rattle.std.specs.List.{AllByRecursion, IsDistinct}
use Rattle.std.specs.List.Sorted.{IsNonDecreasingBy}
use Rattle.awk_lib.specs.Numbering.{into, in_order, numbers, AreRising}

-- ---- what holds of each item

module _ {X : Type 0} where
  pub all_weaker : (Q R : X → Type 0) → ((x : X) → Q x → R x) → (xs : List X) → AllByRecursion Q xs
      → AllByRecursion R xs
  all_weaker Q R f [] h = tt
  all_weaker Q R f (x ∷ xs) h = (f x h.0, all_weaker Q R f xs h.1)

  pub all_both : (Q R : X → Type 0) (xs : List X) → AllByRecursion Q xs → AllByRecursion R xs
      → AllByRecursion (λ x. Q x × R x) xs
  all_both Q R [] h k = tt
  all_both Q R (x ∷ xs) h k = ((h.0, k.0), all_both Q R xs h.1 k.1)

  pub all_push : (Q : X → Type 0) (xs : List X) (y : X) → AllByRecursion Q xs → Q y → AllByRecursion Q (xs ++ y ∷ [])
  all_push Q [] y h q = (q, tt)
  all_push Q (x ∷ xs) y h q = (h.0, all_push Q xs y h.1 q)

  pub all_permuted : (Q : X → Type 0) (xs ys : List X) → IsPermutation xs ys → AllByRecursion Q xs → AllByRecursion Q ys
  all_permuted Q xs ys p h = recursion_from_All Q ys (All-permutation Q xs ys p (All-from_recursion Q xs h))

  pub distinct_push : (e : X → X → Bool) (xs : List X) (y : X) → AllByRecursion (λ x. e x y ≡ false) xs
      → IsDistinct e xs → IsDistinct e (xs ++ y ∷ [])
  distinct_push e [] y h d = IsDistinct-cons e y [] tt d
  distinct_push e (x ∷ xs) y h d =
      IsDistinct-cons e x (xs ++ y ∷ []) (all_push (λ z. e x z ≡ false) xs y (IsDistinct-head e x xs d) h.0)
      (distinct_push e xs y h.1 (IsDistinct-tail e x xs d))

  -- z is an item
  pub Among : X → List X → Type 0
  Among z [] = ⊥
  Among z (x ∷ xs) = (z ≡ x) ⊎ Among z xs

  among : (Q : X → Type 0) (z : X) (xs : List X) → AllByRecursion Q xs → Among z xs → Q z
  unfolding Among
  among Q z [] h m = absurd m
  among Q z (x ∷ xs) h (inl e) = subst Q (sym e) h.0
  among Q z (x ∷ xs) h (inr m) = among Q z xs h.1 m

  all_among : (xs : List X) → AllByRecursion (λ z. Among z xs) xs
  unfolding Among
  all_among [] = tt
  all_among (x ∷ xs) = (inl refl, all_weaker (λ z. Among z xs) (λ z. Among z (x ∷ xs)) (λ z m. inr m) xs (all_among xs))

module _ {X Y : Type 0} (f : X → Y) (Q : Y → Type 0) where
  pub all_mapped : (xs : List X) → AllByRecursion Q (map f xs) → AllByRecursion (λ x. Q (f x)) xs
  all_mapped [] h = tt
  all_mapped (x ∷ xs) h = (h.0, all_mapped xs h.1)

  pub map_all : (xs : List X) → AllByRecursion (λ x. Q (f x)) xs → AllByRecursion Q (map f xs)
  map_all [] h = tt
  map_all (x ∷ xs) h = (h.0, map_all xs h.1)

-- ---- one more row

module _ {P : Type 0} where
  pub all_into : (Q : ℕ × P → Type 0) (r : ℕ × P) (rs : List (ℕ × P)) → Q r → AllByRecursion Q rs
      → AllByRecursion Q (into r rs)
  all_into Q r [] q h = (q, tt)
  all_into Q r (s ∷ ss) q h = by (nat_lt s.0 r.0) (all_into Q r ss q h.1)
    where
      by : (b : Bool) → AllByRecursion Q (into r ss) → AllByRecursion Q (if b then s ∷ into r ss else r ∷ s ∷ ss)
      by true rest = (h.0, rest)
      by false rest = (q, h)

  into_permutes : (r : ℕ × P) (rs : List (ℕ × P)) → IsPermutation (r ∷ rs) (into r rs)
  into_permutes r [] = IsPermutation-refl (r ∷ [])
  into_permutes r (s ∷ ss) = by (nat_lt s.0 r.0) (into_permutes r ss)
    where
      by : (b : Bool) → IsPermutation (r ∷ ss) (into r ss)
          → IsPermutation (r ∷ s ∷ ss) (if b then s ∷ into r ss else r ∷ s ∷ ss)
      by true rest = IsPermutation-trans (r ∷ s ∷ ss) (s ∷ r ∷ ss) (s ∷ into r ss) (IsPermutation-middle (r ∷ []) s ss)
          (IsPermutation-cons s (r ∷ ss) (into r ss) rest)
      by false rest = IsPermutation-refl (r ∷ s ∷ ss)

  pub in_order_permutes : (rs : List (ℕ × P)) → IsPermutation rs (in_order rs)
  in_order_permutes [] = IsPermutation-refl []
  in_order_permutes (r ∷ rs) =
      IsPermutation-trans (r ∷ rs) (r ∷ in_order rs) (into r (in_order rs)) (IsPermutation-cons r rs (in_order rs)
      (in_order_permutes rs)) (into_permutes r (in_order rs))

  into_push : (r : ℕ × P) (ys : List (ℕ × P)) (x : ℕ × P) → r.0 < x.0 → into r (ys ++ x ∷ []) ≡ into r ys ++ x ∷ []
  into_push r [] x l =
      let e : nat_lt x.0 r.0 ≡ false = grind (arith, nat_tests) in ap (λ b. if b then x ∷ r ∷ [] else r ∷ x ∷ []) e
  into_push r (s ∷ ss) x l = by (nat_lt s.0 r.0) (into_push r ss x l)
    where
      by : (b : Bool) → into r (ss ++ x ∷ []) ≡ into r ss ++ x ∷ []
          → (if b then s ∷ into r (ss ++ x ∷ []) else r ∷ s ∷ (ss ++ x ∷ []))
          ≡ (if b then s ∷ into r ss else r ∷ s ∷ ss) ++ x ∷ []
      by true rest = ap (λ l. s ∷ l) rest
      by false rest = refl

  -- a row with the greatest number comes last
  pub in_order_push : (rs : List (ℕ × P)) (x : ℕ × P) → AllByRecursion (λ r. r.0 < x.0) rs
      → in_order (rs ++ x ∷ []) ≡ in_order rs ++ x ∷ []
  in_order_push [] x h = refl
  in_order_push (r ∷ rs) x h = ap (into r) (in_order_push rs x h.1) ∙ into_push r (in_order rs) x h.0

  pub rising_push : (rs : List (ℕ × P)) (x : ℕ × P) → AllByRecursion (λ r. r.0 < x.0) rs → AreRising rs
      → AreRising (rs ++ x ∷ [])
  rising_push [] x h a = (tt, tt)
  rising_push (r ∷ rs) x h a = (all_push (λ s. r.0 < s.0) rs x a.0 h.0, rising_push rs x h.1 a.1)

  -- ---- rows whose numbers rise

  into_first : (r : ℕ × P) (rs : List (ℕ × P)) → AllByRecursion (λ s. r.0 < s.0) rs → into r rs ≡ r ∷ rs
  into_first r [] h = refl
  into_first r (s ∷ ss) h =
      let l = h.0 in
      let e : nat_lt s.0 r.0 ≡ false = grind (arith, nat_tests, l) in
      ap (λ b. if b then s ∷ into r ss else r ∷ s ∷ ss) e

  pub in_order_rising : (rs : List (ℕ × P)) → AreRising rs → in_order rs ≡ rs
  in_order_rising [] h = refl
  in_order_rising (r ∷ rs) h = ap (into r) (in_order_rising rs h.1) ∙ into_first r rs h.0

  rising_into : (r : ℕ × P) (rs : List (ℕ × P)) → AllByRecursion (λ s. nat_eq r.0 s.0 ≡ false) rs → AreRising rs
      → AreRising (into r rs)
  rising_into r [] d h = (tt, tt)
  rising_into r (s ∷ ss) d h = by (nat_lt s.0 r.0) refl (rising_into r ss d.1 h.1)
    where
      by : (b : Bool) → nat_lt s.0 r.0 ≡ b → AreRising (into r ss) → AreRising (if b then s ∷ into r ss else r ∷ s ∷ ss)
      by true e rest = let l : s.0 < r.0 = grind (arith, nat_tests, e) in (all_into (λ t. s.0 < t.0) r ss l h.0, rest)
      by false e rest =
          let other = d.0 in
          let l : r.0 < s.0 = grind (arith, nat_tests, e, other) in
          ((l, all_weaker (λ t. s.0 < t.0) (λ t. r.0 < t.0) (λ t m. omega (arith, l, m)) ss h.0), h)

  pub rising_in_order : (rs : List (ℕ × P)) → IsDistinct nat_eq (numbers rs) → AreRising (in_order rs)
  rising_in_order [] d = tt
  rising_in_order (r ∷ rs) d =
      let apart = all_mapped (λ (s : ℕ × P). s.0) (λ n. nat_eq r.0 n ≡ false) rs
      (IsDistinct-head nat_eq r.0 (numbers rs) d) in
      rising_into r (in_order rs) (all_permuted (λ s. nat_eq r.0 s.0 ≡ false) rs (in_order rs) (in_order_permutes rs)
      apart)
      (rising_in_order rs (IsDistinct-tail nat_eq r.0 (numbers rs) d))

  first_same : (x : ℕ × P) (xs : List (ℕ × P)) (y : ℕ × P) (ys : List (ℕ × P)) → AreRising (x ∷ xs) → AreRising (y ∷ ys)
      → Among x (y ∷ ys) → Among y (x ∷ xs) → x ≡ y
  unfolding Among
  first_same x xs y ys a b (inl e) n = e
  first_same x xs y ys a b (inr m) (inl e) = sym e
  first_same x xs y ys a b (inr m) (inr n) =
      let p : y.0 < x.0 = among (λ s. y.0 < s.0) x ys b.0 m in
      let q : x.0 < y.0 = among (λ s. x.0 < s.0) y xs a.0 n in
      let no : ⊥ = omega (arith, p, q) in absurd no

  others : (x y : ℕ × P) (ys : List (ℕ × P)) → x ≡ y → (z : ℕ × P) → x.0 < z.0 → Among z (y ∷ ys) → Among z ys
  unfolding Among
  others x y ys e z l (inl s) =
      let same : z.0 ≡ x.0 = ap (λ r. r.0) (s ∙ sym e) in let no : ⊥ = omega (arith, same, l) in absurd no
  others x y ys e z l (inr m) = m

  tails : (x : ℕ × P) (xs : List (ℕ × P)) (y : ℕ × P) (ys : List (ℕ × P)) → x ≡ y → AllByRecursion (λ s. x.0 < s.0) xs
      → AllByRecursion (λ z. Among z (y ∷ ys)) xs → AllByRecursion (λ z. Among z ys) xs
  tails x xs y ys e a f =
      all_weaker (λ z. (x.0 < z.0) × Among z (y ∷ ys)) (λ z. Among z ys) (λ z h. others x y ys e z h.0 h.1) xs
      (all_both (λ z. x.0 < z.0) (λ z. Among z (y ∷ ys)) xs a f)

  same_rising : (xs ys : List (ℕ × P)) → AreRising xs → AreRising ys → AllByRecursion (λ z. Among z ys) xs
      → AllByRecursion (λ z. Among z xs) ys → xs ≡ ys
  unfolding Among
  same_rising [] [] a b f g = refl
  same_rising [] (y ∷ ys) a b f g = absurd g.0
  same_rising (x ∷ xs) [] a b f g = absurd f.0
  same_rising (x ∷ xs) (y ∷ ys) a b f g =
      let e = first_same x xs y ys a b f.0 g.0 in
      let rest = same_rising xs ys a.1 b.1 (tails x xs y ys e a.0 f.1) (tails y ys x xs (sym e) b.0 g.1) in
      λ i. e i ∷ rest i

  pub numbers_permuted : (xs ys : List (ℕ × P)) → IsPermutation xs ys → IsDistinct nat_eq (numbers xs)
      → IsDistinct nat_eq (numbers ys)
  numbers_permuted xs ys p d =
      IsDistinct-IsPermutation nat_eq nat_eq_equiv.symm (numbers xs) (numbers ys) (IsPermutation-map (λ r. r.0) xs ys p)
      d

  -- rows whose numbers differ have one order
  pub in_order_same : (xs ys : List (ℕ × P)) → IsPermutation xs ys → IsDistinct nat_eq (numbers xs)
      → in_order xs ≡ in_order ys
  in_order_same xs ys p d =
      let a = in_order xs in let b = in_order ys in
      let back = IsPermutation-sym xs a (in_order_permutes xs) in
      let q = IsPermutation-trans a xs b back (IsPermutation-trans xs ys b p (in_order_permutes ys)) in
      same_rising a b (rising_in_order xs d) (rising_in_order ys (numbers_permuted xs ys p d))
      (all_permuted (λ z. Among z b) b a (IsPermutation-sym a b q) (all_among b)) (all_permuted (λ z. Among z a) a b q
      (all_among a))

  -- ---- rows that change, but for their numbers

  module _ {R : Type 0} (f : ℕ × P → ℕ × R) (keeps : (r : ℕ × P) → (f r).0 ≡ r.0) where
    pub numbers_map : (rs : List (ℕ × P)) → numbers (map f rs) ≡ numbers rs
    numbers_map [] = refl
    numbers_map (r ∷ rs) = let rest = numbers_map rs in λ i. keeps r i ∷ rest i

    into_map : (r : ℕ × P) (rs : List (ℕ × P)) → into (f r) (map f rs) ≡ map f (into r rs)
    into_map r [] = refl
    into_map r (s ∷ ss) =
        (λ i. if nat_lt (keeps s i) (keeps r i) then f s ∷ into (f r) (map f ss) else f r ∷ f s ∷ map f ss)
        ∙ by (nat_lt s.0 r.0) (into_map r ss)
      where
        by : (b : Bool) → into (f r) (map f ss) ≡ map f (into r ss)
            → (if b then f s ∷ into (f r) (map f ss) else f r ∷ f s ∷ map f ss)
            ≡ map f (if b then s ∷ into r ss else r ∷ s ∷ ss)
        by true rest = ap (λ l. f s ∷ l) rest
        by false rest = refl

    pub in_order_map : (rs : List (ℕ × P)) → in_order (map f rs) ≡ map f (in_order rs)
    in_order_map [] = refl
    in_order_map (r ∷ rs) = ap (into (f r)) (in_order_map rs) ∙ into_map r (in_order rs)

    pub below_map : (Q : ℕ → Type 0) (rs : List (ℕ × P)) → AllByRecursion (λ r. Q r.0) rs
        → AllByRecursion (λ r. Q r.0) (map f rs)
    below_map Q [] h = tt
    below_map Q (r ∷ rs) h = (subst Q (sym (keeps r)) h.0, below_map Q rs h.1)

    pub rising_map : (rs : List (ℕ × P)) → AreRising rs → AreRising (map f rs)
    rising_map [] h = tt
    rising_map (r ∷ rs) h = (
      subst (λ n. AllByRecursion (λ s. n < s.0) (map f rs)) (sym (keeps r)) (below_map (λ n. r.0 < n) rs h.0),
      rising_map rs h.1,
    )

-- what was sorted by its numbers, which differ
pub rising_sorted : {X P : Type 0} (n : X → ℕ) (p : X → P) (xs : List X) → IsNonDecreasingBy n xs
    → IsDistinct nat_eq (map n xs) → AreRising (map (λ x. (n x, p x)) xs)
rising_sorted n p [] h d = tt
rising_sorted {X} {P} n p (x ∷ xs) h d =
    let least : AllByRecursion (λ y. n x ≤ n y) xs = recursion_from_All (λ y. n x ≤ n y) xs
    (λ k c l. h 0 (suc k) c (omega arith) (omega (arith, l))) in
    let apart = all_mapped n (λ m. nat_eq (n x) m ≡ false) xs (IsDistinct-head nat_eq (n x) (map n xs) d) in
    let below : AllByRecursion (λ y. n x < n y) xs =
    all_weaker (λ y. (n x ≤ n y) × (nat_eq (n x) (n y) ≡ false)) (λ y. n x < n y) (λ y b. let l = b.0 in let o = b.1 in
    grind (arith, nat_tests, l, o)) xs (all_both (λ y. n x ≤ n y) (λ y. nat_eq (n x) (n y) ≡ false) xs least apart)
    in (
      map_all (λ y. (n y, p y)) (λ s. n x < s.0) xs below,
      rising_sorted n p xs (λ i j c l w. h (suc i) (suc j) c (omega (arith, l)) (omega (arith, w)))
          (IsDistinct-tail nat_eq (n x) (map n xs) d),
    )
