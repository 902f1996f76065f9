-- Numbers that rise: what a new number does, what the loss of one does, and where a search finds one.
use Rattle.std.proofs.Common.{◌≡◌, ℕ, zero, suc, ◌+◌, ◌<◌, ◌≤◌, Bool, true, false, ◌||◌, cond, nat_eq, List, [], ◌∷◌}
use Rattle.std.proofs.Common.{◌++◌, length, get_or, take, drop, map, Result, Ok, Err, IfOk, IfErr, refl, ap, sym}
use Rattle.std.proofs.Common.{add-one, arith}
use Rattle.std.specs.List.{HoldsAt}
use Rattle.std.specs.List.Sorted.{IsSearchInRange, IsBinarySearchResult, IsNonDecreasingBy}
use Rattle.std.specs.Ordering.{nat_cmp, ordering_index}
use Rattle.std.specs.declared.cmp.Ordering.TheVariants.{Equal}
use Rattle.std.proofs.lemmas.Bool.Decides.{nat_tests}
use Rattle.std.proofs.lemmas.Cmp.{ranked}
use Rattle.box_world.specs.Calls.{is_among, without}
use Rattle.box_os.specs.OsNumbers.{Rises}

pub rises-le : (low next : ℕ) (ks : List ℕ) → Rises low next ks → low ≤ next
rises-le low next [] h = h
rises-le low next (k ∷ ks) p = omega (arith, rises-le (k + 1) next ks p.1)

rises-lower : (l low next : ℕ) (ks : List ℕ) → l ≤ low → Rises low next ks → Rises l next ks
rises-lower l low next [] h p = omega arith
rises-lower l low next (k ∷ ks) h p = (omega arith, p.1)

-- the next number is given
pub rises-given : (low next : ℕ) (ks : List ℕ) → Rises low next ks → Rises low (next + 1) (ks ++ next ∷ [])
rises-given low next [] h = (h, omega arith)
rises-given low next (k ∷ ks) p = (p.0, rises-given (k + 1) next ks p.1)

without-step : (low next m k : ℕ) (ks : List ℕ) (b : Bool) → low ≤ k → Rises (k + 1) next ks
    → Rises (k + 1) next (without m ks) → Rises low next (cond b ks (k ∷ without m ks))
without-step low next m k ks true h p q = rises-lower low (k + 1) next ks (omega arith) p
without-step low next m k ks false h p q = (h, q)

-- a number is no longer open
pub rises-without : (low next m : ℕ) (ks : List ℕ) → Rises low next ks → Rises low next (without m ks)
rises-without low next m [] p = p
rises-without low next m (k ∷ ks) p = without-step low next m k ks (nat_eq k m) p.0 p.1
    (rises-without (k + 1) next m ks p.1)

-- the number that is given next is none of them
pub next-is_new : (low next : ℕ) (ks : List ℕ) → Rises low next ks → is_among ks next ≡ false
next-is_new low next [] p = refl
next-is_new low next (k ∷ ks) p =
    let below = rises-le (k + 1) next ks p.1 in
    let e : nat_eq k next ≡ false = grind (arith, nat_tests) in
    rw e (next-is_new (k + 1) next ks p.1)

-- a number below them all is none of them
pub below-is_new : (low next n : ℕ) (ks : List ℕ) → n < low → Rises low next ks → is_among ks n ≡ false
below-is_new low next n [] h p = refl
below-is_new low next n (k ∷ ks) h p =
    let above = p.0 in
    let e : nat_eq k n ≡ false = grind (arith, nat_tests) in
    rw e (below-is_new (k + 1) next n ks (omega arith) p.1)

or-true : (a b : Bool) → b ≡ true → (a || b) ≡ true
or-true true b h = refl
or-true false b h = h

module _ {X : Type 0} (key : X → ℕ) where
  at-least : (low next : ℕ) (xs : List X) (i : ℕ) (d : X) → Rises low next (map key xs) → i < length xs
      → low ≤ key (get_or xs i d)
  at-least low next [] i d p h = absurd (omega arith)
  at-least low next (x ∷ xs) zero d p h = p.0
  at-least low next (x ∷ xs) (suc i) d p h = omega (arith, p.0, at-least (key x + 1) next xs i d p.1 (omega arith))

  keys-rise : (low next : ℕ) (xs : List X) (i j : ℕ) (d : X) → Rises low next (map key xs) → i ≤ j → j < length xs
      → key (get_or xs i d) ≤ key (get_or xs j d)
  keys-rise low next [] i j d p le h = absurd (omega arith)
  keys-rise low next (x ∷ xs) zero zero d p le h = omega arith
  keys-rise low next (x ∷ xs) zero (suc j) d p le h = omega (arith, at-least (key x + 1) next xs j d p.1 (omega arith))
  keys-rise low next (x ∷ xs) (suc i) zero d p le h = absurd (omega arith)
  keys-rise low next (x ∷ xs) (suc i) (suc j) d p le h = keys-rise (key x + 1) next xs i j d p.1 (omega arith)
      (omega arith)

  -- the comparisons with n rise along the list, as a binary search asks
  comparisons-rise : (low next n : ℕ) (xs : List X) → Rises low next (map key xs)
      → IsNonDecreasingBy (λ y. ordering_index (nat_cmp (key y) n)) xs
  comparisons-rise low next n xs p i j d le h =
      let rise = keys-rise low next xs i j d p le h in
      grind (arith, nat_tests)

  -- at the place where n stands, it is taken out
  without-at : (low next n : ℕ) (xs : List X) (i : ℕ) → Rises low next (map key xs) → i < length xs
      → HoldsAt (λ y. key y ≡ n) xs i → without n (map key xs) ≡ map key (take i xs) ++ map key (drop (suc i) xs)
  without-at low next n [] i p h at = absurd (omega arith)
  without-at low next n (x ∷ xs) zero p h at =
      let e : nat_eq (key x) n ≡ true = grind (arith, nat_tests, at x) in
      rw e refl
  without-at low next n (x ∷ xs) (suc i) p h at =
      let above : key x < n = omega (arith, at x, at-least (key x + 1) next xs i x p.1 (omega arith)) in
      let e : nat_eq (key x) n ≡ false = grind (arith, nat_tests) in
      rw e (ap (λ ks. key x ∷ ks) (without-at (key x + 1) next n xs i p.1 (omega arith) at))

  -- at the place where n stands, it is among them
  among-at : (n : ℕ) (xs : List X) (i : ℕ) → i < length xs → HoldsAt (λ y. key y ≡ n) xs i
      → is_among (map key xs) n ≡ true
  among-at n [] i h at = absurd (omega arith)
  among-at n (x ∷ xs) zero h at =
      let e : nat_eq (key x) n ≡ true = grind (arith, nat_tests, at x) in
      rw e refl
  among-at n (x ∷ xs) (suc i) h at = or-true (nat_eq (key x) n) (is_among (map key xs) n)
      (among-at n xs i (omega arith) at)

  -- where n is none of them, nothing is taken out
  without-absent : (n : ℕ) (xs : List X) → ((i : ℕ) (d : X) → i < length xs → key (get_or xs i d) ≡ n → ⊥)
      → without n (map key xs) ≡ map key xs
  without-absent n [] none = refl
  without-absent n (x ∷ xs) none =
      let e : nat_eq (key x) n ≡ false = grind (arith, nat_tests, none zero x (omega arith)) in
      rw e (ap (λ ks. key x ∷ ks) (without-absent n xs (λ i d h. none (suc i) d (omega arith))))

  -- where a binary search for n ends at it, it is taken out there
  found-without : (low next n : ℕ) (xs : List X) (i : ℕ) → Rises low next (map key xs) → i < length xs
      → HoldsAt (λ y. nat_cmp (key y) n ≡ Equal) xs i → without n (map key xs) ≡ map key (take i xs)
      ++ map key (drop (i + 1) xs)
  found-without low next n xs i p h at = rw add-one (without-at low next n xs i p h (λ d. ranked _ n _ (sym (at d))))

  -- where it ends at a gap, nothing is taken out
  gap-without : (low next n : ℕ) (xs : List X) (i : ℕ) → Rises low next (map key xs)
      → IsBinarySearchResult (λ y. nat_cmp (key y) n) xs (Err i) → without n (map key xs) ≡ map key xs
  gap-without low next n xs i p gap =
      let parted = gap (comparisons-rise low next n xs p) in
      without-absent n xs (λ k d h same.
      let before : k < i → key (get_or xs k d) < n = λ lt. ranked _ n _ (sym (parted.0 k d (omega arith) lt)) in
      let after : i ≤ k → n < key (get_or xs k d) = λ le. ranked _ n _ (sym (parted.1 k d le h)) in
      grind (arith, before, after))

  -- what a binary search for n answers says whether it is among the numbers, and what they are without it
  pub searched : (low next n : ℕ) (xs : List X) (r : Result ℕ ℕ) → Rises low next (map key xs)
      → IsSearchInRange r (length xs) → IsBinarySearchResult (λ y. nat_cmp (key y) n) xs r
      → record {
        within : IfOk r (λ at. at < length xs);
        among : IfOk r (λ _. is_among (map key xs) n ≡ true);
        found : IfOk r (λ at. without n (map key xs) ≡ map key (take at xs) ++ map key (drop (at + 1) xs));
        absent : IfErr r (λ _. without n (map key xs) ≡ map key xs);
      }
  searched low next n xs (Ok at) p h result =
      record {
        within = h;
        among = among-at n xs at h (λ d. ranked _ n _ (sym (result d)));
        found =
            found-without low next n xs at p h result;
        absent = tt;
      }
  searched low next n xs (Err at) p h result = record {
    within = tt;
    among = tt;
    found = tt;
    absent =
        gap-without low next n xs at p result;
  }
