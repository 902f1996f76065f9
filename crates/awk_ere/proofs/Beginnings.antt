-- The bytes that a match begins with, and the places where they stand.
use Rattle.std.proofs.Common.{◌≡◌, ◌≢◌, ℕ, zero, suc, ◌+◌, ◌*◌, ◌/◌, ◌%◌, ◌^◌, ◌-◌, ◌<◌, ◌≤◌, ◌⊎◌, inl, inr, Bool, true}
use Rattle.std.proofs.Common.{false, not, ◌&&◌, cond, nat_le, List, [], ◌∷◌, map, length, drop, replicate, get_or}
use Rattle.std.proofs.Common.{slice_index, slice_index_or, bit_and, refl, sym, ap, ap₂, ◌∙◌, subst, arith}
use Rattle.std.proofs.lemmas.Bool.{cases_lt, eq-eqb, ne_eqb, le-leb, not-true}
use Rattle.std.proofs.lemmas.List.{get_or-drop, length-drop}
use Rattle.std.proofs.lemmas.List.Sums.{prefix_len_passes, prefix_len-le-length}
use Rattle.std.proofs.lemmas.Simd.{zip2_splat, zip2_splat_left, zip2-map, length-zip2, get_or-zip2, mask_l-mod}
use Rattle.std.proofs.lemmas.Simd.{get_or-chunk, length-chunk, first_set_mask_l}
use Rattle.std.proofs.lemmas.Nat.{div-mul-add}
use Rattle.std.proofs.Math.Nat.{div-div-eq-div-mul, pow-succ', zero-div}
use Rattle.std.specs.List.{prefix_len}
use lib.Count.{count_trailing_zeros}
use lib.Dec.{eqb}
use lib.Lanes.{zip2, chunk, mask_l, top}
use Rattle.awk_ere.specs.Bracket.{Range, in_range}
use Rattle.awk_ere.specs.Table.{cell, IsIn, AreSpread, begins, marks_of, Stops, AreHeads, NoneBegin}
use Rattle.awk_ere.specs.declared.heads.Heads.{Heads}

abbrev hit : ℕ → ℕ → ℕ
hit a b = cond (nat_le a b) 255 0

abbrev hits : Range → ℕ → ℕ
hits r b = bit_and (hit r.0 b) (hit b r.1)

lane : (a b c d : Bool)
    → top 7 (bit_and (bit_and (cond a 255 0) (cond b 255 0)) (bit_and (cond c 255 0) (cond d 255 0)))
    ≡ ((a && b) && (c && d))
lane true true true true = refl
lane true true true false = refl
lane true true false true = refl
lane true true false false = refl
lane true false true true = refl
lane true false true false = refl
lane true false false true = refl
lane true false false false = refl
lane false true true true = refl
lane false true true false = refl
lane false true false true = refl
lane false true false false = refl
lane false false true true = refl
lane false false true false = refl
lane false false false true = refl
lane false false false false = refl

lanes : (h : Heads) (v w : List ℕ) → map (top 7) (zip2 bit_and (map (hits h.first) v) (map (hits h.second) w))
    ≡ zip2 (begins h) v w
lanes h [] w = refl
lanes h (x ∷ v) [] = refl
lanes h (x ∷ v) (y ∷ w) = ap₂ (λ b r. b ∷ r) (lane (nat_le h.first.0 x) (nat_le x h.first.1) (nat_le h.second.0 y)
    (nat_le y h.second.1)) (lanes h v w)

in_lanes : (r : Range) (v : List ℕ) → length v ≡ 16 → zip2 bit_and (zip2 hit (replicate 16 r.0) v)
    (zip2 hit v (replicate 16 r.1)) ≡ map (hits r) v
in_lanes r v long = ap₂ (zip2 bit_and) (zip2_splat_left hit r.0 16 v long) (zip2_splat hit v 16 r.1 long)
    ∙ zip2-map bit_and (λ x. hit r.0 x) (λ x. hit x r.1) v

pub marks_mask : (h : Heads) (v w : List ℕ) → AreSpread h → length v ≡ 16 → length w ≡ 16
    → mask_l (map (top 7) (zip2 bit_and (zip2 bit_and (zip2 hit h.first_spread.low v) (zip2 hit v h.first_spread.high))
    (zip2 bit_and (zip2 hit h.second_spread.low w) (zip2 hit w h.second_spread.high)))) % 2 ^ 64
    ≡ mask_l (zip2 (begins h) v w)
marks_mask h v w spread long longer =
    let first = ap₂ (zip2 bit_and) (ap (λ l. zip2 hit l v) spread.0.0) (ap (zip2 hit v) spread.0.1)
    ∙ in_lanes h.first v long in
    let second = ap₂ (zip2 bit_and) (ap (λ l. zip2 hit l w) spread.1.0) (ap (zip2 hit w) spread.1.1)
    ∙ in_lanes h.second w longer in
    ap (λ l. mask_l (map (top 7) l) % 2 ^ 64) (ap₂ (zip2 bit_and) first second)
    ∙ ap (λ l. mask_l l % 2 ^ 64) (lanes h v w) ∙ mask_l-mod (zip2 (begins h) v w) 64
    (omega (arith, length-zip2 (begins h) v w (long ∙ sym longer)))

unmapped : (l : List Bool) → map (λ b. b) l ≡ l
unmapped [] = refl
unmapped (x ∷ l) = ap (λ r. x ∷ r) (unmapped l)

-- the bits of a mask
module _ (l : List Bool) (few : length l ≤ 64) where
  first_mark : cond (eqb (mask_l l) 0) (length l) (count_trailing_zeros 64 (mask_l l)) ≡ prefix_len (λ b. not b) l
  first_mark = subst (λ x. cond (eqb (mask_l x) 0) (length l) (count_trailing_zeros 64 (mask_l x))
      ≡ prefix_len (λ b. not b) l) (unmapped l) (first_set_mask_l (λ b. b) l (length l) refl few)

  off : (k : ℕ) → k < prefix_len (λ b. not b) l → get_or l k false ≡ false
  off k lt = not-true (get_or l k false) (prefix_len_passes (λ b. not b) l k false lt)

  pub all_off : mask_l l ≡ 0 → (k : ℕ) → k < length l → get_or l k false ≡ false
  all_off none k lt =
      let first = ap (λ b. cond b (length l) (count_trailing_zeros 64 (mask_l l))) (sym (eq-eqb (mask_l l) 0 none))
      ∙ first_mark in
      off k (omega (arith, first))

  module _ (found : ℕ) (is : found ≡ mask_l l) (some : found ≢ 0) where
    first : count_trailing_zeros 64 found ≡ prefix_len (λ b. not b) l
    first = ap (count_trailing_zeros 64) is ∙ ap (λ b. cond b (length l) (count_trailing_zeros 64 (mask_l l)))
        (sym (ne_eqb (mask_l l) 0 (λ e. some (is ∙ e)))) ∙ first_mark

    pub off_before : (k : ℕ) → k < count_trailing_zeros 64 found → get_or l k false ≡ false
    off_before k lt = off k (omega (arith, first))

    pub first_inside : count_trailing_zeros 64 found ≤ length l
    first_inside = omega (arith, first, prefix_len-le-length (λ b. not b) l)

half : (b : Bool) (m : ℕ) → (cond b 1 0 + 2 * m) / 2 ≡ m
half true m = ap (λ x. x / 2) (omega arith) ∙ div-mul-add m 2 1 (omega arith)
half false m = ap (λ x. x / 2) (omega arith) ∙ div-mul-add m 2 0 (omega arith)

pub mask_drop : (s : ℕ) (l : List Bool) → mask_l l / 2 ^ s ≡ mask_l (drop s l)
mask_drop zero l = omega arith
mask_drop (suc s) [] = zero-div (2 ^ suc s)
mask_drop (suc s) (b ∷ l) = ap (λ x. (cond b 1 0 + 2 * mask_l l) / x) (pow-succ' 2 s)
    ∙ sym (div-div-eq-div-mul (cond b 1 0 + 2 * mask_l l) 2 (2 ^ s)) ∙ ap (λ x. x / 2 ^ s) (half b (mask_l l))
    ∙ mask_drop s l

-- the sixteen places from i on
module _ (h : Heads) (s : List ℕ) (i : ℕ) (room : i + 17 ≤ length s) where
  pub marks_long : length (marks_of h s i) ≡ 16
  marks_long =
      let here = length-chunk i 16 s (omega (arith, room)) in
      let behind = length-chunk (i + 1) 16 s (omega (arith, room)) in
      length-zip2 (begins h) (chunk i 16 s) (chunk (i + 1) 16 s) (here ∙ sym behind) ∙ here

  mark_at : (k : ℕ) → k < 16 → get_or (marks_of h s i) k false ≡ begins h (slice_index s (i + k))
      (slice_index s (i + 1 + k))
  mark_at k few =
      get_or-zip2 (begins h) (chunk i 16 s) (chunk (i + 1) 16 s) k 0 0 false
      (omega (arith, length-chunk i 16 s (omega (arith, room))))
      (omega (arith, length-chunk (i + 1) 16 s (omega (arith, room))))
      ∙ ap₂ (begins h) (get_or-chunk i 16 s k 0 few) (get_or-chunk (i + 1) 16 s k 0 few)

  -- more of them where none may
  pub none_marked : (from at to : ℕ) → i ≤ at → to ≤ i + 16 → NoneBegin h s from at
      → ((j : ℕ) → at ≤ j → j < to → get_or (marks_of h s i) (j - i) false ≡ false) → NoneBegin h s from to
  none_marked from at to le few before none = λ k after lt. elim (cases_lt k at) [
    | inl less ↦ before k after less
    | inr ge ↦
        let here : i + (k - i) ≡ k = omega arith in
        let behind : i + 1 + (k - i) ≡ k + 1 = omega arith in (
          omega (arith, room),
          ap₂ (begins h) (ap (slice_index s) (sym here)) (ap (slice_index s) (sym behind))
              ∙ sym (mark_at (k - i) (omega arith)) ∙ none k ge lt,
        )
  ]

  -- those from `at` on
  module _ (at : ℕ) (le : i ≤ at) (below : at < i + 16) (found : ℕ) (is : found ≡ mask_l (marks_of h s i)) where
    abbrev rest : List Bool
    rest = drop (at - i) (marks_of h s i)

    rest_long : length rest ≡ 16 - (at - i)
    rest_long = omega (arith, length-drop (at - i) (marks_of h s i), marks_long)

    rest_is : found / 2 ^ (at - i) ≡ mask_l rest
    rest_is = ap (λ x. x / 2 ^ (at - i)) is ∙ mask_drop (at - i) (marks_of h s i)

    rest_at : (j : ℕ) → at ≤ j → get_or rest (j - at) false ≡ false → get_or (marks_of h s i) (j - i) false ≡ false
    rest_at j after off =
        let same : at - i + (j - at) ≡ j - i = omega arith in
        subst (λ x. get_or (marks_of h s i) x false ≡ false) same
        (sym (get_or-drop (at - i) (marks_of h s i) (j - at) false) ∙ off)

    pub rest_none : found / 2 ^ (at - i) ≡ 0 → NoneBegin h s at (i + 16)
    rest_none none = none_marked at at (i + 16) le (omega arith) (λ k after lt. absurd (omega arith))
        (λ j after lt. rest_at j after (all_off rest (omega (arith, rest_long)) (omega (arith, rest_is, none)) (j - at)
        (omega (arith, rest_long))))

    module _ (some : found / 2 ^ (at - i) ≢ 0) where
      abbrev before : ℕ
      before = count_trailing_zeros 64 (found / 2 ^ (at - i))

      pub rest_inside : at + before ≤ i + 16
      rest_inside = omega (
        arith,
        first_inside rest (omega (arith, rest_long)) (found / 2 ^ (at - i)) rest_is some,
        rest_long,
      )

      pub rest_first : NoneBegin h s at (at + before)
      rest_first =
          none_marked at at (at + before) le rest_inside (λ k after lt. absurd (omega arith))
          (λ j after lt. rest_at j after (off_before rest (omega (arith, rest_long)) (found / 2 ^ (at - i)) rest_is some
          (j - at) (omega (arith, lt))))

pub none_joined : (h : Heads) (s : List ℕ) (from at to : ℕ) → NoneBegin h s from at → NoneBegin h s at to
    → NoneBegin h s from to
none_joined h s from at to before rest =
    λ k after lt. elim (cases_lt k at) [ inl less ↦ before k after less | inr ge ↦ rest k ge lt ]

-- from ranges to tests
tested : (r : Range) (b : ℕ) → IsIn r b → in_range b r ≡ true
tested r b (low, high) = ap₂ (λ x y. x && y) (le-leb r.0 b low) (le-leb b r.1 high)

-- one byte more in front
pub second_more : (cells : List (List ℕ)) (accepts : List Bool) (row : List ℕ) (k : ℕ) (old new : Range)
    → ((b c : ℕ) → b < k → c < 256 → Stops cells accepts (slice_index row b) c ⊎ IsIn old c)
    → ((c : ℕ) → c < 256 → IsIn old c → IsIn new c)
    → ((c : ℕ) → c < 256 → Stops cells accepts (slice_index row k) c ⊎ IsIn new c)
    → (b c : ℕ) → b < k + 1 → c < 256 → Stops cells accepts (slice_index row b) c ⊎ IsIn new c
second_more cells accepts row k old new had kept all b c lt small = elim (cases_lt b k) [
  | inl less ↦
      elim (had b c less small) [ inl stops ↦ inl stops | inr has ↦ inr (kept c small has) ]
  | inr ge ↦
      let is : k ≡ b = omega arith in
      subst (λ x. Stops cells accepts (slice_index row x) c ⊎ IsIn new c) is (all c small)
]

-- the ranges of what begins in a state
pub heads_of : (cells : List (List ℕ)) (accepts : List Bool) (q : ℕ) (h : Heads) → q < length cells
    → slice_index_or accepts q false ≡ false
    → ((b : ℕ) → b < 256 → cell cells q b ≢ 0 → IsIn h.first b)
    → ((b c : ℕ) → b < 256 → c < 256 → Stops cells accepts (cell cells q b) c ⊎ IsIn h.second c)
    → AreHeads cells accepts q h
heads_of cells accepts q h known quiet first second b c small smaller = elim (cases_lt 0 (cell cells q b)) [
  | inl some ↦ elim (second b c small smaller) [
    | inl stops ↦ inr (known, quiet, stops)
    | inr has ↦ inl (ap₂ (λ x y. x && y) (tested h.first b (first b small (λ e. omega arith))) (tested h.second c has))
  ]
  | inr none ↦ inr (known, quiet, inl (omega arith))
]
