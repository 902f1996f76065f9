-- What a text read backwards tells of its matches.
use Rattle.std.proofs.Common.{◌≡◌, ◌==◌, ℕ, zero, suc, ◌+◌, ◌-◌, ◌<◌, ◌≤◌, inl, inr, Bool, true, false, cond, List, []}
use Rattle.std.proofs.Common.{◌∷◌, length, Some, None, refl, sym, ◌∙◌, ap, subst, arith, ◌++◌, get_or, slice_index}
use Rattle.std.proofs.Math.ListN.{set, replicate}
use Rattle.std.specs.List.{slice_get, Contains}
use Rattle.std.proofs.lemmas.Bool.{cases_lt, cases_eq}
use Rattle.std.proofs.lemmas.List.{get_or-set_same, get_or-set_other}
use Rattle.std.proofs.lemmas.List.Elements.{Contains-append_left, Contains-append_right}
use Rattle.std.proofs.lemmas.Option.{slice_get_within}
use Rattle.awk_ere.specs.Program.{holds, Skips, left, right, at_start, at_end, Eats, Path}
use Rattle.awk_ere.specs.Search.{targets, target_of, Goes, Finds}
use Rattle.awk_ere.specs.Ends.{told, over, AreOver, IsBegun, IsAbove, IsSettledAt, IsSettled, IsFarthest, IsRow}
use Rattle.awk_ere.specs.Ends.{AreEnds, IsBehind, AreFarthestTo, AreFarthest}
use Rattle.awk_ere.specs.declared.program.Instruction.{Instruction}
use Rattle.awk_ere.specs.declared.program.Instruction.TheVariants.{Eat, Fork, AtStart, AtEnd, Done, Hole}
use Rattle.awk_ere.proofs.Reach.{targets_skips, skips_targets}
use Rattle.awk_ere.proofs.Searching.{one_more, path_le}

-- nothing is told beyond the end of a row
beyond : (row : List ℕ) (q : ℕ) → length row ≤ q → slice_index row q ≡ 0
beyond [] q le = refl
beyond (x ∷ xs) zero le = let no : ⊥ = omega (arith, le) in absurd no
beyond (x ∷ xs) (suc q) le = beyond xs q (omega (arith, le))

pub row_past : (row : List ℕ) (q : ℕ) → length row ≤ q → slice_index row q ≡ 0
row_past = beyond

there : (program : List Instruction) (q : ℕ) → q < length program → (x : Instruction) × (slice_get program q ≡ Some x)
there [] q lt = let no : ⊥ = omega (arith, lt) in absurd no
there (x ∷ xs) zero lt = (x, refl)
there (x ∷ xs) (suc q) lt = there xs q (omega (arith, lt))

-- ---- over a byte

module _ (sets : List (List Bool)) (program : List Instruction) (b : ℕ) (behind : List ℕ) where
  pub over_none : (row : List ℕ) → AreOver sets program b behind 0 row
  over_none row q x lt at = let no : ⊥ = omega (arith, lt) in absurd no

  pub over_more : (k v : ℕ) (x : Instruction) (row : List ℕ) → k < length row → slice_get program k ≡ Some x
      → v ≡ over sets b behind x → AreOver sets program b behind k row
      → AreOver sets program b behind (k + 1) (set row k v)
  over_more k v x row lt at is had q y small there = elim (cases_eq q k) [
    | inl same ↦
        let e : slice_get program q ≡ Some x = ap (slice_get program) same ∙ at in
        let xy : x ≡ y = cc in
        let here : slice_index (set row k v) q ≡ v = subst (λ z. slice_index (set row k v) z ≡ v) (sym same)
        (get_or-set_same row k v 0 lt) in
        here ∙ is ∙ ap (over sets b behind) xy
    | inr ne ↦ get_or-set_other row k q v 0 ne ∙ had q y (omega (arith, small, ne)) there
  ]

  pub over_begun : (here : ℕ) (row : List ℕ) → 0 < length row → length row ≡ length program
      → AreOver sets program b behind (length program) row → IsBegun sets program b here behind (set row 0 here)
  over_begun here row some len had = record {
    first = get_or-set_same row 0 here 0 some;
    others = λ q x gt at. get_or-set_other row 0 q here 0 (omega (arith, gt))
        ∙ had q x (slice_get_within program q x at) at;
  }

-- ---- raising

module _ (sets : List (List Bool)) (program : List Instruction) (s : List ℕ) (i : ℕ) where
  pub raised_ends : (at most : ℕ) (x : Instruction) (row : List ℕ) → at < length row → slice_get program at ≡ Some x
      → 0 < most
      → (0 < most → (r : ℕ) × Contains (targets (i == 0) (i == length s) x) r × (slice_index row r ≡ most))
      → AreEnds sets program s i row → AreEnds sets program s i (set row at most)
  raised_ends at most x row lt there some one had q j is = elim (cases_eq q at) [
    | inl same ↦
        let o = one some in
        let here : slice_index (set row at most) q ≡ most = subst (λ z. slice_index (set row at most) z ≡ most)
        (sym same) (get_or-set_same row at most 0 lt) in
        let goes : Goes sets program s o.0 i 0 j = had o.0 j (o.2 ∙ sym here ∙ is) in
        let skip : Skips program (i == 0) (i == length s) at o.0 = targets_skips program (i == 0) (i == length s) at o.0
        x there o.1 in
        subst (λ z. Goes sets program s z i 0 j) (sym same) (one_more sets program s at i o.0 i 0 j (inl (skip, refl))
        goes)
    | inr ne ↦ had q j (sym (get_or-set_other row at q most 0 ne) ∙ is)
  ]

pub raised_above : (at most : ℕ) (row : List ℕ) → at < length row → slice_index row at ≤ most
    → IsAbove row (set row at most)
raised_above at most row lt le q = elim (cases_eq q at) [
  | inl same ↦
      let here : slice_index (set row at most) q ≡ most = subst (λ z. slice_index (set row at most) z ≡ most) (sym same)
      (get_or-set_same row at most 0 lt) in
      let e : slice_index row q ≡ slice_index row at = ap (slice_index row) same in
      omega (arith, here, e, le)
  | inr ne ↦ let e = get_or-set_other row at q most 0 ne in omega (arith, e)
]

pub above_same : (row : List ℕ) → IsAbove row row
above_same row q = omega arith

pub above_then : (a b c : List ℕ) → IsAbove a b → IsAbove b c → IsAbove a c
above_then a b c ab bc q = omega (arith, ab q, bc q)

pub settled_at : (program : List Instruction) (first last : Bool) (at most : ℕ) (x : Instruction) (row : List ℕ)
    → slice_get program at ≡ Some x → most ≤ slice_index row at
    → ((r : ℕ) → Contains (targets first last x) r → slice_index row r ≤ most) → IsSettledAt program first last row at
settled_at program first last at most x row there le all r skip =
    omega (arith, le, all r (skips_targets program first last at r x there skip))

-- a step that goes on is there
pub skips_inside : (program : List Instruction) (first last : Bool) (q r : ℕ) → Skips program first last q r
    → q < length program
skips_inside program first last q r (left other h) = slice_get_within program q _ h
skips_inside program first last q r (right other h) = slice_get_within program q _ h
skips_inside program first last q r (at_start h f) = slice_get_within program q _ h
skips_inside program first last q r (at_end h f) = slice_get_within program q _ h

-- ---- the steps that go on without reading

abbrev pub AreTurning : List Instruction → ℕ → List ℕ → Type 0
AreTurning program k steps = (first last : Bool) (q r : ℕ) → q < k → Skips program first last q r → Contains steps q

pub turning_more : (program : List Instruction) (k : ℕ) (steps new : List ℕ) → new ≡ steps ++ k ∷ []
    → AreTurning program k steps → AreTurning program (k + 1) new
turning_more program k steps new is had first last q r lt skip = subst (λ x. Contains x q) (sym is)
    (elim (cases_lt q k) [
      | inl less ↦ Contains-append_left steps (k ∷ []) q (had first last q r less skip)
      | inr ge ↦ Contains-append_right steps (k ∷ []) q (0, omega arith, omega (arith, lt, ge))
    ])

pub turning_none : (program : List Instruction) (k : ℕ) (steps : List ℕ) (x : Instruction)
    → slice_get program k ≡ Some x → ((first last : Bool) → targets first last x ≡ []) → AreTurning program k steps
    → AreTurning program (k + 1) steps
turning_none program k steps x at none had first last q r lt skip = elim (cases_lt q k) [
  | inl less ↦ had first last q r less skip
  | inr ge ↦
      let e : q ≡ k = omega (arith, lt, ge) in
      let member = skips_targets program first last k r x at (subst (λ z. Skips program first last z r) e skip) in
      let no = subst (λ z. Contains z r) (none first last) member in
      absurd (omega (arith, no.1))
]

-- ---- one step after the other

same_default : (xs : List ℕ) (k d e : ℕ) → k < length xs → get_or xs k d ≡ get_or xs k e
same_default [] k d e lt = let no : ⊥ = omega (arith, lt) in absurd no
same_default (x ∷ xs) zero d e lt = refl
same_default (x ∷ xs) (suc k) d e lt = same_default xs k d e (omega (arith, lt))

module _ (program : List Instruction) (first last : Bool) (steps : List ℕ) where
  pub settled_more : (k : ℕ) (row new : List ℕ) → new ≡ row
      → ((i : ℕ) → i < k → IsSettledAt program first last row (slice_index steps i))
      → IsSettledAt program first last row (slice_index steps k)
      → (i : ℕ) → i < k + 1 → IsSettledAt program first last new (slice_index steps i)
  settled_more k row new is had here i lt = subst (λ x. IsSettledAt program first last x (slice_index steps i)) (sym is)
      (elim (cases_lt i k) [
        | inl less ↦ had i less
        | inr ge ↦ let e : k ≡ i = omega (arith, lt, ge) in
            subst (λ z. IsSettledAt program first last row (slice_index steps z)) e here
      ])

  pub settled_each : (n : ℕ) (row : List ℕ) → length steps ≤ n
      → ((i : ℕ) → i < n → IsSettledAt program first last row (slice_index steps i)) → (q : ℕ) → Contains steps q
      → IsSettledAt program first last row q
  settled_each n row le had q (k, lt, is) =
      let same : slice_index steps k ≡ q = same_default steps k 0 q lt ∙ is in
      subst (λ z. IsSettledAt program first last row z) same (had k (omega (arith, le, lt)))

-- ---- the row of a place

module _ (sets : List (List Bool)) (program : List Instruction) (s : List ℕ) (i here : ℕ) (is : here ≡ i + 1)
    (done : slice_get program 0 ≡ Some Done)
    (b : ℕ) (byte : i < length s → b ≡ slice_index s i) (behind : List ℕ) (after : IsBehind sets program s i behind)
  where
    over_goes : (q j : ℕ) (x : Instruction) → slice_get program q ≡ Some x → over sets b behind x ≡ j + 1
        → Goes sets program s q i 0 j
    unfolding target_of
    over_goes q j (Eat k r) at v = by (holds sets k b) refl v
      where
        by : (t : Bool) → holds sets k b ≡ t → told behind (cond t (Some r) None) ≡ j + 1 → Goes sets program s q i 0 j
        by true taken v =
            let inside = after.inside r j v in
            let goes = (after.next inside r).sound j v in
            let takes : holds sets k (slice_index s i) ≡ true = ap (holds sets k) (sym (byte inside)) ∙ taken in
            one_more sets program s q i r (i + 1) 0 j
            (inr (record { class = k; step = at; inside = inside; taken = takes }, refl)) goes
        by false taken v = let no : ⊥ = omega (arith, v) in absurd no
    over_goes q j (Fork x y) at v = let no : ⊥ = omega (arith, v) in absurd no
    over_goes q j (AtStart r) at v = let no : ⊥ = omega (arith, v) in absurd no
    over_goes q j (AtEnd r) at v = let no : ⊥ = omega (arith, v) in absurd no
    over_goes q j Done at v = let no : ⊥ = omega (arith, v) in absurd no
    over_goes q j Hole at v = let no : ⊥ = omega (arith, v) in absurd no

    pub begun_ends : (row : List ℕ) → length row ≡ length program → IsBegun sets program b here behind row
        → AreEnds sets program s i row
    begun_ends row len h zero j v = (0, (refl, omega (arith, is, v, h.first)))
    begun_ends row len h (suc q) j v = elim (cases_lt (suc q) (length row)) [
      | inl lt ↦
          let x = there program (suc q) (omega (arith, lt, len)) in
          over_goes (suc q) j x.0 x.1 (sym (h.others (suc q) x.0 (omega arith) x.1) ∙ v)
      | inr ge ↦ let e = beyond row (suc q) ge in let no : ⊥ = omega (arith, e, v) in absurd no
    ]

    module _ (first row : List ℕ) (h : IsBegun sets program b here behind first) (above : IsAbove first row)
        (settled : IsSettled program (i == 0) (i == length s) row) where
      eaten : (q r j : ℕ) → Eats sets program s q i r → Goes sets program s r (i + 1) 0 j → j < slice_index row q
      unfolding target_of
      eaten zero r j eats goes = let same : Some Done ≡ Some (Eat eats.class r) = sym done ∙ eats.step in absurd (cc)
      eaten (suc q) r j eats goes =
          let less : j < slice_index behind r = (after.next eats.inside r).complete j goes in
          let is_over : slice_index first (suc q) ≡ told behind (cond (holds sets eats.class b) (Some r) None) =
          h.others (suc q) (Eat eats.class r) (omega arith) eats.step in
          let taken : holds sets eats.class b ≡ true = ap (holds sets eats.class) (byte eats.inside) ∙ eats.taken in
          let e : slice_index first (suc q) ≡ slice_index behind r =
          is_over ∙ ap (λ t. told behind (cond t (Some r) None)) taken in
          omega (arith, less, e, above (suc q))

      reached : (n q j : ℕ) → Path sets program s n q i 0 j → j < slice_index row q
      reached zero q j (at, same) = let e = ap (slice_index row) at in omega (arith, e, is, same, h.first, above 0)
      reached (suc n) q j (p, k, inl (skip, same), path) =
          let rest : j < slice_index row p = reached n p j (subst (λ z. Path sets program s n p z 0 j) same path) in
          omega (arith, rest, settled q p skip)
      reached (suc n) q j (p, k, inr (eats, same), path) =
          eaten q p j eats (subst (λ z. Goes sets program s p z 0 j) same (n, path))

      pub row_found : AreEnds sets program s i row → IsRow sets program s i row
      row_found ends q = record { sound = λ j v. ends q j v; complete = λ j goes. reached goes.0 q j goes.1 }

-- ---- all places

in_front : (xs : List ℕ) (v k : ℕ) → k < length xs → slice_index (xs ++ v ∷ []) k ≡ slice_index xs k
in_front [] v k lt = let no : ⊥ = omega (arith, lt) in absurd no
in_front (x ∷ xs) v zero lt = refl
in_front (x ∷ xs) v (suc k) lt = in_front xs v k (omega (arith, lt))

at_last : (xs : List ℕ) (v k : ℕ) → k ≡ length xs → slice_index (xs ++ v ∷ []) k ≡ v
at_last [] v zero is = refl
at_last [] v (suc k) is = let no : ⊥ = omega (arith, is) in absurd no
at_last (x ∷ xs) v zero is = let no : ⊥ = omega (arith, is) in absurd no
at_last (x ∷ xs) v (suc k) is = at_last xs v k (omega (arith, is))

module _ (sets : List (List Bool)) (program : List Instruction) (s : List ℕ) where
  -- behind the text's end nothing is told
  pub behind_end : (i : ℕ) (row : List ℕ) → length s ≤ i → ((q : ℕ) → slice_index row q ≡ 0)
      → IsBehind sets program s i row
  behind_end i row le none = record {
    inside = λ q j v. let no : ⊥ = omega (arith, v, none q) in absurd no;
    next = λ lt. let no : ⊥ = omega (arith, le, lt) in absurd no;
  }

  pub behind_row : (i k : ℕ) (row : List ℕ) → k ≡ i + 1 → k ≤ length s → IsRow sets program s k row
      → IsBehind sets program s i row
  behind_row i k row is le h = record {
    inside = λ q j v. omega (arith, is, le);
    next =
        λ lt. subst (λ z. IsRow sets program s z row) is h;
  }

  pub behind_zeros : (i n : ℕ) (row : List ℕ) → length s ≤ i → row ≡ replicate n 0 → IsBehind sets program s i row
  behind_zeros i n row le is = behind_end i row le (λ q. ap (λ x. slice_index x q) is ∙ zero_at n q)
    where
      zero_at : (n q : ℕ) → slice_index (replicate n 0) q ≡ 0
      zero_at zero q = refl
      zero_at (suc n) zero = refl
      zero_at (suc n) (suc q) = zero_at n q

  module _ (e : ℕ) where
    pub farthest_more : (k v : ℕ) (ends new : List ℕ) → new ≡ ends ++ v ∷ [] → length ends ≡ k
        → IsFarthest sets program s e (length s - k) v → AreFarthestTo sets program s e k ends
        → AreFarthestTo sets program s e (k + 1) new
    farthest_more k v ends new is len here had left_ lt =
        subst (λ x. IsFarthest sets program s e (length s - left_) (slice_index x left_)) (sym is)
        (elim (cases_lt left_ k) [
          | inl less ↦ subst (λ x. IsFarthest sets program s e (length s - left_) x)
              (sym (in_front ends v left_ (omega (arith, less, len)))) (had left_ less)
          | inr ge ↦
              let e1 : k ≡ left_ = omega (arith, ge, lt) in
              let e2 : left_ ≡ length ends = omega (arith, e1, len) in
              subst (λ x. IsFarthest sets program s e (length s - left_) x) (sym (at_last ends v left_ e2))
              (subst (λ z. IsFarthest sets program s e (length s - z) v) e1 here)
        ])

    pub farthest_none : (ends : List ℕ) → AreFarthestTo sets program s e 0 ends
    farthest_none ends k lt = let no : ⊥ = omega (arith, lt) in absurd no

    -- ---- the best match

    abbrev pub NoStart : ℕ → ℕ → Type 0
    NoStart from to = (i j : ℕ) → from ≤ i → i < to → Goes sets program s e i 0 j → ⊥

    pub no_start_none : (from : ℕ) → NoStart from from
    no_start_none from i j le lt goes = omega (arith, le, lt)

    pub no_start_more : (ends : List ℕ) (from place : ℕ) → AreFarthest sets program s e ends → place ≤ length s
        → slice_index ends (length s - place) ≡ 0 → NoStart from place → NoStart from (place + 1)
    no_start_more ends from place far le none had i j after lt goes = elim (cases_lt i place) [
      | inl less ↦ had i j after less goes
      | inr ge ↦
          let here = far (length s - place) (omega arith) in
          let same : i ≡ length s - (length s - place) = omega (arith, ge, lt, le) in
          let less = here.complete j (subst (λ z. Goes sets program s e z 0 j) same goes) in
          omega (arith, less, none)
    ]

    -- a match ends within the text
    ends_within : (n q i j : ℕ) → i ≤ length s → Path sets program s n q i 0 j → j ≤ length s
    ends_within zero q i j le (at, same) = omega (arith, le, same)
    ends_within (suc n) q i j le (p, k, inl (skip, same), path) = ends_within n p k j (omega (arith, le, same)) path
    ends_within (suc n) q i j le (p, k, inr (eats, same), path) = ends_within n p k j (omega (arith, same, eats.inside))
        path

    pub best_none : (from : ℕ) → NoStart from (length s + 1) → Finds sets program s e from None
    best_none from none i j after within goes =
        none i j after (omega (arith, within, path_le sets program s goes.0 e i 0 j goes.1)) goes

    pub best_some : (ends : List ℕ) (from place end : ℕ) → AreFarthest sets program s e ends → from ≤ place
        → place ≤ length s → slice_index ends (length s - place) ≡ end + 1 → NoStart from place
        → Finds sets program s e from (Some (place, end))
    best_some ends from place end far after le v none =
        let here = far (length s - place) (omega arith) in
        let same : length s - (length s - place) ≡ place = omega (arith, le) in
        let goes : Goes sets program s e place 0 end = subst (λ z. Goes sets program s e z 0 end) same
        (here.sound end v) in
        record {
          after = after;
          within = omega (arith, ends_within goes.0 e place end le goes.1);
          related = goes;
          leftmost = λ k l from_le within run. elim (cases_lt k place) [
            | inl less ↦ absurd (none k l from_le less run)
            | inr ge ↦ ge
          ];
          longest = λ l within run.
              let less = here.complete l (subst (λ z. Goes sets program s e z 0 l) (sym same) run) in
              omega (arith, less, v);
        }
