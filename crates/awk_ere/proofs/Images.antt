-- Sets of places, and what each kind of pattern makes of them.
use Rattle.std.proofs.Common.{◌≡◌, ◌↔◌, ℕ, zero, suc, ◌+◌, ◌-◌, ◌<◌, ◌≤◌, ◌⊎◌, ◌==◌, inl, inr, Bool, true, false, ◌&&◌}
use Rattle.std.proofs.Common.{◌||◌, List, [], ◌∷◌, ◌++◌, length, slice_index, slice_index_or, Option, Some, None}
use Rattle.std.proofs.Common.{option_map, refl, sym, ◌∙◌, ap, subst, arith}
use Rattle.std.proofs.lemmas.Bool.{cases_lt, cases_eq, true≢false, and_parts, and_from, or_cases, or_left, or_right}
use Rattle.std.proofs.lemmas.Bool.{eqb-true, eq-eqb}
use Rattle.std.proofs.lemmas.List.{get_or_past}
use Rattle.awk_ere.specs.Pattern.{Pattern, empty, bytes, start, finish, cat, alt, repeat, Chain, AtMost, Matches}
use Rattle.awk_ere.specs.Best.{Best}
use Rattle.awk_ere.specs.Image.{IsIn, IsReached, IsImage, IsUnion, IsSingle, IsLast, Longest, Stays, Within, Maybe}
use Rattle.awk_ere.specs.Same.{IsSame}
use Rattle.awk_ere.specs.Spelled.{Finds}
use Rattle.awk_ere.specs.Table.{AreFlags}
use Rattle.awk_ere.specs.Tree.{IsTree}
use Rattle.awk_ere.specs.View.{pattern}
use Rattle.awk_ere.specs.declared.node.Node.{Node}
use Rattle.awk_ere.proofs.Gathering.{flags_begin, flags_push}
use Rattle.awk_ere.proofs.Normal.{chain_joined}

in_below : (set : List Bool) (i : ℕ) → IsIn set i → i < length set
in_below set i h = elim (cases_lt i (length set)) [
  | inl lt ↦ lt
  | inr le ↦ absurd (true≢false (sym h ∙ get_or_past set i false le))
]

-- a set that is made a place at a time
module _ (R : ℕ → ℕ → Type 0) (from : List Bool) (inside : (i j : ℕ) → IsIn from i → R i j → j < length from) where
  reached_below : (j : ℕ) → IsReached R from j → j < length from
  reached_below j (i, is, r) = inside i j is r

  image_of : (to : List Bool) → AreFlags (IsReached R from) (length from) to → IsImage R from to
  image_of to flags = record {
    len = flags.len;
    each = λ j. (
      (λ h. (flags.each j (omega (arith, in_below to j h, flags.len))).0 h),
      (λ r. (flags.each j (reached_below j r)).1 r),
    );
  }

-- behind a byte
module _ (test : ℕ → Bool) (s : List ℕ) (from : List Bool) where
  abbrev pub Behind : ℕ → Type 0
  Behind = IsReached (Matches s (bytes test)) from

  pub behind_begins : AreFlags Behind 1 ([] ++ false ∷ [])
  behind_begins = flags_push Behind 0 [] ([] ++ false ∷ []) false refl ((λ e. absurd (true≢false (sym e))), nowhere)
      (flags_begin Behind) where
        nowhere : Behind 0 → false ≡ true
        nowhere (i, is, (lt, taken, e)) = absurd (omega (arith, e))

  pub behind_more : (k : ℕ) (to new : List Bool) (taken : Bool) → k < length s
      → new ≡ to ++ (slice_index_or from k false && taken) ∷ [] → taken ≡ test (slice_index s k)
      → AreFlags Behind (k + 1) to → AreFlags Behind (k + 1 + 1) new
  behind_more k to new taken lt is means h = flags_push Behind (k + 1) to new (slice_index_or from k false && taken) is
      (front, back) h where
        front : (slice_index_or from k false && taken) ≡ true → Behind (k + 1)
        front e = let y = and_parts (slice_index_or from k false) taken e in (k, y.0, (lt, sym means ∙ y.1, refl))

        back : Behind (k + 1) → (slice_index_or from k false && taken) ≡ true
        back (i, there, (le, passes, e)) =
            let same : i ≡ k = omega (arith, e) in
            and_from (slice_index_or from k false) taken (subst (λ x. IsIn from x) same there)
            (means ∙ subst (λ x. test (slice_index s x) ≡ true) same passes)

  pub behind_ends : (k : ℕ) (to : List Bool) → length from ≡ length s + 1 → k ≡ length s → AreFlags Behind (k + 1) to
      → IsImage (Matches s (bytes test)) from to
  behind_ends k to len end h =
      image_of (Matches s (bytes test)) from inside to
      (let e : k + 1 ≡ length from = omega (arith, len, end) in subst (λ n. AreFlags Behind n to) e h) where
        inside : (i j : ℕ) → IsIn from i → Matches s (bytes test) i j → j < length from
        inside i j is (lt, taken, e) = omega (arith, lt, e, len)

-- one place
module _ (place : ℕ) (from : List Bool) where
  pub only_begins : AreFlags (IsReached (Stays place) from) 0 []
  only_begins = flags_begin (IsReached (Stays place) from)

  pub only_more : (k : ℕ) (to new : List Bool) → new ≡ to ++ ((k == place) && slice_index_or from k false) ∷ []
      → AreFlags (IsReached (Stays place) from) k to → AreFlags (IsReached (Stays place) from) (k + 1) new
  only_more k to new is h = flags_push (IsReached (Stays place) from) k to new
      ((k == place) && slice_index_or from k false) is (front, back) h where
        front : ((k == place) && slice_index_or from k false) ≡ true → IsReached (Stays place) from k
        front e =
            let y = and_parts (k == place) (slice_index_or from k false) e in (k, y.1, (eqb-true k place y.0, refl))

        back : IsReached (Stays place) from k → ((k == place) && slice_index_or from k false) ≡ true
        back (i, there, (e, same)) = and_from (k == place) (slice_index_or from k false) (eq-eqb k place (sym same ∙ e))
            (subst (λ x. IsIn from x) same there)

  pub only_ends : (k : ℕ) (to : List Bool) → k ≡ length from → AreFlags (IsReached (Stays place) from) k to
      → IsImage (Stays place) from to
  only_ends k to end h = image_of (Stays place) from inside to
      (subst (λ n. AreFlags (IsReached (Stays place) from) n to) end h) where
        inside : (i j : ℕ) → IsIn from i → Stays place i j → j < length from
        inside i j is (e, same) = omega (arith, in_below from i is, same)

-- two sets
module _ (xs ys : List Bool) where
  abbrev pub IsEither : ℕ → Type 0
  IsEither j = IsIn xs j ⊎ IsIn ys j

  pub union_begins : AreFlags IsEither 0 []
  union_begins = flags_begin IsEither

  pub union_more : (k : ℕ) (all new : List Bool) → new ≡ all ++ (slice_index_or xs k false || slice_index_or ys k false)
      ∷ [] → AreFlags IsEither k all → AreFlags IsEither (k + 1) new
  union_more k all new is h = flags_push IsEither k all new (slice_index_or xs k false || slice_index_or ys k false) is
      (or_cases (slice_index_or xs k false) (slice_index_or ys k false), back) h where
        back : IsEither k → (slice_index_or xs k false || slice_index_or ys k false) ≡ true
        back (inl e) = or_left (slice_index_or xs k false) (slice_index_or ys k false) e
        back (inr e) = or_right (slice_index_or xs k false) (slice_index_or ys k false) e

  pub union_ends : (k : ℕ) (all : List Bool) → length ys ≡ length xs → k ≡ length xs → AreFlags IsEither k all
      → IsUnion xs ys all
  union_ends k all len end h = record {
    len = h.len ∙ end;
    each = λ j. (
      (λ is. (h.each j (omega (arith, in_below all j is, h.len))).0 is),
      (λ one. (h.each j (below j one)).1 one),
    );
  } where
    below : (j : ℕ) → IsEither j → j < k
    below j (inl is) = omega (arith, in_below xs j is, end)
    below j (inr is) = omega (arith, in_below ys j is, end, len)

-- one relation after the other, either of two, and the same in other words
pub image_then : (R Q S : ℕ → ℕ → Type 0) (xs ys zs : List Bool) → ((i k j : ℕ) → R i k → Q k j → S i j)
    → ((i j : ℕ) → S i j → (k : ℕ) × R i k × Q k j) → IsImage R xs ys → IsImage Q ys zs → IsImage S xs zs
image_then R Q S xs ys zs join split one two = record {
  len = two.len ∙ one.len;
  each =
      λ j. ((λ is. to j ((two.each j).0 is)), back j);
} where
  first : (k j : ℕ) → Q k j → IsReached R xs k → IsReached S xs j
  first k j q (i, is, r) = (i, is, join i k j r q)

  to : (j : ℕ) → IsReached Q ys j → IsReached S xs j
  to j (k, is, q) = first k j q ((one.each k).0 is)

  through : (i j : ℕ) → IsIn xs i → ((k : ℕ) × R i k × Q k j) → IsIn zs j
  through i j is (k, r, q) = (two.each j).1 (k, (one.each k).1 (i, is, r), q)

  back : (j : ℕ) → IsReached S xs j → IsIn zs j
  back j (i, is, m) = through i j is (split i j m)

pub image_either : (R Q S : ℕ → ℕ → Type 0) (xs ys zs all : List Bool) → ((i j : ℕ) → (R i j ⊎ Q i j) ↔ S i j)
    → IsImage R xs ys → IsImage Q xs zs → IsUnion ys zs all → IsImage S xs all
image_either R Q S xs ys zs all same one two union = record {
  len = union.len ∙ one.len;
  each =
      λ j. ((λ is. to j ((union.each j).0 is)), back j);
} where
  left : (j : ℕ) → IsReached R xs j → IsReached S xs j
  left j (i, is, r) = (i, is, (same i j).0 (inl r))

  right : (j : ℕ) → IsReached Q xs j → IsReached S xs j
  right j (i, is, q) = (i, is, (same i j).0 (inr q))

  to : (j : ℕ) → (IsIn ys j ⊎ IsIn zs j) → IsReached S xs j
  to j (inl is) = left j ((one.each j).0 is)
  to j (inr is) = right j ((two.each j).0 is)

  by_side : (i j : ℕ) → IsIn xs i → (R i j ⊎ Q i j) → IsIn all j
  by_side i j is (inl r) = (union.each j).1 (inl ((one.each j).1 (i, is, r)))
  by_side i j is (inr q) = (union.each j).1 (inr ((two.each j).1 (i, is, q)))

  back : (j : ℕ) → IsReached S xs j → IsIn all j
  back j (i, is, m) = by_side i j is ((same i j).1 m)

pub image_same : (R Q : ℕ → ℕ → Type 0) (xs ys : List Bool) → ((i j : ℕ) → R i j ↔ Q i j) → IsImage R xs ys
    → IsImage Q xs ys
image_same R Q xs ys same one = record { len = one.len; each = λ j. ((λ is. to j ((one.each j).0 is)), back j) } where
  to : (j : ℕ) → IsReached R xs j → IsReached Q xs j
  to j (i, is, r) = (i, is, (same i j).0 r)

  back : (j : ℕ) → IsReached Q xs j → IsIn ys j
  back j (i, is, q) = (one.each j).1 (i, is, (same i j).1 q)

pub image_still : (R : ℕ → ℕ → Type 0) (xs : List Bool) → ((i j : ℕ) → (i ≡ j) ↔ R i j) → IsImage R xs xs
image_still R xs same = record { len = refl; each = λ j. ((λ is. (j, is, (same j j).0 refl)), back j) } where
  back : (j : ℕ) → IsReached R xs j → IsIn xs j
  back j (i, is, r) = subst (λ x. IsIn xs x) ((same i j).1 r) is

-- the kinds of patterns
module _ (s : List ℕ) where
  pub image_empty : (xs : List Bool) → IsImage (Matches s empty) xs xs
  image_empty xs = image_still (Matches s empty) xs (λ i j. ((λ e. e), (λ e. e)))

  pub image_start : (xs ys : List Bool) → IsImage (Stays 0) xs ys → IsImage (Matches s start) xs ys
  image_start xs ys h = image_same (Stays 0) (Matches s start) xs ys (λ i j. ((λ e. e), (λ e. e))) h

  pub image_finish : (xs ys : List Bool) → IsImage (Stays (length s)) xs ys → IsImage (Matches s finish) xs ys
  image_finish xs ys h = image_same (Stays (length s)) (Matches s finish) xs ys (λ i j. ((λ e. e), (λ e. e))) h

  pub image_cat : (p q : Pattern) (xs ys zs : List Bool) → IsImage (Matches s p) xs ys → IsImage (Matches s q) ys zs
      → IsImage (Matches s (cat p q)) xs zs
  image_cat p q xs ys zs one two = image_then (Matches s p) (Matches s q) (Matches s (cat p q)) xs ys zs
      (λ i k j m n. (k, m, n)) (λ i j m. m) one two

  pub image_alt : (p q : Pattern) (xs ys zs all : List Bool) → IsImage (Matches s p) xs ys → IsImage (Matches s q) xs zs
      → IsUnion ys zs all → IsImage (Matches s (alt p q)) xs all
  image_alt p q xs ys zs all one two union = image_either (Matches s p) (Matches s q) (Matches s (alt p q)) xs ys zs all
      (λ i j. ((λ m. m), (λ m. m))) one two union

-- chains
module _ (R : ℕ → ℕ → Type 0) where
  pub chain_last : (n i j k : ℕ) → Chain R n i j → R j k → Chain R (suc n) i k
  chain_last zero i j k same r = (k, subst (λ x. R x k) (sym same) r, refl)
  chain_last (suc n) i j k (l, one, rest) r = (l, one, chain_last n l j k rest r)

  pub chain_before : (n i k : ℕ) → Chain R (suc n) i k → (j : ℕ) × Chain R n i j × R j k
  chain_before zero i k (l, one, same) = (i, refl, subst (λ x. R i x) same one)
  chain_before (suc n) i k (l, one, rest) = let y = chain_before n l k rest in (y.0, (l, one, y.1), y.2)

  chain_split : (n m c i k : ℕ) → c ≡ n + m → Chain R c i k → (j : ℕ) × Chain R n i j × Chain R m j k
  chain_split zero m c i k is chain = (
    i,
    refl,
    subst (λ x. Chain R x i k) (let e : c ≡ m = omega (arith, is) in
        e) chain,
  )
  chain_split (suc n) m zero i k is chain = absurd (omega (arith, is))
  chain_split (suc n) m (suc c) i k is (l, one, rest) =
      let y = chain_split n m c l k (omega (arith, is)) rest in (y.0, (l, one, y.1), y.2)

  -- so many times
  pub copies_begin : (xs : List Bool) → IsImage (Chain R 0) xs xs
  copies_begin xs = image_still (Chain R 0) xs (λ i j. ((λ e. e), (λ e. e)))

  pub copies_add : (k m : ℕ) (xs ys zs : List Bool) → m ≡ suc k → IsImage (Chain R k) xs ys → IsImage R ys zs
      → IsImage (Chain R m) xs zs
  copies_add k m xs ys zs is one two = subst (λ n. IsImage (Chain R n) xs zs) (sym is)
      (image_then (Chain R k) R (Chain R (suc k)) xs ys zs (λ i l j m r. chain_last k i l j m r)
      (λ i j m. chain_before k i j m) one two)

  -- at most so many times
  pub options_begin : (xs : List Bool) → IsImage (Within R (Some 0)) xs xs
  options_begin xs = image_still (Within R (Some 0)) xs (λ i j. ((λ e. (0, omega arith, e)), back i j)) where
    back : (i j : ℕ) → Within R (Some 0) i j → i ≡ j
    back i j (zero, le, same) = same
    back i j (suc n, le, chain) = absurd (omega (arith, le))

  pub options_add : (k m : ℕ) (xs ys zs : List Bool) → m ≡ suc k → IsImage (Within R (Some k)) xs ys
      → IsImage (Maybe R) ys zs → IsImage (Within R (Some m)) xs zs
  options_add k m xs ys zs is one two = subst (λ n. IsImage (Within R (Some n)) xs zs) (sym is)
      (image_then (Within R (Some k)) (Maybe R) (Within R (Some (suc k))) xs ys zs join split one two) where
        join : (i l j : ℕ) → Within R (Some k) i l → Maybe R l j → Within R (Some (suc k)) i j
        join i l j (n, le, chain) (inl same) = (n, omega (arith, le), subst (λ x. Chain R n i x) same chain)
        join i l j (n, le, chain) (inr r) = (suc n, omega (arith, le), chain_last n i l j chain r)

        split : (i j : ℕ) → Within R (Some (suc k)) i j → (l : ℕ) × Within R (Some k) i l × Maybe R l j
        split i j (zero, le, same) = (j, (zero, omega arith, same), inl refl)
        split i j (suc n, le, chain) = let y = chain_before n i j chain in (y.0, (n, omega (arith, le), y.1), inr y.2)

  pub grown_is : (xs ys all : List Bool) → IsImage R xs ys → IsUnion xs ys all → IsImage (Maybe R) xs all
  grown_is xs ys all one union = image_either (λ i j. i ≡ j) R (Maybe R) xs xs ys all (λ i j. ((λ m. m), (λ m. m)))
      (image_still (λ i j. i ≡ j) xs (λ i j. ((λ e. e), (λ e. e)))) one union

  -- any number of times
  pub record IsClosing (from to : List Bool) : Type 0 where
    pub len : length to ≡ length from
    pub had : (j : ℕ) → IsIn from j → IsIn to j
    pub sound : (j : ℕ) → IsIn to j → IsReached (Within R None) from j

  pub closing_begins : (from : List Bool) → IsClosing from from
  closing_begins from = record { len = refl; had = λ j is. is; sound = λ j is. (j, is, (0, tt, refl)) }

  pub closing_more : (from to next : List Bool) → IsImage (Maybe R) to next → IsClosing from to → IsClosing from next
  closing_more from to next one h = record {
    len = one.len ∙ h.len;
    had = λ j is. (one.each j).1 (j, h.had j is, inl refl);
    sound = λ j is. through j ((one.each j).0 is);
  } where
    further : (k j : ℕ) → Maybe R k j → IsReached (Within R None) from k → IsReached (Within R None) from j
    further k j (inl same) (i, is, w) = (i, is, subst (λ x. Within R None i x) same w)
    further k j (inr r) (i, is, (n, most, chain)) = (i, is, (suc n, tt, chain_last n i k j chain r))

    through : (j : ℕ) → IsReached (Maybe R) to j → IsReached (Within R None) from j
    through j (k, is, m) = further k j m (h.sound k is)

  pub closing_ends : (from to next : List Bool) → IsImage (Maybe R) to next → next ≡ to → IsClosing from to
      → IsImage (Within R None) from to
  closing_ends from to next one same h = record { len = h.len; each = λ j. (h.sound j, back j) } where
    stays : (n i j : ℕ) → IsIn to i → Chain R n i j → IsIn to j
    stays zero i j is e = subst (λ x. IsIn to x) e is
    stays (suc n) i j is (k, r, rest) = stays n k j (subst (λ x. IsIn x k) same ((one.each k).1 (i, is, inr r))) rest

    back : (j : ℕ) → IsReached (Within R None) from j → IsIn to j
    back j (i, is, (n, most, chain)) = stays n i j (h.had i is) chain

-- how many places a set lacks
abbrev pub missing : List Bool → ℕ
missing [] = 0
missing (true ∷ xs) = missing xs
missing (false ∷ xs) = suc (missing xs)

missing_le : (xs ys : List Bool) → length ys ≡ length xs → ((j : ℕ) → IsIn xs j → IsIn ys j) → missing ys ≤ missing xs
missing_le [] [] len h = omega arith
missing_le [] (y ∷ ys) len h = absurd (omega (arith, len))
missing_le (x ∷ xs) [] len h = absurd (omega (arith, len))
missing_le (true ∷ xs) (true ∷ ys) len h = missing_le xs ys (omega (arith, len)) (λ j. h (suc j))
missing_le (true ∷ xs) (false ∷ ys) len h = absurd (true≢false (sym (h 0 refl)))
missing_le (false ∷ xs) (true ∷ ys) len h = omega (arith, missing_le xs ys (omega (arith, len)) (λ j. h (suc j)))
missing_le (false ∷ xs) (false ∷ ys) len h = omega (arith, missing_le xs ys (omega (arith, len)) (λ j. h (suc j)))

missing_less : (xs ys : List Bool) → length ys ≡ length xs → ((j : ℕ) → IsIn xs j → IsIn ys j) → (ys ≡ xs → ⊥)
    → missing ys < missing xs
missing_less [] [] len h ne = absurd (ne refl)
missing_less [] (y ∷ ys) len h ne = absurd (omega (arith, len))
missing_less (x ∷ xs) [] len h ne = absurd (omega (arith, len))
missing_less (true ∷ xs) (true ∷ ys) len h ne = missing_less xs ys (omega (arith, len)) (λ j. h (suc j))
    (λ e. ne (ap (λ zs. true ∷ zs) e))
missing_less (true ∷ xs) (false ∷ ys) len h ne = absurd (true≢false (sym (h 0 refl)))
missing_less (false ∷ xs) (true ∷ ys) len h ne = omega (arith, missing_le xs ys (omega (arith, len)) (λ j. h (suc j)))
missing_less (false ∷ xs) (false ∷ ys) len h ne = omega (
  arith,
  missing_less xs ys (omega (arith, len)) (λ j. h (suc j))
      (λ e. ne (ap (λ zs. false ∷ zs) e)),
)

pub closing_smaller : (R : ℕ → ℕ → Type 0) (to next : List Bool) → IsImage (Maybe R) to next → (next ≡ to → ⊥)
    → missing next < missing to
closing_smaller R to next one ne = missing_less to next one.len (λ j is. (one.each j).1 (j, is, inl refl)) ne

-- copies, and then the rest
most_more : (least m : ℕ) (more : Option ℕ) → AtMost more m → AtMost (option_map (λ m. least + m) more) (least + m)
most_more least m None most = tt
most_more least m (Some k) most = omega (arith, most)

most_less : (least n m : ℕ) (more : Option ℕ) → n ≡ least + m → AtMost (option_map (λ m. least + m) more) n
    → AtMost more m
most_less least n m None is most = tt
most_less least n m (Some k) is most = omega (arith, is, most)

pub image_repeat : (s : List ℕ) (p : Pattern) (least : ℕ) (more : Option ℕ) (xs ys zs : List Bool)
    → IsImage (Chain (Matches s p) least) xs ys → IsImage (Within (Matches s p) more) ys zs
    → IsImage (Matches s (repeat p least (option_map (λ m. least + m) more))) xs zs
image_repeat s p least more xs ys zs one two = image_then (Chain (Matches s p) least) (Within (Matches s p) more)
    (Matches s (repeat p least (option_map (λ m. least + m) more))) xs ys zs join split one two where
      join : (i k j : ℕ) → Chain (Matches s p) least i k → Within (Matches s p) more k j
          → Matches s (repeat p least (option_map (λ m. least + m) more)) i j
      join i k j chain (m, most, rest) =
          let y = chain_joined (Matches s p) least m i k j chain rest in
          (least + m, omega arith, most_more least m more most, subst (λ n. Chain (Matches s p) n i j) y.1 y.2)

      split : (i j : ℕ) → Matches s (repeat p least (option_map (λ m. least + m) more)) i j → (k : ℕ)
          × Chain (Matches s p) least i k × Within (Matches s p) more k j
      split i j (n, le, most, chain) =
          let is : n ≡ least + (n - least) = omega (arith, le) in
          let y = chain_split (Matches s p) least (n - least) n i j is chain in
          (y.0, y.1, (n - least, most_less least n (n - least) more is most, y.2))

-- the greatest place of a set
abbrev pub NoneAfter : List Bool → ℕ → Type 0
NoneAfter set after = (j : ℕ) → length set ≤ j + after → IsIn set j → ⊥

pub last_begins : (set : List Bool) → NoneAfter set 0
last_begins set = λ j le is. omega (arith, le, in_below set j is)

pub last_more : (set : List Bool) (after at : ℕ) → after < length set → at ≡ length set - 1 - after
    → slice_index_or set at false ≡ false → NoneAfter set after → NoneAfter set (after + 1)
last_more set after at lt e none h = λ j le is. elim (cases_eq j at) [
  | inl same ↦ absurd (true≢false (sym (subst (λ x. IsIn set x) same is) ∙ none))
  | inr ne ↦ h j (omega (arith, le, lt, e, ne)) is
]

pub last_found : (set : List Bool) (after at : ℕ) → after < length set → at ≡ length set - 1 - after → IsIn set at
    → NoneAfter set after → IsLast set (Some at)
last_found set after at lt e is h = (
  is,
  λ j there. elim (cases_lt at j) [
    | inl more ↦ absurd (h j (omega (arith, more, lt, e)) there)
    | inr le ↦ le
  ],
)

pub last_none : (set : List Bool) (after : ℕ) → length set ≤ after → NoneAfter set after → IsLast set None
last_none set after le h = λ j is. h j (omega (arith, le)) is

-- the longest match from a place
module _ (s : List ℕ) (p : Pattern) where
  pub longest_is : (i : ℕ) (from ends : List Bool) (found : Option ℕ) → length from ≡ length s + 1 → IsSingle i from
      → IsImage (Matches s p) from ends → IsLast ends found → Longest s p i found
  longest_is i from ends None len one image none = λ j m. none j ((image.each j).1 (i, (one i).1 refl, m))
  longest_is i from ends (Some e) len one image (is, great) = (
    begins ((image.each e).0 is),
    omega (arith, in_below ends e is, image.len, len),
    λ j m. great j ((image.each j).1 (i, (one i).1 refl, m)),
  ) where
    begins : IsReached (Matches s p) from e → Matches s p i e
    begins (k, there, m) = subst (λ x. Matches s p x e) ((one k).0 there) m

  chain_le : ((i j : ℕ) → Matches s p i j → i ≤ j) → (n i j : ℕ) → Chain (Matches s p) n i j → i ≤ j
  chain_le le zero i j same = omega (arith, same)
  chain_le le (suc n) i j (k, one, rest) = omega (arith, le i k one, chain_le le n k j rest)

matches_le : (s : List ℕ) (p : Pattern) (i j : ℕ) → Matches s p i j → i ≤ j
matches_le s empty i j same = omega (arith, same)
matches_le s (bytes test) i j (lt, taken, e) = omega (arith, e)
matches_le s start i j (first, same) = omega (arith, same)
matches_le s finish i j (last, same) = omega (arith, same)
matches_le s (cat p q) i j (k, one, two) = omega (arith, matches_le s p i k one, matches_le s q k j two)
matches_le s (alt p q) i j (inl m) = matches_le s p i j m
matches_le s (alt p q) i j (inr m) = matches_le s q i j m
matches_le s (repeat p least most) i j (n, le, at_most, chain) = chain_le s p (matches_le s p) n i j chain

-- each start in turn
module _ (s : List ℕ) (p : Pattern) (from : ℕ) where
  abbrev pub NoneBefore : ℕ → Type 0
  NoneBefore i = (k l : ℕ) → from ≤ k → k < i → Matches s p k l → ⊥

  pub none_begins : NoneBefore from
  none_begins = λ k l after before m. omega (arith, after, before)

  pub none_more : (i : ℕ) → Longest s p i None → NoneBefore i → NoneBefore (i + 1)
  none_more i none h = λ k l after before m. elim (cases_eq k i) [
    | inl same ↦ none l (subst (λ x. Matches s p x l) same m)
    | inr ne ↦ h k l after (omega (arith, before, ne)) m
  ]

  pub best_found : (i e : ℕ) → from ≤ i → Longest s p i (Some e) → NoneBefore i → Best s p from (Some (i, e))
  best_found i e after (m, within, great) h = record {
    after = after;
    within = within;
    matches = m;
    leftmost = λ k l later inside n. elim (cases_lt k i) [
      | inl before ↦ absurd (h k l later before n)
      | inr le ↦ le
    ];
    longest = λ l inside n. great l n;
  }

  pub best_none : (i : ℕ) → length s < i → NoneBefore i → Best s p from None
  best_none i past h = λ k l after inside m. h k l after (omega (arith, past, inside, matches_le s p k l m)) m

best_same : (s : List ℕ) (p q : Pattern) (from : ℕ) (found : Option (ℕ × ℕ)) → IsSame p q → Best s p from found
    → Best s q from found
best_same s p q from None same none = λ i j after within m. none i j after within (same.from s i j m)
best_same s p q from (Some x) same best = record {
  after = best.after;
  within = best.within;
  matches = same.to s x.0 x.1 best.matches;
  leftmost = λ k l after within m. best.leftmost k l after within (same.from s k l m);
  longest = λ l within m. best.longest l within (same.from s x.0 l m);
}

-- what a search over the tree of a text says of the text
pub tree_finds : (source s : List ℕ) (sets : List (List Bool)) (node : Node) (from : ℕ) (found : Option (ℕ × ℕ))
    → IsTree source sets node → Best s (pattern sets node) from found → Finds source s from found
tree_finds source s sets node from found (p, is, same) best =
    (p, is, best_same s (pattern sets node) p from found same best)
