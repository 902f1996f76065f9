-- Records of a stream, whose front is the same whatever comes behind it.
use Rattle.std.proofs.Common.{◌≡◌, ℕ, ◌+◌, ◌≤◌, ◌<◌, Bool, true, false, not, cond, nat_lt, eqb, ◌==◌, ◌&&◌, List, []}
use Rattle.std.proofs.Common.{◌∷◌, ◌++◌, length, take, drop, Option, Some, None, option_map, sym, ap, ap₂, subst}
use Rattle.std.proofs.Common.{subst₂, append_assoc, append-nil, refl, ◌∙◌, arith, inl, inr, suc, ◌-◌, get_or}
use Rattle.std.proofs.Common.{get_or-drop, length-take, length-drop, length-append, lt-ltb, ltb-true, eqb-true, ne_eqb}
use Rattle.std.specs.List.{position_or_len, prefix_len, before_first, after_first, slice_index}
use Rattle.std.proofs.lemmas.Bool.{cases_lt, and_parts, false≢true}
use Rattle.std.proofs.lemmas.List.{take-append-le, drop-append-le, get_or_append_left}
use Rattle.std.proofs.lemmas.List.Folds.{prefix_len-append}
use Rattle.awk_text.specs.Limits.{most_bytes}
use Rattle.awk_fields.specs.Heads.{Head, taken, need_more, done, too_long, last, line, is_newline, pair_place, trimmed}
use Rattle.awk_fields.specs.Heads.{ended_by, paragraph, head, FirstRecords, Records, IsStopped, IsTooLong}
use Rattle.awk_fields.specs.Takes.{Input, Takes}
use Rattle.awk_fields.proofs.HeadLemmas.{is_pair, none_pair, prefix_more}
use Rattle.awk_fields.specs.declared.reader.Taken.TheVariants.{Record}

-- what is left behind a record
rest_of : Head → List ℕ
rest_of (taken text rest) = rest
rest_of h = []

-- the same record with more behind it
with_more : List ℕ → Head → Head
with_more v (taken text rest) = taken text (rest ++ v)
with_more v h = h

more_of : (v text rest text' rest' : List ℕ) → taken text rest ≡ taken text' rest'
    → taken text (rest ++ v) ≡ taken text' (rest' ++ v)
unfolding with_more
more_of v text rest text' rest' e = ap (with_more v) e

rest_same : (text rest text' rest' : List ℕ) → taken text rest ≡ taken text' rest' → rest ≡ rest'
unfolding rest_of
rest_same text rest text' rest' e = ap rest_of e

-- how many bytes pass in front, where more come behind
front_stays : (p : ℕ → Bool) (u v : List ℕ) → prefix_len p u < length u → prefix_len p (u ++ v) ≡ prefix_len p u
front_stays p u v lt =
    let ne : eqb (prefix_len p u) (length u) ≡ false = ne_eqb (prefix_len p u) (length u) (λ e. omega arith) in
    prefix_len-append p u v ∙ ap (λ b. cond b (length u + prefix_len p v) (prefix_len p u)) ne

-- ---- RS one byte

line_cut : (c : ℕ) (u v : List ℕ) (ended : Bool) → position_or_len (λ b. b == c) u < length u
    → nat_lt most_bytes (position_or_len (λ b. b == c) u) ≡ false
    → line c (u ++ v) ended ≡ taken (before_first (λ b. b == c) u) (after_first (λ b. b == c) u ++ v)
line_cut c u v ended lt small =
    let p = λ (b : ℕ). b == c in
    let n = position_or_len p u in
    let m = position_or_len p (u ++ v) in
    let same : m ≡ n = front_stays (λ (b : ℕ). not (b == c)) u v lt in
    let front : take m (u ++ v) ≡ take n u = ap (λ k. take k (u ++ v)) same ∙ take-append-le n u v (omega arith) in
    let behind : drop (m + 1) (u ++ v) ≡ drop (n + 1) u ++ v = ap (λ k. drop (k + 1) (u ++ v)) same ∙ drop-append-le
    (n + 1) u v (omega arith) in
    let inside : nat_lt m (length (u ++ v)) ≡ true = lt-ltb m (length (u ++ v)) (omega (arith, same, length-append u v))
    in
    let little : nat_lt most_bytes m ≡ false = ap (nat_lt most_bytes) same ∙ small in
    ap (λ t. cond t too_long (cond (nat_lt m (length (u ++ v))) (taken (take m (u ++ v)) (drop (m + 1) (u ++ v)))
    (last (u ++ v) ended))) little
    ∙ (ap (λ t. cond t (taken (take m (u ++ v)) (drop (m + 1) (u ++ v))) (last (u ++ v) ended)) inside
    ∙ ap₂ taken front behind)

line_more : (c : ℕ) (u v : List ℕ) (ended : Bool) (text rest : List ℕ) → line c u false ≡ taken text rest
    → line c (u ++ v) ended ≡ taken text (rest ++ v)
line_more c u v ended text rest h = by (nat_lt most_bytes (position_or_len (λ b. b == c) u)) refl
    (nat_lt (position_or_len (λ b. b == c) u) (length u)) refl h
  where
    by : (a : Bool) → nat_lt most_bytes (position_or_len (λ b. b == c) u) ≡ a → (b : Bool)
        → nat_lt (position_or_len (λ b. b == c) u) (length u) ≡ b
        → cond a too_long (cond b (taken (before_first (λ b. b == c) u) (after_first (λ b. b == c) u)) need_more)
        ≡ taken text rest → line c (u ++ v) ended ≡ taken text (rest ++ v)
    by true small b inside e = absurd (cc)
    by false small false inside e = absurd (cc)
    by false small true inside e =
        line_cut c u v ended (ltb-true (position_or_len (λ b. b == c) u) (length u) inside) small
        ∙ more_of v (before_first (λ b. b == c) u) (after_first (λ b. b == c) u) text rest e

-- ---- RS empty

pair_more : (s v : List ℕ) (k : ℕ) → pair_place s ≡ Some k → pair_place (s ++ v) ≡ Some k
pair_more [] v k e = absurd (cc)
pair_more (b ∷ []) v k e = absurd (cc)
pair_more (b ∷ c ∷ s) v k e = by (b == 10 && c == 10) (pair_place (c ∷ s)) (λ j. pair_more (c ∷ s) v j) e
  where
    by : (t : Bool) (r : Option ℕ) → ((j : ℕ) → r ≡ Some j → pair_place (c ∷ s ++ v) ≡ Some j)
        → cond t (Some 0) (option_map (λ j. j + 1) r) ≡ Some k
        → cond t (Some 0) (option_map (λ j. j + 1) (pair_place (c ∷ s ++ v))) ≡ Some k
    by true r on e = e
    by false None on e = absurd (cc)
    by false (Some j) on e = ap (option_map (λ j. j + 1)) (on j refl) ∙ e

same_place : (j k : ℕ) → Some j ≡ Some k → j ≡ k
same_place j k e = cc

pair_inside : (s : List ℕ) (k : ℕ) → pair_place s ≡ Some k → k + 2 ≤ length s
pair_inside [] k e = absurd (cc)
pair_inside (b ∷ []) k e = absurd (cc)
pair_inside (b ∷ c ∷ s) k e = by (b == 10 && c == 10) (pair_place (c ∷ s)) (λ j. pair_inside (c ∷ s) j) e
  where
    by : (t : Bool) (r : Option ℕ) → ((j : ℕ) → r ≡ Some j → j + 2 ≤ length (c ∷ s))
        → cond t (Some 0) (option_map (λ j. j + 1) r) ≡ Some k → k + 2 ≤ length (b ∷ c ∷ s)
    by true r on e = let place = same_place 0 k e in omega (arith, place)
    by false None on e = absurd (cc)
    by false (Some j) on e = let place = same_place (j + 1) k e in omega (arith, place, on j refl)

paragraph_cut : (u v : List ℕ) (ended : Bool) (k : ℕ) → pair_place (drop (prefix_len is_newline u) u) ≡ Some k
    → nat_lt most_bytes (prefix_len is_newline u + k) ≡ false
    → paragraph (u ++ v) ended ≡ taken (take k (drop (prefix_len is_newline u) u))
    (drop (k + 2) (drop (prefix_len is_newline u) u) ++ v)
paragraph_cut u v ended k place small =
    let n = prefix_len is_newline u in
    let body = drop n u in
    let m = prefix_len is_newline (u ++ v) in
    let inside = pair_inside body k place in
    let lt : n < length u = omega (arith, inside, length-drop n u) in
    let same : m ≡ n = front_stays is_newline u v lt in
    let bodies : drop m (u ++ v) ≡ body ++ v = ap (λ j. drop j (u ++ v)) same ∙ drop-append-le n u v (omega arith) in
    let places : pair_place (drop m (u ++ v)) ≡ Some k = ap pair_place bodies ∙ pair_more body v k place in
    ap (λ r. ended_by r m (drop m (u ++ v)) (u ++ v) ended) places
    ∙ (ap (λ j. ended_by (Some k) j (drop m (u ++ v)) (u ++ v) ended) same
    ∙ (ap (λ b. ended_by (Some k) n b (u ++ v) ended) bodies
    ∙ (ap (λ t. cond t too_long (taken (take k (body ++ v)) (drop (k + 2) (body ++ v)))) small
    ∙ ap₂ taken (take-append-le k body v (omega arith)) (drop-append-le (k + 2) body v inside))))

paragraph_more : (u v : List ℕ) (ended : Bool) (text rest : List ℕ) → paragraph u false ≡ taken text rest
    → paragraph (u ++ v) ended ≡ taken text (rest ++ v)
paragraph_more u v ended text rest h = by (pair_place (drop (prefix_len is_newline u) u)) refl h
  where
    none : (t : Bool) → cond t too_long need_more ≡ taken text rest → paragraph (u ++ v) ended ≡ taken text (rest ++ v)
    none true e = absurd (cc)
    none false e = absurd (cc)

    some : (k : ℕ) → pair_place (drop (prefix_len is_newline u) u) ≡ Some k → (t : Bool)
        → nat_lt most_bytes (prefix_len is_newline u + k) ≡ t
        → cond t too_long (taken (take k (drop (prefix_len is_newline u) u))
        (drop (k + 2) (drop (prefix_len is_newline u) u))) ≡ taken text rest
        → paragraph (u ++ v) ended ≡ taken text (rest ++ v)
    some k place true small e = absurd (cc)
    some k place false small e = paragraph_cut u v ended k place small
        ∙ more_of v (take k (drop (prefix_len is_newline u) u)) (drop (k + 2) (drop (prefix_len is_newline u) u)) text
        rest e

    by : (r : Option ℕ) → pair_place (drop (prefix_len is_newline u) u) ≡ r
        → ended_by r (prefix_len is_newline u) (drop (prefix_len is_newline u) u) u false ≡ taken text rest
        → paragraph (u ++ v) ended ≡ taken text (rest ++ v)
    by None place e = none (nat_lt most_bytes (length (trimmed u))) e
    by (Some k) place e = some k place (nat_lt most_bytes (prefix_len is_newline u + k)) refl e

-- ---- both

-- a record that was seen is the same where more comes behind it
pub head_more : (rs u v : List ℕ) (ended : Bool) (text rest : List ℕ) → head rs u false ≡ taken text rest
    → head rs (u ++ v) ended ≡ taken text (rest ++ v)
head_more [] u v ended text rest e = paragraph_more u v ended text rest e
head_more (c ∷ rs) u v ended text rest e = line_more c u v ended text rest e

pub first_more : (rs : List ℕ) (ended : Bool) (u : List ℕ) (texts : List (List ℕ)) (rest v : List ℕ)
    → FirstRecords rs false u texts rest → FirstRecords rs ended (u ++ v) texts (rest ++ v)
first_more rs ended u [] rest v e = ap (λ w. w ++ v) e
first_more rs ended u (text ∷ texts) rest v (after, e, on) = (
  after ++ v,
  head_more rs u v ended text after e,
  first_more rs ended after texts rest v on,
)

pub first_append : (rs : List ℕ) (ended : Bool) (s : List ℕ) (texts others : List (List ℕ)) (middle rest : List ℕ)
    → FirstRecords rs ended s texts middle → FirstRecords rs ended middle others rest
    → FirstRecords rs ended s (texts ++ others) rest
first_append rs ended s [] others middle rest e on = subst (λ w. FirstRecords rs ended w others rest) (sym e) on
first_append rs ended s (text ∷ texts) others middle rest (after, e, front) on =
    (after, e, first_append rs ended after texts others middle rest front on)

last_rest : (w : List ℕ) (ended : Bool) (text rest : List ℕ) → last w ended ≡ taken text rest → rest ≡ []
last_rest w false text rest e = absurd (cc)
last_rest [] true text rest e = absurd (cc)
last_rest (b ∷ s) true text rest e = sym (rest_same (b ∷ s) [] text rest e)

none_left : (rest : List ℕ) (b : ℕ) (s : List ℕ) → rest ≡ [] → length rest < length (b ∷ s)
none_left rest b s e = omega (arith, ap length e)

line_shorter : (c : ℕ) (b : ℕ) (s : List ℕ) (ended : Bool) (text rest : List ℕ) → line c (b ∷ s) ended ≡ taken text rest
    → length rest < length (b ∷ s)
line_shorter c b s ended text rest h = by (nat_lt most_bytes (position_or_len (λ b. b == c) (b ∷ s)))
    (nat_lt (position_or_len (λ b. b == c) (b ∷ s)) (length (b ∷ s))) h
  where
    by : (a d : Bool) → cond a too_long
        (cond d (taken (before_first (λ b. b == c) (b ∷ s)) (after_first (λ b. b == c) (b ∷ s))) (last (b ∷ s) ended))
        ≡ taken text rest → length rest < length (b ∷ s)
    by true d e = absurd (cc)
    by false true e = omega (
      arith,
      ap length (rest_same (before_first (λ b. b == c) (b ∷ s)) (after_first (λ b. b == c) (b ∷ s)) text rest e),
      length-drop (position_or_len (λ b. b == c) (b ∷ s) + 1) (b ∷ s),
    )
    by false false e = none_left rest b s (last_rest (b ∷ s) ended text rest e)

paragraph_shorter : (b : ℕ) (s : List ℕ) (ended : Bool) (text rest : List ℕ) → paragraph (b ∷ s) ended ≡ taken text rest
    → length rest < length (b ∷ s)
paragraph_shorter b s ended text rest h = by (pair_place (drop (prefix_len is_newline (b ∷ s)) (b ∷ s))) h
  where
    some : (k : ℕ) (t : Bool)
        → cond t too_long (taken (take k (drop (prefix_len is_newline (b ∷ s)) (b ∷ s)))
        (drop (k + 2) (drop (prefix_len is_newline (b ∷ s)) (b ∷ s)))) ≡ taken text rest → length rest < length (b ∷ s)
    some k true e = absurd (cc)
    some k false e =
        omega (
          arith,
          ap length (rest_same (take k (drop (prefix_len is_newline (b ∷ s)) (b ∷ s)))
              (drop (k + 2) (drop (prefix_len is_newline (b ∷ s)) (b ∷ s))) text rest e),
          length-drop (k + 2) (drop (prefix_len is_newline (b ∷ s)) (b ∷ s)),
          length-drop (prefix_len is_newline (b ∷ s)) (b ∷ s),
        )

    none : (t : Bool) → cond t too_long (last (trimmed (drop (prefix_len is_newline (b ∷ s)) (b ∷ s))) ended)
        ≡ taken text rest → length rest < length (b ∷ s)
    none true e = absurd (cc)
    none false e = none_left rest b s (last_rest (trimmed (drop (prefix_len is_newline (b ∷ s)) (b ∷ s))) ended text
        rest e)

    by : (r : Option ℕ) → ended_by r (prefix_len is_newline (b ∷ s)) (drop (prefix_len is_newline (b ∷ s)) (b ∷ s))
        (b ∷ s) ended ≡ taken text rest → length rest < length (b ∷ s)
    by None e = none (nat_lt most_bytes (length (trimmed (b ∷ s)))) e
    by (Some k) e = some k (nat_lt most_bytes (prefix_len is_newline (b ∷ s) + k)) e

-- less is left behind a record
pub shorter : (rs u : List ℕ) (ended : Bool) (text rest : List ℕ) → head rs u ended ≡ taken text rest
    → length rest < length u
shorter [] [] true text rest e = absurd (cc)
shorter [] [] false text rest e = absurd (cc)
shorter (c ∷ rs) [] true text rest e = absurd (cc)
shorter (c ∷ rs) [] false text rest e = absurd (cc)
shorter [] (b ∷ s) ended text rest e = paragraph_shorter b s ended text rest e
shorter (c ∷ rs) (b ∷ s) ended text rest e = line_shorter c b s ended text rest e

last_done : (w : List ℕ) → IsStopped (last w true) → last w true ≡ done
last_done [] h = refl
last_done (b ∷ s) h = absurd h

-- where the input has ended, no record is left where none stands first
pub stopped_done : (rs s : List ℕ) → IsStopped (head rs s true) → head rs s true ≡ done
stopped_done [] s h = by (pair_place (drop (prefix_len is_newline s) s)) h
  where
    none : (t : Bool) (w : List ℕ) → IsStopped (cond t too_long (last w true)) → cond t too_long (last w true) ≡ done
    none true w h = absurd h
    none false w h = last_done w h

    some : (t : Bool) (text rest : List ℕ) → IsStopped (cond t too_long (taken text rest))
        → cond t too_long (taken text rest) ≡ done
    some true text rest h = absurd h
    some false text rest h = absurd h

    by : (r : Option ℕ) → IsStopped (ended_by r (prefix_len is_newline s) (drop (prefix_len is_newline s) s) s true)
        → ended_by r (prefix_len is_newline s) (drop (prefix_len is_newline s) s) s true ≡ done
    by None h = none (nat_lt most_bytes (length (trimmed s))) (trimmed (drop (prefix_len is_newline s) s)) h
    by (Some k) h = some (nat_lt most_bytes (prefix_len is_newline s + k)) (take k (drop (prefix_len is_newline s) s))
        (drop (k + 2) (drop (prefix_len is_newline s) s)) h
stopped_done (c ∷ rs) s h = by (nat_lt most_bytes (position_or_len (λ b. b == c) s))
    (nat_lt (position_or_len (λ b. b == c) s) (length s)) (before_first (λ b. b == c) s) (after_first (λ b. b == c) s) h
  where
    by : (a b : Bool) (text rest : List ℕ) → IsStopped (cond a too_long (cond b (taken text rest) (last s true)))
        → cond a too_long (cond b (taken text rest) (last s true)) ≡ done
    by true b text rest h = absurd h
    by false true text rest h = absurd h
    by false false text rest h = last_done s h

-- a record was taken
pub takes_record : (h : Head) (text : List ℕ) (old new : Input) → Takes h (Record text) old new
    → (h ≡ taken text new.unread) × (new.ended ≡ old.ended)
takes_record (taken given rest) text old new (same, e) = (
  ap₂ taken (sym same) (sym (ap (λ i. i.unread) e)),
  ap (λ i. i.ended) e,
)
takes_record need_more text old new h = absurd h
takes_record done text old new h = absurd h
takes_record too_long text old new h = absurd h

-- ---- what is too long stays so, whatever comes behind it

most_more : (n m : ℕ) → n ≤ m → nat_lt most_bytes n ≡ true → nat_lt most_bytes m ≡ true
most_more n m le h = lt-ltb most_bytes m (omega (arith, ltb-true most_bytes n h))

line_long : (c : ℕ) (u v : List ℕ) (ended : Bool) → line c u false ≡ too_long → line c (u ++ v) ended ≡ too_long
line_long c u v ended h = by (nat_lt most_bytes (position_or_len (λ b. b == c) u)) refl
    (nat_lt (position_or_len (λ b. b == c) u) (length u)) h
  where
    by : (a : Bool) → nat_lt most_bytes (position_or_len (λ b. b == c) u) ≡ a → (b : Bool)
        → cond a too_long (cond b (taken (before_first (λ b. b == c) u) (after_first (λ b. b == c) u)) need_more)
        ≡ too_long → line c (u ++ v) ended ≡ too_long
    by true long b e =
        let p = λ (b : ℕ). b == c in
        let m = position_or_len p (u ++ v) in
        let longer : nat_lt most_bytes m ≡ true = most_more (position_or_len p u) m
        (prefix_more (λ (b : ℕ). not (b == c)) u v (position_or_len p u) (omega arith)) long in
        ap (λ t. cond t too_long (cond (nat_lt m (length (u ++ v))) (taken (take m (u ++ v)) (drop (m + 1) (u ++ v)))
        (last (u ++ v) ended))) longer
    by false long true e = absurd (cc)
    by false long false e = absurd (cc)

trimmed_inside : (s : List ℕ) → (length (trimmed s) ≤ length s) × (length s ≤ length (trimmed s) + 1)
trimmed_inside s = by (slice_index s (length s - 1) == 10)
  where
    by : (t : Bool) → (length (cond t (take (length s - 1) s) s) ≤ length s)
        × (length s ≤ length (cond t (take (length s - 1) s) s) + 1)
    by true = (omega (arith, length-take (length s - 1) s), omega (arith, length-take (length s - 1) s))
    by false = (omega arith, omega arith)

trimmed_last : (s : List ℕ) (j : ℕ) → j + 1 ≡ length s → get_or s j 0 ≡ 10 → length (trimmed s) ≤ j
trimmed_last s j at is =
    let last_is : (slice_index s (length s - 1) == 10) ≡ true = ap (λ x. x == 10) (ap (λ k. get_or s k 0) (omega arith)
    ∙ is) in
    let same = ap (λ t. length (cond t (take (length s - 1) s) s)) last_is in
    omega (arith, same, length-take (length s - 1) s)

trimmed_more : (u v : List ℕ) → length (trimmed u) ≤ length (trimmed (u ++ v))
trimmed_more u [] = subst (λ w. length (trimmed u) ≤ length (trimmed w)) (sym (append-nil u)) (omega arith)
trimmed_more u (b ∷ v) = omega (arith, (trimmed_inside u).0, (trimmed_inside (u ++ b ∷ v)).1, length-append u (b ∷ v))

some_pair : (s : List ℕ) (k : ℕ) → pair_place s ≡ Some k → is_pair s k ≡ true
some_pair [] k e = absurd (cc)
some_pair (b ∷ []) k e = absurd (cc)
some_pair (b ∷ c ∷ s) k e = by (b == 10 && c == 10) (pair_place (c ∷ s)) refl (λ j. some_pair (c ∷ s) j) e
  where
    by : (t : Bool) (r : Option ℕ) → (b == 10 && c == 10) ≡ t → ((j : ℕ) → r ≡ Some j → is_pair (c ∷ s) j ≡ true)
        → cond t (Some 0) (option_map (λ j. j + 1) r) ≡ Some k → is_pair (b ∷ c ∷ s) k ≡ true
    by true r here on e = let P : ℕ → Type 0 = λ j. is_pair (b ∷ c ∷ s) j ≡ true in subst P (same_place 0 k e) here
    by false None here on e = absurd (cc)
    by false (Some j) here on e =
        let P : ℕ → Type 0 = λ i. is_pair (b ∷ c ∷ s) i ≡ true in
        let at : suc j ≡ k = omega (arith, same_place (j + 1) k e) in
        subst P at (on j refl)

-- two newlines that are seen only once more is there stand where what is held ends, or behind
pair_late : (u v : List ℕ) (n at : ℕ) → n ≤ at → ((j : ℕ) → j + 2 ≤ length (drop n u) → is_pair (drop n u) j ≡ false)
    → is_pair (u ++ v) at ≡ true → length (trimmed u) ≤ at
pair_late u v n at le none is = elim (cases_lt (at + 1) (length u)) [
  | inl lt ↦ absurd (false≢true (sym (none (at - n) (omega (arith, length-drop n u)))
      ∙ (ap₂ (λ x y. x == 10 && y == 10) (get_or-drop n u (at - n) 0 ∙ (ap (λ k. get_or u k 0) (omega arith)
      ∙ sym (get_or_append_left u v 0 at (omega arith)))) (get_or-drop n u (suc (at - n)) 0
      ∙ (ap (λ k. get_or u k 0) (omega arith) ∙ sym (get_or_append_left u v 0 (suc at) (omega arith))))
      ∙ is)))
  | inr ge ↦ elim (cases_lt at (length u)) [
    | inl lt ↦ trimmed_last u at (omega arith) (sym (get_or_append_left u v 0 at lt) ∙ eqb-true (get_or (u ++ v) at 0)
        10 (and_parts (get_or (u ++ v) at 0 == 10) (get_or (u ++ v) (suc at) 0 == 10) is).0)
    | inr beyond ↦ omega (arith, (trimmed_inside u).0)
  ]
]

paragraph_long_some : (u v : List ℕ) (ended : Bool) (k : ℕ) → pair_place (drop (prefix_len is_newline u) u) ≡ Some k
    → nat_lt most_bytes (prefix_len is_newline u + k) ≡ true → paragraph (u ++ v) ended ≡ too_long
paragraph_long_some u v ended k place long =
    let n = prefix_len is_newline u in
    let body = drop n u in
    let m = prefix_len is_newline (u ++ v) in
    let lt : n < length u = omega (arith, pair_inside body k place, length-drop n u) in
    let same : m ≡ n = front_stays is_newline u v lt in
    let bodies : drop m (u ++ v) ≡ body ++ v = ap (λ j. drop j (u ++ v)) same ∙ drop-append-le n u v (omega arith) in
    let places : pair_place (drop m (u ++ v)) ≡ Some k = ap pair_place bodies ∙ pair_more body v k place in
    ap (λ r. ended_by r m (drop m (u ++ v)) (u ++ v) ended) places
    ∙ ap (λ t. cond t too_long (taken (take k (drop m (u ++ v))) (drop (k + 2) (drop m (u ++ v)))))
    (ap (λ j. nat_lt most_bytes (j + k)) same ∙ long)

paragraph_long_none : (u v : List ℕ) (ended : Bool) → pair_place (drop (prefix_len is_newline u) u) ≡ None
    → nat_lt most_bytes (length (trimmed u)) ≡ true → paragraph (u ++ v) ended ≡ too_long
paragraph_long_none u v ended none long = by (pair_place (drop (prefix_len is_newline (u ++ v)) (u ++ v))) refl
  where
    late : (k : ℕ) → pair_place (drop (prefix_len is_newline (u ++ v)) (u ++ v)) ≡ Some k
        → length (trimmed u) ≤ prefix_len is_newline (u ++ v) + k
    late k place =
        let n = prefix_len is_newline u in
        let m = prefix_len is_newline (u ++ v) in
        let w = u ++ v in
        let here : is_pair w (m + k) ≡ true =
        sym (ap₂ (λ x y. x == 10 && y == 10) (get_or-drop m w k 0) (get_or-drop m w (suc k) 0 ∙ ap (λ j. get_or w j 0)
        (omega arith))) ∙ some_pair (drop m w) k place in
        pair_late u v n (m + k) (omega (arith, prefix_more is_newline u v n (omega arith))) (none_pair (drop n u) none)
        here

    by : (r : Option ℕ) → pair_place (drop (prefix_len is_newline (u ++ v)) (u ++ v)) ≡ r
        → ended_by r (prefix_len is_newline (u ++ v)) (drop (prefix_len is_newline (u ++ v)) (u ++ v)) (u ++ v) ended
        ≡ too_long
    by None place = ap (λ t. cond t too_long (last (trimmed (drop (prefix_len is_newline (u ++ v)) (u ++ v))) ended))
        (most_more (length (trimmed u)) (length (trimmed (u ++ v))) (trimmed_more u v) long)
    by (Some k) place =
        let m = prefix_len is_newline (u ++ v) in
        ap (λ t. cond t too_long (taken (take k (drop m (u ++ v))) (drop (k + 2) (drop m (u ++ v)))))
        (most_more (length (trimmed u)) (m + k) (late k place) long)

paragraph_long : (u v : List ℕ) (ended : Bool) → paragraph u false ≡ too_long → paragraph (u ++ v) ended ≡ too_long
paragraph_long u v ended h = by (pair_place (drop (prefix_len is_newline u) u)) refl h
  where
    none : pair_place (drop (prefix_len is_newline u) u) ≡ None → (t : Bool) → nat_lt most_bytes (length (trimmed u))
        ≡ t → cond t too_long need_more ≡ too_long → paragraph (u ++ v) ended ≡ too_long
    none place true long e = paragraph_long_none u v ended place long
    none place false long e = absurd (cc)

    some : (k : ℕ) → pair_place (drop (prefix_len is_newline u) u) ≡ Some k → (t : Bool)
        → nat_lt most_bytes (prefix_len is_newline u + k) ≡ t
        → cond t too_long (taken (take k (drop (prefix_len is_newline u) u))
        (drop (k + 2) (drop (prefix_len is_newline u) u))) ≡ too_long → paragraph (u ++ v) ended ≡ too_long
    some k place true long e = paragraph_long_some u v ended k place long
    some k place false long e = absurd (cc)

    by : (r : Option ℕ) → pair_place (drop (prefix_len is_newline u) u) ≡ r
        → ended_by r (prefix_len is_newline u) (drop (prefix_len is_newline u) u) u false ≡ too_long
        → paragraph (u ++ v) ended ≡ too_long
    by None place e = none place (nat_lt most_bytes (length (trimmed u))) refl e
    by (Some k) place e = some k place (nat_lt most_bytes (prefix_len is_newline u + k)) refl e

head_long : (rs u v : List ℕ) (ended : Bool) → head rs u false ≡ too_long → head rs (u ++ v) ended ≡ too_long
head_long [] u v ended h = paragraph_long u v ended h
head_long (c ∷ rs) u v ended h = line_long c u v ended h

-- a record that is too long stands behind what was taken
pub long_behind : (rs : List ℕ) (ended : Bool) (s : List ℕ) (texts : List (List ℕ)) (u : List ℕ)
    → FirstRecords rs ended s texts u → IsTooLong rs ended u → IsTooLong rs ended s
long_behind rs ended s texts u front (more, rest, on, long) =
    (texts ++ more, rest, first_append rs ended s texts more u rest front on, long)

-- it stays where more comes behind it
pub long_more : (rs : List ℕ) (ended : Bool) (u v : List ℕ) → IsTooLong rs false u → IsTooLong rs ended (u ++ v)
long_more rs ended u v (texts, rest, front, long) = (
  texts,
  rest ++ v,
  first_more rs ended u texts rest v front,
  head_long rs rest v ended long,
)

-- a piece that makes a record too long
pub stream_long : (rs so_far u piece later : List ℕ) (found : List (List ℕ))
    → ((later : List ℕ) → FirstRecords rs true (so_far ++ later) found (u ++ later)) → IsTooLong rs false (u ++ piece)
    → IsTooLong rs true (so_far ++ piece ++ later)
stream_long rs so_far u piece later found front long =
    let on : IsTooLong rs true (u ++ (piece ++ later)) = subst (IsTooLong rs true) (append_assoc u piece later)
    (long_more rs true (u ++ piece) later long) in
    subst (IsTooLong rs true) (sym (append_assoc so_far piece later))
    (long_behind rs true (so_far ++ (piece ++ later)) found (u ++ (piece ++ later)) (front (piece ++ later)) on)

-- one piece more
pub stream_step : (rs so_far u piece : List ℕ) (found texts : List (List ℕ)) (rest : List ℕ)
    → ((later : List ℕ) → FirstRecords rs true (so_far ++ later) found (u ++ later))
    → FirstRecords rs false (u ++ piece) texts rest
    → (later : List ℕ) → FirstRecords rs true (so_far ++ piece ++ later) (found ++ texts) (rest ++ later)
stream_step rs so_far u piece found texts rest front more later =
    let on : FirstRecords rs true (u ++ (piece ++ later)) texts (rest ++ later) =
    subst (λ w. FirstRecords rs true w texts (rest ++ later)) (append_assoc u piece later)
    (first_more rs true (u ++ piece) texts rest later more) in
    subst (λ w. FirstRecords rs true w (found ++ texts) (rest ++ later)) (sym (append_assoc so_far piece later))
    (first_append rs true (so_far ++ (piece ++ later)) found texts (u ++ (piece ++ later)) (rest ++ later)
    (front (piece ++ later)) on)

-- the end of the input
pub stream_end : (rs whole u : List ℕ) (found texts : List (List ℕ)) (rest : List ℕ)
    → ((later : List ℕ) → FirstRecords rs true (whole ++ later) found (u ++ later)) → FirstRecords rs true u texts rest
    → IsStopped (head rs rest true) → Records rs whole (found ++ texts)
stream_end rs whole u found texts rest front more stopped =
    let all : FirstRecords rs true whole found u = subst₂ (λ w x. FirstRecords rs true w found x) (append-nil whole)
    (append-nil u) (front []) in
    (rest, first_append rs true whole found texts u rest all more, stopped_done rs rest stopped)

pub stream_end_long : (rs whole u : List ℕ) (found : List (List ℕ))
    → ((later : List ℕ) → FirstRecords rs true (whole ++ later) found (u ++ later)) → IsTooLong rs true u
    → IsTooLong rs true whole
stream_end_long rs whole u found front long =
    long_behind rs true whole found u (subst₂ (λ w x. FirstRecords rs true w found x) (append-nil whole) (append-nil u)
    (front [])) long
