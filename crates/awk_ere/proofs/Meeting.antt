-- States that are made as a search meets them.
use Rattle.std.proofs.Common.{◌≡◌, ◌≢◌, map, ◌↔◌, ℕ, ◌+◌, ◌<◌, ◌≤◌, ◌⊎◌, inl, inr, Bool, true, false, IsTrue, IfSome}
use Rattle.std.proofs.Common.{List, [], ◌∷◌, ◌++◌, length, get_or, replicate, Option, Some, None, Result, Ok, Err, IfOk}
use Rattle.std.proofs.Common.{refl, sym, ◌∙◌, ap, subst, arith}
use Rattle.std.proofs.Math.ListN.{length-append}
use Rattle.std.specs.List.{slice_get, Contains}
use Rattle.std.proofs.lemmas.Bool.{cases_lt, cases_eq, both_ways}
use Rattle.std.proofs.lemmas.List.{get_or-replicate, get_or_default}
use Rattle.std.proofs.lemmas.Option.{slice_get_within, get_or_from_slice_get}
use Rattle.awk_ere.specs.Lazy.{IsNext, IsBegun, AreRows, HasMatchFrom, IsAhead, LongestFrom, NoneBefore}
use Rattle.awk_ere.specs.Matcher as matcher
use Rattle.awk_ere.specs.Matcher.{StandsFor, NoneTo}
use Rattle.awk_ere.specs.Pattern.{Pattern, Matches}
use Rattle.awk_ere.specs.Search.{IsMachine}
use Rattle.awk_ere.specs.Spelled.{IsPattern, Finds, HasMatch}
use Rattle.awk_ere.specs.Table.{steps_of, cell, IsCell, IsLed, Later, AreFlags, EndsAtLast, EndsSomewhere, IsLongest}
use Rattle.awk_ere.specs.Table.{Matcher, IsMatcher}
use Rattle.awk_ere.specs.declared.program.Instruction.{Instruction}
use Rattle.awk_ere.specs.declared.lazy.TheConstants.{UNKNOWN}
use Rattle.awk_ere.proofs.Gathering.{later_steps, later_length, cell_front, cell_last, flags_push, map_length, steps_is}
use Rattle.awk_ere.proofs.Searching.{run_matches, matches_run, finds_best}
use Rattle.awk_ere.proofs.Alone.{one_pattern}
use Rattle.awk_ere.proofs.Seeking.{starts, ends}

module _ (sets : List (List Bool)) (program : List Instruction) where
  pub next_later : (b n : ℕ) (S : List ℕ) (lists all : List (List ℕ)) → Later lists all
      → IsNext sets program b S lists n → IsNext sets program b S all n
  next_later b n S lists all later h = λ small.
      let y = h small in (
        omega (arith, y.0, later_length lists all later),
        subst (λ x. IsCell sets program b S x)
            (sym (later_steps lists all n y.0 later)) y.1,
      )

  pub begun_later : (step : ℕ) (first : Bool) (lists all : List (List ℕ)) (known : Option ℕ) → Later lists all
      → IsBegun program step first lists known → IsBegun program step first all known
  begun_later step first lists all None later h = tt
  begun_later step first lists all (Some n) later h = (
    omega (arith, h.0, later_length lists all later),
    subst (λ x. IsLed program first false (step ∷ []) x)
        (sym (later_steps lists all n h.0 later)) h.1,
  )

  flags_same : (P Q : ℕ → Type 0) (n : ℕ) (flags : List Bool) → ((q : ℕ) → q < n → P q → Q q)
      → ((q : ℕ) → q < n → Q q → P q) → AreFlags P n flags → AreFlags Q n flags
  flags_same P Q n flags to back h = record {
    len = h.len;
    each = λ q lt. ((λ t. to q lt ((h.each q lt).0 t)), (λ x. (h.each q lt).1 (back q lt x)));
  }

  -- a state that is put last
  module _ (lists all : List (List ℕ)) (steps : List ℕ) (is : all ≡ lists ++ steps ∷ []) where
    later : Later lists all
    later = (steps ∷ [], is)

    longer : length all ≡ length lists + 1
    longer = let e = ap length is in omega (arith, e, length-append {A = List ℕ})

    last : steps_of all (length lists) ≡ steps
    last = ap (λ x. steps_of x (length lists)) is ∙ at_end lists where
      at_end : (xs : List (List ℕ)) → steps_of (xs ++ steps ∷ []) (length xs) ≡ steps
      at_end [] = refl
      at_end (x ∷ xs) = at_end xs

    flags_last : (P : List ℕ → Type 0) (flags new : List Bool) (b : Bool) → new ≡ flags ++ b ∷ [] → (b ≡ true) ↔ P steps
        → AreFlags (λ q. P (steps_of lists q)) (length lists) flags
        → AreFlags (λ q. P (steps_of all q)) (length all) new
    flags_last P flags new b pushed one h =
        subst (λ n. AreFlags (λ q. P (steps_of all q)) n new) (sym longer)
        (flags_push (λ q. P (steps_of all q)) (length lists) flags new b pushed
        (subst (λ x. (b ≡ true) ↔ P x) (sym last) one)
        (flags_same (λ q. P (steps_of lists q)) (λ q. P (steps_of all q)) (length lists) flags
        (λ q lt x. subst P (sym (later_steps lists all q lt later)) x)
        (λ q lt x. subst P (later_steps lists all q lt later) x) h))

    pub rows_push : (cells more : List (List ℕ)) (accepts accepts' ends ends' : List Bool)
        → more ≡ cells ++ replicate 256 UNKNOWN ∷ []
        → (b : Bool) × (accepts' ≡ accepts ++ b ∷ []) × ((b ≡ true) ↔ Contains steps 0) → (b : Bool)
        × (ends' ≡ ends ++ b ∷ []) × ((b ≡ true) ↔ EndsAtLast program steps)
        → AreRows sets program lists cells accepts ends → AreRows sets program all more accepts' ends'
    rows_push cells more accepts accepts' ends ends' pushed accept end h = record {
      each = (let e = ap length pushed in omega (arith, e, longer, h.each, length-append {A = List ℕ}));
      next = λ q b lt small. subst (λ x. IsNext sets program b (steps_of all q) all (cell x q b)) (sym pushed)
          (elim (cases_lt q (length lists)) [
            | inl less ↦
                subst (λ n. IsNext sets program b (steps_of all q) all n)
                (sym (cell_front sets program cells (replicate 256 UNKNOWN) q b (omega (arith, h.each))))
                (subst (λ x. IsNext sets program b x all (cell cells q b)) (sym (later_steps lists all q less later))
                (next_later b (cell cells q b) (steps_of lists q) lists all later (h.next q b less small)))
            | inr ge ↦
                let e : q ≡ length cells = omega (arith, lt, longer, h.each) in
                let f : cell (cells ++ replicate 256 UNKNOWN ∷ []) q b ≡ UNKNOWN =
                ap (λ x. cell (cells ++ replicate 256 UNKNOWN ∷ []) x b) e ∙ cell_last sets program cells
                (replicate 256 UNKNOWN) b ∙ get_or-replicate 256 b UNKNOWN 0 small in
                λ known. absurd (omega (arith, known, f))
          ]);
      accept = flags_last (λ x. Contains x 0) accepts accepts' accept.0 accept.1 accept.2 h.accept;
      end = flags_last (λ x. EndsAtLast program x) ends ends' end.0 end.1 end.2 h.end;
    }

  -- a cell that is found out
  pub rows_set : (lists cells more : List (List ℕ)) (accepts ends : List Bool) (state byte n : ℕ)
      → length more ≡ length cells
      → (cell more state byte ≡ n) ⊎ (cell more state byte ≡ cell cells state byte)
      → ((q b : ℕ) → (q ≢ state) ⊎ (b ≢ byte) → cell more q b ≡ cell cells q b)
      → n < length lists → IsCell sets program byte (steps_of lists state) (steps_of lists n)
      → AreRows sets program lists cells accepts ends → AreRows sets program lists more accepts ends
  rows_set lists cells more accepts ends state byte n same here other inside is h = record {
    each = same ∙ h.each;
    next = λ q b lt small. elim (cases_eq q state) [
      | inl e ↦ elim (cases_eq b byte) [
        | inl f ↦ subst (λ x. IsNext sets program b (steps_of lists x) lists (cell more x b)) (sym e)
            (subst (λ x. IsNext sets program x (steps_of lists state) lists (cell more state x)) (sym f) (elim here [
              | inl new ↦ subst (λ x. IsNext sets program byte (steps_of lists state) lists x) (sym new)
                  (λ known. (inside, is))
              | inr old ↦ subst (λ x. IsNext sets program byte (steps_of lists state) lists x) (sym old)
                  (h.next state byte (omega (arith, e, lt)) (omega (arith, f, small)))
            ]))
        | inr ne ↦ subst (λ x. IsNext sets program b (steps_of lists q) lists x) (sym (other q b (inr ne)))
            (h.next q b lt small)
      ]
      | inr ne ↦ subst (λ x. IsNext sets program b (steps_of lists q) lists x) (sym (other q b (inl ne)))
          (h.next q b lt small)
    ];
    accept = h.accept;
    end = h.end;
  }

  -- the state after a byte, by the steps that were found
  pub cell_of : (b : ℕ) (lists all : List (List ℕ)) (S T : List ℕ) (q n : ℕ) → q < length lists → Later lists all
      → S ≡ steps_of lists q → steps_of all n ≡ T → IsCell sets program b S T
      → IsCell sets program b (steps_of all q) (steps_of all n)
  cell_of b lists all S T q n lt later from to h =
      subst (λ x. IsCell sets program b x (steps_of all n)) (from ∙ sym (later_steps lists all q lt later))
      (subst (λ x. IsCell sets program b S x) (sym to) h)

-- a flag as it was read
pub flag_at : {P : ℕ → Type 0} {n q : ℕ} {b : Bool} (flags : List Bool) → q < n → AreFlags P n flags
    → b ≡ get_or flags q b → (b ≡ true) ↔ P q
flag_at {P} {n} {q} {b} flags lt h is =
    let same : get_or flags q false ≡ b = get_or_default flags q false b (omega (arith, h.len)) ∙ sym is in
    subst (λ x. (x ≡ true) ↔ P q) same (h.each q lt)

-- a list that is kept
pub stored_is : {K : Type 0} (items : K → List ℕ) (new : List K) (n : ℕ) (v k : K) → slice_get new n ≡ Some k
    → items v ≡ items k → (n < length (map items new)) × (steps_of (map items new) n ≡ items v)
stored_is items new n v k at same = (
  (let lt = slice_get_within new n k at in omega (arith, lt, map_length items new)),
  steps_is items new n k (slice_get_within new n k at) (sym (get_or_from_slice_get new n k k at)) ∙ sym same,
)

-- what begins after any bytes ends where a match starts there or later
pub is_ahead : (m : Matcher) (p q : Pattern) → IsMachine m.sets m.program m.entry p → IsMatcher m q
    → IsAhead m.sets m.program m.scan p
is_ahead m p q machine is = record {
  sound = machine.sound;
  inside = is.scanner.inside;
  ahead = λ s from. (
    (λ run. let y = starts m q is s from run in
        (y.0, y.2.0, y.1, y.2.1, run_matches m.sets m.program m.entry p machine s y.0 y.2.0 y.2.2)),
    (λ x. ends m q is s from (x.0, x.2, (x.1, x.3, matches_run m.sets m.program m.entry p machine s x.0 x.1 x.4))),
  );
}

-- the same of what a search says
pub match_from : (source s : List ℕ) (sets : List (List Bool)) (program : List Instruction) (step from : ℕ)
    (p : Pattern) (r : Option Bool) → IsPattern source p → IsAhead sets program step p
    → IfSome r (λ b. IsTrue b ↔ EndsSomewhere sets program s step from) → IfSome r (λ b. HasMatchFrom source s from b)
match_from source s sets program step from p None is ahead h = tt
match_from source s sets program step from p (Some b) is ahead h =
    (p, is, ((λ t. (ahead.ahead s from).0 (h.0 t)), λ x. h.1 ((ahead.ahead s from).1 x)))

none_from : (source s : List ℕ) (from : ℕ) (b : Bool) → b ≡ false → HasMatchFrom source s from b
    → Finds source s from None
none_from source s from b off (p, is, h) =
    (p, is, λ i j after within match. both_ways b off (h.1 (i, j, after, within, match)))

-- there is no match where these states say so
pub no_match : (source s : List ℕ) (from : ℕ) (b : Bool) (r : Option Bool) → r ≡ Some b → b ≡ false
    → IfSome r (λ b. HasMatchFrom source s from b) → Finds source s from None
no_match source s from b r is off h = none_from source s from b off
    (subst (λ x. IfSome x (λ b. HasMatchFrom source s from b)) is h)

-- from the text's start on is anywhere
pub match_whole : (source s : List ℕ) (b : Bool) → HasMatchFrom source s 0 b → HasMatch source s b
match_whole source s b (p, is, h) =
    (p, is, ((λ t. let y = h.0 t in (y.0, y.1, y.3, y.4)), λ x. h.1 (x.0, x.1, omega arith, x.2, x.3)))

-- a search from a place before which no match starts
module _ (source s : List ℕ) (m : Matcher) (p : Pattern) (is : IsPattern source p) (machine : StandsFor m p) where
  pub finds_source : {E : Type 0} (from : ℕ) (r : Result (Option (ℕ × ℕ)) E)
      → IfOk r (λ found. matcher.Finds m s from found) → IfOk r (λ found. Finds source s from found)
  finds_source from (Err e) h = tt
  finds_source from (Ok found) h = (p, is, finds_best m.sets m.program m.entry p machine s from found h)

  pub none_before : (from k : ℕ) → NoneTo m s from k → NoneBefore source s from k
  none_before from k none = record {
    pattern = p;
    is = is;
    after = none.after;
    within = none.within;
    none = λ i j after less within match. none.none i j after less (omega arith)
        (matches_run m.sets m.program m.entry p machine s i j match);
  }

module _ (source s : List ℕ) (from : ℕ) where
  none_of : (k : ℕ) → NoneBefore source s from k → (q : Pattern) → IsPattern source q → (i j : ℕ) → from ≤ i → i < k
      → j ≤ length s → Matches s q i j → ⊥
  none_of k none q also i j after less within match = none.none i j after less within
      (subst (λ x. Matches s x i j) (one_pattern source q none.pattern also none.is) match)

  pub none_here : (p : Pattern) → IsPattern source p → from ≤ length s → NoneBefore source s from from
  none_here p is inside = record {
    pattern = p;
    is = is;
    after = omega arith;
    within = inside;
    none =
        λ i j after less within match. omega arith;
  }

  -- none up to k, and none from there up to r
  pub none_then : (k r : ℕ) → NoneBefore source s from k → NoneBefore source s k r → NoneBefore source s from r
  none_then k r none rest = record {
    pattern = rest.pattern;
    is = rest.is;
    after = omega (arith, none.after, rest.after);
    within = rest.within;
    none = λ i j after less within match. elim (cases_lt i k) [
      | inl before ↦ none_of k none rest.pattern rest.is i j
          after before within match
      | inr ge ↦ rest.none i j ge less within match
    ];
  }

  -- none at k
  pub none_next : (k : ℕ) → NoneBefore source s from k → k < length s → LongestFrom source s k None
      → NoneBefore source s from (k + 1)
  none_next k none inside (q, also, here) = record {
    pattern = q;
    is = also;
    after = omega (arith, none.after);
    within = omega arith;
    none = λ i j after less within match. elim (cases_lt i k) [
      | inl before ↦ none_of k none q also i j after before within match
      | inr ge ↦ here j within (let same : i ≡ k = omega arith in subst (λ x. Matches s q x j) same match)
    ];
  }

  -- the rest by another search
  pub best_later : (k : ℕ) → NoneBefore source s from k → (found : Option (ℕ × ℕ)) → Finds source s k found
      → Finds source s from found
  best_later k none None (q, also, h) = (
    q,
    also,
    λ i j after within match. elim (cases_lt i k) [
      | inl less ↦ none_of k none q also i j after less within
          match
      | inr ge ↦ h i j ge within match
    ],
  )
  best_later k none (Some x) (q, also, h) = (
    q,
    also,
    record {
      after = omega (arith, none.after, h.after);
      within = h.within;
      matches = h.matches;
      leftmost = λ i l start within match. elim (cases_lt i k) [
        | inl less ↦ absurd (none_of k none q also i l start less within match)
        | inr ge ↦ h.leftmost i l ge within
            match
      ];
      longest = h.longest;
    },
  )

  pub left_found : {E : Type 0} (k : ℕ) → NoneBefore source s from k → (r : Result (Option (ℕ × ℕ)) E)
      → IfOk r (λ found. Finds source s k found) → IfOk r (λ found. Finds source s from found)
  left_found k none (Err e) h = tt
  left_found k none (Ok found) h = best_later k none found h

pub nothing_in : (S : List ℕ) → length S ≡ 0 → (p : ℕ) → Contains S p → ⊥
nothing_in S none p member = omega (arith, member.1)

-- the longest match of the program is the pattern's
pub longest_from : (source s : List ℕ) (sets : List (List Bool)) (program : List Instruction) (e from : ℕ) (p : Pattern)
    (r : Option (Option ℕ)) → IsPattern source p → IsMachine sets program e p
    → IfSome r (λ found. IsLongest sets program s e from (length s + 1) found)
    → IfSome r (λ found. LongestFrom source s from found)
longest_from source s sets program e from p None is machine h = tt
longest_from source s sets program e from p (Some None) is machine h =
    (p, is, λ j within match. h j (omega arith) (matches_run sets program e p machine s from j match))
longest_from source s sets program e from p (Some (Some j)) is machine h = (
  p,
  is,
  (
    omega (arith, h.0),
    run_matches sets program e p machine s from j h.1,
    (λ l within match. h.2 l (omega arith) (matches_run sets program e p machine s from l match)),
  ),
)

-- the longest match from the place on is the best one
pub best_here : (source s : List ℕ) (from j : ℕ) → LongestFrom source s from (Some j)
    → Finds source s from (Some (from, j))
best_here source s from j (p, is, best) = (
  p,
  is,
  record {
    after = omega arith;
    within = best.0;
    matches = best.1;
    leftmost = λ i l after inside other. after;
    longest =
        λ l inside other. best.2 l inside other;
  },
)
