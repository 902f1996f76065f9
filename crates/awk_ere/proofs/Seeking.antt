-- What searches by a table say of the best match.
use Rattle.std.proofs.Common.{◌≡◌, ◌↔◌, IsTrue, ℕ, zero, suc, ◌+◌, ◌-◌, ◌<◌, ◌≤◌, ◌==◌, inl, inr, Bool, true, false}
use Rattle.std.proofs.Common.{cond, List, [], ◌∷◌, length, slice_index, slice_index_or, Option, Some, None, is_some}
use Rattle.std.proofs.Common.{IfSome, refl, sym, ap, subst, arith}
use Rattle.std.specs.List.{slice_get}
use Rattle.std.proofs.lemmas.Bool.{cases_lt, eqb-true, eq-eqb, ne_eqb, both_ways}
use Rattle.std.proofs.Math.Dec.{eqb-suc-zero}
use Rattle.awk_ere.specs.Pattern.{Pattern, bytes, Chain, Matches}
use Rattle.awk_ere.specs.Program.{Skips, left, right, at_start, at_end, SkipPath, Path}
use Rattle.awk_ere.specs.Search.{LeadsTo, Goes, Finds}
use Rattle.awk_ere.specs.Matcher.{BeginsIn, EndsFrom, IsAnchored, IsLater, StartsAt, StartsFrom, NoneTo, IsSought}
use Rattle.awk_ere.specs.Matcher as matcher
use Rattle.awk_ere.specs.Table.{steps_of, AllLead, IsLed, IsTable, IsBegin, IsAt, IsLongest, EndsAtLast, NoneBegin}
use Rattle.awk_ere.specs.Table.{Matcher, IsMatcher, anywhere}
use Rattle.awk_ere.specs.declared.program.Instruction.{Instruction}
use Rattle.awk_ere.specs.declared.program.Instruction.TheVariants.{AtStart, Done}
use Rattle.awk_ere.specs.declared.states.Begin.{Begin}
use Rattle.awk_ere.specs.declared.table.Sought.{Sought}
use Rattle.awk_ere.specs.declared.table.Sought.TheVariants.{Match, NoMatch, Left}
use Rattle.awk_ere.specs.declared.states.TheConstants.{UNKNOWN}
use Rattle.awk_ere.proofs.Searching.{path_le, flat, stays, run_matches, matches_run}
use Rattle.awk_ere.proofs.Tables.{only_one, leads_on, at_first, at_next, at_pass, at_dead, longest_begin}

pub at_begin : (sets : List (List Bool)) (program : List Instruction) (s : List ℕ) (lists cells : List (List ℕ))
    (accepts ends : List Bool) (e i n : ℕ) (r : Begin) → IsTable sets program lists cells accepts ends
    → IsBegin program e lists r → e < length program → n ≡ cond (i == 0) r.first r.later → n < length cells
    → IsAt sets program s cells accepts ends e i i n
at_begin sets program s lists cells accepts ends e i n r table begin inside is lt =
    (lists, table, lt, at_first sets program s e i (steps_of lists n) inside (by_place (i == 0) is)) where
      by_place : (b : Bool) → n ≡ cond b r.first r.later → IsLed program b false (e ∷ []) (steps_of lists n)
      by_place true same =
          let small : r.first < UNKNOWN = omega (arith, same, table.few) in
          subst (λ x. IsLed program true false (e ∷ []) (steps_of lists x)) (sym same) (begin.0 small).1
      by_place false same =
          let small : r.later < UNKNOWN = omega (arith, same, table.few) in
          subst (λ x. IsLed program false false (e ∷ []) (steps_of lists x)) (sym same) (begin.1 small).1

pub still_later : (m : Matcher) (from i : ℕ) → IsLater m from → from ≤ i → IsLater m i
still_later m from i (inl lt) le = inl (omega arith)
still_later m from i (inr same) le = inr same

module _ (m : Matcher) (s : List ℕ) (from : ℕ) where
  pub none_begin : from ≤ length s → NoneTo m s from from
  none_begin inside = record { after = omega arith; within = inside; none = λ i j after before within run. omega arith }

  -- none at k, and none before
  pub none_more : (k : ℕ) → k < length s → matcher.IsLongest m s k None → NoneTo m s from k → NoneTo m s from (k + 1)
  none_more k inside none h = record {
    after = omega (arith, h.after);
    within = omega arith;
    none = λ i j after before within run. elim (cases_lt i k) [
      | inl less ↦ h.none i j after less within run
      | inr ge ↦ (let same : i ≡ k = omega arith in
          none j within (subst (λ x. Goes m.sets m.program s m.entry x 0 j) same run))
    ];
  }

  pub found_at : (k j : ℕ) → matcher.IsLongest m s k (Some j) → NoneTo m s from k → matcher.Finds m s from (Some (k, j))
  found_at k j h none = record {
    after = none.after;
    within = h.0;
    related = h.1;
    leftmost = λ i l start within run. elim (cases_lt i k) [
      | inl less ↦ absurd (none.none i l start less within run)
      | inr ge ↦ ge
    ];
    longest = λ l within run. h.2 l within run;
  }

  -- none up to k, and none from there up to r
  pub none_on : (k r : ℕ) → NoneTo m s from k → NoneTo m s k r → NoneTo m s from r
  none_on k r none rest = record {
    after = omega (arith, none.after, rest.after);
    within = rest.within;
    none = λ i j after before within run. elim (cases_lt i k) [
      | inl less ↦ none.none i j after less within run
      | inr ge
          ↦ rest.none i j ge before within run
    ];
  }

  -- the rest by another search
  pub found_later : (k : ℕ) (found : Option (ℕ × ℕ)) → NoneTo m s from k → matcher.Finds m s k found
      → matcher.Finds m s from found
  found_later k None none h = λ i j start within run. elim (cases_lt i k) [
    | inl less ↦ none.none i j start less within
        run
    | inr ge ↦ h i j ge within run
  ]
  found_later k (Some x) none h = record {
    after = omega (arith, none.after, h.after);
    within = h.within;
    related = h.related;
    leftmost = λ i l start within run. elim (cases_lt i k) [
      | inl less ↦ absurd (none.none i l start less within run)
      | inr ge ↦ h.leftmost i l ge within run
    ];
    longest = h.longest;
  }

  pub sought_later : (k : ℕ) (r : Sought) → NoneTo m s from k → IsSought m s k r → IsSought m s from r
  sought_later k (Match i j) none h = found_later k (Some (i, j)) none h
  sought_later k NoMatch none h = found_later k None none h
  sought_later k (Left at) none h = none_on k at none h

-- where a search begins, by the parts of a table as they were read
pub begins_by : (m n : Matcher) → n ≡ m → (s : List ℕ) (e i state : ℕ) → BeginsIn m e i state
    → (cells : List (List ℕ)) (accepts ends : List Bool) → cells ≡ n.table.cells.items → accepts ≡ n.table.accepts.items
    → ends ≡ n.table.ends.items
    → IsAt m.sets m.program s cells accepts ends e i i state
begins_by m n same s e i state begin cells accepts ends cells_are accepts_are ends_are =
    rw (cells_are, accepts_are, ends_are)
    (subst (λ x. IsAt m.sets m.program s x.table.cells.items x.table.accepts.items x.table.ends.items e i i state)
    (sym same) (begin s))

-- where a search begins
module _ (m : Matcher) (p : Pattern) (is : IsMatcher m p) where
  pub begins_entry : (i state : ℕ) → state ≡ cond (i == 0) m.table.entry.first m.table.entry.later
      → state < length m.table.cells.items → BeginsIn m m.entry i state
  begins_entry i state at known = λ s. at_begin m.sets m.program s is.built.lists _ _ _ m.entry i state m.table.entry
      is.built.table is.built.entries is.machine.inside at known

  pub begins_scan : (i state : ℕ) → state ≡ cond (i == 0) m.table.scan.first m.table.scan.later
      → state < length m.table.cells.items → BeginsIn m m.scan i state
  begins_scan i state at known = λ s. at_begin m.sets m.program s is.built.lists _ _ _ m.scan i state m.table.scan
      is.built.table is.built.scans is.scanner.inside at known

  by_place : (i : ℕ) → IsLater m i → m.table.entry.later ≡ cond (i == 0) m.table.entry.first m.table.entry.later
  by_place zero (inl lt) = absurd (omega arith)
  by_place zero (inr same) = sym same
  by_place (suc i) h = sym (ap (λ b. cond b m.table.entry.first m.table.entry.later) (eqb-suc-zero i))

  module _ (s : List ℕ) (fit : (k : ℕ) → slice_index s k < 256) (from to : ℕ) (later : IsLater m from)
      (after : from ≤ to) (within : to ≤ length s) where
    abbrev q : ℕ
    q = m.table.entry.later

    begins_at : (i : ℕ) → from ≤ i → q < length m.table.cells.items → BeginsIn m m.entry i q
    begins_at i after known = begins_entry i q (by_place i (still_later m from i later after)) known

    none_yet : (i : ℕ) → IsLongest m.sets m.program s m.entry i i None
    none_yet i = longest_begin m.sets m.program s m.entry i

    -- no start where the first byte leads to no step
    pub none_dead : q < length m.table.cells.items → slice_index_or m.table.accepts.items q false ≡ false
        → AllLead (slice_index_or m.table.cells.items q []) s 0 from to → NoneTo m s from to
    none_dead known closed dead = record {
      after = after;
      within = within;
      none = λ i j start before below run.
          let at = begins_at i start known s in
          let lt : i < length s = omega arith in
          let le : i ≤ i = omega arith in
          at_dead _ _ _ _ _ _ _ i i q at le lt (fit i) (dead i start before) None
          (at_pass _ _ _ _ _ _ _ i i q at le lt closed (none_yet i)) j below run;
    }

    -- no start where the first byte and the one behind it lead to no match
    pub none_heads : NoneBegin m.table.heads s from to → NoneTo m s from to
    none_heads heads = record { after = after; within = within; none = none } where
      none : (i j : ℕ) → from ≤ i → i < to → j < length s + 1 → Goes m.sets m.program s m.entry i 0 j → ⊥
      none i j start before below run =
          let behind = heads i start before in
          let lt : i < length s = omega arith in
          elim (is.built.heads (slice_index s i) (slice_index s (i + 1)) (fit i) (fit (i + 1))) [
            | inl may ↦ absurd (both_ways _ behind.1 may)
            | inr fails ↦
                let at = begins_at i start fails.0 s in
                let le : i ≤ i = omega arith in
                let here = at_pass _ _ _ _ _ _ _ i i q at le lt fails.1 (none_yet i) in
                elim fails.2 [
                  | inl dead ↦ at_dead _ _ _ _ _ _ _ i i q at le lt (fit i) dead None here j below run
                  | inr more ↦
                      let next = at_next _ _ _ _ _ _ _ i i q at le lt (fit i) more.0 in
                      let up : i ≤ i + 1 = omega arith in
                      at_dead _ _ _ _ _ _ _ i (i + 1) _ next up behind.0 (fit (i + 1)) more.2 None
                      (at_pass _ _ _ _ _ _ _ i (i + 1) _ next up behind.0 more.1 here) j below run
                ]
          ]

-- an empty match at the end of a text that is not empty
module _ (sets : List (List Bool)) (program : List Instruction) (s : List ℕ) (lists cells : List (List ℕ))
    (accepts ends : List Bool) (e : ℕ) (r : Begin) (table : IsTable sets program lists cells accepts ends)
    (begin : IsBegin program e lists r) (inside : e < length program) (some : 0 < length s)
    (known : r.later < length cells) where
  abbrev n : ℕ
  n = length s

  abbrev start : List ℕ
  start = steps_of lists r.later

  led : IsLed program false false (e ∷ []) start
  led = (begin.1 (omega (arith, known, table.few))).1

  goes_led : Goes sets program s e n 0 n → LeadsTo program false true e 0
  goes_led run =
      let f = flat sets program s run.0 e n 0 n refl run.1 in
      subst (λ x. LeadsTo program x true e 0) (ne_eqb n 0 (λ z. omega arith))
      (subst (λ x. LeadsTo program (n == 0) x e 0) (eq-eqb n n refl) f)

  led_goes : LeadsTo program false true e 0 → Goes sets program s e n 0 n
  led_goes leads =
      let f : LeadsTo program (n == 0) (n == n) e 0 = subst (λ x. LeadsTo program (n == 0) x e 0)
      (sym (eq-eqb n n refl)) (subst (λ x. LeadsTo program x true e 0) (sym (ne_eqb n 0 (λ z. omega arith))) leads)
      in
      (f.0, stays sets program s f.0 e 0 n f.1)

  ends_led : EndsAtLast program start → LeadsTo program false true e 0
  ends_led (x, member, leads) =
      let y = led.sound x member in
      leads_on sets program s e n true y.2.0 e x 0 (subst (λ q. SkipPath program false false y.2.0 q x)
      (sym (only_one e y.0 y.1)) y.2.1) leads

  pub end_found : slice_index_or ends r.later false ≡ true → Finds sets program s e n (Some (n, n))
  end_found t = record {
    after = omega arith;
    within = omega arith;
    related = led_goes (ends_led ((table.end.each r.later known).0 t));
    leftmost = λ i l after below run. after;
    longest = λ l below run. omega arith;
  }

  pub end_none : slice_index_or ends r.later false ≡ false → Finds sets program s e n None
  end_none f = λ i j after below run.
      let le = path_le sets program s run.0 e i 0 j run.1 in
      let first : i ≡ n = omega arith in
      let last : j ≡ n = omega arith in
      let here = subst (λ x. Goes sets program s e x 0 n) first (subst (λ x. Goes sets program s e i 0 x) last run) in
      both_ways _ f ((table.end.each r.later known).1 (
        e,
        led.complete e e inside (0, omega arith, refl) (0, refl),
        goes_led here,
      ))

-- a program that begins at the text's start
module _ (sets : List (List Bool)) (program : List Instruction) (s : List ℕ) (e r : ℕ) (first : slice_get program e
    ≡ Some (AtStart r)) (done : slice_get program 0 ≡ Some Done) where
  only_start : (n i j : ℕ) → Path sets program s n e i 0 j → i ≡ 0
  only_start zero i j (is, same) = absurd (let x = ap (λ q. slice_get program q) is in cc)
  only_start (suc n) i j (p, k, inr (eats, same), path) = absurd (let x = eats.step in cc)
  only_start (suc n) i j (p, k, inl (skip, same), path) = by_skip skip where
    by_skip : Skips program (i == 0) (i == length s) e p → i ≡ 0
    by_skip (left other h) = absurd (cc)
    by_skip (right other h) = absurd (cc)
    by_skip (at_start h f) = eqb-true i 0 f
    by_skip (at_end h f) = absurd (cc)

pub anchored : (m : Matcher) (p : Pattern) → IsMatcher m p → (r : ℕ) → slice_get m.program m.entry ≡ Some (AtStart r)
    → IsAnchored m
anchored m p is r first = λ s i j run. only_start m.sets m.program s m.entry r first is.machine.done run.0 i j run.1

module _ (m : Matcher) (only : IsAnchored m) (s : List ℕ) where
  pub none_later : (from : ℕ) → 0 < from → matcher.Finds m s from None
  none_later from lt = λ i j after within run. omega (arith, only s i j run)

  pub none_at_start : (from : ℕ) → matcher.IsLongest m s 0 None → matcher.Finds m s from None
  none_at_start from none = λ i j after within run. none j within (subst (λ x. Goes m.sets m.program s m.entry x 0 j)
      (only s i j run) run)

  pub starts_first : (r : Option Bool) → IfSome r (λ b. IsTrue b ↔ StartsAt m s 0)
      → IfSome r (λ b. IsTrue b ↔ StartsFrom m s 0)
  starts_first None h = tt
  starts_first (Some b) h = (
    (λ t. (0, omega arith, h.0 t)),
    λ y. h.1 (y.2.0, y.2.1, subst (λ x. Goes m.sets m.program s m.entry x 0 y.2.0) (only s y.0 y.2.0 y.2.2) y.2.2),
  )

-- a search that may begin anywhere
module _ (s : List ℕ) where
  over : (n i j : ℕ) → i + n ≡ j → j ≤ length s → Chain (Matches s (bytes (λ b. true))) n i j
  over zero i j is within = omega arith
  over (suc n) i j is within = (i + 1, (omega arith, refl, refl), over n (i + 1) j (omega arith) within)

  over_le : (n i j : ℕ) → Chain (Matches s (bytes (λ b. true))) n i j → i ≤ j
  over_le zero i j is = omega arith
  over_le (suc n) i j (k, one, rest) = omega (arith, one.2, over_le n k j rest)

module _ (m : Matcher) (p : Pattern) (is : IsMatcher m p) (s : List ℕ) (from : ℕ) where
  pub starts : EndsFrom m s m.scan from → StartsFrom m s from
  starts (j, within, run) =
      let y = run_matches m.sets m.program m.scan (anywhere p) is.scanner s from j run in
      (y.0, over_le s y.1.0 from y.0 y.1.3, (j, within, matches_run m.sets m.program m.entry p is.machine s y.0 j y.2))

  pub ends : StartsFrom m s from → EndsFrom m s m.scan from
  ends (i, after, (j, within, run)) =
      let le : i ≤ j = path_le m.sets m.program s run.0 m.entry i 0 j run.1 in (
        j,
        within,
        matches_run m.sets m.program m.scan (anywhere p) is.scanner s from j (
          i,
          (i - from, omega arith, tt, over s (i - from) from i (omega arith) (omega arith)),
          run_matches m.sets m.program m.entry p is.machine s i j run,
        ),
      )

  pub starts_ahead : (r : Option Bool) → IfSome r (λ b. IsTrue b ↔ EndsFrom m s m.scan from)
      → IfSome r (λ b. IsTrue b ↔ StartsFrom m s from)
  starts_ahead None h = tt
  starts_ahead (Some b) h = ((λ t. starts (h.0 t)), λ y. h.1 (ends y))

-- from whether a match starts to what is found, and back
module _ (m : Matcher) (s : List ℕ) (from : ℕ) where
  pub nowhere : (b : Bool) → b ≡ false → IsTrue b ↔ StartsFrom m s from → matcher.Finds m s from None
  nowhere b off is = λ i j after within run. both_ways b off (is.1 (i, after, (j, omega arith, run)))

  pub has_found : (found : Option (ℕ × ℕ)) → matcher.Finds m s from found → IsTrue (is_some found) ↔ StartsFrom m s from
  has_found None none = ((λ t. absurd (cc)), λ y. absurd (none y.0 y.2.0 y.1 (omega (arith, y.2.1)) y.2.2))
  has_found (Some x) best = ((λ t. (x.0, best.after, (x.1, omega (arith, best.within), best.related))), λ y. refl)

  -- the same from a later place, before which no match starts
  pub starts_on : (k : ℕ) → NoneTo m s from k → (r : Option Bool) → IfSome r (λ b. IsTrue b ↔ StartsFrom m s k)
      → IfSome r (λ b. IsTrue b ↔ StartsFrom m s from)
  starts_on k none None h = tt
  starts_on k none (Some b) h = ((λ t. let y = h.0 t in (y.0, omega (arith, none.after, y.1), y.2)), λ y. h.1 (on y))
    where
      on : StartsFrom m s from → StartsFrom m s k
      on (i, after, (j, within, run)) =
          elim (cases_lt i k) [
            | inl less ↦ absurd (none.none i j after less (omega arith) run)
            | inr ge ↦ (
              i,
              ge,
              (j, within, run),
            )
          ]

  -- what a start that was tried says
  pub none_start : (k : ℕ) → k < length s → NoneTo m s from k → (b : Bool) → b ≡ false → IsTrue b ↔ StartsAt m s k
      → NoneTo m s from (k + 1)
  none_start k inside none b off is =
      none_more m s from k inside (λ j below run. both_ways b off (is.1 (j, omega arith, run))) none
