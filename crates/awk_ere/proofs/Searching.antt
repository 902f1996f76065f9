-- What the marks say of the program's runs.
use Rattle.std.proofs.Common.{◌≡◌, ◌==◌, ℕ, zero, suc, ◌+◌, ◌<◌, ◌≤◌, inl, inr, Bool, true, false, List, [], ◌∷◌}
use Rattle.std.proofs.Common.{length, Option, Some, None, refl, sym, ◌∙◌, ap, subst, arith, slice_index, is_some}
use Rattle.std.specs.List.{slice_get}
use Rattle.std.proofs.lemmas.Bool.{cases_lt}
use Rattle.std.proofs.Math.ListN.{replicate}
use Rattle.awk_ere.specs.Program.{Skips, SkipPath, Eats, Moves, Path, NamesBelow}
use Rattle.awk_ere.specs.Pattern.{Pattern, Matches}
use Rattle.awk_ere.specs.Best.{Best}
use Rattle.awk_ere.specs.Program.{Compiles, IsReady}
use Rattle.awk_ere.specs.Search.{IsMachine}
use Rattle.awk_ere.proofs.Programs.{skips_done}
use Rattle.awk_ere.specs.Search.{mark, IsBlank, IsClosed, LeadsTo, Reaches, Takes, Advances, Goes, Marks, IsBestOf}
use Rattle.awk_ere.specs.Search.{BestOf, limit_of, cap_of, Finds}
use Rattle.awk_ere.specs.declared.program.Instruction.{Instruction}
use Rattle.awk_ere.specs.declared.program.Instruction.TheVariants.{Done}
use Rattle.awk_ere.specs.declared.search.TheConstants.{NONE}

pub closed_path : (program : List Instruction) (first last : Bool) (starts : List ℕ) (n q r : ℕ)
    → IsClosed program first last starts → SkipPath program first last n q r → mark starts r ≤ mark starts q
closed_path program first last starts zero q r closed is = let e = ap (λ x. mark starts x) is in omega arith
closed_path program first last starts (suc n) q r closed (p, skip, path) =
    omega (arith, closed q p skip, closed_path program first last starts n p r closed path)

module _ (sets : List (List Bool)) (program : List Instruction) (s : List ℕ) where
  pub path_le : (n q i r j : ℕ) → Path sets program s n q i r j → i ≤ j
  path_le zero q i r j (is, same) = omega arith
  path_le (suc n) q i r j (p, k, inl (skip, same), path) = omega (arith, path_le n p k r j path)
  path_le (suc n) q i r j (p, k, inr (eats, same), path) = omega (arith, path_le n p k r j path)

  -- a path that reads nothing
  pub flat : (n q i r j : ℕ) → i ≡ j → Path sets program s n q i r j → LeadsTo program (j == 0) (j == length s) q r
  flat zero q i r j e (is, same) = (0, is)
  flat (suc n) q i r j e (p, k, inl (skip, same), path) =
      let rest = flat n p k r j (same ∙ e) path in
      (suc rest.0, (p, subst (λ x. Skips program (x == 0) (x == length s) q p) e skip, rest.1))
  flat (suc n) q i r j e (p, k, inr (eats, same), path) = absurd (omega (arith, path_le n p k r j path))

  pub stays : (n q r k : ℕ) → SkipPath program (k == 0) (k == length s) n q r → Path sets program s n q k r k
  stays zero q r k is = (is, refl)
  stays (suc n) q r k (p, skip, path) = (p, k, inl (skip, refl), stays n p r k path)

  pub one_more : (q i p k r j : ℕ) → Moves sets program s q i p k → Goes sets program s p k r j
      → Goes sets program s q i r j
  one_more q i p k r j move (n, path) = (suc n, (p, k, move, path))

  pub joined : (n q i p k r j : ℕ) → Path sets program s n q i p k → Goes sets program s p k r j
      → Goes sets program s q i r j
  joined zero q i p k r j (is, same) goes = subst (λ x. Goes sets program s x i r j) (sym is)
      (subst (λ x. Goes sets program s p x r j) (sym same) goes)
  joined (suc n) q i p k r j (x, l, move, path) goes = one_more q i x l r j move (joined n x l p k r j path goes)

  -- where a path goes over the byte at k, and on without reading
  pub record Crossing (q i k r : ℕ) : Type 0 where
    pub from : ℕ
    pub to : ℕ
    pub lead : Goes sets program s q i from k
    pub eats : Eats sets program s from k to
    pub tail : LeadsTo program (k + 1 == 0) (k + 1 == length s) to r

  pub crossing : (n q i k r j : ℕ) → i ≤ k → j ≡ k + 1 → Path sets program s n q i r j → Crossing q i k r
  crossing zero q i k r j le e (is, same) = absurd (omega arith)
  crossing (suc n) q i k r j le e (p, l, inl (skip, same), path) =
      let c = crossing n p l k r j (omega arith) e path in
      record {
        from = c.from;
        to = c.to;
        lead = one_more q i p l c.from k (inl (skip, same)) c.lead;
        eats = c.eats;
        tail = c.tail;
      }
  crossing (suc n) q i k r j le e (p, l, inr (eats, same), path) = elim (cases_lt i k) [
    | inl lt ↦
        let c = crossing n p l k r j (omega arith) e path in
        record {
          from = c.from;
          to = c.to;
          lead = one_more q i p l c.from k (inr (eats, same)) c.lead;
          eats = c.eats;
          tail = c.tail;
        }
    | inr ge ↦
        let is : i ≡ k = omega arith in
        let there : l ≡ j = omega arith in
        record {
          from = q;
          to = p;
          lead = (0, (refl, is));
          eats = subst (λ x. Eats sets program s q x p) is eats;
          tail = subst (λ x. LeadsTo program (x == 0) (x == length s) p r) e (flat n p l r j there path);
        }
  ]

  -- where a path passes the place k
  pub through : (n q i k r j : ℕ) → i ≤ k → k ≤ j → Path sets program s n q i r j → (p : ℕ)
      × Goes sets program s q i p k
  through zero q i k r j le ge (is, same) = (q, (0, (refl, omega arith)))
  through (suc n) q i k r j le ge (p, l, move, path) = elim (cases_lt k l) [
    | inl lt ↦ elim move [
      | inl stay ↦ absurd (omega (arith, stay.1))
      | inr go ↦ (q, (0, (refl, omega (arith, go.1))))
    ]
    | inr before ↦ let y = through n p l k r j before ge path in (y.0, one_more q i p l y.0 k move y.1)
  ]

  module _ (e from : ℕ) where
    pub marks_narrow : (limit less place : ℕ) (starts : List ℕ) → less ≤ limit
        → Marks sets program s e from limit place starts → Marks sets program s e from less place starts
    marks_narrow limit less place starts le h = record {
      sound = h.sound;
      cover = λ i q after lt goes. h.cover i q after
          (omega arith) goes;
      closed = h.closed;
    }

    -- a start at the place itself
    pub marks_start : (place : ℕ) (old new : List ℕ) → from ≤ place → Marks sets program s e from place place old
        → Reaches program (place == 0) (place == length s) e place old new
        → Marks sets program s e from (place + 1) place new
    marks_start place old new after h reaches = record {
      sound = λ q lt. elim (reaches.origin q) [
        | inl same ↦ subst (λ x. (from ≤ x) × (x ≤ place) × Goes sets program s e x q place) (sym same)
            (h.sound q (omega (arith, same)))
        | inr both ↦ subst (λ x. (from ≤ x) × (x ≤ place) × Goes sets program s e x q place) (sym both.0) (
          after,
          omega arith,
          (both.1.0, stays both.1.0 e q place both.1.1),
        )
      ];
      cover = λ i q before lt goes. elim (cases_lt i place) [
        | inl less ↦ omega (arith, reaches.lower q, h.cover i q before less goes)
        | inr ge ↦
            let is : i ≡ place = omega arith in
            let path = flat goes.0 e i q place is goes.1 in
            omega (arith, reaches.there, closed_path program _ _ new path.0 e q reaches.closed path.1)
      ];
      closed = reaches.closed;
    }

    -- over the byte at the place
    pub marks_advance : (cap place : ℕ) (starts new : List ℕ) → cap ≤ place → place < length s
        → Marks sets program s e from (cap + 1) place starts → Advances sets program (slice_index s place)
        (place + 1 == 0) (place + 1 == length s) cap starts new → Marks sets program s e from (cap + 1) (place + 1) new
    marks_advance cap place starts new small inside h goes = record {
      sound = λ q lt.
          let (p, r, takes, leads, same) = goes.sound q lt in
          let had = h.sound p (omega (arith, same)) in
          let eats : Eats sets program s p place r = record {
            class = takes.class;
            step = takes.step;
            inside = inside;
            taken = takes.taken;
          } in
          let on : Goes sets program s p place q (place + 1) = one_more p place r (place + 1) q (place + 1)
          (inr (eats, refl)) (leads.0, stays leads.0 r q (place + 1) leads.1) in
          subst (λ x. (from ≤ x) × (x ≤ place + 1) × Goes sets program s e x q (place + 1)) same (
            had.0,
            omega (arith, had.1),
            joined had.2.0 e (mark starts p) p place q (place + 1) had.2.1 on,
          );
      cover = λ i q before lt run.
          let c = crossing run.0 e i place q (place + 1) (omega arith) refl run.1 in
          let had = h.cover i c.from before lt c.lead in
          let takes : Takes sets program (slice_index s place) c.from c.to = record {
            class = c.eats.class;
            step =
                c.eats.step;
            taken = c.eats.taken;
          } in
          omega (
            arith,
            had,
            goes.complete c.from c.to (omega arith) takes,
            closed_path program _ _ new c.tail.0 c.to q goes.closed c.tail.1,
          );
      closed = goes.closed;
    }

    module _ (place : ℕ) (starts : List ℕ) (small : place < NONE) where
      -- no run that ends at the place starts before the limit
      none_here : (limit i : ℕ) → limit ≤ mark starts 0 → Marks sets program s e from limit place starts → from ≤ i
          → i < limit → Goes sets program s e i 0 place → ⊥
      none_here limit i high h after lt goes = omega (arith, h.cover i 0 after lt goes)

      pub best_none : NONE ≤ mark starts 0 → Marks sets program s e from (place + 1) place starts
          → BestOf (λ i j. Goes sets program s e i 0 j) place from None → BestOf (λ i j. Goes sets program s e i 0 j)
          (place + 1) from None
      best_none is h old = λ i j after lt run. elim (cases_lt j place) [
        | inl less ↦ old i j after less run
        | inr ge ↦
            let same : j ≡ place = omega arith in
            let here = subst (λ x. Goes sets program s e i 0 x) same run in
            none_here (place + 1) i (omega arith) h after (omega (arith, path_le here.0 e i 0 place here.1)) here
      ]

      pub best_first : mark starts 0 < NONE → Marks sets program s e from (place + 1) place starts
          → BestOf (λ i j. Goes sets program s e i 0 j) place from None → BestOf (λ i j. Goes sets program s e i 0 j)
          (place + 1) from (Some (mark starts 0, place))
      best_first lt h old = record {
        after = (h.sound 0 lt).0;
        within = omega arith;
        related = (h.sound 0 lt).2;
        leftmost = λ k l after below run. elim (cases_lt l place) [
          | inl less ↦ absurd (old k l after less run)
          | inr ge ↦
              let same : l ≡ place = omega arith in
              let here = subst (λ x. Goes sets program s e k 0 x) same run in
              h.cover k 0 after (omega (arith, path_le here.0 e k 0 place here.1)) here
        ];
        longest = λ l below run. omega arith;
      }

      module _ (had end : ℕ) (h : Marks sets program s e from (had + 1) place starts)
          (old : IsBestOf (λ i j. Goes sets program s e i 0 j) place from had end) where
        pub best_kept : had < mark starts 0 → IsBestOf (λ i j. Goes sets program s e i 0 j) (place + 1) from had end
        best_kept high = record {
          after = old.after;
          within = omega (arith, old.within);
          related = old.related;
          leftmost = λ k l after below run. elim (cases_lt l place) [
            | inl less ↦ old.leftmost k l after less run
            | inr ge ↦ elim (cases_lt k had) [
              | inl before ↦ absurd (
                  let same : l ≡ place = omega arith in
                  let here = subst (λ x. Goes sets program s e k 0 x) same run in
                  none_here (had + 1) k (omega arith) h after (omega arith) here)
              | inr beyond ↦ beyond
            ]
          ];
          longest = λ l below run. elim (cases_lt l place) [
            | inl less ↦ old.longest l less run
            | inr ge ↦ absurd (
                let same : l ≡ place = omega arith in
                let here = subst (λ x. Goes sets program s e had 0 x) same run in
                none_here (had + 1) had (omega arith) h old.after (omega arith) here)
          ];
        }

        had_small : had < NONE
        had_small = omega (arith, path_le old.related.0 e had 0 end old.related.1, old.within)

        pub best_moves : mark starts 0 ≤ had → IsBestOf (λ i j. Goes sets program s e i 0 j) (place + 1) from
            (mark starts 0) place
        best_moves low = let seen = h.sound 0 (omega (arith, had_small)) in record {
          after = seen.0;
          within = omega arith;
          related = seen.2;
          leftmost = λ k l after below run. elim (cases_lt l place) [
            | inl less ↦ omega (arith, old.leftmost k l after less run)
            | inr ge ↦ elim (cases_lt k (had + 1)) [
              | inl before ↦ (
                  let same : l ≡ place = omega arith in
                  let here = subst (λ x. Goes sets program s e k 0 x) same run in
                  h.cover k 0 after before here)
              | inr beyond ↦ omega arith
            ]
          ];
          longest = λ l below run. omega arith;
        }

        -- no step is marked: nothing better comes
        pub best_final : (bound : ℕ) → place ≤ bound → ((q : ℕ) → NONE ≤ mark starts q)
            → IsBestOf (λ i j. Goes sets program s e i 0 j) bound from had end
        best_final bound more blank = record {
          after = old.after;
          within = omega (arith, old.within);
          related = old.related;
          leftmost = λ k l after below run. elim (cases_lt l place) [
            | inl less ↦ old.leftmost k l after less run
            | inr ge ↦ elim (cases_lt k had) [
              | inl before ↦ absurd (passes k l after (omega arith) ge run)
              | inr beyond ↦ beyond
            ]
          ];
          longest = λ l below run. elim (cases_lt l place) [
            | inl less ↦ old.longest l less run
            | inr ge ↦ absurd (passes had l old.after (omega arith) ge run)
          ];
        } where
          passes : (k l : ℕ) → from ≤ k → k < had + 1 → place ≤ l → Goes sets program s e k 0 l → ⊥
          passes k l after lt ge run =
              let inner = path_le old.related.0 e had 0 end old.related.1 in
              let y = through run.0 e k place 0 l (omega (arith, inner, old.within)) ge run.1 in
              omega (arith, h.cover k y.0 after lt y.1, blank y.0)

  pub best_start : (e i j : ℕ) → Goes sets program s e i 0 j → i ≤ j
  best_start e i j run = path_le run.0 e i 0 j run.1

pub blank_replicate : (n : ℕ) → IsBlank (replicate n NONE)
blank_replicate n = λ q. each n q where
  each : (n q : ℕ) → mark (replicate n NONE) q ≡ NONE
  each zero q = refl
  each (suc n) zero = refl
  each (suc n) (suc q) = each n q

pub marks_begin : (sets : List (List Bool)) (program : List Instruction) (s : List ℕ) (e from : ℕ) (starts : List ℕ)
    → IsBlank starts → Marks sets program s e from from from starts
marks_begin sets program s e from starts blank = record {
  sound = λ q lt. absurd (omega (arith, blank q));
  cover = λ i q after lt. absurd (omega arith);
  closed = λ q r skip. omega (arith, blank q, blank r);
}

pub best_begin : (sets : List (List Bool)) (program : List Instruction) (s : List ℕ) (e from : ℕ)
    → BestOf (λ i j. Goes sets program s e i 0 j) from from None
best_begin sets program s e from = λ i j after below run. omega (arith, best_start sets program s e i j run)

module _ (sets : List (List Bool)) (program : List Instruction) (s : List ℕ) (e from place : ℕ) where
  pub cap_small : (best : Option (ℕ × ℕ)) → BestOf (λ i j. Goes sets program s e i 0 j) (place + 1) from best
      → cap_of place best ≤ place
  cap_small None h = omega arith
  cap_small (Some m) h = omega (arith, best_start sets program s e m.0 m.1 h.related, h.within)

  pub marks_turn : (best : Option (ℕ × ℕ)) (starts new : List ℕ) → place < length s
      → BestOf (λ i j. Goes sets program s e i 0 j) (place + 1) from best
      → Marks sets program s e from (limit_of (place + 1) best) place starts
      → Advances sets program (slice_index s place) (place + 1 == 0) (place + 1 == length s) (cap_of place best) starts
      new → Marks sets program s e from (limit_of (place + 1) best) (place + 1) new
  marks_turn None starts new inside h marks goes = marks_advance sets program s e from place place starts new
      (omega arith) inside marks goes
  marks_turn (Some m) starts new inside h marks goes = marks_advance sets program s e from m.0 place starts new
      (cap_small (Some m) h) inside marks goes

  pub stops : (best : Option (ℕ × ℕ)) (starts : List ℕ) → is_some best ≡ true → place < NONE → place ≤ length s
      → Marks sets program s e from (limit_of place best) place starts
      → BestOf (λ i j. Goes sets program s e i 0 j) place from best → IsBlank starts → Finds sets program s e from best
  stops None starts found small inside marks h blank = absurd (false-true found) where
    false-true : false ≡ true → ⊥
    false-true x = cc
  stops (Some m) starts found small inside marks h blank =
      best_final sets program s e from place starts small m.0 m.1 marks h (length s + 1) (omega arith)
      (λ q. omega (arith, blank q))

module _ (sets : List (List Bool)) (program : List Instruction) (e : ℕ) (p : Pattern)
    (machine : IsMachine sets program e p) (s : List ℕ) where
  stuck : (n i j : ℕ) → Path sets program s n 0 i 0 j → i ≡ j
  stuck zero i j (is, same) = same
  stuck (suc n) i j (q, k, inl (skip, same), path) = absurd (skips_done program _ _ 0 q machine.done skip)
  stuck (suc n) i j (q, k, inr (eats, same), path) = let x = eats.step in let y = machine.done in absurd (cc)

  pub run_matches : (i j : ℕ) → Goes sets program s e i 0 j → Matches s p i j
  run_matches i j (n, path) =
      let y = machine.means.into program s n i j (λ q x real at. at) machine.done path in
      subst (λ x. Matches s p i x) (stuck y.1 y.0 j y.4) y.3

  pub matches_run : (i j : ℕ) → Matches s p i j → Goes sets program s e i 0 j
  matches_run i j m = machine.means.back program s j 0 i j (λ q x real at. at) m (refl, refl)

  pub finds_best : (from : ℕ) (found : Option (ℕ × ℕ)) → Finds sets program s e from found → Best s p from found
  finds_best from None h = λ i j after within m. h i j after (omega arith) (matches_run i j m)
  finds_best from (Some x) h = record {
    after = h.after;
    within = omega (arith, h.within);
    matches = run_matches x.0 x.1 h.related;
    leftmost = λ k l after within m. h.leftmost k l after (omega arith) (matches_run k l m);
    longest = λ l within m. h.longest l (omega arith) (matches_run x.0 l m);
  }

pub ready_first : IsReady (Done ∷ []) 0
ready_first = record { sound = record { names = λ q x at. only q x at }; below = omega arith } where
  only : (q : ℕ) (x : Instruction) → slice_get (Done ∷ []) q ≡ Some x → NamesBelow 1 x
  only zero x at = let is : Done ≡ x = cc in subst (λ y. NamesBelow 1 y) is tt
  only (suc q) x at = absurd (cc)

pub machine_of : (sets : List (List Bool)) (program : List Instruction) (e : ℕ) (p : List (List Bool) → Pattern)
    → Compiles (Done ∷ []) program e p 0 → IsMachine sets program e (p sets)
machine_of sets program e p h = record {
  sound = h.sound;
  inside = h.below;
  done = h.grows.kept 0 (omega arith);
  means = h.means sets;
}
