-- The search over steps that read nothing.
use Rattle.std.proofs.Common.{◌≡◌, ◌≢◌, ℕ, zero, suc, ◌+◌, ◌*◌, ◌<◌, ◌≤◌, ◌⊎◌, inl, inr, Bool, true, false, List, []}
use Rattle.std.proofs.Common.{◌∷◌, ◌++◌, length, get_or, Some, refl, sym, ◌∙◌, ap, subst, arith}
use Rattle.std.proofs.Math.ListN.{set, length-set, length-append}
use Rattle.std.specs.List.{slice_get, Contains, sum}
use Rattle.std.proofs.lemmas.Bool.{cases_eq}
use Rattle.std.proofs.lemmas.List.{get_or-set_same, get_or-set_other}
use Rattle.std.proofs.lemmas.List.Sums.{sum_by-set}
use Rattle.std.proofs.lemmas.List.Elements.{Contains-append_left, Contains-append_right, Contains-push}
use Rattle.std.proofs.lemmas.List.Elements.{Contains-push_cases, Contains-append_cases}
use Rattle.awk_ere.specs.Program.{Skips, left, right, at_start, at_end, SkipPath, NamesBelow, IsSound}
use Rattle.awk_ere.specs.Search.{mark, targets, IsListed, IsClosed, LeadsTo, Reaches}
use Rattle.awk_ere.specs.declared.program.Instruction.{Instruction}
use Rattle.awk_ere.specs.declared.program.Instruction.TheVariants.{Eat, Fork, AtStart, AtEnd, Done, Hole}
use Rattle.awk_ere.specs.declared.search.TheConstants.{NONE}

not_in_none : (r : ℕ) → Contains [] r → ⊥
not_in_none r h = omega (arith, h.1)

only_one : (a r : ℕ) → Contains (a ∷ []) r → a ≡ r
only_one a r (zero, lt, is) = is
only_one a r (suc k, lt, is) = absurd (omega arith)

one_of_two : (a b r : ℕ) → Contains (a ∷ b ∷ []) r → (a ≡ r) ⊎ (b ≡ r)
one_of_two a b r (zero, lt, is) = inl is
one_of_two a b r (suc zero, lt, is) = inr is
one_of_two a b r (suc (suc k), lt, is) = absurd (omega arith)

module _ (program : List Instruction) (first last : Bool) (q r : ℕ) where
  pub targets_skips : (x : Instruction) → slice_get program q ≡ Some x → Contains (targets first last x) r
      → Skips program first last q r
  targets_skips (Fork a b) at h = elim (one_of_two b a r h) [
    | inl is ↦ right a (subst (λ y. slice_get program q ≡ Some (Fork a y)) is at)
    | inr is ↦ left b (subst (λ y. slice_get program q ≡ Some (Fork y b)) is at)
  ]
  targets_skips (AtStart p) at h = from_start first refl h where
    from_start : (f : Bool) → first ≡ f → Contains (targets f last (AtStart p)) r → Skips program first last q r
    from_start true e h = at_start (subst (λ y. slice_get program q ≡ Some (AtStart y)) (only_one p r h) at) e
    from_start false e h = absurd (not_in_none r h)
  targets_skips (AtEnd p) at h = from_end last refl h where
    from_end : (f : Bool) → last ≡ f → Contains (targets first f (AtEnd p)) r → Skips program first last q r
    from_end true e h = at_end (subst (λ y. slice_get program q ≡ Some (AtEnd y)) (only_one p r h) at) e
    from_end false e h = absurd (not_in_none r h)
  targets_skips (Eat k p) at h = absurd (not_in_none r h)
  targets_skips Done at h = absurd (not_in_none r h)
  targets_skips Hole at h = absurd (not_in_none r h)

  pub skips_targets : (x : Instruction) → slice_get program q ≡ Some x → Skips program first last q r
      → Contains (targets first last x) r
  skips_targets x at (left other h) =
      let same : x ≡ Fork r other = cc in
      subst (λ y. Contains (targets first last y) r) (sym same) (1, omega arith, refl)
  skips_targets x at (right other h) =
      let same : x ≡ Fork other r = cc in
      subst (λ y. Contains (targets first last y) r) (sym same) (0, omega arith, refl)
  skips_targets x at (at_start h f) =
      let same : x ≡ AtStart r = cc in
      subst (λ y. Contains (targets first last y) r) (sym same) (subst (λ y. Contains (targets y last (AtStart r)) r)
      (sym f) (0, omega arith, refl))
  skips_targets x at (at_end h f) =
      let same : x ≡ AtEnd r = cc in
      subst (λ y. Contains (targets first last y) r) (sym same) (subst (λ y. Contains (targets first y (AtEnd r)) r)
      (sym f) (0, omega arith, refl))

targets_below : (first last : Bool) (n : ℕ) (x : Instruction) (r : ℕ) → NamesBelow n x
    → Contains (targets first last x) r → r < n
targets_below first last n (Fork a b) r names h =
    elim (one_of_two b a r h) [ inl is ↦ omega (arith, is, names.1) | inr is ↦ omega (arith, is, names.0) ]
targets_below true last n (AtStart p) r names h = let e = only_one p r h in omega arith
targets_below false last n (AtStart p) r names h = absurd (not_in_none r h)
targets_below first true n (AtEnd p) r names h = let e = only_one p r h in omega arith
targets_below first false n (AtEnd p) r names h = absurd (not_in_none r h)
targets_below first last n (Eat k p) r names h = absurd (not_in_none r h)
targets_below first last n Done r names h = absurd (not_in_none r h)
targets_below first last n Hole r names h = absurd (not_in_none r h)

pub targets_few : (first last : Bool) (x : Instruction) → length (targets first last x) ≤ 2
targets_few first last (Fork a b) = omega arith
targets_few true last (AtStart p) = omega arith
targets_few false last (AtStart p) = omega arith
targets_few first true (AtEnd p) = omega arith
targets_few first false (AtEnd p) = omega arith
targets_few first last (Eat k p) = omega arith
targets_few first last Done = omega arith
targets_few first last Hole = omega arith

-- a path and one step more
pub skip_more : (program : List Instruction) (first last : Bool) (n q p r : ℕ) → SkipPath program first last n q p
    → Skips program first last p r → SkipPath program first last (suc n) q r
skip_more program first last zero q p r is skip = (r, subst (λ x. Skips program first last x r) (sym is) skip, refl)
skip_more program first last (suc n) q p r (x, one, path) skip =
    (x, one, skip_more program first last n x p r path skip)

-- where the search stands, with these steps to look at
pub record IsReaching (program : List Instruction) (first last : Bool) (from start : ℕ) (old starts stack : List ℕ) :
    Type 0 where
  pub len : length starts ≡ length program
  pub lower : (q : ℕ) → mark starts q ≤ mark old q
  pub origin : (q : ℕ) → (mark starts q ≡ mark old q) ⊎ ((mark starts q ≡ start) × LeadsTo program first last from q)
  pub pending : (q r : ℕ) → Skips program first last q r → (mark starts r ≤ mark starts q)
      ⊎ ((start ≤ mark starts q) × Contains stack r)
  pub there : (mark starts from ≤ start) ⊎ Contains stack from
  pub known : (r : ℕ) → Contains stack r → (r < length program) × LeadsTo program first last from r

module _ (program : List Instruction) (first last : Bool) (from start : ℕ) (old : List ℕ) where
  pub reaching_begins : length old ≡ length program → from < length program → IsClosed program first last old
      → IsReaching program first last from start old old (from ∷ [])
  reaching_begins len inside closed = record {
    len = len;
    lower = λ q. omega arith;
    origin = λ q. inl refl;
    pending = λ q r skip. inl (closed q r skip);
    there = inr (0, omega arith, refl);
    known = λ r h. let is = only_one from r h in (omega arith, (0, is));
  }

  pub reaching_ends : (starts : List ℕ) → IsReaching program first last from start old starts []
      → Reaches program first last from start old starts
  reaching_ends starts h = record {
    lower = h.lower;
    origin = h.origin;
    there = elim h.there [ inl le ↦ le | inr member ↦ absurd (not_in_none _ member) ];
    closed = λ q r skip. elim (h.pending q r skip) [ inl le ↦ le | inr both ↦ absurd (not_in_none _ both.1) ];
  }

  -- a step that is marked no later already
  pub reaching_skips : (starts rest : List ℕ) (at : ℕ) → mark starts at ≤ start
      → IsReaching program first last from start old starts (rest ++ at ∷ [])
      → IsReaching program first last from start old starts rest
  reaching_skips starts rest at le h = record {
    len = h.len;
    lower = h.lower;
    origin = h.origin;
    pending = λ q r skip. elim (h.pending q r skip) [
      | inl less ↦ inl less
      | inr both ↦ elim (Contains-push_cases rest at r both.1) [
        | inl member ↦ inr (both.0, member)
        | inr is ↦ inl (let e = ap (λ x. mark starts x) is in omega (arith, both.0, e))
      ]
    ];
    there = elim h.there [
      | inl less ↦ inl less
      | inr member ↦ elim (Contains-push_cases rest at from member) [
        | inl still ↦ inr still
        | inr is ↦ inl (let e =
            ap (λ x. mark starts x) is in omega arith)
      ]
    ];
    known = λ r member. h.known r (Contains-append_left rest (at ∷ []) r member);
  }

  module _ (starts rest : List ℕ) (at : ℕ) (x : Instruction) (sound : IsSound program) (step : slice_get program at
      ≡ Some x) (lt : start < mark starts at) (h : IsReaching program first last from start old starts
      (rest ++ at ∷ [])) where
    at_known : (at < length program) × LeadsTo program first last from at
    at_known = h.known at (Contains-push rest at)

    mark_same : mark (set starts at start) at ≡ start
    mark_same =
        let inside : at < length starts = omega (arith, h.len, at_known.0) in
        get_or-set_same starts at start NONE inside

    mark_other : (q : ℕ) → q ≢ at → mark (set starts at start) q ≡ mark starts q
    mark_other q ne = get_or-set_other starts at q start NONE ne

    marked_lower : (q : ℕ) → mark (set starts at start) q ≤ mark starts q
    marked_lower q = elim (cases_eq q at) [
      | inl is ↦ let e = ap (λ y. mark (set starts at start) y) is in let f = ap (λ y. mark starts y) is in
          omega (arith, mark_same, e, f, lt)
      | inr ne ↦ omega (arith, mark_other q ne)
    ]

    to_targets : (r : ℕ) → Contains (targets first last x) r → (r < length program) × LeadsTo program first last from r
    to_targets r member = (
      targets_below first last _ x r (sound.names at x step) member,
      (
        suc at_known.1.0,
        skip_more program first last at_known.1.0 from at r at_known.1.1
            (targets_skips program first last at r x step member),
      ),
    )

    pub reaching_marks : IsReaching program first last from start old (set starts at start)
        (rest ++ targets first last x)
    reaching_marks = record {
      len = omega (arith, h.len, length-set {A = ℕ});
      lower = λ q. omega (arith, marked_lower q, h.lower q);
      origin = λ q. elim (cases_eq q at) [
        | inl is ↦ inr (
          ap (λ y. mark (set starts at start) y) is ∙ mark_same,
          subst (λ y. LeadsTo program first last from y) (sym is) at_known.1,
        )
        | inr ne ↦ elim (h.origin q) [
          | inl same ↦ inl (mark_other q ne ∙ same)
          | inr both ↦ inr
              (mark_other q ne ∙ both.0, both.1)
        ]
      ];
      pending = λ q r skip. elim (cases_eq q at) [
        | inl is ↦ inr (
          (let e = ap (λ y. mark (set starts at start) y) is in omega (arith, e, mark_same)),
          Contains-append_right rest (targets first last x) r (skips_targets program first last at r x step
              (subst (λ y. Skips program first last y r) is skip)),
        )
        | inr ne ↦ elim (h.pending q r skip) [
          | inl less ↦ inl (omega (arith, less, marked_lower r, mark_other q ne))
          | inr both ↦ elim (Contains-push_cases rest at r both.1) [
            | inl member ↦ inr (
              omega (arith, both.0, mark_other q ne),
              Contains-append_left rest (targets first last x)
                  r member,
            )
            | inr is ↦ inl (let e = ap (λ y. mark (set starts at start) y) is in
                omega (arith, e, mark_same, both.0, mark_other q ne))
          ]
        ]
      ];
      there = elim h.there [
        | inl less ↦ inl (omega (arith, less, marked_lower from))
        | inr member ↦ elim (Contains-push_cases rest at from member) [
          | inl still ↦ inr (Contains-append_left rest (targets first last x) from still)
          | inr is ↦ inl (let e = ap (λ y. mark (set starts at start) y) is in omega (arith, e, mark_same))
        ]
      ];
      known = λ r member. elim (Contains-append_cases rest (targets first last x) r member) [
        | inl before ↦ h.known r (Contains-append_left rest (at ∷ []) r before)
        | inr new ↦ to_targets r new
      ];
    }

small_set : (starts : List ℕ) (at start : ℕ) → at < length starts → start ≤ NONE → ((q : ℕ) → mark starts q ≤ NONE)
    → (q : ℕ) → mark (set starts at start) q ≤ NONE
small_set starts at start inside low small q = elim (cases_eq q at) [
  | inl is ↦ (let e = ap (λ y. mark (set starts at start) y) is in
      omega (arith, e, low, get_or-set_same starts at start NONE inside))
  | inr ne ↦ omega (arith, small q, get_or-set_other starts at q start NONE ne)
]

pub listed_new : (starts active : List ℕ) (at start : ℕ) → at < length starts → start ≤ NONE → IsListed starts active
    → IsListed (set starts at start) (active ++ at ∷ [])
listed_new starts active at start inside low h = record {
  each = λ q lt marked. elim (cases_eq q at) [
    | inl is ↦ subst (λ y. Contains (active ++ at ∷ []) y) (sym is) (Contains-push active at)
    | inr ne ↦ Contains-append_left active (at ∷ []) q (h.each q (omega (arith, length-set {A = ℕ})) (let e =
        get_or-set_other starts at q start NONE ne in omega (arith, e)))
  ];
  below = λ q member. elim (Contains-push_cases active at q member) [
    | inl before ↦ omega (arith, h.below q before, length-set {A = ℕ})
    | inr is ↦ omega (arith, length-set {A = ℕ})
  ];
  small = small_set starts at start inside low h.small;
}

pub listed_again : (starts active : List ℕ) (at start : ℕ) → mark starts at < NONE → at < length starts → start ≤ NONE
    → IsListed starts active → IsListed (set starts at start) active
listed_again starts active at start had inside low h = record {
  each = λ q lt marked. elim (cases_eq q at) [
    | inl is ↦ subst (λ y. Contains active y) (sym is) (h.each at inside had)
    | inr ne ↦ h.each q (omega (arith, length-set {A = ℕ})) (let e = get_or-set_other starts at q start NONE ne in
        omega (arith, e))
  ];
  below = λ q member. omega (arith, h.below q member, length-set {A = ℕ});
  small = small_set starts at start inside low h.small;
}

pub reaching_inside : (program : List Instruction) (first last : Bool) (from start : ℕ) (old starts stack rest : List ℕ)
    {at : ℕ} → IsReaching program first last from start old starts stack → stack ≡ rest ++ at ∷ [] → at < length starts
reaching_inside program first last from start old starts stack rest {at} h is =
    omega (arith, h.len, (h.known at (subst (λ s. Contains s at) (sym is) (Contains-push rest at))).0)

pub any_default : {X : Type 0} (xs : List X) (i : ℕ) (d e : X) → i < length xs → get_or xs i d ≡ get_or xs i e
any_default [] i d e lt = absurd (omega arith)
any_default (x ∷ xs) zero d e lt = refl
any_default (x ∷ xs) (suc i) d e lt = any_default xs i d e (omega arith)

pub smaller_marks : (starts stack rest next : List ℕ) (at start : ℕ) → at < length starts → start < mark starts at
    → length next ≤ 2 → stack ≡ rest ++ at ∷ [] → length (rest ++ next) + 3 * sum (set starts at start) < length stack +
    3 * sum starts
smaller_marks starts stack rest next at start inside lt few is =
    let e = sum_by-set (λ x. x) starts at start 0 inside in
    let f = any_default starts at 0 NONE inside in
    let a = ap length is in
    omega (arith, e, f, a, length-append {A = ℕ})

pub smaller_skips : (starts stack rest : List ℕ) (at : ℕ) → stack ≡ rest ++ at ∷ []
    → length rest + 3 * sum starts < length stack + 3 * sum starts
smaller_skips starts stack rest at is =
    let a = ap length is in
    omega (arith, a, length-append {A = ℕ})

pub no_items : (xs : List ℕ) → length xs ≡ 0 → xs ≡ []
no_items [] e = refl
no_items (x ∷ xs) e = absurd (omega arith)
