-- What a table's run says of the program's runs.
use Rattle.std.proofs.Common.{◌≡◌, ◌==◌, ◌↔◌, ◌-◌, IsTrue, ℕ, zero, suc, ◌+◌, ◌<◌, ◌≤◌, inl, inr, Bool, true, false}
use Rattle.std.proofs.Common.{cond, List, [], ◌∷◌, length, Option, Some, None, refl, sym, ◌∙◌, ap, subst, arith}
use Rattle.std.proofs.Common.{add-one, slice_index, slice_index_or}
use Rattle.std.specs.List.{Contains}
use Rattle.std.proofs.lemmas.Bool.{cases_lt, eqb-true, eq-eqb}
use Rattle.std.proofs.Math.Dec.{eqb-suc-zero}
use Rattle.awk_ere.specs.Program.{Skips, left, right, at_start, at_end, SkipPath, Eats}
use Rattle.awk_ere.specs.Search.{LeadsTo, Goes}
use Rattle.awk_ere.specs.Table.{steps_of, cell, IsLed, IsCell, Arrives, IsFront, IsLongest, EndsAtLast, EndsSomewhere}
use Rattle.awk_ere.specs.Table.{IsAt, AllLead}
use Rattle.awk_ere.specs.declared.program.Instruction.{Instruction}
use Rattle.awk_ere.proofs.Searching.{path_le, flat, stays, one_more, joined, crossing, through, best_start}

not_zero : (k : ℕ) → (k + 1 == 0) ≡ false
not_zero k = ap (λ x. x == 0) (add-one k) ∙ eqb-suc-zero k

not_last : (k n : ℕ) → k < n → (k == n) ≡ false
not_last k n lt = go (k == n) refl where
  go : (b : Bool) → (k == n) ≡ b → b ≡ false
  go true e = absurd (let f = eqb-true k n e in omega arith)
  go false e = refl

module _ (sets : List (List Bool)) (program : List Instruction) (s : List ℕ) (e i : ℕ) where
  -- before the end of the text
  pub arrives_goes : (k p : ℕ) → k < length s → Arrives sets program s e i k p → Goes sets program s e i p k
  arrives_goes k p lt (inl (same, leads)) =
      let f : LeadsTo program (i == 0) (i == length s) e p = subst (λ x. LeadsTo program (i == 0) x e p)
      (sym (not_last i (length s) (omega arith))) leads in
      subst (λ x. Goes sets program s e i p x) (sym same) (f.0, stays sets program s f.0 e p i f.1)
  arrives_goes k p lt (inr (x, t, l, same, lead, eats, leads)) =
      let f : LeadsTo program (l + 1 == 0) (l + 1 == length s) t p =
      subst (λ y. LeadsTo program y (l + 1 == length s) t p) (sym (not_zero l))
      (subst (λ y. LeadsTo program false y t p) (sym (not_last (l + 1) (length s) (omega arith))) leads) in
      let on : Goes sets program s x l p (l + 1) = one_more sets program s x l t (l + 1) p (l + 1) (inr (eats, refl))
      (f.0, stays sets program s f.0 t p (l + 1) f.1) in
      subst (λ y. Goes sets program s e i p y) (sym same) (joined sets program s lead.0 e i x l p (l + 1) lead.1 on)

  pub goes_arrives : (k p : ℕ) → i ≤ k → k < length s → Goes sets program s e i p k → Arrives sets program s e i k p
  goes_arrives zero p le lt run =
      let is : i ≡ 0 = omega arith in
      let f = flat sets program s run.0 e i p 0 is run.1 in
      inl (
        sym is,
        subst (λ y. LeadsTo program y false e p) (ap (λ y. y == 0) (sym is))
            (subst (λ y. LeadsTo program true y e p) (not_last 0 (length s) lt) f),
      )
  goes_arrives (suc k) p le lt run = elim (cases_lt k i) [
    | inl first ↦
        let is : i ≡ suc k = omega arith in
        let f = flat sets program s run.0 e i p (suc k) is run.1 in
        inl (
          sym is,
          subst (λ y. LeadsTo program (y == 0) false e p) (sym is)
              (subst (λ y. LeadsTo program (suc k == 0) y e p) (not_last (suc k) (length s) lt) f),
        )
    | inr later ↦
        let c = crossing sets program s run.0 e i k p (suc k) later (sym (add-one k)) run.1 in
        inr (
          c.from,
          c.to,
          k,
          sym (add-one k),
          c.lead,
          c.eats,
          subst (λ y. LeadsTo program y false c.to p) (not_zero k) (subst (λ y. LeadsTo program (k + 1 == 0) y c.to p)
              (not_last (k + 1) (length s) (omega arith)) c.tail),
        )
  ]

  pub front_step : (k : ℕ) (S T : List ℕ) → i ≤ k → k < length s → IsFront sets program s e i k S
      → IsCell sets program (slice_index s k) S T → IsFront sets program s e i (k + 1) T
  front_step k S T le lt front goes = record {
    sound = λ p member.
        let (x, t, had, takes, leads) = goes.sound p member in
        let eats : Eats sets program s x k t = record {
          class = takes.class;
          step = takes.step;
          inside = lt;
          taken =
              takes.taken;
        } in
        inr (x, t, k, refl, arrives_goes k x lt (front.sound x had), eats, leads);
    complete = λ p arrives. elim arrives [
      | inl here ↦ absurd (omega (arith, here.0))
      | inr there ↦ over p there.0 there.1 there.2 there.3 there.4 there.5 there.6
    ];
  } where
    over : (p x t l : ℕ) → k + 1 ≡ l + 1 → Goes sets program s e i x l → Eats sets program s x l t
        → LeadsTo program false false t p → Contains T p
    over p x t l same lead eats leads =
        let is : l ≡ k = omega arith in
        let lead' = subst (λ y. Goes sets program s e i x y) is lead in
        let eats' = subst (λ y. Eats sets program s x y t) is eats in
        goes.complete x t p (front.complete x (goes_arrives k x le lt lead'))
        (record { class = eats'.class; step = eats'.step; taken = eats'.taken }) leads

  -- at the end of the text
  skips_more : (first last : Bool) (q r : ℕ) → Skips program first false q r → Skips program first last q r
  skips_more first last q r (left other h) = left other h
  skips_more first last q r (right other h) = right other h
  skips_more first last q r (at_start h f) = at_start h f
  skips_more first last q r (at_end h f) = absurd (cc)

  pub leads_on : (last : Bool) (n q p r : ℕ) → SkipPath program false false n q p → LeadsTo program false last p r
      → LeadsTo program false last q r
  leads_on last zero q p r is leads = subst (λ x. LeadsTo program false last x r) (sym is) leads
  leads_on last (suc n) q p r (x, skip, path) leads =
      let y = leads_on last n x p r path leads in (suc y.0, (x, skips_more false last q x skip, y.1))

  pub end_goes : (k x r : ℕ) → k + 1 ≡ length s → i ≤ k → Arrives sets program s e i (k + 1) x
      → LeadsTo program false true x r → Goes sets program s e i r (k + 1)
  end_goes k x r last le (inl (same, leads)) on = absurd (omega arith)
  end_goes k x r last le (inr (y, t, l, same, lead, eats, leads)) on =
      let all = leads_on true leads.0 t x r leads.1 on in
      let f : LeadsTo program (l + 1 == 0) (l + 1 == length s) t r =
      subst (λ z. LeadsTo program z (l + 1 == length s) t r) (sym (not_zero l))
      (subst (λ z. LeadsTo program false z t r) (sym (eq-eqb (l + 1) (length s) (omega arith))) all) in
      let go : Goes sets program s y l r (l + 1) = one_more sets program s y l t (l + 1) r (l + 1) (inr (eats, refl))
      (f.0, stays sets program s f.0 t r (l + 1) f.1) in
      subst (λ z. Goes sets program s e i r z) (sym same) (joined sets program s lead.0 e i y l r (l + 1) lead.1 go)

  pub goes_end : (k r : ℕ) → k + 1 ≡ length s → i ≤ k → Goes sets program s e i r (k + 1) → (x : ℕ)
      × Arrives sets program s e i (k + 1) x × LeadsTo program false true x r
  goes_end k r last le run =
      let c = crossing sets program s run.0 e i k r (k + 1) le refl run.1 in (
        c.to,
        inr (c.from, c.to, k, refl, c.lead, c.eats, (0, refl)),
        subst (λ z. LeadsTo program z true c.to r) (not_zero k) (subst (λ z. LeadsTo program (k + 1 == 0) z c.to r)
            (eq-eqb (k + 1) (length s) last) c.tail),
      )

  pub longest_begin : IsLongest sets program s e i i None
  longest_begin = λ j below run. omega (arith, best_start sets program s e i j run)

  -- one place more, where a flag says whether a match ends there
  module _ (k : ℕ) (here : Bool) (ends : here ≡ true → Goes sets program s e i 0 k) (ended : Goes sets program s e i 0 k
      → here ≡ true) where
    same_place : (j : ℕ) → k ≤ j → j < k + 1 → Goes sets program s e i 0 j → Goes sets program s e i 0 k
    same_place j ge lt run = let is : j ≡ k = omega arith in subst (λ x. Goes sets program s e i 0 x) is run

    pub longest_turn : (best : Option ℕ) → IsLongest sets program s e i k best
        → IsLongest sets program s e i (k + 1) (cond here (Some k) best)
    longest_turn best h = by_flag here refl best h where
      by_flag : (b : Bool) → here ≡ b → (best : Option ℕ) → IsLongest sets program s e i k best
          → IsLongest sets program s e i (k + 1) (cond b (Some k) best)
      by_flag true is best h = (omega arith, ends is, λ l below run. omega arith)
      by_flag false is None h = λ j below run. elim (cases_lt j k) [
        | inl less ↦ h j less run
        | inr ge ↦ (let f = ended (same_place j ge below run) in absurd (cc))
      ]
      by_flag false is (Some j) h = (
        omega (arith, h.0),
        h.1,
        λ l below run. elim (cases_lt l k) [
          | inl less ↦ h.2 l less run
          | inr ge ↦ (let f = ended (same_place l ge below run) in absurd (cc))
        ],
      )

  -- nothing is reached at the place k
  module _ (k : ℕ) (le : i ≤ k) (inside : k < length s) (S : List ℕ) (front : IsFront sets program s e i (k + 1) S)
      (none : (p : ℕ) → Contains S p → ⊥) where
    pub no_later : (j : ℕ) → k + 1 ≤ j → j < length s + 1 → Goes sets program s e i 0 j → ⊥
    no_later j ge below run =
        let y = through sets program s run.0 e i (k + 1) 0 j (omega arith) ge run.1 in
        elim (cases_lt (k + 1) (length s)) [
          | inl lt ↦ none y.0 (front.complete y.0 (goes_arrives (k + 1) y.0 (omega arith) lt y.1))
          | inr past ↦
              let z = goes_end k y.0 (omega arith) le y.1 in none z.0 (front.complete z.0 z.1)
        ]

    pub longest_dead : (best : Option ℕ) → IsLongest sets program s e i (k + 1) best
        → IsLongest sets program s e i (length s + 1) best
    longest_dead None h = λ j below run. elim (cases_lt j (k + 1)) [
      | inl less ↦ h j less run
      | inr ge ↦ no_later j ge
          below run
    ]
    longest_dead (Some j) h = (
      omega (arith, h.0),
      h.1,
      λ l below run. elim (cases_lt l (k + 1)) [
        | inl less ↦ h.2 l less run
        | inr ge ↦ absurd
            (no_later l ge below run)
      ],
    )

  -- the flag for the end of the text
  pub end_yes : (n k : ℕ) (S : List ℕ) → n ≡ length s → n ≡ k + 1 → i ≤ k → IsFront sets program s e i n S → (x : ℕ)
      → Contains S x → LeadsTo program false true x 0 → Goes sets program s e i 0 n
  end_yes n k S is same le front x member leads =
      subst (λ y. Goes sets program s e i 0 y) (sym same)
      (end_goes k x 0 (sym same ∙ is) le (subst (λ y. Arrives sets program s e i y x) same (front.sound x member))
      leads)

  pub end_has : (n k : ℕ) (S : List ℕ) → n ≡ length s → n ≡ k + 1 → i ≤ k → IsFront sets program s e i n S
      → Goes sets program s e i 0 n → (x : ℕ) × Contains S x × LeadsTo program false true x 0
  end_has n k S is same le front run =
      let z = goes_end k 0 (sym same ∙ is) le (subst (λ y. Goes sets program s e i 0 y) same run) in
      (z.0, front.complete z.0 (subst (λ y. Arrives sets program s e i y z.0) (sym same) z.1), z.2)

-- a search that has reached the steps S
module _ (sets : List (List Bool)) (program : List Instruction) (s : List ℕ) (e i k : ℕ) (S : List ℕ)
    (front : IsFront sets program s e i k S) where
  -- before the end of the text, where a flag says whether a match ends
  module _ (le : i ≤ k) (lt : k < length s) (here : Bool) (is : (here ≡ true) ↔ Contains S 0) where
    pub front_turn : (best : Option ℕ) → IsLongest sets program s e i k best
        → IsLongest sets program s e i (k + 1) (cond here (Some k) best)
    front_turn best had =
        longest_turn sets program s e i k here
        (λ t. arrives_goes sets program s e i k 0 lt (front.sound 0 (is.0 t)))
        (λ run. is.1 (front.complete 0 (goes_arrives sets program s e i k 0 le lt run)))
        best had

    pub front_pass : here ≡ false → IsLongest sets program s e i k None → IsLongest sets program s e i (k + 1) None
    front_pass off none = subst (λ b. IsLongest sets program s e i (k + 1) (cond b (Some k) None)) off
        (front_turn None none)

    pub front_accept : here ≡ true → EndsSomewhere sets program s e i
    front_accept t = (k, omega arith, arrives_goes sets program s e i k 0 lt (front.sound 0 (is.0 t)))

  -- at its end
  module _ (same : k ≡ length s) (some : i < k) (last : Bool) (is : (last ≡ true) ↔ EndsAtLast program S) where
    last_is : last ≡ true → Goes sets program s e i 0 k
    last_is t =
        let y = is.0 t in end_yes sets program s e i k (k - 1) S same (omega arith) (omega arith) front y.0 y.1 y.2

    last_has : Goes sets program s e i 0 k → last ≡ true
    last_has run =
        let y = end_has sets program s e i k (k - 1) S same (omega arith) (omega arith) front run in
        is.1 (y.0, y.1, y.2)

    pub front_last : (best : Option ℕ) → IsLongest sets program s e i k best
        → IsLongest sets program s e i (length s + 1) (cond last (Some (length s)) best)
    front_last best had = subst (λ n. IsLongest sets program s e i (n + 1) (cond last (Some n) best)) same
        (longest_turn sets program s e i k last last_is last_has best had)

    pub front_finish : IsLongest sets program s e i k None → IsTrue last ↔ EndsSomewhere sets program s e i
    front_finish none = (
      (λ t. (k, omega arith, last_is t)),
      λ run. elim (cases_lt run.0 k) [
        | inl less ↦ absurd (none run.0 less run.2)
        | inr ge ↦ last_has (let at : run.0 ≡ k = omega (arith, run.1) in
            subst (λ x. Goes sets program s e i 0 x) at run.2)
      ],
    )

-- a search in a state
module _ (sets : List (List Bool)) (program : List Instruction) (s : List ℕ) (cells : List (List ℕ))
    (accepts ends : List Bool) (e i k state : ℕ) (h : IsAt sets program s cells accepts ends e i k state) where
  -- before the end of the text
  module _ (le : i ≤ k) (lt : k < length s) where
    pub at_next : slice_index s k < 256 → cell cells state (slice_index s k) < length cells
        → IsAt sets program s cells accepts ends e i (k + 1) (cell cells state (slice_index s k))
    at_next byte known =
        let r = h.1.right state (slice_index s k) h.2 byte known in (
          h.0,
          h.1,
          known,
          front_step sets program s e i k (steps_of h.0 state)
              (steps_of h.0 (cell cells state (slice_index s k))) le lt h.3 r,
        )

    -- the same, where the cell was read in the row of the state
    pub at_row : slice_index s k < 256 → (row : List ℕ) → row ≡ slice_index_or cells state [] → (next : ℕ)
        → next ≡ slice_index row (slice_index s k) → next < length cells
        → IsAt sets program s cells accepts ends e i (k + 1) next
    at_row byte row is next leads known =
        let same : next ≡ cell cells state (slice_index s k) = leads ∙ ap (λ r. slice_index r (slice_index s k)) is in
        subst (λ n. IsAt sets program s cells accepts ends e i (k + 1) n) (sym same)
        (at_next byte (omega (arith, same, known)))

    pub at_turn : (best : Option ℕ) → IsLongest sets program s e i k best
        → IsLongest sets program s e i (k + 1) (cond (slice_index_or accepts state false) (Some k) best)
    at_turn best had = front_turn sets program s e i k (steps_of h.0 state) h.3 le lt
        (slice_index_or accepts state false) (h.1.accept.each state h.2) best had

    pub at_pass : slice_index_or accepts state false ≡ false → IsLongest sets program s e i k None
        → IsLongest sets program s e i (k + 1) None
    at_pass off none = front_pass sets program s e i k (steps_of h.0 state) h.3 le lt
        (slice_index_or accepts state false) (h.1.accept.each state h.2) off none

    pub at_accept : slice_index_or accepts state false ≡ true → EndsSomewhere sets program s e i
    at_accept t = front_accept sets program s e i k (steps_of h.0 state) h.3 le lt (slice_index_or accepts state false)
        (h.1.accept.each state h.2) t

    pub at_dead : slice_index s k < 256 → cell cells state (slice_index s k) ≡ 0 → (best : Option ℕ)
        → IsLongest sets program s e i (k + 1) best → IsLongest sets program s e i (length s + 1) best
    at_dead byte is best had =
        let next = at_next byte (omega arith) in
        longest_dead sets program s e i k le lt (steps_of next.0 (cell cells state (slice_index s k))) next.3
        (λ p member. next.1.dead p (subst (λ x. Contains (steps_of next.0 x) p) is member)) best had

  -- at its end
  module _ (is : k ≡ length s) (some : i < k) where
    pub at_last : (best : Option ℕ) → IsLongest sets program s e i k best → IsLongest sets program s e i (length s + 1)
        (cond (slice_index_or ends state false) (Some (length s)) best)
    at_last best had = front_last sets program s e i k (steps_of h.0 state) h.3 is some
        (slice_index_or ends state false) (h.1.end.each state h.2) best had

    pub at_finish : IsLongest sets program s e i k None → IsTrue (slice_index_or ends state false) ↔ EndsSomewhere sets
        program s e i
    at_finish none = front_finish sets program s e i k (steps_of h.0 state) h.3 is some
        (slice_index_or ends state false) (h.1.end.each state h.2) none

-- bytes that leave a search in its state
module _ (sets : List (List Bool)) (program : List Instruction) (s : List ℕ) (cells : List (List ℕ))
    (accepts ends : List Bool) (e i state : ℕ) (small : (k : ℕ) → slice_index s k < 256) (row : List ℕ)
    (is : row ≡ slice_index_or cells state []) (quiet : slice_index_or accepts state false ≡ false) where
  pub at_stays : (n k to : ℕ) → to ≡ k + n → i ≤ k → to ≤ length s → AllLead row s state k to
      → IsAt sets program s cells accepts ends e i k state → IsLongest sets program s e i k None
      → IsAt sets program s cells accepts ends e i to state × IsLongest sets program s e i to None
  at_stays zero k to sum le within all at none =
      let same : k ≡ to = omega (arith, sum) in (
        subst (λ x. IsAt sets program s cells accepts ends e i x state) same at,
        subst (λ x. IsLongest sets program s e i x None) same none,
      )
  at_stays (suc n) k to sum le within all at none =
      let lt : k < length s = omega (arith, sum, within) in
      let before : k < to = omega (arith, sum) in
      at_stays n (k + 1) to (omega (arith, sum)) (omega (arith, le)) within (λ j after. all j (omega (arith, after)))
      (at_row sets program s cells accepts ends e i k state at le lt (small k) row is state
      (sym (all k (omega arith) before)) at.2)
      (at_pass sets program s cells accepts ends e i k state at le lt quiet none)

pub only_one : (a r : ℕ) → Contains (a ∷ []) r → a ≡ r
only_one a r (zero, lt, is) = is
only_one a r (suc k, lt, is) = absurd (omega arith)

-- where a search begins
pub at_first : (sets : List (List Bool)) (program : List Instruction) (s : List ℕ) (e i : ℕ) (T : List ℕ)
    → e < length program → IsLed program (i == 0) false (e ∷ []) T → IsFront sets program s e i i T
at_first sets program s e i T inside led = record {
  sound = λ p member. let y = led.sound p member in
      inl (refl, subst (λ x. LeadsTo program (i == 0) false x p) (sym (only_one e y.0 y.1)) y.2);
  complete = λ p arrives. elim arrives [
    | inl here ↦ led.complete e p inside (0, omega arith, refl) here.1
    | inr there ↦ absurd (omega (arith, there.3, path_le sets program s there.4.0 e i there.0 there.2 there.4.1))
  ];
}
