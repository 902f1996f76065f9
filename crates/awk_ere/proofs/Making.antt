-- How the rows of a table are made, and the states that they name.
use Rattle.std.proofs.Common.{◌≡◌, ◌↔◌, ◌⊎◌, ℕ, zero, suc, ◌+◌, ◌-◌, ◌<◌, ◌≤◌, inl, inr, Bool, true, false, List, []}
use Rattle.std.proofs.Common.{◌∷◌, ◌++◌, Some, length, get_or, refl, sym, ◌∙◌, ap, subst, arith}
use Rattle.std.proofs.Math.ListN.{length-append, length-set, set}
use Rattle.std.specs.List.{slice_get, Contains}
use Rattle.std.proofs.lemmas.Bool.{cases_lt, cases_eq}
use Rattle.std.proofs.lemmas.List.{get_or_default, get_or-set_same, get_or-set_other}
use Rattle.awk_ere.specs.Program.{Skips, left, right, at_start, at_end, SkipPath, IsSound}
use Rattle.awk_ere.specs.Search.{mark, target_of}
use Rattle.awk_ere.specs.Table.{steps_of, Gains, IsLed, AreLed, AreTargets, IsKnown, IsNumber, AreEdges, EndsAtLast}
use Rattle.awk_ere.specs.Table.{Later}
use Rattle.awk_ere.specs.Closure.{is_at_end, is_eat, AreEating, IsClosedList, IsEat, NoneWait}
use Rattle.awk_ere.specs.Making.{AreClosed, AreListEdges, AreMadeBy, AreRuns, IsMadeBy}
use Rattle.awk_ere.specs.declared.program.Instruction.{Instruction}
use Rattle.awk_ere.specs.declared.program.Instruction.TheVariants.{Eat, AtEnd}
use Rattle.awk_ere.specs.declared.search.TheConstants.{NONE}
use Rattle.awk_ere.proofs.Advance.{takes_target, target_takes}
use Rattle.std.proofs.lemmas.List.Elements.{Contains-get_or}
use Rattle.std.proofs.lemmas.Option.{slice_get_within}
use Rattle.awk_ere.proofs.Reach.{skip_more}
use Rattle.awk_ere.proofs.Gathering.{IsGathered, gained_none, gained_one, later_self}
use Rattle.awk_ere.proofs.Gathering.{cell_by, known_same, known_later, later_steps, later_length, leads_inside}

-- a mark of the first step says whether a match ends at the text's end
pub ends_marked : (program : List Instruction) (list starts : List ℕ) (least : ℕ) (b : Bool) → 0 < length program
    → AreLed program false true list starts → least ≡ mark starts 0 → (b ≡ true) ↔ (least < NONE)
    → (b ≡ true) ↔ EndsAtLast program list
ends_marked program list starts least b some led is test = (
  (λ t. led.sound 0 (let lt = test.0 t in omega (arith, lt, is))),
  (λ h. test.1 (let lt = led.complete h.0 0 (leads_inside program false true h.0 some h.2) h.1 h.2 in
      omega (arith, lt, is))),
)

last_list : (lists : List (List ℕ)) (list : List ℕ) → steps_of (lists ++ list ∷ []) (length lists) ≡ list
last_list [] list = refl
last_list (x ∷ xs) list = last_list xs list

-- states are closed
module _ (program : List Instruction) where
  inside_first : (first last : Bool) (n y p : ℕ) → SkipPath program first last (suc n) y p → y < length program
  inside_first first last n y p (x, skip, path) = by_skip skip where
    by_skip : Skips program first last y x → y < length program
    by_skip (left other h) = slice_get_within program _ _ h
    by_skip (right other h) = slice_get_within program _ _ h
    by_skip (at_start h f) = slice_get_within program _ _ h
    by_skip (at_end h f) = slice_get_within program _ _ h

  skips_so : (first last : Bool) (q r : ℕ) → Skips program false false q r → Skips program first last q r
  skips_so first last q r (left other h) = left other h
  skips_so first last q r (right other h) = right other h
  skips_so first last q r (at_start h f) = absurd (cc)
  skips_so first last q r (at_end h f) = absurd (cc)

  pub closed_led : (first : Bool) (list steps : List ℕ) → IsLed program first false list steps
      → IsClosedList program steps
  closed_led first list steps led = λ x p member skip.
      let (y, had, leads) = led.sound x member in
      let on = skip_more program first false leads.0 y x p leads.1 (skips_so first false x p skip) in
      led.complete y p (inside_first first false leads.0 y p on) had (suc leads.0, on)

  pub closed_grown : (lists all : List (List ℕ)) (list : List ℕ) → (all ≡ lists) ⊎ (all ≡ lists ++ list ∷ [])
      → IsClosedList program list → AreClosed program lists → AreClosed program all
  closed_grown lists all list (inl same) new h = subst (λ zs. AreClosed program zs) (sym same) h
  closed_grown lists all list (inr more) new h =
      subst (λ zs. AreClosed program zs) (sym more) (λ q lt. elim (cases_lt q (length lists)) [
        | inl less ↦ subst (λ l. IsClosedList program l) (sym (later_steps lists (lists ++ list ∷ []) q less
            (list ∷ [], refl))) (h q less)
        | inr ge ↦
            let at : q ≡ length lists = omega (arith, lt, ge, length-append {A = List ℕ}) in
            subst (λ l. IsClosedList program l)
            (sym (ap (λ k. steps_of (lists ++ list ∷ []) k) at ∙ last_list lists list)) new
      ])

  pub closed_first : (lists : List (List ℕ)) → lists ≡ [] ∷ [] → AreClosed program lists
  closed_first lists is = subst (λ zs. AreClosed program zs) (sym is) (λ q lt x p member skip.
      absurd (let z : q ≡ 0 = omega (arith, lt) in
      let none = subst (λ k. Contains (steps_of ([] ∷ []) k) x) z member in omega (arith, none.1)))

  -- where no step waits for the text's end, none leads further there
  pub ends_closed : (list : List ℕ) (b : Bool) → IsClosedList program list → NoneWait program list
      → (b ≡ true) ↔ Contains list 0 → (b ≡ true) ↔ EndsAtLast program list
  ends_closed list b closed none is = (
    (λ t. (0, is.0 t, (0, refl))),
    (λ h. is.1 (follow h.2.0 h.0 h.1 h.2.1)),
  ) where
    follow : (n x : ℕ) → Contains list x → SkipPath program false true n x 0 → Contains list 0
    follow zero x member same = subst (λ y. Contains list y) same member
    follow (suc n) x member (p, skip, path) = follow n p (by_skip skip) path where
      by_skip : Skips program false true x p → Contains list p
      by_skip (left other h) = closed x p member (left other h)
      by_skip (right other h) = closed x p member (right other h)
      by_skip (at_start h f) = absurd (cc)
      by_skip (at_end h f) = absurd (let e = none x (AtEnd p) member h in cc)

  pub waits_gathered : (list : List ℕ) (k : ℕ) → length list ≤ k
      → ((i : ℕ) (x : Instruction) → i < k → i < length list → slice_get program (get_or list i 0) ≡ Some x
      → is_at_end x ≡ false) → NoneWait program list
  waits_gathered list k all h = λ q x member at.
      let e = get_or_default list member.0 0 q member.1 ∙ member.2 in
      h member.0 x (omega (arith, member.1)) member.1 (subst (λ y. slice_get program y ≡ Some x) (sym e) at)

pub grown_later : (lists all : List (List ℕ)) (list : List ℕ) → (all ≡ lists) ⊎ (all ≡ lists ++ list ∷ [])
    → Later lists all
grown_later lists all list (inl same) = subst (λ zs. Later lists zs) (sym same) (later_self lists)
grown_later lists all list (inr more) = (list ∷ [], more)

-- kernels
module _ (program : List Instruction) where
  pub made_known : (T U : List ℕ) (lists : List (List ℕ)) (n : ℕ) → IsLed program false false T U → IsNumber U lists n
      → IsMadeBy program lists T n
  made_known T U lists n led h = λ small. let y = h small in
      (y.0, subst (λ x. IsLed program false false T x) (sym y.1) led)

  pub made_later : (lists all kernels : List (List ℕ)) (numbers : List ℕ) → Later lists all
      → AreMadeBy program lists kernels numbers → AreMadeBy program all kernels numbers
  made_later lists all kernels numbers later h = record {
    len = h.len;
    each = λ i lt small. let y = h.each i lt small in (
      omega (arith, y.0, later_length lists all later),
      subst (λ x. IsLed program false false (steps_of kernels i) x)
          (sym (later_steps lists all (get_or numbers i 0) y.0 later)) y.1,
    );
  }

  last_number : (numbers : List ℕ) (n : ℕ) → get_or (numbers ++ n ∷ []) (length numbers) 0 ≡ n
  last_number [] n = refl
  last_number (x ∷ xs) n = last_number xs n

  front_number : (numbers : List ℕ) (n i : ℕ) → i < length numbers → get_or (numbers ++ n ∷ []) i 0 ≡ get_or numbers i 0
  front_number [] n i lt = absurd (omega arith)
  front_number (x ∷ xs) n zero lt = refl
  front_number (x ∷ xs) n (suc i) lt = front_number xs n i (omega arith)

  pub made_push : (lists kernels more : List (List ℕ)) (kernel numbers new : List ℕ) (n : ℕ)
      → more ≡ kernels ++ kernel ∷ [] → new ≡ numbers ++ n ∷ [] → IsMadeBy program lists kernel n
      → AreMadeBy program lists kernels numbers → AreMadeBy program lists more new
  made_push lists kernels more kernel numbers new n is same one h = record {
    len = (let e = ap length is in let f = ap length same in
        omega (arith, e, f, h.len, length-append {A = List ℕ}, length-append {A = ℕ}));
    each = λ i lt.
        subst (λ x. IsMadeBy program lists (steps_of x i) (get_or new i 0)) (sym is)
        (subst (λ x. IsMadeBy program lists (steps_of (kernels ++ kernel ∷ []) i) (get_or x i 0)) (sym same)
        (elim (cases_lt i (length kernels)) [
          | inl less ↦
              subst (λ x. IsMadeBy program lists x (get_or (numbers ++ n ∷ []) i 0))
              (sym (later_steps kernels (kernels ++ kernel ∷ []) i less (kernel ∷ [], refl)))
              (subst (λ x. IsMadeBy program lists (steps_of kernels i) x)
              (sym (front_number numbers n i (omega (arith, less, h.len)))) (h.each i less))
          | inr ge ↦
              let e = ap length is in
              let at : i ≡ length kernels = omega (arith, lt, ge, e, length-append {A = List ℕ}) in
              let at' : i ≡ length numbers = omega (arith, at, h.len) in
              subst (λ x. IsMadeBy program lists x (get_or (numbers ++ n ∷ []) i 0))
              (sym (ap (λ k. steps_of (kernels ++ kernel ∷ []) k) at ∙ last_list kernels kernel))
              (subst (λ x. IsMadeBy program lists kernel x)
              (sym (ap (λ k. get_or (numbers ++ n ∷ []) k 0) at' ∙ last_number numbers n)) one)
        ]));
  }

  pub made_there : (lists kernels : List (List ℕ)) (numbers kernel : List ℕ) (at n : ℕ)
      → at < length kernels → steps_of kernels at ≡ kernel → n ≡ get_or numbers at 0
      → AreMadeBy program lists kernels numbers → IsMadeBy program lists kernel n
  made_there lists kernels numbers kernel at n lt is same h =
      subst (λ x. IsMadeBy program lists kernel x) (sym same)
      (subst (λ x. IsMadeBy program lists x (get_or numbers at 0)) is (h.each at lt))

  pub made_first : (lists kernels : List (List ℕ)) (numbers : List ℕ) → lists ≡ [] ∷ [] → kernels ≡ [] ∷ []
      → numbers ≡ 0 ∷ [] → AreMadeBy program lists kernels numbers
  made_first lists kernels numbers a b c =
      subst (λ x. AreMadeBy program x kernels numbers) (sym a)
      (subst (λ x. AreMadeBy program ([] ∷ []) x numbers) (sym b)
      (subst (λ x. AreMadeBy program ([] ∷ []) ([] ∷ []) x) (sym c) (record {
        len = refl;
        each = λ i lt small. let z : i ≡ 0 = omega (arith, lt) in (
          subst (λ k. get_or (0 ∷ []) k 0 < 1) (sym z) (omega arith),
          subst (λ k. IsLed program false false (steps_of ([] ∷ []) k) (steps_of ([] ∷ []) (get_or (0 ∷ []) k 0)))
              (sym z) (record {
                sound = λ p member. absurd (omega (arith, member.1));
                complete = λ x p below member leads. absurd (omega (arith, member.1));
              }),
        );
      })))

  pub cell_made : (sets : List (List Bool)) (b : ℕ) (S T : List ℕ) (lists : List (List ℕ)) (n : ℕ) → IsSound program
      → AreTargets sets program b S T → IsMadeBy program lists T n → IsKnown sets program b S lists n
  cell_made sets b S T lists n sound targets h = λ small. let y = h small in
      (y.0, cell_by sets program b S T (steps_of lists n) sound targets y.1)

-- the steps that take a byte
module _ (program : List Instruction) where
  pub eating_not : (at : ℕ) (x : Instruction) (list : List ℕ) → slice_get program at ≡ Some x → is_eat x ≡ false
      → Gains (λ p. (p ≡ at) × IsEat program at) list list
  eating_not at x list is off =
      gained_none (λ p. (p ≡ at) × IsEat program at) list (λ p h. other h.1.0 h.1.1 h.1.2) where
        other : (y : Instruction) → slice_get program at ≡ Some y → is_eat y ≡ true → ⊥
        other y here eat = let e = sym is ∙ here in cc

  pub eating_one : (at : ℕ) (x : Instruction) (old new : List ℕ) → slice_get program at ≡ Some x → is_eat x ≡ true
      → new ≡ old ++ at ∷ [] → Gains (λ p. (p ≡ at) × IsEat program at) old new
  eating_one at x old new is eat more =
      subst (λ list. Gains (λ p. (p ≡ at) × IsEat program at) old list) (sym more)
      (gained_one (λ p. (p ≡ at) × IsEat program at) old at (refl, (x, is, eat)) (λ p h. h.0))

  module _ (list : List ℕ) where
    abbrev pub Eating : ℕ → ℕ → Type 0
    Eating i p = (i < length list) × (p ≡ get_or list i 0) × IsEat program (get_or list i 0)

    pub eating_gained : (k : ℕ) (old new : List ℕ) → k < length list
        → Gains (λ p. (p ≡ get_or list k 0) × IsEat program (get_or list k 0)) old new → Gains (Eating k) old new
    eating_gained k old new lt gains = λ t. (
      (λ member. elim ((gains t).0 member) [ inl had ↦ inl had | inr is ↦ inr (lt, is.0, is.1) ]),
      (λ one. elim one [ inl had ↦ (gains t).1 (inl had) | inr is ↦ (gains t).1 (inr (is.1, is.2)) ]),
    )

    pub eating_gathered : (k : ℕ) (found : List ℕ) → length list ≤ k → IsGathered Eating k found
        → AreEating program list found
    eating_gathered k found all h = λ q. (
      (λ member. let y = (h q).0 member in (
        subst (λ x. Contains list x) (sym y.2.1) (Contains-get_or list y.0 0 y.2.0),
        subst (λ x. IsEat program x) (sym y.2.1) y.2.2,
      )),
      (λ both.
          let (i, lt, same) = both.0 in
          let e : get_or list i 0 ≡ q = get_or_default list i 0 q lt ∙ same in
          (h q).1 (i, omega (arith, lt), (lt, sym e, subst (λ x. IsEat program x) (sym e) both.1))),
    )

  -- over a byte the others lead nowhere
  pub known_eating : (sets : List (List Bool)) (b n : ℕ) (list eating : List ℕ) (lists : List (List ℕ))
      → AreEating program list eating → IsKnown sets program b eating lists n → IsKnown sets program b list lists n
  known_eating sets b n list eating lists are h = λ small. let y = h small in (
    y.0,
    record {
      sound = λ p member. let z = y.1.sound p member in (z.0, z.1, ((are z.0).0 z.2).0, z.3, z.4);
      complete = λ x t p member takes leads.
          y.1.complete x t p ((are x).1 (member, (Eat takes.class t, takes.step, refl))) takes leads;
    },
  )

-- a row, made up to the byte k; from there on it has what the byte before has
module _ (sets : List (List Bool)) (program : List Instruction) where
  pub record IsRow (S : List ℕ) (lists : List (List ℕ)) (k : ℕ) (row : List ℕ) : Type 0 where
    pub known : (b : ℕ) → b < k → b < 256 → IsKnown sets program b S lists (get_or row b 0)
    pub rest : (b c : ℕ) → k ≡ b + 1 → k ≤ c → c < 256 → get_or row c 0 ≡ get_or row b 0

  pub row_begins : (S : List ℕ) (lists : List (List ℕ)) (row : List ℕ) → IsRow S lists 0 row
  row_begins S lists row = record { known = λ b lt. absurd (omega arith); rest = λ b c is. absurd (omega arith) }

  module _ (edges : List Bool) (are : AreEdges sets program edges) (last : List ℕ) (runs : AreRuns edges last)
      (S : List ℕ) (k : ℕ) (small : k < 256) where
    -- a run has one state
    known_run : (lists : List (List ℕ)) (n d : ℕ) → k + d ≤ get_or last k 0 → IsKnown sets program k S lists n
        → IsKnown sets program (k + d) S lists n
    known_run lists n zero le h = subst (λ x. IsKnown sets program x S lists n) (let e : k ≡ k + 0 = omega arith in e) h
    known_run lists n (suc d) le h =
        let in_run : k + d < get_or last k 0 = omega (arith, le) in
        let below = (runs.inside k small).1 in
        let off = runs.none k (k + d) small (omega arith) in_run in
        subst (λ x. IsKnown sets program x S lists n) (let e : k + d + 1 ≡ k + suc d = omega arith in e)
        (known_same sets program (k + d) (k + d + 1) n S lists
        (λ q r member. are.1 (k + d) q r (omega (arith, below, in_run)) off)
        (known_run lists n d (omega (arith, le)) h))

    pub row_on : (lists : List (List ℕ)) (v : ℕ) (row : List ℕ)
        → ((b : ℕ) → b < k → IsKnown sets program b S lists (get_or row b 0))
        → ((b : ℕ) → k ≤ b → b < 256 → get_or row b 0 ≡ v) → IsKnown sets program k S lists v
        → IsRow S lists (get_or last k 0 + 1) row
    row_on lists v row before rest is = record {
      known = λ b lt within. elim (cases_lt b k) [
        | inl less ↦ before b less
        | inr ge ↦
            let (d, at) = offset b ge in
            subst (λ x. IsKnown sets program b S lists x) (sym (rest b ge within))
            (subst (λ x. IsKnown sets program x S lists v) (sym at)
            (known_run lists v d (omega (arith, lt, at)) is))
      ];
      rest = λ b c same ge within.
          let after = (runs.inside k small).0 in
          rest c (omega (arith, after, ge)) within
          ∙ sym (rest b (omega (arith, after, same)) (omega (arith, same, ge)));
    } where
      offset : (b : ℕ) → k ≤ b → (d : ℕ) × (b ≡ k + d)
      offset b le = (b - k, omega (arith, le))

    -- a new cell, from which on the row was filled
    pub row_more : (lists all : List (List ℕ)) (v : ℕ) (row new : List ℕ) → Later lists all
        → ((b : ℕ) → b < k → get_or new b 0 ≡ get_or row b 0) → ((b : ℕ) → k ≤ b → b < 256 → get_or new b 0 ≡ v)
        → IsKnown sets program k S all v → IsRow S lists k row → IsRow S all (get_or last k 0 + 1) new
    row_more lists all v row new later kept rest is h =
        row_on all v new
        (λ b lt. subst (λ x. IsKnown sets program b S all x) (sym (kept b lt))
        (known_later sets program b (get_or row b 0) S lists all later (h.known b lt (omega (arith, lt))))) rest is

    -- the cell before, where no step of the list tells the bytes apart
    pub row_same : (lists : List (List ℕ)) (own : List Bool) (row : List ℕ) → AreListEdges sets program S own
        → get_or own k false ≡ false → IsRow S lists k row → IsRow S lists (get_or last k 0 + 1) row
    row_same lists own row of_list off h = by_byte k refl where
      by_byte : (j : ℕ) → k ≡ j → IsRow S lists (get_or last k 0 + 1) row
      by_byte zero is = absurd (let e = of_list.0 in let f = ap (λ x. get_or own x false) is in cc)
      by_byte (suc j) is =
          let at : k ≡ j + 1 = omega (arith, is) in
          let off' : get_or own (j + 1) false ≡ false = subst (λ x. get_or own x false ≡ false) at off in
          let here : IsKnown sets program (j + 1) S lists (get_or row j 0) =
          known_same sets program j (j + 1) (get_or row j 0) S lists
          (λ q r member. of_list.1 j q r (omega (arith, at)) off' member)
          (h.known j (omega (arith, at)) (omega (arith, at))) in
          row_on lists (get_or row j 0) row (λ b lt. h.known b lt (omega (arith, lt)))
          (λ b ge within. h.rest j b at ge within)
          (subst (λ x. IsKnown sets program x S lists (get_or row j 0)) (sym at) here)

-- the first k steps of the list are done
pub record AreEdgesSoFar (sets : List (List Bool)) (program : List Instruction) (list : List ℕ) (k : ℕ)
    (edges : List Bool) : Type 0 where
  pub first : get_or edges 0 false ≡ true
  pub each : (i : ℕ) (x : Instruction) (b : ℕ) → i < k → i < length list → slice_get program (get_or list i 0) ≡ Some x
      → b + 1 < 256 → get_or edges (b + 1) false ≡ false → target_of sets (b + 1) x ≡ target_of sets b x

module _ (sets : List (List Bool)) (program : List Instruction) (list : List ℕ) where
  pub so_far_begins : (edges : List Bool) → get_or edges 0 false ≡ true → AreEdgesSoFar sets program list 0 edges
  so_far_begins edges first = record { first = first; each = λ i x b lt. absurd (omega arith) }

  pub so_far_more : (k : ℕ) (old new : List Bool)
      → ((b : ℕ) → get_or new b false ≡ false → get_or old b false ≡ false)
      → ((x : Instruction) (b : ℕ) → slice_get program (get_or list k 0) ≡ Some x → b + 1 < 256
      → get_or new (b + 1) false ≡ false → target_of sets (b + 1) x ≡ target_of sets b x)
      → AreEdgesSoFar sets program list k old → AreEdgesSoFar sets program list (k + 1) new
  so_far_more k old new kept edge h = record {
    first = still (get_or new 0 false) refl;
    each = λ i x b lt within at inside off. elim (cases_eq i k) [
      | inl same ↦ edge x b (subst (λ j. slice_get program (get_or list j 0) ≡ Some x) same at) inside off
      | inr ne ↦ h.each i x b (omega arith) within at inside (kept (b + 1) off)
    ];
  } where
    still : (v : Bool) → get_or new 0 false ≡ v → v ≡ true
    still true e = refl
    still false e = absurd (let f = kept 0 e in let g = h.first in cc)

  pub so_far_ends : (k : ℕ) (edges : List Bool) → length list ≤ k → AreEdgesSoFar sets program list k edges
      → AreListEdges sets program list edges
  so_far_ends k edges all h = (
    h.first,
    λ b q r inside off member. (
      (λ takes. takes_target sets program b q r (Eat takes.class r) takes.step
          (sym (same b q inside off member (Eat takes.class r) takes.step) ∙ target_takes sets program (b + 1) q r
          (Eat takes.class r) takes.step takes)),
      (λ takes. takes_target sets program (b + 1) q r (Eat takes.class r) takes.step
          (same b q inside off member (Eat takes.class r) takes.step ∙ target_takes sets program b q r
          (Eat takes.class r) takes.step takes)),
    ),
  ) where
    same : (b q : ℕ) → b + 1 < 256 → get_or edges (b + 1) false ≡ false → Contains list q → (x : Instruction)
        → slice_get program q ≡ Some x → target_of sets (b + 1) x ≡ target_of sets b x
    same b q inside off member x at =
        let e = get_or_default list member.0 0 q member.1 ∙ member.2 in
        h.each member.0 x b (omega (arith, member.1)) member.1
        (subst (λ y. slice_get program y ≡ Some x) (sym e) at) inside off

-- the runs of the last p bytes are found
pub record AreRunsSoFar (edges : List Bool) (last : List ℕ) (p : ℕ) : Type 0 where
  pub len : length last ≡ 256
  pub inside : (b : ℕ) → 256 ≤ b + p → b < 256 → (b ≤ get_or last b 0) × (get_or last b 0 < 256)
  pub none : (b c : ℕ) → 256 ≤ b + p → b < 256 → b ≤ c → c < get_or last b 0 → get_or edges (c + 1) false ≡ false

module _ (edges : List Bool) where
  pub runs_begin : (last : List ℕ) → length last ≡ 256 → ((b : ℕ) → b < 256 → get_or last b 0 ≡ 255)
      → AreRunsSoFar edges last 1
  runs_begin last len all = record {
    len = len;
    inside = λ b low small. (let e = all b small in (omega (arith, e, small), omega (arith, e)));
    none = λ b c low small le lt. absurd (let e = all b small in omega (arith, e, low, le, lt));
  }

  -- one byte more, whose run ends at v
  pub runs_more : (last : List ℕ) (p b v : ℕ) → b + p ≡ 255 → b ≤ v → v < 256
      → ((c : ℕ) → b ≤ c → c < v → get_or edges (c + 1) false ≡ false) → AreRunsSoFar edges last p
      → AreRunsSoFar edges (set last b v) (p + 1)
  runs_more last p b v at le small run h = record {
    len = omega (arith, h.len, length-set {A = ℕ} last b v);
    inside = λ q low within. elim (cases_eq q b) [
      | inl same ↦ (let e = here q same in (omega (arith, e, same, le), omega (arith, e, small)))
      | inr ne ↦ (let e = there q ne in let y = h.inside q (omega (arith, low, at, ne)) within in
          (omega (arith, e, y.0), omega (arith, e, y.1)))
    ];
    none = λ q c low within from to. elim (cases_eq q b) [
      | inl same ↦ (let e = here q same in run c (omega (arith, same, from)) (omega (arith, e, to)))
      | inr ne ↦ (let e = there q ne in h.none q c (omega (arith, low, at, ne)) within from (omega (arith, e, to)))
    ];
  } where
    here : (q : ℕ) → q ≡ b → get_or (set last b v) q 0 ≡ v
    here q same = ap (λ x. get_or (set last b v) x 0) same
        ∙ get_or-set_same last b v 0 (let l = h.len in omega (arith, l, at))

    there : (q : ℕ) → (q ≡ b → ⊥) → get_or (set last b v) q 0 ≡ get_or last q 0
    there q ne = get_or-set_other last b q v 0 ne

  -- where the byte behind b is no edge, b's run ends where that one's does
  pub runs_on : (last : List ℕ) (p b : ℕ) → b + p ≡ 255 → 1 ≤ p → get_or edges (b + 1) false ≡ false
      → AreRunsSoFar edges last p → AreRunsSoFar edges (set last b (get_or last (b + 1) 0)) (p + 1)
  runs_on last p b at some off h =
      let next = h.inside (b + 1) (omega (arith, at)) (omega (arith, at, some)) in
      runs_more last p b (get_or last (b + 1) 0) at (omega (arith, next.0)) next.1 (λ c from to. elim (cases_eq c b) [
        | inl same ↦ subst (λ x. get_or edges (x + 1) false ≡ false) (sym same) off
        | inr ne ↦ h.none (b + 1) c (omega (arith, at)) (omega (arith, at, some)) (omega (arith, from, ne)) to
      ]) h

  pub runs_end : (last : List ℕ) (p : ℕ) → 256 ≤ p → AreRunsSoFar edges last p → AreRuns edges last
  runs_end last p all h = record {
    inside = λ b small. h.inside b (omega arith) small;
    none = λ b c small from to. h.none b c (omega arith) small from to;
  }
