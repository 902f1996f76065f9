-- How the states of a table are made.
use Rattle.std.proofs.Common.{◌≡◌, ◌↔◌, ℕ, zero, suc, ◌+◌, ◌<◌, ◌≤◌, inl, inr, Bool, true, false, List, [], ◌∷◌, ◌++◌}
use Rattle.std.proofs.Common.{length, get_or, map, Some, None, refl, sym, ◌∙◌, ap, subst, append_assoc, arith}
use Rattle.std.proofs.Math.ListN.{get_or-eq_default, length-append}
use Rattle.std.specs.List.{slice_get, Contains}
use Rattle.std.proofs.lemmas.Bool.{cases_lt, cases_eq}
use Rattle.std.proofs.lemmas.List.{get_or_default}
use Rattle.std.proofs.lemmas.List.Elements.{Contains-append_left, Contains-push, Contains-push_cases, Contains-get_or}
use Rattle.std.proofs.lemmas.Option.{slice_get_within, none-some}
use Rattle.awk_ere.specs.Program.{Skips, left, right, at_start, at_end, IsSound}
use Rattle.awk_ere.specs.Search.{mark, target_of, IsClosed, IsBlank, LeadsTo, Reaches, Takes}
use Rattle.awk_ere.specs.Table.{steps_of, cell, Gains, LeadsMore, IsLed, AreLed, AreMarked, AreTargets, IsCell, Later}
use Rattle.awk_ere.specs.Table.{IsNumber, IsKnown, AreEdges, AreRows, AreFlags, EndsAtLast, IsFirst, IsBegin, IsDead}
use Rattle.awk_ere.specs.Table.{IsTable}
use Rattle.awk_ere.specs.declared.program.Instruction.{Instruction}
use Rattle.awk_ere.specs.declared.program.Instruction.TheVariants.{Eat}
use Rattle.awk_ere.specs.declared.search.TheConstants.{NONE}
use Rattle.awk_ere.specs.declared.states.TheConstants.{UNKNOWN}
use Rattle.awk_ere.specs.declared.states.Begin.{Begin}
use Rattle.awk_ere.proofs.Advance.{target_below, takes_target, target_takes}
use Rattle.awk_ere.proofs.Searching.{closed_path}

-- a list that is gathered: after k turns it has what passes one of P 0 to P (k - 1)
abbrev pub IsGathered : (ℕ → ℕ → Type 0) → ℕ → List ℕ → Type 0
IsGathered P k list = (p : ℕ) → Contains list p ↔ ((i : ℕ) × (i < k) × P i p)

pub gained_none : (P : ℕ → Type 0) (list : List ℕ) → ((p : ℕ) → P p → ⊥) → Gains P list list
gained_none P list none = λ p. ((λ h. inl h), λ h. elim h [ inl had ↦ had | inr new ↦ absurd (none p new) ])

pub gained_one : (P : ℕ → Type 0) (list : List ℕ) (x : ℕ) → P x → ((p : ℕ) → P p → p ≡ x)
    → Gains P list (list ++ x ∷ [])
gained_one P list x is only = λ p. (
  (λ h. elim (Contains-push_cases list x p h) [ inl had ↦ inl had | inr same ↦ inr (subst P same is) ]),
  (λ h. elim h [
    | inl had ↦ Contains-append_left list (x ∷ []) p had
    | inr new ↦ subst (λ y. Contains (list ++ x ∷ []) y)
        (sym (only p new)) (Contains-push list x)
  ]),
)

module _ (P : ℕ → ℕ → Type 0) where
  pub gather_begins : IsGathered P 0 []
  gather_begins = λ p. ((λ h. absurd (omega (arith, h.1))), λ h. absurd (omega (arith, h.1)))

  pub gather_more : (k : ℕ) (old new : List ℕ) → Gains (P k) old new → IsGathered P k old → IsGathered P (k + 1) new
  gather_more k old new gains h = λ p. (
    (λ member. elim ((gains p).0 member) [
      | inl had ↦ (let y = (h p).0 had in (y.0, omega (arith, y.1), y.2))
      | inr is ↦ (k, omega arith, is)
    ]),
    (λ one. elim (cases_eq one.0 k) [
      | inl same ↦ (gains p).1 (inr (subst (λ i. P i p) same one.2))
      | inr ne ↦ (gains p).1 (inl ((h p).1 (one.0, omega (arith, one.1), one.2)))
    ]),
  )

-- a step that goes nowhere over the byte adds nothing, and one that goes on adds where it goes
module _ (sets : List (List Bool)) (program : List Instruction) (b q : ℕ) (x : Instruction) where
  pub gained_nowhere : (list : List ℕ) → slice_get program q ≡ Some x → target_of sets b x ≡ None
      → Gains (Takes sets program b q) list list
  gained_nowhere list at is = gained_none (Takes sets program b q) list
      (λ r takes. none-some r (sym is ∙ target_takes sets program b q r x at takes))

  pub gained_there : (r : ℕ) (old new : List ℕ) → slice_get program q ≡ Some x → target_of sets b x ≡ Some r
      → new ≡ old ++ r ∷ [] → Gains (Takes sets program b q) old new
  gained_there r old new at is more =
      subst (λ list. Gains (Takes sets program b q) old list) (sym more) (gained_one (Takes sets program b q) old r
      (takes_target sets program b q r x at is)
      (λ p takes. let e = sym is ∙ target_takes sets program b q p x at takes in cc))

-- targets
module _ (sets : List (List Bool)) (program : List Instruction) (b : ℕ) (list : List ℕ) where
  abbrev pub Target : ℕ → ℕ → Type 0
  Target i t = (i < length list) × Takes sets program b (get_or list i 0) t

  pub target_gained : (k : ℕ) (old new : List ℕ) → k < length list
      → Gains (λ t. Takes sets program b (get_or list k 0) t) old new → Gains (Target k) old new
  target_gained k old new lt gains = λ t. (
    (λ member. elim ((gains t).0 member) [ inl had ↦ inl had | inr is ↦ inr (lt, is) ]),
    (λ one. elim one [ inl had ↦ (gains t).1 (inl had) | inr is ↦ (gains t).1 (inr is.1) ]),
  )

  pub targets_gathered : (k : ℕ) (found : List ℕ) → length list ≤ k → IsGathered Target k found
      → AreTargets sets program b list found
  targets_gathered k found all h = record {
    sound = λ t member. let y = (h t).0 member in (get_or list y.0 0, Contains-get_or list y.0 0 y.2.0, y.2.1);
    complete = λ x t member takes. (h t).1 (
      member.0,
      omega (arith, member.1),
      (
        member.1,
        subst (λ y. Takes sets program b y t) (sym (get_or_default list member.0 0 x member.1 ∙ member.2))
            takes,
      ),
    );
  }

-- marks
pub marks_gathered : (starts list : List ℕ) (k : ℕ) → length starts ≤ k
    → IsGathered (λ i p. (p ≡ i) × (mark starts p < NONE)) k list → ((p : ℕ) → mark starts p < NONE → p < length starts)
    → AreMarked starts list
marks_gathered starts list k all h inside = record {
  sound = λ p member. ((h p).0 member).2.1;
  complete = λ p marked. (h p).1 (p, omega (arith, inside p marked), (refl, marked));
}

module _ (program : List Instruction) (first last : Bool) where
  pub leads_all : (from : ℕ) (old new : List ℕ) → Reaches program first last from 0 old new
      → LeadsMore program first last from old new
  leads_all from old new h = record { lower = h.lower; there = λ lt. h.there; origin = h.origin; closed = h.closed }

  pub leads_nothing : (from : ℕ) (old : List ℕ) → length program ≤ from → IsClosed program first last old
      → LeadsMore program first last from old old
  leads_nothing from old beyond closed = record {
    lower = λ q. omega arith;
    there = λ lt. absurd (omega arith);
    origin =
        λ q. inl refl;
    closed = closed;
  }

  -- the first k steps of the list are done
  pub record IsLeading (list : List ℕ) (k : ℕ) (starts : List ℕ) : Type 0 where
    pub closed : IsClosed program first last starts
    pub sound : (p : ℕ) → mark starts p < NONE → (x : ℕ) × Contains list x × LeadsTo program first last x p
    pub there : (i : ℕ) → i < k → i < length list → get_or list i 0 < length program → mark starts (get_or list i 0) ≤ 0

  module _ (list : List ℕ) where
    pub leading_begins : (starts : List ℕ) → IsBlank starts → IsLeading list 0 starts
    leading_begins starts blank = record {
      closed = λ q r skip. omega (arith, blank q, blank r);
      sound = λ p lt. absurd (omega (arith, blank p));
      there = λ i lt. absurd (omega arith);
    }

    pub leading_more : (k : ℕ) (old new : List ℕ) → k < length list
        → LeadsMore program first last (get_or list k 0) old new → IsLeading list k old → IsLeading list (k + 1) new
    leading_more k old new lt more h = record {
      closed = more.closed;
      sound = λ p marked. elim (more.origin p) [
        | inl same ↦ h.sound p (omega (arith, same))
        | inr both ↦ (get_or list k 0, Contains-get_or list k 0 lt, both.1)
      ];
      there = λ i before within inside. elim (cases_eq i k) [
        | inl same ↦ (let e = ap (λ n. mark new (get_or list n 0)) same in let f = ap (λ n. get_or list n 0) same in
            omega (arith, e, more.there (omega (arith, f, inside))))
        | inr ne ↦ omega (arith, more.lower (get_or list i 0), h.there i (omega arith) within inside)
      ];
    }

    pub leading_ends : (k : ℕ) (starts : List ℕ) → length list ≤ k → IsLeading list k starts
        → AreLed program first last list starts
    leading_ends k starts all h = record {
      sound = h.sound;
      complete = λ x p inside member leads.
          let e = get_or_default list member.0 0 x member.1 ∙ member.2 in
          let low = h.there member.0 (omega (arith, member.1)) member.1 (omega (arith, e, inside)) in
          let f = ap (λ n. mark starts n) e in
          omega (arith, low, f, closed_path program first last starts leads.0 x p h.closed leads.1);
    }

  pub led_by : (list starts found : List ℕ) → AreLed program first last list starts → AreMarked starts found
      → IsLed program first last list found
  led_by list starts found h marked = record {
    sound = λ p member. h.sound p (marked.sound p member);
    complete = λ x p inside member leads. marked.complete p (h.complete x p inside member leads);
  }

-- a cell
pub cell_by : (sets : List (List Bool)) (program : List Instruction) (b : ℕ) (S T U : List ℕ) → IsSound program
    → AreTargets sets program b S T → IsLed program false false T U → IsCell sets program b S U
cell_by sets program b S T U sound targets led = record {
  sound = λ p member. let y = led.sound p member in let z = targets.sound y.0 y.1 in (z.0, y.0, z.1, z.2, y.2);
  complete = λ x t p member takes leads. led.complete t p (target_below sets program b x t sound takes)
      (targets.complete x t member takes) leads;
}

pub no_items : (xs : List ℕ) → length xs ≡ 0 → xs ≡ []
no_items [] z = refl
no_items (x ∷ xs) z = absurd (omega (arith, z))

-- no steps lead to none
pub none_led : (program : List Instruction) (S : List ℕ) → S ≡ [] → IsLed program false false S S
none_led program S none = record {
  sound = λ p member. absurd (nothing p (subst (λ l. Contains l p) none member));
  complete = λ x p below member leads. absurd (nothing x (subst (λ l. Contains l x) none member));
} where
  nothing : (x : ℕ) → Contains [] x → ⊥
  nothing x member = omega (arith, member.1)

-- numbers
pub later_self : (lists : List (List ℕ)) → Later lists lists
later_self lists = ([], no_more lists) where
  no_more : (xs : List (List ℕ)) → xs ≡ xs ++ []
  no_more [] = refl
  no_more (x ∷ xs) = ap (λ y. x ∷ y) (no_more xs)

pub later_then : (a b c : List (List ℕ)) → Later a b → Later b c → Later a c
later_then a b c (xs, is) (ys, are) = (xs ++ ys, are ∙ ap (λ z. z ++ ys) is ∙ append_assoc a xs ys)

module _ {V : Type 0} (f : V → List ℕ) where
  pub map_length : (xs : List V) → length (map f xs) ≡ length xs
  map_length [] = refl
  map_length (x ∷ xs) = let e = map_length xs in omega arith

  pub steps_is : (xs : List V) (i : ℕ) (x : V) → i < length xs → x ≡ get_or xs i x → steps_of (map f xs) i ≡ f x
  steps_is [] i x lt is = absurd (omega arith)
  steps_is (y ∷ ys) zero x lt is = ap f (sym is)
  steps_is (y ∷ ys) (suc i) x lt is = steps_is ys i x (omega arith) is

pub marked_inside : (starts : List ℕ) (p : ℕ) → mark starts p < NONE → p < length starts
marked_inside starts p marked = elim (cases_lt p (length starts)) [
  | inl lt ↦ lt
  | inr ge ↦ absurd
      (omega (arith, get_or-eq_default starts NONE ge))
]

-- states keep their numbers
pub later_steps : (lists all : List (List ℕ)) (q : ℕ) → q < length lists → Later lists all
    → steps_of all q ≡ steps_of lists q
later_steps lists all q lt (more, is) = ap (λ x. steps_of x q) is ∙ front lists more q lt where
  front : (xs ys : List (List ℕ)) (q : ℕ) → q < length xs → steps_of (xs ++ ys) q ≡ steps_of xs q
  front [] ys q lt = absurd (omega arith)
  front (x ∷ xs) ys zero lt = refl
  front (x ∷ xs) ys (suc q) lt = front xs ys q (omega arith)

pub later_length : (lists all : List (List ℕ)) → Later lists all → length lists ≤ length all
later_length lists all (more, is) = let e = ap length is in omega (arith, e, length-append {A = List ℕ})

module _ (sets : List (List Bool)) (program : List Instruction) where
  abbrev pub known_rows : List ℕ → List (List ℕ) → List ℕ → Type 0
  known_rows S lists row = (b : ℕ) → b < 256 → IsKnown sets program b S lists (get_or row b 0)

  pub known_later : (b n : ℕ) (S : List ℕ) (lists all : List (List ℕ)) → Later lists all
      → IsKnown sets program b S lists n → IsKnown sets program b S all n
  known_later b n S lists all later h = λ small. let y = h small in (
    omega (arith, y.0, later_length lists all later),
    subst (λ x. IsCell sets program b S x)
        (sym (later_steps lists all n y.0 later)) y.1,
  )

  -- over another byte the same, where no step of S tells it from this one
  pub known_same : (b c n : ℕ) (S : List ℕ) (lists : List (List ℕ))
      → ((q r : ℕ) → Contains S q → Takes sets program c q r ↔ Takes sets program b q r)
      → IsKnown sets program b S lists n → IsKnown sets program c S lists n
  known_same b c n S lists same h = λ small. let y = h small in (
    y.0,
    record {
      sound = λ p member. let z = y.1.sound p member in (z.0, z.1, z.2, (same z.0 z.1 z.2).1 z.3, z.4);
      complete = λ x t p member takes leads. y.1.complete x t p member ((same x t member).0 takes) leads;
    },
  )

  -- rows
  pub cell_front : (cells : List (List ℕ)) (row : List ℕ) (q b : ℕ) → q < length cells → cell (cells ++ row ∷ []) q b
      ≡ cell cells q b
  cell_front [] row q b lt = absurd (omega arith)
  cell_front (x ∷ xs) row zero b lt = refl
  cell_front (x ∷ xs) row (suc q) b lt = cell_front xs row q b (omega arith)

  pub cell_last : (cells : List (List ℕ)) (row : List ℕ) (b : ℕ) → cell (cells ++ row ∷ []) (length cells) b
      ≡ get_or row b 0
  cell_last [] row b = refl
  cell_last (x ∷ xs) row b = cell_last xs row b

  pub rows_later : (lists all cells : List (List ℕ)) → length cells ≤ length lists → Later lists all
      → AreRows sets program lists cells → AreRows sets program all cells
  rows_later lists all cells inside later h = λ q b lt small.
      subst (λ x. IsKnown sets program b x all (cell cells q b)) (sym (later_steps lists all q (omega arith) later))
      (known_later b (cell cells q b) (steps_of lists q) lists all later (h q b lt small))

  pub rows_more : (lists all cells new : List (List ℕ)) (row list : List ℕ) → new ≡ cells ++ row ∷ []
      → length cells < length lists → Later lists all → list ≡ steps_of lists (length cells)
      → ((b : ℕ) → b < 256 → IsKnown sets program b list all (get_or row b 0)) → AreRows sets program lists cells
      → AreRows sets program all new
  rows_more lists all cells new row list is inside later same known h = subst (λ x. AreRows sets program all x) (sym is)
      (λ q b lt small. elim (cases_lt q (length cells)) [
        | inl less ↦ subst (λ x. IsKnown sets program b (steps_of all q) all x) (sym (cell_front cells row q b less))
            (rows_later lists all cells (omega arith) later h q b less small)
        | inr ge ↦
            let e : q ≡ length cells = omega (arith, lt, length-append {A = List ℕ}) in
            subst (λ x. IsKnown sets program b (steps_of all x) all (cell (cells ++ row ∷ []) x b)) (sym e)
            (subst (λ x. IsKnown sets program b (steps_of all (length cells)) all x) (sym (cell_last cells row b))
            (subst (λ x. IsKnown sets program b x all (get_or row b 0))
            (same ∙ sym (later_steps lists all (length cells) inside later)) (known b small)))
      ])

  pub rows_begin : (lists : List (List ℕ)) → AreRows sets program lists []
  rows_begin lists = λ q b lt. absurd (omega arith)

-- flags
pub flags_begin : (P : ℕ → Type 0) → AreFlags P 0 []
flags_begin P = record { len = refl; each = λ q lt. absurd (omega arith) }

pub flags_push : (P : ℕ → Type 0) (k : ℕ) (flags new : List Bool) (b : Bool) → new ≡ flags ++ b ∷ [] → (b ≡ true) ↔ P k
    → AreFlags P k flags → AreFlags P (k + 1) new
flags_push P k flags new b is one h = subst (λ x. AreFlags P (k + 1) x) (sym is) (record {
  len = omega (arith, h.len, length-append {A = Bool});
  each = λ q lt. elim (cases_lt q k) [
    | inl less ↦ subst (λ x. (x ≡ true) ↔ P q) (sym (flag_front flags b q (omega (arith, h.len)))) (h.each q less)
    | inr ge ↦
        let e : length flags ≡ q = omega (arith, h.len) in
        let f : k ≡ q = omega arith in
        subst (λ x. (get_or (flags ++ b ∷ []) x false ≡ true) ↔ P q) e
        (subst (λ x. (x ≡ true) ↔ P q) (sym (flag_last flags b)) (subst (λ x. (b ≡ true) ↔ P x) f one))
  ];
}) where
  flag_front : (xs : List Bool) (b : Bool) (q : ℕ) → q < length xs → get_or (xs ++ b ∷ []) q false ≡ get_or xs q false
  flag_front [] b q lt = absurd (omega arith)
  flag_front (x ∷ xs) b zero lt = refl
  flag_front (x ∷ xs) b (suc q) lt = flag_front xs b q (omega arith)

  flag_last : (xs : List Bool) (b : Bool) → get_or (xs ++ b ∷ []) (length xs) false ≡ b
  flag_last [] b = refl
  flag_last (x ∷ xs) b = flag_last xs b

-- what leads to the end is in the program
pub leads_inside : (program : List Instruction) (first last : Bool) (x : ℕ) → 0 < length program
    → LeadsTo program first last x 0 → x < length program
leads_inside program first last x some (zero, is) = omega arith
leads_inside program first last x some (suc n, (p, skip, path)) = by_skip skip where
  by_skip : Skips program first last x p → x < length program
  by_skip (left other h) = slice_get_within program _ _ h
  by_skip (right other h) = slice_get_within program _ _ h
  by_skip (at_start h f) = slice_get_within program _ _ h
  by_skip (at_end h f) = slice_get_within program _ _ h

pub first_known : (program : List Instruction) (first : Bool) (entry : ℕ) (U : List ℕ) (lists : List (List ℕ)) (n : ℕ)
    → IsLed program first false (entry ∷ []) U → IsNumber U lists n → IsFirst program first entry lists n
first_known program first entry U lists n led h = λ small. let y = h small in
    (y.0, subst (λ x. IsLed program first false (entry ∷ []) x) (sym y.1) led)

pub first_later : (program : List Instruction) (first : Bool) (entry n : ℕ) (lists all : List (List ℕ))
    → Later lists all → IsFirst program first entry lists n → IsFirst program first entry all n
first_later program first entry n lists all later h = λ small. let y = h small in (
  omega (arith, y.0, later_length lists all later),
  subst (λ x. IsLed program first false (entry ∷ []) x)
      (sym (later_steps lists all n y.0 later)) y.1,
)

-- edges: the first k steps are done
pub record AreEdgesOf (sets : List (List Bool)) (program : List Instruction) (k : ℕ) (edges : List Bool) : Type 0 where
  pub first : get_or edges 0 false ≡ true
  pub each : (i : ℕ) (x : Instruction) (b : ℕ) → i < k → slice_get program i ≡ Some x → b + 1 < 256
      → get_or edges (b + 1) false ≡ false → target_of sets (b + 1) x ≡ target_of sets b x

module _ (sets : List (List Bool)) (program : List Instruction) where
  pub edges_begin : (edges : List Bool) → get_or edges 0 false ≡ true → AreEdgesOf sets program 0 edges
  edges_begin edges first = record { first = first; each = λ i x b lt. absurd (omega arith) }

  pub edges_more : (k : ℕ) (x : Instruction) (old new : List Bool) → slice_get program k ≡ Some x
      → ((b : ℕ) → get_or new b false ≡ false → get_or old b false ≡ false)
      → ((b : ℕ) → b + 1 < 256 → get_or new (b + 1) false ≡ false → target_of sets (b + 1) x ≡ target_of sets b x)
      → AreEdgesOf sets program k old → AreEdgesOf sets program (k + 1) new
  edges_more k x old new at kept edge h = record {
    first = still (get_or new 0 false) refl;
    each = λ i y b lt is inside off. elim (cases_eq i k) [
      | inl same ↦
          let e : slice_get program k ≡ Some y = subst (λ j. slice_get program j ≡ Some y) same is in
          let f : x ≡ y = cc in
          subst (λ z. target_of sets (b + 1) z ≡ target_of sets b z) f (edge b inside off)
      | inr ne ↦ h.each i y b (omega arith) is inside (kept (b + 1) off)
    ];
  } where
    still : (v : Bool) → get_or new 0 false ≡ v → v ≡ true
    still true e = refl
    still false e = absurd (let f = kept 0 e in let g = h.first in cc)

  pub edges_end : (k : ℕ) (edges : List Bool) → length program ≤ k → AreEdgesOf sets program k edges
      → AreEdges sets program edges
  edges_end k edges all h = (
    h.first,
    λ b q r inside off. (
      (λ takes. takes_target sets program b q r (Eat takes.class r) takes.step
          (sym (same b q r inside off (Eat takes.class r) takes.step) ∙ target_takes sets program (b + 1) q r
          (Eat takes.class r) takes.step takes)),
      (λ takes. takes_target sets program (b + 1) q r (Eat takes.class r) takes.step
          (same b q r inside off (Eat takes.class r) takes.step ∙ target_takes sets program b q r (Eat takes.class r)
          takes.step takes)),
    ),
  ) where
    same : (b q r : ℕ) → b + 1 < 256 → get_or edges (b + 1) false ≡ false → (x : Instruction)
        → slice_get program q ≡ Some x → target_of sets (b + 1) x ≡ target_of sets b x
    same b q r inside off x at = h.each q x b (let lt = slice_get_within program q x at in omega arith) at inside off

pub dead_later : (lists all : List (List ℕ)) → Later lists all → IsDead lists → IsDead all
dead_later lists all later h = (
  omega (arith, h.0, later_length lists all later),
  later_steps lists all 0 h.0 later
      ∙ h.1,
)

pub begin_later : (program : List Instruction) (entry : ℕ) (lists all : List (List ℕ)) (r : Begin) → Later lists all
    → IsBegin program entry lists r → IsBegin program entry all r
begin_later program entry lists all r later h = (
  first_later program true entry r.first lists all later h.0,
  first_later program false entry r.later lists all later h.1,
)

pub is_table : (sets : List (List Bool)) (program : List Instruction) (lists cells : List (List ℕ)) (n : ℕ)
    (accepts ends : List Bool) → n ≡ length cells → length cells ≤ UNKNOWN → IsDead lists
    → AreRows sets program lists cells
    → AreFlags (λ q. Contains (steps_of lists q) 0) n accepts
    → AreFlags (λ q. EndsAtLast program (steps_of lists q)) n ends → IsTable sets program lists cells accepts ends
is_table sets program lists cells n accepts ends is few dead rows accept end = record {
  right = λ q b lt small known. (rows q b lt small (omega arith)).1;
  few = few;
  accept = subst (λ k. AreFlags (λ q. Contains (steps_of lists q) 0) k accepts) is accept;
  end = subst (λ k. AreFlags (λ q. EndsAtLast program (steps_of lists q)) k ends) is end;
  dead = λ x member. (let none = subst (λ list. Contains list x) dead.1 member in omega (arith, none.1));
}
