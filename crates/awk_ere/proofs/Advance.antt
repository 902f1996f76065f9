-- One byte further.
use Rattle.std.proofs.Common.{◌≡◌, ℕ, ◌+◌, ◌<◌, ◌≤◌, inl, inr, Bool, cond, List, [], length, get_or, Some, None, sym}
use Rattle.std.proofs.Common.{◌∙◌, ap, subst, arith}
use Rattle.std.proofs.Math.ListN.{set, length-set}
use Rattle.std.specs.List.{slice_get, Contains}
use Rattle.std.proofs.lemmas.Bool.{cases_eq, cases_lt}
use Rattle.std.proofs.lemmas.Option.{cond_some, none-some}
use Rattle.std.proofs.lemmas.List.{get_or-set_same, get_or-set_other, get_or_default}
use Rattle.std.proofs.lemmas.List.Elements.{Contains-get_or}
use Rattle.std.proofs.Math.ListN.{get_or-eq_default}
use Rattle.awk_ere.specs.Program.{holds, IsSound}
use Rattle.awk_ere.specs.Search.{mark, IsListed, IsBlank, IsClosed, LeadsTo, Reaches, Takes, Advances, target_of}
use Rattle.awk_ere.specs.declared.program.Instruction.{Instruction}
use Rattle.awk_ere.specs.declared.program.Instruction.TheVariants.{Eat, Fork, AtStart, AtEnd, Done, Hole}
use Rattle.awk_ere.specs.declared.search.TheConstants.{NONE}

-- the first k steps of the list are done
pub record IsAdvancing (sets : List (List Bool)) (program : List Instruction) (b : ℕ) (first last : Bool) (cap : ℕ)
    (starts active : List ℕ) (k : ℕ) (new : List ℕ) : Type 0 where
  pub closed : IsClosed program first last new
  pub sound : (q : ℕ) → mark new q < NONE → (p : ℕ) × (r : ℕ) × Takes sets program b p r
      × LeadsTo program first last r q × (mark starts p ≡ mark new q)
  pub complete : (i p r : ℕ) → i < k → i < length active → get_or active i 0 ≡ p → mark starts p ≤ cap
      → Takes sets program b p r → mark new r ≤ mark starts p

module _ (sets : List (List Bool)) (program : List Instruction) (b : ℕ) (first last : Bool) (cap : ℕ)
    (starts active : List ℕ) where
  pub advancing_begins : (new : List ℕ) → IsBlank new → IsAdvancing sets program b first last cap starts active 0 new
  advancing_begins new blank = record {
    closed = λ q r skip. omega (arith, blank q, blank r);
    sound = λ q lt. absurd (omega (arith, blank q));
    complete = λ i p r lt. absurd (omega arith);
  }

  pub advancing_ends : (new : List ℕ) (k : ℕ) → cap < NONE → length active ≤ k → IsListed starts active
      → IsAdvancing sets program b first last cap starts active k new
      → Advances sets program b first last cap starts new
  advancing_ends new k small all listed h = record {
    closed = h.closed;
    sound = h.sound;
    complete = λ p r le takes.
        let inside : p < length starts = elim (cases_lt p (length starts)) [
          | inl before ↦ before
          | inr beyond ↦ absurd
              (omega (arith, get_or-eq_default starts NONE beyond))
        ] in
        let member = listed.each p inside (omega arith) in
        h.complete member.0 p r (omega (arith, member.1)) member.1 (get_or_default active member.0 0 p member.1
        ∙ member.2) le takes;
  }

  -- the step at k takes the byte
  pub advancing_takes : (k p r : ℕ) (old new : List ℕ) → get_or active k 0 ≡ p → Takes sets program b p r
      → IsAdvancing sets program b first last cap starts active k old
      → Reaches program first last r (mark starts p) old new → IsAdvancing sets program b first last cap starts active
      (k + 1) new
  advancing_takes k p r old new here takes h reaches = record {
    closed = reaches.closed;
    sound = λ q lt. elim (reaches.origin q) [
      | inl same ↦ (let y = h.sound q (omega (arith, same)) in (y.0, y.1, y.2, y.3, y.4 ∙ sym same))
      | inr both ↦ (p, r, takes, both.1, sym both.0)
    ];
    complete = λ i p' r' lt inside is le takes'. elim (cases_eq i k) [
      | inl same ↦
          let e : p ≡ p' = sym here ∙ ap (λ x. get_or active x 0) (sym same) ∙ is in
          let f : r ≡ r' = same_target takes takes' e in
          omega (arith, reaches.there, ap (λ x. mark new x) f, ap (λ x. mark starts x) e)
      | inr ne ↦ omega (arith, reaches.lower r', h.complete i p' r' (omega arith) inside is le takes')
    ];
  } where
    same_target : {p p' r r' : ℕ} → Takes sets program b p r → Takes sets program b p' r' → p ≡ p' → r ≡ r'
    same_target x y e = let f = x.step in let g = y.step in let h = ap (λ q. slice_get program q) e in cc

  -- it does not
  pub advancing_passes : (k : ℕ) (new : List ℕ) → ((r : ℕ) → mark starts (get_or active k 0) ≤ cap
      → Takes sets program b (get_or active k 0) r → ⊥) → IsAdvancing sets program b first last cap starts active k new
      → IsAdvancing sets program b first last cap starts active (k + 1) new
  advancing_passes k new none h = record {
    closed = h.closed;
    sound = h.sound;
    complete = λ i p r lt inside is le takes. elim (cases_eq i k) [
      | inl same ↦
          let e : get_or active k 0 ≡ p = ap (λ x. get_or active x 0) (sym same) ∙ is in
          absurd (none r (let f = ap (λ x. mark starts x) e in
          omega arith) (subst (λ x. Takes sets program b x r) (sym e) takes))
      | inr ne ↦ h.complete i p r (omega arith) inside is le takes
    ];
  }

-- the marks of the list from k on are left
pub record IsClearing (active : List ℕ) (k : ℕ) (starts : List ℕ) : Type 0 where
  pub left : (q : ℕ) → mark starts q < NONE → (i : ℕ) × (k ≤ i) × (i < length active) × (get_or active i 0 ≡ q)
  pub below : (q : ℕ) → Contains active q → q < length starts
  pub small : (q : ℕ) → mark starts q ≤ NONE

pub clearing_begins : (starts active : List ℕ) → IsListed starts active → IsClearing active 0 starts
clearing_begins starts active h = record {
  small = h.small;
  left = λ q marked.
      let inside : q < length starts = elim (cases_lt q (length starts)) [
        | inl before ↦ before
        | inr beyond ↦ absurd
            (omega (arith, get_or-eq_default starts NONE beyond))
      ] in
      let member = h.each q inside marked in
      (member.0, omega arith, member.1, get_or_default active member.0 0 q member.1 ∙ member.2);
  below = h.below;
}

pub clearing_more : (starts active : List ℕ) (k : ℕ) → k < length active → get_or active k 0 < length starts
    → IsClearing active k starts → IsClearing active (k + 1) (set starts (get_or active k 0) NONE)
clearing_more starts active k lt inside h = record {
  left = λ q marked. elim (cases_eq q (get_or active k 0)) [
    | inl is ↦ absurd (let e = ap (λ x. mark (set starts (get_or active k 0) NONE) x) is in
        omega (arith, e, get_or-set_same starts (get_or active k 0) NONE NONE inside))
    | inr ne ↦
        let y = h.left q (let e = get_or-set_other starts (get_or active k 0) q NONE NONE ne in omega (arith, e)) in
        elim (cases_eq y.0 k) [
          | inl same ↦ absurd (ne (sym (ap (λ x. get_or active x 0) (sym same) ∙ y.3)))
          | inr other ↦ (y.0, omega (arith, y.1), y.2, y.3)
        ]
  ];
  below = λ q member. omega (arith, h.below q member, length-set {A = ℕ});
  small = λ q. elim (cases_eq q (get_or active k 0)) [
    | inl is ↦ (let e = ap (λ x. mark (set starts (get_or active k 0) NONE) x) is in
        omega (arith, e, get_or-set_same starts (get_or active k 0) NONE NONE inside))
    | inr ne ↦ omega (arith, h.small q, get_or-set_other starts (get_or active k 0) q NONE NONE ne)
  ];
}

pub clearing_ends : (starts active : List ℕ) (k : ℕ) → length active ≤ k → IsClearing active k starts → IsBlank starts
clearing_ends starts active k all h = λ q. elim (cases_lt (mark starts q) NONE) [
  | inl lt ↦ absurd (let y = h.left q lt in omega (arith, y.1, y.2))
  | inr le ↦ omega (arith, h.small q)
]

pub listed_none : (starts : List ℕ) → IsBlank starts → IsListed starts []
listed_none starts blank = record {
  each = λ q lt marked. absurd (omega (arith, blank q));
  below = λ q member. absurd (omega (arith, member.1));
  small = λ q. omega (arith, blank q);
}

pub listed_blank : (starts active : List ℕ) → length active ≡ 0 → IsListed starts active → IsBlank starts
listed_blank starts active none h = clearing_ends starts active 0 (omega arith) (clearing_begins starts active h)

-- a step of the list, which is there as a slice
pub listed_below : (starts active items : List ℕ) (k : ℕ) → items ≡ active → k < length items → IsListed starts active
    → get_or items k 0 < length starts
listed_below starts active items k same lt h =
    h.below (get_or items k 0) (subst (λ xs. Contains xs (get_or items k 0)) same (Contains-get_or items k 0 lt))

-- `Takes` by `target_of`
pub takes_target : (sets : List (List Bool)) (program : List Instruction) (b q r : ℕ) (x : Instruction)
    → slice_get program q ≡ Some x → target_of sets b x ≡ Some r → Takes sets program b q r
unfolding target_of
takes_target sets program b q r (Eat k to) at e =
    let f = cond_some (holds sets k b) to r e in
    record { class = k; step = subst (λ y. slice_get program q ≡ Some (Eat k y)) f.1 at; taken = f.0 }
takes_target sets program b q r (Fork y z) at e = absurd (none-some r e)
takes_target sets program b q r (AtStart y) at e = absurd (none-some r e)
takes_target sets program b q r (AtEnd y) at e = absurd (none-some r e)
takes_target sets program b q r Done at e = absurd (none-some r e)
takes_target sets program b q r Hole at e = absurd (none-some r e)

pub target_takes : (sets : List (List Bool)) (program : List Instruction) (b q r : ℕ) (x : Instruction)
    → slice_get program q ≡ Some x → Takes sets program b q r → target_of sets b x ≡ Some r
unfolding target_of
target_takes sets program b q r x at takes =
    let e = takes.step in
    let f : x ≡ Eat takes.class r = cc in
    ap (λ y. target_of sets b y) f ∙ ap (λ y. cond y (Some r) None) takes.taken

pub target_below : (sets : List (List Bool)) (program : List Instruction) (b q r : ℕ) → IsSound program
    → Takes sets program b q r → r < length program
target_below sets program b q r sound takes = sound.names q (Eat takes.class r) takes.step
