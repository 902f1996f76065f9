use Rattle.std.proofs.Common.{◌≡◌, ℕ, zero, suc, ◌+◌, ◌<◌, ◌≤◌, Bool, true, false, pos, List, [], ◌∷◌, ◌++◌, length}
use Rattle.std.proofs.Common.{drop, nat_eq, refl, sym, ap, ◌∙◌, arith, rules, length-append, length-drop}
use Rattle.std.specs.List.{starts_with}
use Rattle.std.proofs.lemmas.Bool.Decides.{Decides-eqb}
use Rattle.std.proofs.lemmas.Int.{ints}
use Rattle.std.proofs.lemmas.List.Prefix.{at_from_reads, at_reads}
use Rattle.std.proofs.lemmas.Slice.Eq.{starts_is}
use Rattle.memchr.specs.Find.{OccursAt}
use Rattle.awk_lib.specs.Texts.{index, place_from}
use Rattle.awk_lib.proofs.texts.index.Goals as goal

abbrev begins : List ℕ → List ℕ → Bool
begins text part = starts_with nat_eq text part

module _ (text : List ℕ) (part : List ℕ) where
  begins_there : (k : ℕ) → OccursAt text part k → begins (drop k text) part ≡ true
  begins_there k occurs =
      (starts_is Decides-eqb (drop k text) part (begins (drop k text) part) refl).1 (drop (k + length part) text)
      (at_from_reads 0 text part k occurs.fits occurs.reads)

  occurs_there : (k : ℕ) → 0 < length part → begins (drop k text) part ≡ true → OccursAt text part k
  occurs_there k some h =
      let left = drop (length part) (drop k text) in
      let e : drop k text ≡ part ++ left = (starts_is Decides-eqb (drop k text) part (begins (drop k text) part) refl).0
      h in
      let long : length (drop k text) ≡ length part + length left = ap length e ∙ length-append part left in
      record { fits = omega (arith, length-drop k text); reads = at_reads 0 text part k left e }

  begins_not : (b : Bool) (k : ℕ) → begins (drop k text) part ≡ b → 0 < length part → (OccursAt text part k → ⊥)
      → begins (drop k text) part ≡ false
  begins_not true k e some none = absurd (none (occurs_there k some e))
  begins_not false k e some none = e

-- the part begins at no place
no_place : (here : ℕ) (text part : List ℕ) → ((k : ℕ) → k ≤ length text → begins (drop k text) part ≡ false)
    → place_from here text part ≡ 0
no_place here [] part none = refl
no_place here (b ∷ text) part none =
    rw (none 0 (omega arith)) (no_place (here + 1) text part (λ k le. none (suc k) (omega arith)))

-- the part begins at k, and at no place before
first_place : (here : ℕ) (text part : List ℕ) (k : ℕ) → k < length text → begins (drop k text) part ≡ true
    → ((j : ℕ) → j < k → begins (drop j text) part ≡ false) → place_from here text part ≡ here + k
first_place here [] part k lt at none = absurd (omega arith)
first_place here (b ∷ text) part zero lt at none = rw at (omega arith)
first_place here (b ∷ text) part (suc k) lt at none =
    rw (none 0 (omega arith)) (first_place (here + 1) text part k (omega arith) at (λ j l. none (suc j) (omega arith))
    ∙ omega arith)

-- the same of a part that has a byte
found : (text part : List ℕ) (k : ℕ) → 0 < length part → k < length text → begins (drop k text) part ≡ true
    → ((j : ℕ) → j < k → begins (drop j text) part ≡ false) → index text part ≡ k + 1
found text [] k some lt at none = absurd (omega arith)
found text (b ∷ part) k some lt at none = first_place 1 text (b ∷ part) k lt at none ∙ omega arith

absent : (text part : List ℕ) → 0 < length part → ((k : ℕ) → k ≤ length text → begins (drop k text) part ≡ false)
    → index text part ≡ 0
absent text [] some none = absurd (omega arith)
absent text (b ∷ part) some none = no_place 1 text (b ∷ part) none

pub returns-in-Some : goal.returns-in-Some
returns-in-Some c =
    let text = c.args.text.now in
    let part = c.args.part.now in
    let k = c.in-Some.at in
    let some : 0 < length part = search rules in
    let occurs = c.in-Some.ensures.1 in
    let e : index text part ≡ k + 1 = found text part k some (omega (arith, occurs.fits))
    (begins_there text part k occurs)
    (λ j l. begins_not text part _ j refl some (c.in-Some.ensures.0.before j (omega arith) l)) in
    omega (arith, ints)

pub returns-in-None : goal.returns-in-None
returns-in-None c =
    let text = c.args.text.now in
    let part = c.args.part.now in
    let some : 0 < length part = search rules in
    ap pos (sym (absent text part some (λ k le. begins_not text part _ k refl some
    (c.in-None.ensures k (omega arith) (omega arith)))))
