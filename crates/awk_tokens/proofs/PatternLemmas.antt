-- The scan of an extended regular expression finds just where it ends.
use Rattle.std.proofs.Common.{◌≡◌, ◌≢◌, ℕ, zero, suc, ◌+◌, ◌≤◌, Bool, true, false, cond, eqb, List, [], ◌∷◌, ◌++◌}
use Rattle.std.proofs.Common.{length, drop, get_or, slice_index, Option, Some, None, sym, ap, refl, subst, ◌∙◌, inl}
use Rattle.std.proofs.Common.{inr, arith}
use Rattle.std.proofs.lemmas.Bool.{cases_Bool, eqb-true, eqb-false, ne_eqb}
use Rattle.std.proofs.lemmas.List.{append_assoc}
use Rattle.awk_tokens.specs.Bytes.{Text}
use Rattle.awk_tokens.specs.Patterns.{BeginsClass, PatternEnds, ends, escaped, plain, opens, opens_not, first, no_first}
use Rattle.awk_tokens.specs.Patterns.{closes, member_escaped, member, class}
use Rattle.awk_tokens.specs.Scan.{class_len, step_of, outside_step, bracket_step, stepped, pattern_rest}
use Rattle.awk_tokens.specs.declared.scan.ErePart.{ErePart}
use Rattle.awk_tokens.specs.declared.scan.ErePart.TheVariants.{Outside, Opened, Inside}
use Rattle.awk_tokens.specs.declared.scan.EreStep.{EreStep}
use Rattle.awk_tokens.specs.declared.scan.EreStep.TheVariants.{Ends, Breaks, Goes}
use Rattle.awk_tokens.proofs.Choices.{chosen_in}
use Rattle.awk_tokens.proofs.ClassLemmas.{class_at, class_found, class_none}

skipped : (part : ErePart) (n : ℕ) (z : Text) → pattern_rest part n z ≡ pattern_rest part 0 (drop n z)
skipped part zero [] = refl
skipped part zero (b ∷ z) = refl
skipped part (suc n) [] = refl
skipped part (suc n) (b ∷ z) = skipped part n z

opened_is : (z : Text) → slice_index z 0 ≢ 93 → pattern_rest Opened 0 z ≡ pattern_rest Inside 0 z
opened_is [] other = refl
opened_is (b ∷ z) other = rw (ne_eqb b 93 other) refl

-- what a byte of a bracket expression that is no `]`, `\` or newline leads to
abbrev goes_on : Text → Text → Option Text
goes_on z rest = pattern_rest Inside 0 z

pub pattern_rest_at : (part : ErePart) (z rest : Text) → PatternEnds part z rest → pattern_rest part 0 z ≡ Some rest
pattern_rest_at _ _ _ (ends rest) = refl
pattern_rest_at _ _ _ (escaped b z rest h) = pattern_rest_at Outside z rest h
pattern_rest_at _ _ _ (plain b z rest n47 n92 n91 n10 h) =
    rw (ne_eqb b 47 n47, ne_eqb b 10 n10, ne_eqb b 92 n92, ne_eqb b 91 n91) (pattern_rest_at Outside z rest h)
pattern_rest_at _ _ _ (opens z rest n94 h) = rw (ne_eqb (slice_index z 0) 94 n94) (pattern_rest_at Opened z rest h)
pattern_rest_at _ _ _ (opens_not z rest h) = pattern_rest_at Opened z rest h
pattern_rest_at _ _ _ (first z rest h) = pattern_rest_at Inside z rest h
pattern_rest_at _ _ _ (no_first z rest n93 h) = opened_is z n93 ∙ pattern_rest_at Inside z rest h
pattern_rest_at _ _ _ (closes z rest h) = pattern_rest_at Outside z rest h
pattern_rest_at _ _ _ (member_escaped b z rest h) = pattern_rest_at Inside z rest h
pattern_rest_at _ _ _ (member b z rest n93 n92 n10 none h) =
    let more = pattern_rest_at Inside z rest h in
    rw (ne_eqb b 93 n93, ne_eqb b 10 n10, ne_eqb b 92 n92) (elim (cases_Bool (eqb b 91)) [
      | inl q ↦ rw q (ap (λ n. pattern_rest Inside n z) (class_none z (none (eqb-true b 91 q))) ∙ more)
      | inr q ↦ rw q more
    ])
pattern_rest_at _ _ _ (class z left rest begins h) =
    let found = class_at z left begins in
    skipped Inside (class_len z) z ∙ ap (λ w. pattern_rest Inside 0 w) found.2 ∙ pattern_rest_at Inside left rest h

-- an expression that the scan finds open ends nowhere
pub pattern_open : (z : Text) → pattern_rest Outside 0 z ≡ None → (rest : Text) → PatternEnds Outside z rest → ⊥
pattern_open z open_here rest h = let found = pattern_rest_at Outside z rest h in absurd cc

-- what ends stands in front of the rest
pub pattern_parts : (part : ErePart) (z rest : Text) → PatternEnds part z rest → (body : Text) × (z ≡ body ++ rest)
pattern_parts _ _ _ (ends rest) = (47 ∷ [], refl)
pattern_parts _ _ _ (escaped b z rest h) =
    let p = pattern_parts Outside z rest h in (92 ∷ b ∷ p.0, ap (λ w. 92 ∷ b ∷ w) p.1)
pattern_parts _ _ _ (plain b z rest n47 n92 n91 n10 h) =
    let p = pattern_parts Outside z rest h in (b ∷ p.0, ap (λ w. b ∷ w) p.1)
pattern_parts _ _ _ (opens z rest n94 h) = let p = pattern_parts Opened z rest h in (91 ∷ p.0, ap (λ w. 91 ∷ w) p.1)
pattern_parts _ _ _ (opens_not z rest h) =
    let p = pattern_parts Opened z rest h in (91 ∷ 94 ∷ p.0, ap (λ w. 91 ∷ 94 ∷ w) p.1)
pattern_parts _ _ _ (first z rest h) = let p = pattern_parts Inside z rest h in (93 ∷ p.0, ap (λ w. 93 ∷ w) p.1)
pattern_parts _ _ _ (no_first z rest n93 h) = pattern_parts Inside z rest h
pattern_parts _ _ _ (closes z rest h) = let p = pattern_parts Outside z rest h in (93 ∷ p.0, ap (λ w. 93 ∷ w) p.1)
pattern_parts _ _ _ (member_escaped b z rest h) =
    let p = pattern_parts Inside z rest h in (92 ∷ b ∷ p.0, ap (λ w. 92 ∷ b ∷ w) p.1)
pattern_parts _ _ _ (member b z rest n93 n92 n10 none h) =
    let p = pattern_parts Inside z rest h in (b ∷ p.0, ap (λ w. b ∷ w) p.1)
pattern_parts _ _ _ (class z left rest begins h) =
    let p = pattern_parts Inside left rest h in
    let name = begins.0 in (
      91 ∷ 58 ∷ (name ++ (58 ∷ 93 ∷ p.0)),
      ap (λ w. 91 ∷ w) begins.2 ∙ ap (λ w. 91 ∷ 58 ∷ (name ++ (58 ∷ 93 ∷ w))) p.1
          ∙ ap (λ w. 91 ∷ 58 ∷ w) (sym (append_assoc name (58 ∷ 93 ∷ p.0) rest)),
    )

-- ---- the other way: what the scan finds is an end

abbrev Later : Text → Text → Type 0
Later z rest = (part : ErePart) (n : ℕ) → pattern_rest part n z ≡ Some rest → PatternEnds part (drop n z) rest

here : (part : ErePart) (z rest : Text) → PatternEnds part (drop 0 z) rest → PatternEnds part z rest
here part [] rest h = h
here part (b ∷ z) rest h = h

taken : (z rest : Text) → pattern_rest Outside 1 z ≡ Some rest → PatternEnds Outside (drop 1 z) rest
    → PatternEnds Outside (92 ∷ z) rest
taken [] rest e h = absurd cc
taken (c ∷ z) rest e h = escaped c z rest h

taken_inside : (z rest : Text) → pattern_rest Inside 1 z ≡ Some rest → PatternEnds Inside (drop 1 z) rest
    → PatternEnds Inside (92 ∷ z) rest
taken_inside [] rest e h = absurd cc
taken_inside (c ∷ z) rest e h = member_escaped c z rest h

opened_not : (z rest : Text) → eqb (slice_index z 0) 94 ≡ true → PatternEnds Opened (drop 1 z) rest
    → PatternEnds Outside (91 ∷ z) rest
opened_not [] rest e h = absurd cc
opened_not (c ∷ z) rest e h = subst (λ v. PatternEnds Outside (91 ∷ v ∷ z) rest) (sym (eqb-true c 94 e))
    (opens_not z rest h)

abbrev go : Text → EreStep → Option Text
go z s = stepped s z (λ next more. pattern_rest next more z)

outside_found : (b : ℕ) (z rest : Text) → Later z rest → go z (outside_step b z) ≡ Some rest
    → PatternEnds Outside (b ∷ z) rest
outside_found b z rest later e =
    elim (chosen_in (go z) (eqb b 47) _ _ (Some rest) e) [
      | inl h ↦
          let same : z ≡ rest = cc in
          subst (λ c. PatternEnds Outside (c ∷ z) rest) (sym (eqb-true b 47 h.0))
          (subst (λ r. PatternEnds Outside (47 ∷ z) r) same (ends z))
      | inr n47 ↦
          elim (chosen_in (go z) (eqb b 10) _ _ (Some rest) n47.1) [
            | inl h ↦ absurd cc
            | inr n10 ↦
                elim (chosen_in (go z) (eqb b 92) _ _ (Some rest) n10.1) [
                  | inl h ↦ subst (λ c. PatternEnds Outside (c ∷ z) rest) (sym (eqb-true b 92 h.0))
                      (taken z rest h.1 (later Outside 1 h.1))
                  | inr n92 ↦
                      elim (chosen_in (go z) (eqb b 91) _ _ (Some rest) n92.1) [
                        | inl h ↦
                            subst (λ c. PatternEnds Outside (c ∷ z) rest) (sym (eqb-true b 91 h.0))
                            (elim (chosen_in (λ n. pattern_rest Opened n z) (eqb (slice_index z 0) 94) 1 0
                            (Some rest) h.1) [
                              | inl g ↦ opened_not z rest g.0 (later Opened 1 g.1)
                              | inr g ↦ opens z rest (eqb-false (slice_index z 0) 94 g.0)
                                  (here Opened z rest (later Opened 0 g.1))
                            ])
                        | inr h ↦
                            plain b z rest (eqb-false b 47 n47.0) (eqb-false b 92 n92.0) (eqb-false b 91 h.0)
                            (eqb-false b 10 n10.0) (here Outside z rest (later Outside 0 h.1))
                      ]
                ]
          ]
    ]

-- a `[` in a bracket expression, which may begin a class
bracket_found : (z rest : Text) → Later z rest → pattern_rest Inside (class_len z) z ≡ Some rest
    → PatternEnds Inside (91 ∷ z) rest
bracket_found z rest later e = by_len (class_len z) refl
  where
    by_len : (n : ℕ) → class_len z ≡ n → PatternEnds Inside (91 ∷ z) rest
    by_len zero len =
        member 91 z rest (λ q. omega arith) (λ q. omega arith) (λ q. omega arith)
        (λ _ left begins. let found = class_at z left begins in absurd (omega arith))
        (here Inside z rest (later Inside 0 (subst (λ k. pattern_rest Inside k z ≡ Some rest) len e)))
    by_len (suc n) len = class z (drop (class_len z) z) rest (class_found z n len) (later Inside (class_len z) e)

-- a byte of a bracket expression that is no `]`
member_found : (b : ℕ) (z rest : Text) → Later z rest → eqb b 93 ≡ false
    → go z (cond (eqb b 10) Breaks (cond (eqb b 92) (Goes Inside 1) (cond (eqb b 91) (Goes Inside (class_len z))
    (Goes Inside 0)))) ≡ Some rest → PatternEnds Inside (b ∷ z) rest
member_found b z rest later n93 e =
    elim (chosen_in (go z) (eqb b 10) _ _ (Some rest) e) [
      | inl h ↦ absurd cc
      | inr n10 ↦
          elim (chosen_in (go z) (eqb b 92) _ _ (Some rest) n10.1) [
            | inl h ↦ subst (λ c. PatternEnds Inside (c ∷ z) rest) (sym (eqb-true b 92 h.0))
                (taken_inside z rest h.1 (later Inside 1 h.1))
            | inr n92 ↦
                elim (chosen_in (go z) (eqb b 91) _ _ (Some rest) n92.1) [
                  | inl h ↦ subst (λ c. PatternEnds Inside (c ∷ z) rest) (sym (eqb-true b 91 h.0))
                      (bracket_found z rest later h.1)
                  | inr h ↦
                      member b z rest (eqb-false b 93 n93) (eqb-false b 92 n92.0) (eqb-false b 10 n10.0)
                      (λ is91. absurd (eqb-false b 91 h.0 is91)) (here Inside z rest (later Inside 0 h.1))
                ]
          ]
    ]

found : (z rest : Text) → Later z rest
found [] rest Outside zero e = absurd cc
found [] rest Outside (suc n) e = absurd cc
found [] rest Opened zero e = absurd cc
found [] rest Opened (suc n) e = absurd cc
found [] rest Inside zero e = absurd cc
found [] rest Inside (suc n) e = absurd cc
found (b ∷ z) rest part (suc n) e = found z rest part n e
found (b ∷ z) rest Outside zero e = outside_found b z rest (found z rest) e
found (b ∷ z) rest Opened zero e =
    elim (chosen_in (go z) (eqb b 93) _ _ (Some rest) e) [
      | inl h ↦ subst (λ c. PatternEnds Opened (c ∷ z) rest) (sym (eqb-true b 93 h.0))
          (first z rest (here Inside z rest (found z rest Inside 0 h.1)))
      | inr h ↦ no_first (b ∷ z) rest (eqb-false b 93 h.0) (member_found b z rest (found z rest) h.0 h.1)
    ]
found (b ∷ z) rest Inside zero e =
    elim (chosen_in (go z) (eqb b 93) _ _ (Some rest) e) [
      | inl h ↦ subst (λ c. PatternEnds Inside (c ∷ z) rest) (sym (eqb-true b 93 h.0))
          (closes z rest (here Outside z rest (found z rest Outside 0 h.1)))
      | inr h ↦ member_found b z rest (found z rest) h.0 h.1
    ]

pub pattern_ends : (z rest : Text) → pattern_rest Outside 0 z ≡ Some rest → PatternEnds Outside z rest
pattern_ends z rest e = here Outside z rest (found z rest Outside 0 e)
