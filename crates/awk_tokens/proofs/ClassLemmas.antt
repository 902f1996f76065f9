-- The scan of a class such as `[:alpha:]` finds just where one begins.
use Rattle.std.proofs.Common.{◌≡◌, ℕ, zero, suc, ◌+◌, ◌≤◌, Bool, true, false, ◌&&◌, cond, eqb, List, [], ◌∷◌, ◌++◌}
use Rattle.std.proofs.Common.{length, take, drop, get_or, sym, ap, refl, subst, ◌∙◌, inl, inr, arith, add-one, add-zero}
use Rattle.std.specs.Char.{is_ascii_alphabetic}
use Rattle.std.specs.List.{list_all, prefix_len}
use Rattle.std.proofs.Math.Seq.{drop-append-add}
use Rattle.std.proofs.lemmas.Bool.{cases_Bool, eqb-true, and_parts}
use Rattle.std.proofs.lemmas.List.{take-append-drop, get_or-append-add, get_or-drop, drop-drop}
use Rattle.awk_tokens.specs.Bytes.{Text}
use Rattle.awk_tokens.specs.Patterns.{BeginsClass}
use Rattle.awk_tokens.specs.Scan.{class_len, letters_len}
use Rattle.awk_tokens.proofs.Choices.{chosen}
use Rattle.awk_tokens.proofs.Runs.{list_all_take, prefix_len_all}

-- the length of a class, whose letters are these
class_len_made : (name left : Text) → list_all is_ascii_alphabetic name ≡ true
    → class_len (58 ∷ (name ++ (58 ∷ 93 ∷ left))) ≡ length name + 3
unfolding class_len
class_len_made name left letters =
    let w : Text = name ++ (58 ∷ 93 ∷ left) in
    let n : letters_len w ≡ length name = prefix_len_all is_ascii_alphabetic name 58 (93 ∷ left) letters refl in
    let at_colon : get_or (58 ∷ w) (length name + 1) 0 ≡ 58 = ap (λ i. get_or (58 ∷ w) i 0) (add-one (length name))
    ∙ ap (λ i. get_or w i 0) (sym (add-zero (length name))) ∙ get_or-append-add name (58 ∷ 93 ∷ left) 0 0 in
    let at_end : get_or (58 ∷ w) (length name + 2) 0 ≡ 93 = ap (λ i. get_or (58 ∷ w) i 0) (add_two (length name))
    ∙ get_or-append-add name (58 ∷ 93 ∷ left) 1 0 in
    rw (n, at_colon, at_end) refl
  where
    add_two : (n : ℕ) → n + 2 ≡ suc (n + 1)
    add_two n = omega arith

pub class_at : (z left : Text) → BeginsClass z left → (n : ℕ) × (class_len z ≡ suc n) × (drop (class_len z) z ≡ left)
class_at z left begins =
    let name = begins.0 in
    let len : class_len z ≡ length name + 3 = ap class_len begins.2 ∙ class_len_made name left begins.1 in
    let dropped : drop (length name + 3) z ≡ left = ap (drop (length name + 3)) begins.2
    ∙ ap (λ n. drop n (58 ∷ (name ++ (58 ∷ 93 ∷ left)))) (add_three (length name)) ∙ drop-append-add name
    (58 ∷ 93 ∷ left) 2 in
    (length name + 2, len ∙ add_three (length name), ap (λ n. drop n z) len ∙ dropped)
  where
    add_three : (n : ℕ) → n + 3 ≡ suc (n + 2)
    add_three n = omega arith

two_front : (d : Text) → get_or d 0 0 ≡ 58 → get_or d 1 0 ≡ 93 → d ≡ 58 ∷ 93 ∷ drop 2 d
two_front [] a b = absurd (omega arith)
two_front (x ∷ []) a b = absurd (omega arith)
two_front (x ∷ y ∷ d) a b = ap (λ v. v ∷ y ∷ d) a ∙ ap (λ v. 58 ∷ v ∷ d) b

pub class_found : (z : Text) (n : ℕ) → class_len z ≡ suc n → BeginsClass z (drop (class_len z) z)
unfolding class_len
class_found [] n e = absurd cc
class_found (c ∷ w) n e =
    let m = letters_len w in
    let d : Text = drop m w in
    elim (chosen (eqb c 58) (cond (eqb (get_or (c ∷ w) (m + 1) 0) 58 && eqb (get_or (c ∷ w) (m + 2) 0) 93) (m + 3) 0) 0
    (suc n) e) [
      | inl h ↦
          elim (chosen (eqb (get_or (c ∷ w) (m + 1) 0) 58 && eqb (get_or (c ∷ w) (m + 2) 0) 93) (m + 3) 0 (suc n) h.1) [
            | inl g ↦
                let both = and_parts (eqb (get_or (c ∷ w) (m + 1) 0) 58) (eqb (get_or (c ∷ w) (m + 2) 0) 93) g.0 in
                let colon : get_or d 0 0 ≡ 58 = get_or-drop m w 0 0 ∙ ap (λ i. get_or (c ∷ w) i 0) (sym (first_up m))
                ∙ eqb-true (get_or (c ∷ w) (m + 1) 0) 58 both.0 in
                let bracket : get_or d 1 0 ≡ 93 = get_or-drop m w 1 0 ∙ ap (λ i. get_or (c ∷ w) i 0) (sym (second_up m))
                ∙ eqb-true (get_or (c ∷ w) (m + 2) 0) 93 both.1 in
                let len : class_len (c ∷ w) ≡ m + 3 = rw (h.0, g.0) refl in
                let left : drop (class_len (c ∷ w)) (c ∷ w) ≡ drop 2 d = ap (λ i. drop i (c ∷ w)) (len ∙ third_up m)
                ∙ sym (drop-drop 2 m w) in
                let parts : w ≡ take m w ++ (58 ∷ 93 ∷ drop 2 d) = sym (take-append-drop m w) ∙ ap (λ v. take m w ++ v)
                (two_front d colon bracket) in (
                  take m w,
                  list_all_take is_ascii_alphabetic w,
                  ap (λ v. v ∷ w) (eqb-true c 58 h.0)
                      ∙ ap (λ v. 58 ∷ v) parts ∙ ap (λ v. 58 ∷ (take m w ++ (58 ∷ 93 ∷ v))) (sym left),
                )
            | inr g ↦ absurd cc
          ]
      | inr h ↦ absurd cc
    ]
  where
    first_up : (m : ℕ) → m + 1 ≡ suc (m + 0)
    first_up m = omega arith

    second_up : (m : ℕ) → m + 2 ≡ suc (m + 1)
    second_up m = omega arith

    third_up : (m : ℕ) → m + 3 ≡ suc (m + 2)
    third_up m = omega arith

pub class_none : (z : Text) → ((left : Text) → BeginsClass z left → ⊥) → class_len z ≡ 0
class_none z none = by_len (class_len z) refl
  where
    by_len : (n : ℕ) → class_len z ≡ n → class_len z ≡ 0
    by_len zero e = e
    by_len (suc n) e = absurd (none (drop (class_len z) z) (class_found z n e))
