-- The scan of a string finds just where it ends.
use Rattle.std.proofs.Common.{◌≡◌, ℕ, ◌+◌, ◌≤◌, Bool, true, false, cond, eqb, List, [], ◌∷◌, ◌++◌, length, Option, Some}
use Rattle.std.proofs.Common.{None, sym, ap, refl, subst, ◌∙◌, inl, inr, arith}
use Rattle.std.proofs.lemmas.Bool.{cases_Bool, eqb-true, eqb-false, ne_eqb}
use Rattle.awk_tokens.specs.Bytes.{Text}
use Rattle.awk_tokens.specs.Strings.{StringEnds, ends, escaped, plain}
use Rattle.awk_tokens.specs.Scan.{string_rest}
use Rattle.awk_tokens.proofs.Choices.{chosen}

pub string_rest_at : (z rest : Text) → StringEnds z rest → string_rest false z ≡ Some rest
string_rest_at _ _ (ends rest) = refl
string_rest_at _ _ (escaped b z rest h) = string_rest_at z rest h
string_rest_at _ _ (plain b z rest n34 n92 n10 h) = rw (ne_eqb b 34 n34, ne_eqb b 10 n10, ne_eqb b 92 n92)
    (string_rest_at z rest h)

-- a string that the scan finds open ends nowhere
pub string_open : (z : Text) → string_rest false z ≡ None → (rest : Text) → StringEnds z rest → ⊥
string_open z open_here rest h = let found = string_rest_at z rest h in absurd cc

-- what stands ahead of the scan, where the flag says that a `\` stands before
abbrev Ahead : Bool → Text → Text → Type 0
Ahead false z rest = StringEnds z rest
Ahead true z rest = StringEnds (92 ∷ z) rest

ahead : (e : Bool) (z rest : Text) → string_rest e z ≡ Some rest → Ahead e z rest
ahead true [] rest e = absurd cc
ahead false [] rest e = absurd cc
ahead true (b ∷ z) rest e = escaped b z rest (ahead false z rest e)
ahead false (b ∷ z) rest e =
    elim (chosen (eqb b 34) (Some z) (cond (eqb b 10) None (string_rest (eqb b 92) z)) (Some rest) e) [
      | inl h ↦
          let same : z ≡ rest = cc in
          subst (λ c. StringEnds (c ∷ z) rest) (sym (eqb-true b 34 h.0)) (subst (λ r. StringEnds (34 ∷ z) r) same
          (ends z))
      | inr h ↦
          elim (chosen (eqb b 10) None (string_rest (eqb b 92) z) (Some rest) h.1) [
            | inl g ↦ absurd cc
            | inr g ↦
                elim (cases_Bool (eqb b 92)) [
                  | inl q ↦
                      subst (λ c. StringEnds (c ∷ z) rest) (sym (eqb-true b 92 q))
                      (ahead true z rest (subst (λ t. string_rest t z ≡ Some rest) q g.1))
                  | inr q ↦
                      plain b z rest (eqb-false b 34 h.0) (eqb-false b 92 q) (eqb-false b 10 g.0)
                      (ahead false z rest (subst (λ t. string_rest t z ≡ Some rest) q g.1))
                ]
          ]
    ]

pub string_ends : (z rest : Text) → string_rest false z ≡ Some rest → StringEnds z rest
string_ends z rest e = ahead false z rest e

-- what ends stands in front of the rest
pub string_parts : (z rest : Text) → StringEnds z rest → (body : Text) × (z ≡ body ++ rest)
string_parts _ _ (ends rest) = (34 ∷ [], refl)
string_parts _ _ (escaped b z rest h) = let p = string_parts z rest h in (92 ∷ b ∷ p.0, ap (λ w. 92 ∷ b ∷ w) p.1)
string_parts _ _ (plain b z rest n34 n92 n10 h) = let p = string_parts z rest h in (b ∷ p.0, ap (λ w. b ∷ w) p.1)
