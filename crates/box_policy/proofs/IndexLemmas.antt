-- The index, rule by rule from the last one on.
use Rattle.std.proofs.Common.{◌≡◌, ◌∙◌, ℕ, zero, suc, ◌+◌, ◌-◌, ◌<◌, ◌≤◌, Bool, true, false, cond, List, [], ◌∷◌, ◌++◌}
use Rattle.std.proofs.Common.{length, drop, reverse, Some, None, Option, sym, ap, refl, subst, arith, get_or}
use Rattle.std.specs.Map.{lookup}
use Rattle.std.specs.Str.{bytes_eq}
use Rattle.std.proofs.lemmas.Bool.{true≢false}
use Rattle.std.proofs.lemmas.Slice.Eq.{bytes_eq-Decides}
use Rattle.std.proofs.lemmas.List.{reverse-append}
use Rattle.indexmap.specs.IndexMap.{insert_entry}
use Rattle.box_policy.specs.declared.policy.Rule.{Rule}
use Rattle.box_policy.specs.Shelves.{shelf_of, first_of, stands, chain}

swapped : {X : Type 0} (a b : Bool) (x y rest : X) → (a ≡ true → b ≡ true → ⊥)
    → cond a x (cond b y rest) ≡ cond b y (cond a x rest)
swapped true true x y rest h = absurd (h refl refl)
swapped true false x y rest h = refl
swapped false b x y rest h = refl

covered : {X : Type 0} (a : Bool) (x y rest : X) → cond a x rest ≡ cond a x (cond a y rest)
covered true x y rest = refl
covered false x y rest = refl

module _ {K X : Type 0} (text : K → List ℕ) (place : List ℕ) (key : K) (v : X) where
  -- what a look-up finds once a pair is inserted
  pub lookup-inserted : (es : List (K × X))
      → lookup (λ k. bytes_eq place (text k)) (insert_entry (λ x y. bytes_eq (text x) (text y)) es key v)
      ≡ cond (bytes_eq place (text key)) (Some v) (lookup (λ k. bytes_eq place (text k)) es)
  lookup-inserted [] = refl
  lookup-inserted (e ∷ es) = by (lookup-inserted es) (bytes_eq (text key) (text e.0)) refl
    where
      by : lookup (λ k. bytes_eq place (text k)) (insert_entry (λ x y. bytes_eq (text x) (text y)) es key v)
          ≡ cond (bytes_eq place (text key)) (Some v) (lookup (λ k. bytes_eq place (text k)) es)
          → (b : Bool) → bytes_eq (text key) (text e.0) ≡ b
          → lookup (λ k. bytes_eq place (text k)) (insert_entry (λ x y. bytes_eq (text x) (text y)) (e ∷ es) key v)
          ≡ cond (bytes_eq place (text key)) (Some v) (lookup (λ k. bytes_eq place (text k)) (e ∷ es))
      by onward true h =
          let same : text key ≡ text e.0 = (bytes_eq-Decides (text key) (text e.0)).0 h in
          ap (λ b. lookup (λ k. bytes_eq place (text k))
          (cond b ((e.0, v) ∷ es) (e ∷ insert_entry (λ x y. bytes_eq (text x) (text y)) es key v))) h
          ∙ (covered (bytes_eq place (text e.0)) (Some v) (Some e.1) (lookup (λ k. bytes_eq place (text k)) es)
          ∙ ap (λ t. cond (bytes_eq place t) (Some v) (cond (bytes_eq place (text e.0)) (Some e.1)
          (lookup (λ k. bytes_eq place (text k)) es))) (sym same))
      by onward false h =
          ap (λ b. lookup (λ k. bytes_eq place (text k))
          (cond b ((e.0, v) ∷ es) (e ∷ insert_entry (λ x y. bytes_eq (text x) (text y)) es key v))) h
          ∙ (ap (λ o. cond (bytes_eq place (text e.0)) (Some e.1) o) onward
          ∙ swapped (bytes_eq place (text e.0)) (bytes_eq place (text key)) (Some e.1) (Some v)
          (lookup (λ k. bytes_eq place (text k)) es)
          (λ a b. true≢false (sym ((bytes_eq-Decides (text key) (text e.0)).1
          (sym ((bytes_eq-Decides place (text key)).0 b) ∙ (bytes_eq-Decides place (text e.0)).0 a)) ∙ h)))

pub split_at : (rules : List Rule) (at number : ℕ) (rule : Rule) → number ≡ at + 1 → at < length rules
    → rule ≡ get_or rules at rule → drop at rules ≡ rule ∷ drop number rules
split_at [] at number rule count l is = absurd (omega arith)
split_at (x ∷ xs) zero number rule count l is = (λ i. sym is i ∷ drop (sym count i) (x ∷ xs))
split_at (x ∷ xs) (suc at) zero rule count l is = absurd (omega (arith, count))
split_at (x ∷ xs) (suc at) (suc number) rule count l is = split_at xs at number rule (omega (arith, count))
    (omega (arith, l)) is

-- the pair that is inserted is that of the rule before
pub firsts_step : {K : Type 0} (text : K → List ℕ) (rules : List Rule) (at number : ℕ) (rule : Rule) (key : K)
    (old new : List (K × ℕ)) → number ≡ at + 1 → drop at rules ≡ rule ∷ drop number rules
    → text key ≡ shelf_of rule → new ≡ insert_entry (λ x y. bytes_eq (text x) (text y)) old key number
    → ((place : List ℕ) → lookup (λ k. bytes_eq place (text k)) old ≡ first_of (stands place) (number + 1)
    (drop number rules))
    → (place : List ℕ) → lookup (λ k. bytes_eq place (text k)) new ≡ first_of (stands place) (at + 1) (drop at rules)
firsts_step text rules at number rule key old new count split is inserted before place =
    ap (lookup (λ k. bytes_eq place (text k))) inserted
    ∙ (lookup-inserted text place key number old
    ∙ ((λ i. cond (bytes_eq place (is i)) (Some (count i)) (before place i))
    ∙ ((λ i. cond (stands place rule) (Some (at + 1)) (first_of (stands place) (count i + 1) (drop number rules)))
    ∙ ap (first_of (stands place) (at + 1)) (sym split))))

-- and its next one is what was found under its shelf
pub nexts_step : (rules : List Rule) (at number : ℕ) (rule : Rule) (next : Option ℕ) (old new : List (Option ℕ))
    → number ≡ at + 1 → drop at rules ≡ rule ∷ drop number rules
    → next ≡ first_of (stands (shelf_of rule)) (number + 1) (drop number rules)
    → old ≡ reverse (chain (number + 1) (drop number rules)) → new ≡ old ++ (next ∷ [])
    → new ≡ reverse (chain (at + 1) (drop at rules))
nexts_step rules at number rule next old new count split is before pushed =
    pushed
    ∙ ((λ i. before i ++ (is i ∷ []))
    ∙ (sym (reverse-append (first_of (stands (shelf_of rule)) (number + 1) (drop number rules) ∷ [])
    (chain (number + 1) (drop number rules)))
    ∙ ((λ i. reverse (first_of (stands (shelf_of rule)) (count i + 1) (drop number rules) ∷ chain (count i + 1)
    (drop number rules)))
    ∙ ap (λ l. reverse (chain (at + 1) l)) (sym split))))
