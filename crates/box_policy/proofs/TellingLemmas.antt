-- The rules of a kind are told one by one.
use Rattle.std.proofs.Common.{◌≡◌, ◌∙◌, ℕ, zero, suc, add-one, arith, ◌+◌, ◌<◌, ◌≤◌, Bool, true, false, cond, List, []}
use Rattle.std.proofs.Common.{◌∷◌, ◌++◌, length, get_or, drop, sym, ap, append_assoc, append-nil}
use Rattle.std.specs.Prelude.{nat_eq}
use Rattle.std.proofs.lemmas.List.{drop_all}
use Rattle.box_policy.specs.declared.policy.Kind.{Kind}
use Rattle.box_policy.specs.declared.policy.Rule.{Rule}
use Rattle.box_policy.specs.declared.telling.Told.{Told}
use Rattle.box_policy.specs.Decisions.{kind_number, speaks}
use Rattle.box_policy.specs.Telling.{told_from}

drop_suc : {A : Type 0} (xs : List A) (i : ℕ) (d : A) → i < length xs → d ≡ get_or xs i d
    → drop i xs ≡ d ∷ drop (suc i) xs
drop_suc [] i d h e = absurd (omega arith)
drop_suc (x ∷ xs) zero d h e = ap (λ y. y ∷ xs) (sym e)
drop_suc (x ∷ xs) (suc i) d h e = drop_suc xs i d (omega arith) e

drop_here : {A : Type 0} (xs : List A) (i : ℕ) (d : A) → i < length xs → d ≡ get_or xs i d
    → drop i xs ≡ d ∷ drop (i + 1) xs
drop_here xs i d h e = rw add-one (drop_suc xs i d h e)

abbrev of_number : ℕ → Bool → Told
of_number n fits = record { number = n; fits = fits }

pub told_so : (old new : List Told) (n : ℕ) (fits spoken : Bool) → new ≡ old ++ of_number n fits ∷ [] → fits ≡ spoken
    → new ≡ old ++ of_number n spoken ∷ []
told_so old new n fits spoken added is = added ∙ ap (λ b. old ++ of_number n b ∷ []) is

module _ (base : List ℕ) (kind : Kind) (subject : List ℕ) (given : Bool) where
  abbrev it : ℕ → Rule → Told
  it n rule = record { number = n; fits = speaks base rule kind subject given }

  abbrev from : ℕ → List Rule → List Told
  from n rules = told_from n base rules kind subject given

  here : (n i : ℕ) (rules : List Rule) (rule : Rule) (same : Bool) → i < length rules → rule ≡ get_or rules i rule
      → same ≡ nat_eq (kind_number rule.kind) (kind_number kind)
      → from n (drop i rules) ≡ cond same (it n rule ∷ from (n + 1) (drop (i + 1) rules))
      (from (n + 1) (drop (i + 1) rules))
  here n i rules rule same below is of_kind =
      ap (from n) (drop_here rules i rule below is)
      ∙ ap (λ b. cond b (it n rule ∷ from (n + 1) (drop (i + 1) rules)) (from (n + 1) (drop (i + 1) rules)))
      (sym of_kind)

  pub passed : (n i : ℕ) (rules : List Rule) (rule : Rule) (same : Bool) (old whole : List Told) → i < length rules
      → rule ≡ get_or rules i rule
      → same ≡ nat_eq (kind_number rule.kind) (kind_number kind) → same ≡ false
      → old ++ from n (drop i rules) ≡ whole → old ++ from (n + 1) (drop (i + 1) rules) ≡ whole
  passed n i rules rule same old whole below is of_kind other so_far =
      sym (ap (λ ts. old ++ ts) (here n i rules rule same below is of_kind
      ∙ ap (λ b. cond b (it n rule ∷ from (n + 1) (drop (i + 1) rules)) (from (n + 1) (drop (i + 1) rules))) other))
      ∙ so_far

  pub told : (n i : ℕ) (rules : List Rule) (rule : Rule) (same : Bool) (old new whole : List Told) → i < length rules
      → rule ≡ get_or rules i rule
      → same ≡ nat_eq (kind_number rule.kind) (kind_number kind) → same ≡ true → new ≡ old ++ it n rule ∷ []
      → old ++ from n (drop i rules) ≡ whole → new ++ from (n + 1) (drop (i + 1) rules) ≡ whole
  told n i rules rule same old new whole below is of_kind one added so_far =
      ap (λ ts. ts ++ from (n + 1) (drop (i + 1) rules)) added
      ∙ (append_assoc old (it n rule ∷ []) (from (n + 1) (drop (i + 1) rules))
      ∙ (sym (ap (λ ts. old ++ ts) (here n i rules rule same below is of_kind
      ∙ ap (λ b. cond b (it n rule ∷ from (n + 1) (drop (i + 1) rules)) (from (n + 1) (drop (i + 1) rules))) one))
      ∙ so_far))

  pub all_told : (n i : ℕ) (rules : List Rule) (old whole : List Told) → length rules ≤ i → old ++ from n (drop i rules)
      ≡ whole → old ≡ whole
  all_told n i rules old whole past so_far = sym (append-nil old)
      ∙ (sym (ap (λ rs. old ++ from n rs) (drop_all i rules past)) ∙ so_far)
