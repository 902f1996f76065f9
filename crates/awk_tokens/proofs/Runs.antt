-- The longest front of a text whose bytes all pass a test.
use Rattle.std.proofs.Common.{◌≡◌, ℕ, zero, suc, ◌+◌, Bool, true, false, ◌&&◌, cond, List, [], ◌∷◌, ◌++◌, take, drop}
use Rattle.std.proofs.Common.{length, get_or, sym, ap, refl, subst, ◌∙◌, inl, inr, arith}
use Rattle.std.specs.List.{list_all, prefix_len}
use Rattle.std.proofs.lemmas.Bool.{cases_Bool, and_parts}

one_more : (n : ℕ) → 1 + n ≡ suc n
one_more n = omega arith

-- each byte of it passes
pub list_all_take : (p : ℕ → Bool) (z : List ℕ) → list_all p (take (prefix_len p z) z) ≡ true
list_all_take p [] = refl
list_all_take p (b ∷ z) =
    elim (cases_Bool (p b)) [
      | inl e ↦
          ap (λ t. list_all p (take (cond t (1 + prefix_len p z) 0) (b ∷ z))) e
          ∙ ap (λ n. list_all p (take n (b ∷ z))) (one_more (prefix_len p z))
          ∙ ap (λ t. t && list_all p (take (prefix_len p z) z)) e
          ∙ list_all_take p z
      | inr e ↦ ap (λ t. list_all p (take (cond t (1 + prefix_len p z) 0) (b ∷ z))) e
    ]

-- the byte behind it does not
pub stops_at : (p : ℕ → Bool) (z rest : List ℕ) (b : ℕ) → drop (prefix_len p z) z ≡ b ∷ rest → p b ≡ false
stops_at p [] rest b e = absurd cc
stops_at p (c ∷ z) rest b e =
    elim (cases_Bool (p c)) [
      | inl passes ↦
          let inner : drop (suc (prefix_len p z)) (c ∷ z) ≡ b ∷ rest =
          sym (ap (λ n. drop n (c ∷ z)) (one_more (prefix_len p z)))
          ∙ sym (ap (λ t. drop (cond t (1 + prefix_len p z) 0) (c ∷ z)) passes) ∙ e in
          stops_at p z rest b inner
      | inr fails ↦
          let whole : c ∷ z ≡ b ∷ rest = sym (ap (λ t. drop (cond t (1 + prefix_len p z) 0) (c ∷ z)) fails) ∙ e in
          ap p (sym (head_is c b z rest whole)) ∙ fails
    ]
  where
    head_is : (c b : ℕ) (z rest : List ℕ) → c ∷ z ≡ b ∷ rest → c ≡ b
    head_is c b z rest e = cc

-- so a text of passing bytes goes no further
pub no_more : (p : ℕ → Bool) (z more left : List ℕ) → drop (prefix_len p z) z ≡ more ++ left → list_all p more ≡ true
    → more ≡ []
no_more p z [] left e all = refl
no_more p z (b ∷ more) left e all =
    let stop = stops_at p z (more ++ left) b e in
    let pass = (and_parts (p b) (list_all p more) all).0 in
    absurd cc

-- passing bytes before one that fails
pub prefix_len_all : (p : ℕ → Bool) (front : List ℕ) (b : ℕ) (rest : List ℕ) → list_all p front ≡ true → p b ≡ false
    → prefix_len p (front ++ b ∷ rest) ≡ length front
prefix_len_all p [] b rest all fails = ap (λ t. cond t (1 + prefix_len p rest) 0) fails
prefix_len_all p (c ∷ front) b rest all fails =
    let both = and_parts (p c) (list_all p front) all in
    ap (λ t. cond t (1 + prefix_len p (front ++ b ∷ rest)) 0) both.0 ∙ ap (λ n. 1 + n)
    (prefix_len_all p front b rest both.1 fails) ∙ one_more (length front)
