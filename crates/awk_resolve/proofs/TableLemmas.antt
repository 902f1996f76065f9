-- A table of texts, as contracts see it, after the calls of the map that holds it. There the keys are not the texts but
-- have them.
use Rattle.std.proofs.Common.{◌≡◌, ◌⊎◌, inl, inr, ℕ, List, [], ◌∷◌, map, Bool, true, false, cond, Some, refl, ap, sym}
use Rattle.std.proofs.Common.{subst, ◌∙◌, if◌then◌else◌}
use Rattle.std.proofs.lemmas.Bool.{cases_Bool}
use Rattle.std.proofs.lemmas.Slice.Eq.{bytes_eq-Decides}
use Rattle.std.specs.Map.{lookup}
use Rattle.std.specs.Str.{bytes_eq}
use Rattle.indexmap.specs.IndexMap.{insert_entry}
use Rattle.awk_resolve.specs.TextTables.{with_text}

module _ {K V : Type 0} (items : K → List ℕ) where
  abbrev pub named : List (K × V) → List (List ℕ × V)
  named es = map (λ e. (items e.0, e.1)) es

  pub lookup_named : (text : List ℕ) (es : List (K × V)) → lookup (bytes_eq text) (named es)
      ≡ lookup (λ k. bytes_eq text (items k)) es
  lookup_named text [] = refl
  lookup_named text (e ∷ es) = ap (cond (bytes_eq text (items e.0)) (Some e.1)) (lookup_named text es)

  pub with_text_named : (k : K) (v : V) (es : List (K × V)) → with_text (items k) v (named es)
      ≡ named (insert_entry (λ x y. bytes_eq (items x) (items y)) es k v)
  with_text_named k v [] = refl
  with_text_named k v (e ∷ es) = by (bytes_eq (items k) (items e.0)) (with_text_named k v es)
    where
      by : (b : Bool) → with_text (items k) v (named es)
          ≡ named (insert_entry (λ x y. bytes_eq (items x) (items y)) es k v)
          → (if b then (items e.0, v) ∷ named es else (items e.0, e.1) ∷ with_text (items k) v (named es))
          ≡ named (if b then (e.0, v) ∷ es else e ∷ insert_entry (λ x y. bytes_eq (items x) (items y)) es k v)
      by true rest = refl
      by false rest = ap (λ l. (items e.0, e.1) ∷ l) rest

-- what was put under a text is found there
pub put_same : {V : Type 0} (x : List ℕ) (v : V) (es : List (List ℕ × V)) → lookup (bytes_eq x) (with_text x v es)
    ≡ Some v
put_same x v [] = rw ((bytes_eq-Decides x x).1 refl) refl
put_same {V} x v (e ∷ es) = by (bytes_eq x e.0) refl (put_same x v es)
  where
    by : (b : Bool) → bytes_eq x e.0 ≡ b → lookup (bytes_eq x) (with_text x v es) ≡ Some v
        → lookup (bytes_eq x) (if b then (e.0, v) ∷ es else e ∷ with_text x v es) ≡ Some v
    by true h rest = rw h refl
    by false h rest = rw h rest

-- and nothing else changes
pub put_other : {V : Type 0} (x y : List ℕ) (v : V) (es : List (List ℕ × V)) → bytes_eq y x ≡ false
    → lookup (bytes_eq y) (with_text x v es) ≡ lookup (bytes_eq y) es
put_other x y v [] o = rw o refl
put_other {V} x y v (e ∷ es) o = by (bytes_eq x e.0) refl (put_other x y v es o)
  where
    by : (b : Bool) → bytes_eq x e.0 ≡ b → lookup (bytes_eq y) (with_text x v es) ≡ lookup (bytes_eq y) es
        → lookup (bytes_eq y) (if b then (e.0, v) ∷ es else e ∷ with_text x v es) ≡ cond (bytes_eq y e.0) (Some e.1)
        (lookup (bytes_eq y) es)
    by true h rest =
        let same : x ≡ e.0 = (bytes_eq-Decides x e.0).0 h in
        let o2 : bytes_eq y e.0 ≡ false = ap (bytes_eq y) (sym same) ∙ o in rw o2 refl
    by false h rest = ap (cond (bytes_eq y e.0) (Some e.1)) rest

-- what stands under y after v was put under x
abbrev pub AfterPut : {V : Type 0} → List ℕ → List ℕ → V → List (List ℕ × V) → Type 0
AfterPut x y v es =
    ((x ≡ y) × (lookup (bytes_eq y) (with_text x v es) ≡ Some v))
    ⊎ ((x ≡ y → ⊥) × (lookup (bytes_eq y) (with_text x v es) ≡ lookup (bytes_eq y) es))

pub put_cases : {V : Type 0} (x y : List ℕ) (v : V) (es : List (List ℕ × V)) → AfterPut x y v es
put_cases x y v es = elim (cases_Bool (bytes_eq y x)) [
  | inl b ↦ let same : x ≡ y = sym ((bytes_eq-Decides y x).0 b) in
      inl (same, subst (λ z. lookup (bytes_eq z) (with_text x v es) ≡ Some v) same (put_same x v es))
  | inr b ↦ inr ((λ same. let yes = (bytes_eq-Decides y x).1 (sym same) in cc), put_other x y v es b)
]
