-- A table of texts, as contracts see it, after the calls of the map that holds it. There the keys are not the texts but
-- have them.
use Rattle.std.proofs.Common.{◌≡◌, ℕ, List, [], ◌∷◌, ◌++◌, map, Bool, true, false, cond, None, Some, refl, ap}
use Rattle.std.proofs.Common.{if◌then◌else◌}
use Rattle.std.specs.Map.{lookup, set_value}
use Rattle.std.specs.Str.{bytes_eq}
use Rattle.indexmap.specs.IndexMap.{insert_entry}
use Rattle.box_world.specs.MemoryTexts.{with_text, with_more}

-- a value that is found stays where it is put once more
pub set_value-same : {K V : Type 0} (test : K → Bool) (es : List (K × V)) (v : V) → lookup test es ≡ Some v
    → set_value test es v ≡ es
set_value-same test [] v h = refl
set_value-same {K} {V} test (e ∷ es) v h = by (test e.0) h (set_value-same test es v)
  where
    by : (b : Bool) → cond b (Some e.1) (lookup test es) ≡ Some v → (lookup test es ≡ Some v → set_value test es v ≡ es)
        → cond b ((e.0, v) ∷ es) (e ∷ set_value test es v) ≡ e ∷ es
    by true p rest = let q : v ≡ e.1 = cc in ap (λ (x : V). (e.0, x) ∷ es) q
    by false p rest = ap (λ l. e ∷ l) (rest p)

module _ {K V : Type 0} (items : K → List ℕ) where
  abbrev pub named : List (K × V) → List (List ℕ × V)
  named es = map (λ e. (items e.0, e.1)) es

  pub lookup-named : (text : List ℕ) (es : List (K × V)) → lookup (bytes_eq text) (named es)
      ≡ lookup (λ k. bytes_eq text (items k)) es
  lookup-named text [] = refl
  lookup-named text (e ∷ es) = ap (cond (bytes_eq text (items e.0)) (Some e.1)) (lookup-named text es)

  pub with_text-named : (k : K) (v : V) (es : List (K × V)) → with_text (items k) v (named es)
      ≡ named (insert_entry (λ x y. bytes_eq (items x) (items y)) es k v)
  with_text-named k v [] = refl
  with_text-named k v (e ∷ es) = by (bytes_eq (items k) (items e.0)) (with_text-named k v es)
    where
      by : (b : Bool) → with_text (items k) v (named es)
          ≡ named (insert_entry (λ x y. bytes_eq (items x) (items y)) es k v)
          → (if b then (items e.0, v) ∷ named es else (items e.0, e.1) ∷ with_text (items k) v (named es))
          ≡ named (if b then (e.0, v) ∷ es else e ∷ insert_entry (λ x y. bytes_eq (items x) (items y)) es k v)
      by true rest = refl
      by false rest = ap (λ l. (items e.0, e.1) ∷ l) rest

module _ {K : Type 0} (items : K → List ℕ) (text bytes : List ℕ) where
  -- bytes are added to what is found
  pub with_more-found : (es : List (K × List ℕ)) (v : List ℕ) → lookup (λ k. bytes_eq text (items k)) es ≡ Some v
      → named items (set_value (λ k. bytes_eq text (items k)) es (v ++ bytes)) ≡ with_more text bytes (named items es)
  with_more-found [] v h = refl
  with_more-found (e ∷ es) v h = by (bytes_eq text (items e.0)) h (with_more-found es v)
    where
      by : (b : Bool) → cond b (Some e.1) (lookup (λ k. bytes_eq text (items k)) es) ≡ Some v
          → (lookup (λ k. bytes_eq text (items k)) es ≡ Some v
          → named items (set_value (λ k. bytes_eq text (items k)) es (v ++ bytes)) ≡ with_more text bytes
          (named items es))
          → named items (cond b ((e.0, v ++ bytes) ∷ es) (e ∷ set_value (λ k. bytes_eq text (items k)) es (v ++ bytes)))
          ≡ (if b then (items e.0, e.1 ++ bytes) ∷ named items es else (items e.0, e.1) ∷ with_more text bytes
          (named items es))
      by true p later = let q : v ≡ e.1 = cc in ap (λ (x : List ℕ). (items e.0, x ++ bytes) ∷ named items es) q
      by false p later = ap (λ l. (items e.0, e.1) ∷ l) (later p)

  -- where nothing is found, nothing changes
  pub with_more-absent : (es : List (K × List ℕ)) → lookup (λ k. bytes_eq text (items k)) es ≡ None
      → with_more text bytes (named items es) ≡ named items es
  with_more-absent [] h = refl
  with_more-absent (e ∷ es) h = by (bytes_eq text (items e.0)) h (with_more-absent es)
    where
      by : (b : Bool) → cond b (Some e.1) (lookup (λ k. bytes_eq text (items k)) es) ≡ None
          → (lookup (λ k. bytes_eq text (items k)) es ≡ None → with_more text bytes (named items es) ≡ named items es)
          → (if b then (items e.0, e.1 ++ bytes) ∷ named items es else (items e.0, e.1) ∷ with_more text bytes
          (named items es)) ≡ named items (e ∷ es)
      by true p later = cc
      by false p later = ap (λ l. (items e.0, e.1) ∷ l) (later p)
