-- A host as contracts see it. Where it is kept the keys are not the texts but have them.
use Rattle.std.proofs.Common.{◌≡◌, ◌∙◌, ℕ, Bool, true, false, true≢false, List, [], ◌∷◌, ◌++◌, map, cond, if◌then◌else◌}
use Rattle.std.proofs.Common.{◌||◌, Some, ap, subst, sym, refl}
use Rattle.std.proofs.lemmas.List.Folds.{list_any-append}
use Rattle.std.proofs.lemmas.Slice.Eq.{bytes_eq-Decides}
use Rattle.std.specs.List.{list_any}
use Rattle.std.specs.Map.{lookup}
use Rattle.std.specs.Str.{bytes_eq}
use Rattle.indexmap.specs.IndexMap.{insert_entry}
use Rattle.awk_program.specs.Slots.{Text}
use Rattle.awk_input.specs.Hosts.{Hosted, is_given, name_added, use_of, with_name, with_word, word_added}
use Rattle.awk_input.specs.declared.host.HostUse.{HostUse}

module _ {K : Type 0} (items : K → List ℕ) where
  pub any_named : (x : List ℕ) (ks : List K) → list_any (bytes_eq x) (map items ks)
      ≡ list_any (λ k. bytes_eq x (items k)) ks
  any_named x [] = refl
  any_named x (k ∷ ks) = ap (λ b. bytes_eq x (items k) || b) (any_named x ks)

  map_last : (k : K) (ks : List K) → map items (ks ++ k ∷ []) ≡ map items ks ++ items k ∷ []
  map_last k [] = refl
  map_last k (j ∷ ks) = ap (λ xs. items j ∷ xs) (map_last k ks)

  pub word_named : (k : K) (ks : List K) → map items (if list_any (λ j. bytes_eq (items k) (items j)) ks then ks else ks
      ++ k ∷ []) ≡ word_added (items k) (map items ks)
  word_named k ks = rw (any_named (items k) ks) (by (list_any (λ j. bytes_eq (items k) (items j)) ks))
    where
      by : (b : Bool) → map items (if b then ks else ks ++ k ∷ []) ≡ (if b then map items ks else map items ks
          ++ items k ∷ [])
      by true = refl
      by false = map_last k ks

  abbrev pub named : List (K × HostUse) → List (Text × HostUse)
  named es = map (λ e. (items e.0, e.1)) es

  pub lookup_named : (text : List ℕ) (es : List (K × HostUse)) → lookup (bytes_eq text) (named es)
      ≡ lookup (λ k. bytes_eq text (items k)) es
  lookup_named text [] = refl
  lookup_named text (e ∷ es) = ap (cond (bytes_eq text (items e.0)) (Some e.1)) (lookup_named text es)

  pub name_named : (k : K) (u : HostUse) (es : List (K × HostUse))
      → named (insert_entry (λ x y. bytes_eq (items x) (items y)) es k u) ≡ name_added (items k) u (named es)
  name_named k u [] = refl
  name_named k u (e ∷ es) = by (bytes_eq (items k) (items e.0)) (name_named k u es)
    where
      by : (b : Bool) → named (insert_entry (λ x y. bytes_eq (items x) (items y)) es k u) ≡ name_added (items k) u
          (named es)
          → named (if b then (e.0, u) ∷ es else e ∷ insert_entry (λ x y. bytes_eq (items x) (items y)) es k u)
          ≡ (if b then (items e.0, u) ∷ named es else (items e.0, e.1) ∷ name_added (items k) u (named es))
      by true rest = refl
      by false rest = ap (λ l. (items e.0, e.1) ∷ l) rest

-- a host with other words, and with other names
pub words_so : (h : Hosted) (ws : List Text) (x : Text) → ws ≡ word_added x h.words
    → record h { words = ws } ≡ with_word x h
words_so h ws x e = ap (λ (z : List Text). record h { words = z }) e

pub names_so : (h : Hosted) (ns : List (Text × HostUse)) (x : Text) (u : HostUse) → ns ≡ name_added x u h.names
    → record h { names = ns } ≡ with_name x u h
names_so h ns x u e = ap (λ (z : List (Text × HostUse)). record h { names = z }) e

-- ---- what a host answers once more is said

swapped : (a d : Bool) → (a || (d || false)) ≡ (d || a)
swapped true true = refl
swapped true false = refl
swapped false true = refl
swapped false false = refl

pub given_added : (x t : Text) (h : Hosted) → is_given (with_word x h) t ≡ (bytes_eq t x || is_given h t)
given_added x t h = by (list_any (bytes_eq x) h.words) refl
  where
    there : (d : Bool) → bytes_eq t x ≡ d → list_any (bytes_eq x) h.words ≡ true → list_any (bytes_eq t) h.words
        ≡ (d || list_any (bytes_eq t) h.words)
    there true f e = subst (λ z. list_any (bytes_eq z) h.words ≡ true) (sym ((bytes_eq-Decides t x).0 f)) e
    there false f e = refl

    by : (b : Bool) → list_any (bytes_eq x) h.words ≡ b
        → list_any (bytes_eq t) (if b then h.words else h.words ++ x ∷ [])
        ≡ (bytes_eq t x || list_any (bytes_eq t) h.words)
    by true e = there (bytes_eq t x) refl e
    by false e = list_any-append (bytes_eq t) h.words (x ∷ []) ∙ swapped (list_any (bytes_eq t) h.words) (bytes_eq t x)

use_at : (x y : Text) (u : HostUse) (es : List (Text × HostUse)) → lookup (bytes_eq y) (name_added x u es)
    ≡ (if bytes_eq y x then Some u else lookup (bytes_eq y) es)
use_at x y u [] = refl
use_at x y u (e ∷ es) = by (bytes_eq x e.0) refl (use_at x y u es)
  where
    same : (b : Bool) → cond b (Some u) (lookup (bytes_eq y) es)
        ≡ (if b then Some u else cond b (Some e.1) (lookup (bytes_eq y) es))
    same true = refl
    same false = refl

    other : (b d : Bool) → bytes_eq y e.0 ≡ b → bytes_eq y x ≡ d → bytes_eq x e.0 ≡ false →
        cond b (Some e.1) (if d then Some u else lookup (bytes_eq y) es)
        ≡ (if d then Some u else cond b (Some e.1) (lookup (bytes_eq y) es))
    other true true f h apart =
        let one = (bytes_eq-Decides y e.0).0 f in
        let two = (bytes_eq-Decides y x).0 h in
        absurd (true≢false (sym ((bytes_eq-Decides x e.0).1 (sym two ∙ one)) ∙ apart))
    other true false f h apart = refl
    other false true f h apart = refl
    other false false f h apart = refl

    by : (b : Bool) → bytes_eq x e.0 ≡ b → lookup (bytes_eq y) (name_added x u es)
        ≡ (if bytes_eq y x then Some u else lookup (bytes_eq y) es) →
        lookup (bytes_eq y) (if b then (e.0, u) ∷ es else e ∷ name_added x u es)
        ≡ (if bytes_eq y x then Some u else cond (bytes_eq y e.0) (Some e.1) (lookup (bytes_eq y) es))
    by true h rest =
        let is : x ≡ e.0 = (bytes_eq-Decides x e.0).0 h in
        ap (λ z. cond (bytes_eq y z) (Some u) (lookup (bytes_eq y) es)) (sym is) ∙ same (bytes_eq y x)
        ∙ ap (λ z. if bytes_eq y x then Some u else cond (bytes_eq y z) (Some e.1) (lookup (bytes_eq y) es)) is
    by false h rest = ap (λ o. cond (bytes_eq y e.0) (Some e.1) o) rest ∙ other (bytes_eq y e.0) (bytes_eq y x) refl
        refl h

pub use_added : (x y : Text) (u : HostUse) (h : Hosted)
    → use_of (with_name x u h) y ≡ (if bytes_eq y x then Some u else use_of h y)
use_added x y u h = use_at x y u h.names
