-- What the bytes of a sign can be.
use Rattle.std.proofs.Common.{◌≡◌, ◌≢◌, ℕ, ◌+◌, Bool, true, false, ◌||◌, cond, eqb, List, [], ◌∷◌, ◌++◌, get_or}
use Rattle.std.proofs.Common.{slice_index, sym, ap, refl, subst, ◌∙◌, inl, inr, arith}
use Rattle.std.specs.List.{list_any}
use Rattle.std.specs.Str.{bytes_eq}
use Rattle.std.proofs.lemmas.Bool.{cases_Bool, eqb-true, eq-eqb, or_cases, or_parts, true≢false}
use Rattle.std.proofs.lemmas.Slice.Eq.{bytes_eq-Decides}
use Rattle.awk_tokens.specs.Bytes.{Text}
use Rattle.awk_tokens.specs.Signs.{singles, doubles, is_single, is_double, is_sign}

-- a listed byte fails a test that no listed byte passes
listed_byte : (p : ℕ → Bool) (xs : List ℕ) (b : ℕ) → list_any (λ s. eqb s b) xs ≡ true → list_any p xs ≡ false
    → p b ≡ false
listed_byte p [] b among none = absurd cc
listed_byte p (x ∷ xs) b among none =
    let parts = or_parts (p x) (list_any p xs) none in
    elim (or_cases (eqb x b) (list_any (λ s. eqb s b) xs) among) [
      | inl h ↦ ap p (sym (eqb-true x b h)) ∙ parts.0
      | inr h ↦ listed_byte p xs b h parts.1
    ]

-- the same of texts
listed_text : (p : Text → Bool) (xs : List Text) (t : Text) → list_any (λ s. bytes_eq s t) xs ≡ true
    → list_any p xs ≡ false → p t ≡ false
listed_text p [] t among none = absurd cc
listed_text p (x ∷ xs) t among none =
    let parts = or_parts (p x) (list_any p xs) none in
    elim (or_cases (bytes_eq x t) (list_any (λ s. bytes_eq s t) xs) among) [
      | inl h ↦ ap p (sym ((bytes_eq-Decides x t).0 h)) ∙ parts.0
      | inr h ↦ listed_text p xs t h parts.1
    ]

-- the first byte of a sign fails a test that no sign's first byte passes
pub sign_first : (p : ℕ → Bool) → list_any p singles ≡ false → list_any (λ s. p (slice_index s 0)) doubles ≡ false
    → (b : ℕ) (z : Text) → is_sign (b ∷ z) ≡ true → p b ≡ false
sign_first p one two b [] is = listed_byte p singles b is one
sign_first p one two b (c ∷ []) is = listed_text (λ s. p (slice_index s 0)) doubles (b ∷ c ∷ []) is two
sign_first p one two b (c ∷ d ∷ z) is = absurd cc

-- no sign has the byte 0, which stands for the end
pub double_second : (b next : ℕ) → is_double b next ≡ true → next ≢ 0
double_second b next is zero_next =
    let other = listed_text (λ s. eqb (slice_index s 1) 0) doubles (b ∷ next ∷ []) is refl in
    true≢false (sym (eq-eqb next 0 zero_next) ∙ other)
