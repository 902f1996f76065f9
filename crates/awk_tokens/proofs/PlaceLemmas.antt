-- The place behind a text, byte by byte.
use Rattle.std.proofs.Common.{◌≡◌, ℕ, ◌+◌, ◌<◌, ◌≤◌, min, Bool, true, false, not, cond, eqb, List, [], ◌∷◌, ◌++◌}
use Rattle.std.proofs.Common.{length, take, get_or, reverse, count_by, sym, ap, refl, subst, ◌∙◌, inl, inr, arith}
use Rattle.std.proofs.Math.Seq.{take-length}
use Rattle.std.specs.List.{suffix_len, prefix_len}
use Rattle.std.proofs.lemmas.Bool.{cases_Bool}
use Rattle.std.proofs.lemmas.List.{reverse-append, append_assoc, take_more}
use Rattle.std.proofs.lemmas.List.Sums.{sum_by_push}
use Rattle.awk_text.specs.declared.place.Place.{Place}
use Rattle.awk_tokens.specs.Bytes.{Text}
use Rattle.awk_tokens.specs.Places.{capped, place_after, next_place}

abbrev is_newline : ℕ → Bool
is_newline b = eqb b 10

abbrev in_line : ℕ → Bool
in_line b = not (eqb b 10)

lines_more : (front : Text) (b : ℕ) → count_by is_newline (front ++ b ∷ []) ≡ count_by is_newline front + cond
    (eqb b 10) 1 0
lines_more front b = sum_by_push (λ c. cond (eqb c 10) 1 0) front b

column_more : (front : Text) (b : ℕ) → suffix_len in_line (front ++ b ∷ []) ≡ cond (not (eqb b 10))
    (1 + suffix_len in_line front) 0
column_more front b = ap (prefix_len in_line) (reverse-append front (b ∷ []))

abbrev at : ℕ → ℕ → Place
at l c = record { line = l; column = c }

at_same : (l l' c c' : ℕ) → l ≡ l' → c ≡ c' → at l c ≡ at l' c'
at_same l l' c c' e f = ap (λ x. at x c) e ∙ ap (at l') f

line_up : (lines : ℕ) → capped (lines + 1 + 1) ≡ capped (capped (lines + 1) + 1)
line_up lines = omega arith

line_same : (lines : ℕ) → capped (lines + 0 + 1) ≡ capped (lines + 1)
line_same lines = omega arith

column_up : (bytes : ℕ) → capped (1 + bytes + 1) ≡ capped (capped (bytes + 1) + 1)
column_up bytes = omega arith

pub place_more : (front : Text) (b : ℕ) → place_after (front ++ b ∷ []) ≡ next_place (place_after front) b
place_more front b =
    let lines = count_by is_newline front in
    let bytes = suffix_len in_line front in
    at_same _ _ _ _ (ap (λ n. capped (n + 1)) (lines_more front b)) (ap (λ n. capped (n + 1)) (column_more front b))
    ∙ by_byte (eqb b 10) lines bytes
  where
    by_byte : (t : Bool) (lines bytes : ℕ)
        → at (capped (lines + cond t 1 0 + 1)) (capped (cond (not t) (1 + bytes) 0 + 1))
        ≡ cond t (at (capped (capped (lines + 1) + 1)) 1)
        (at (capped (lines + 1)) (capped (capped (bytes + 1) + 1)))
    by_byte true lines bytes = at_same _ _ _ _ (line_up lines) refl
    by_byte false lines bytes = at_same _ _ _ _ (line_same lines) (column_up bytes)

-- the place behind one more byte of a text
pub place_on : (front text : Text) (i : ℕ) → i < length text → place_after (front ++ take (i + 1) text)
    ≡ next_place (place_after (front ++ take i text)) (get_or text i 0)
place_on front text i low =
    ap (λ w. place_after (front ++ w)) (take_more text i 0 low) ∙ ap place_after
    (sym (append_assoc front (take i text) (get_or text i 0 ∷ [])))
    ∙ place_more (front ++ take i text) (get_or text i 0)

pub all_taken : (text : Text) (i : ℕ) → i ≡ length text → take i text ≡ text
all_taken text i e = ap (λ n. take n text) e ∙ take-length text
