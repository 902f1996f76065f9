-- A listed word stands in the list of the words of its length.
use Rattle.std.proofs.Common.{◌≡◌, ◌≢◌, ℕ, Bool, true, false, ◌&&◌, cond, eqb, leb, ◌<◌, List, [], ◌∷◌, length, None}
use Rattle.std.proofs.Common.{Some, sym, ap, refl, ◌∙◌, ◌⊎◌, inl, inr, arith}
use Rattle.std.specs.List.{list_all}
use Rattle.std.specs.Str.{bytes_eq}
use Rattle.std.proofs.lemmas.Bool.{cases_Bool, eqb-false, false_from_ne_true, and_parts, leb-true, ne_eqb, cases_lt}
use Rattle.std.proofs.lemmas.Slice.Eq.{bytes_eq-Decides}
use Rattle.awk_tokens.specs.Bytes.{Text}
use Rattle.awk_tokens.specs.Words.{lookup, words}
use Rattle.awk_tokens.specs.declared.terminals.Terminal.{Terminal}

abbrev pub Table : Type 0
Table = List (Text × Terminal)

-- the entries whose word has this length
abbrev pub of_length : ℕ → Table → Table
of_length n [] = []
of_length n (entry ∷ entries) = cond (eqb (length entry.0) n) (entry ∷ of_length n entries) (of_length n entries)

other_length : (w word : Text) → eqb (length w) (length word) ≡ false → bytes_eq w word ≡ false
other_length w word e =
    false_from_ne_true (bytes_eq w word) (λ same. eqb-false (length w) (length word) e
    (ap length ((bytes_eq-Decides w word).0 same)))

lookup-of_length : (entries : Table) (word : Text) → lookup (of_length (length word) entries) word ≡ lookup entries word
lookup-of_length [] word = refl
lookup-of_length (entry ∷ entries) word =
    let same = lookup-of_length entries word in
    elim (cases_Bool (eqb (length entry.0) (length word))) [
      | inl e ↦
          ap (λ t. lookup (cond t (entry ∷ of_length (length word) entries) (of_length (length word) entries)) word) e
          ∙ ap (λ found. cond (bytes_eq entry.0 word) (Some entry.1) found) same
      | inr e ↦
          ap (λ t. lookup (cond t (entry ∷ of_length (length word) entries) (of_length (length word) entries)) word) e
          ∙ same ∙ sym (ap (λ t. cond t (Some entry.1) (lookup entries word)) (other_length entry.0 word e))
    ]

-- a word of this length is what the list of its length says
pub listed_at : (n : ℕ) (word : Text) → length word ≡ n → lookup (of_length n words) word ≡ lookup words word
listed_at n word e = ap (λ k. lookup (of_length k words) word) (sym e) ∙ lookup-of_length words word

-- lists of words of 2 to 8 bytes
of_length-none : (entries : Table) (n : ℕ) → list_all (λ entry. leb 2 (length entry.0) && leb (length entry.0) 8)
    entries ≡ true → (n < 2) ⊎ (8 < n) → of_length n entries ≡ []
of_length-none [] n short out = refl
of_length-none (entry ∷ entries) n short out =
    let parts = and_parts (leb 2 (length entry.0) && leb (length entry.0) 8)
    (list_all (λ e. leb 2 (length e.0) && leb (length e.0) 8) entries) short in
    let bounds = and_parts (leb 2 (length entry.0)) (leb (length entry.0) 8) parts.0 in
    let low = leb-true 2 (length entry.0) bounds.0 in
    let high = leb-true (length entry.0) 8 bounds.1 in
    let differs : eqb (length entry.0) n ≡ false =
    ne_eqb (length entry.0) n (λ e. elim out [ inl h ↦ omega arith | inr h ↦ omega arith ]) in
    ap (λ t. cond t (entry ∷ of_length n entries) (of_length n entries)) differs ∙ of_length-none entries n parts.1 out

-- no listed word has another length
pub listed_none : (word : Text) → length word ≢ 2 → length word ≢ 3 → length word ≢ 4 → length word ≢ 5
    → length word ≢ 6 → length word ≢ 7 → length word ≢ 8 → None ≡ lookup words word
listed_none word n2 n3 n4 n5 n6 n7 n8 =
    let out : (length word < 2) ⊎ (8 < length word) =
    elim (cases_lt (length word) 2) [
      | inl h ↦ inl h
      | inr low ↦ elim (cases_lt 8 (length word)) [ inl h ↦ inr h | inr high ↦ absurd (omega arith) ]
    ] in
    sym (ap (λ t. lookup t word) (of_length-none words (length word) refl out)) ∙ listed_at (length word) word refl
