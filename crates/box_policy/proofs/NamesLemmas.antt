-- The components of a text, from the front.
use Rattle.std.proofs.Common.{◌≡◌, ℕ, ◌+◌, ◌-◌, ◌<◌, ◌≤◌, List, [], ◌∷◌, Bool, true, false, cond, Some, None, length}
use Rattle.std.proofs.Common.{take, drop, get_or, ap, subst, inl, inr, arith}
use Rattle.std.specs.Prelude.{position, ◌==◌}
use Rattle.std.specs.List.{slice_split, position_or_len, filter, All, before_first, after_first}
use Rattle.std.proofs.lemmas.List.{take_rest}
use Rattle.std.proofs.lemmas.List.Sums.{position_or_len_is, fails_before_first}
use Rattle.std.proofs.lemmas.List.Quantifiers.{position-Some}
use Rattle.std.proofs.lemmas.List.Splits.{slice_split_first, slice_split_none}
use Rattle.std.proofs.lemmas.Bool.{cases_lt, lt-ltb, cond-true}
use Rattle.box_policy.specs.Paths.{names, is_name}

-- the byte is a slash
abbrev is_slash : ℕ → Bool
is_slash b = b == 47

-- the components of a text behind a first piece
names-first : (text : List ℕ) (end : ℕ) → position is_slash text ≡ Some end
    → slice_split is_slash text ≡ take end text ∷ slice_split is_slash (drop (end + 1) text)
names-first text end e =
    let found = position-Some is_slash text end 0 e in
    let at : position_or_len is_slash text ≡ end = position_or_len_is is_slash text end 0 (omega (arith, found.0))
    found.2 (λ _. found.1) in
    let below : position_or_len is_slash text < length text = omega (arith, found.0, at) in
    subst (λ (i : ℕ). slice_split is_slash text ≡ take i text ∷ slice_split is_slash (drop (i + 1) text)) at
    (slice_split_first is_slash text 0 below)

pub names-cut : (text : List ℕ) (end : ℕ) → position is_slash text ≡ Some end
    → names text ≡ cond (is_name (take end text))
    (take end text ∷ names (take (length text - (end + 1)) (drop (end + 1) text)))
    (names (take (length text - (end + 1)) (drop (end + 1) text)))
names-cut text end e = rw take_rest (ap (filter is_name) (names-first text end e))

long_where_none : (text : List ℕ) → position is_slash text ≡ None → length text ≤ position_or_len is_slash text
long_where_none text e =
    elim (cases_lt (position_or_len is_slash text) (length text)) [
      | inl below ↦ let found : position is_slash text ≡ Some (position_or_len is_slash text) =
          cond-true _ _ _ (lt-ltb _ _ below) in cc
      | inr long ↦ long
    ]

-- where there is no slash the text is the one piece
no_slash : (text : List ℕ) → position is_slash text ≡ None → slice_split is_slash text ≡ text ∷ []
no_slash text e =
    slice_split_none is_slash text (λ k d h. fails_before_first is_slash text k d (let long = long_where_none text e in
    omega arith))

pub names-uncut : (text : List ℕ) → position is_slash text ≡ None → names text ≡ cond (is_name text) (text ∷ []) []
names-uncut text e = ap (filter is_name) (no_slash text e)
