-- A text has one list of fields, and a record that is kept has the same ones.
use Rattle.std.proofs.Common.{◌≡◌, ℕ, ◌+◌, ◌<◌, Bool, List, [], ◌∷◌, length, map, Option, inl, inr, refl, sym, ◌∙◌, ap}
use Rattle.std.proofs.Common.{subst, arith}
use Rattle.std.specs.Prelude.{Some, None}
use Rattle.awk_ere.specs.Best.{Best}
use Rattle.awk_ere.proofs.Alone.{one_match, one_pattern}
use Rattle.awk_fields.specs.Fields.{FindsSeparator, Separators, Parts, behind, no_more, passed, then_one, between}
use Rattle.awk_fields.specs.Fields.{separating}
use Rattle.awk_fields.specs.Laws.{OneList, OneRow, KeptAgain, KeptFields}
use Rattle.awk_fields.specs.Rows.{Field, Held, unsplit, known, Row, AreHeld, HasFields, IsKept, input}
use Rattle.awk_fields.specs.Separators.{Separator, blanks, nothing, byte, ere}
use Rattle.awk_fields.proofs.Bests.{match_le}

module _ (source : List ℕ) (newline : Bool) (s : List ℕ) (from : ℕ) where
  one_separator : (a b : Option (ℕ × ℕ)) → FindsSeparator source newline s from a
      → FindsSeparator source newline s from b → a ≡ b
  one_separator a b (p, is, best) (q, again, other) =
      one_match s (separating newline p) from a b best (subst (λ x. Best s (separating newline x) from b)
      (one_pattern source q p again is) other)

  the_some : {m n : ℕ × ℕ} → Some m ≡ Some n → m ≡ n
  the_some e = cc

  same_separator : {m n : ℕ × ℕ} → FindsSeparator source newline s from (Some m)
      → FindsSeparator source newline s from (Some n) → m ≡ n
  same_separator {m = m} {n = n} h g = the_some (one_separator (Some m) (Some n) h g)

  no_separator : {m : ℕ × ℕ} → FindsSeparator source newline s from None → FindsSeparator source newline s from (Some m)
      → ⊥
  no_separator {m = m} h g = let e = one_separator None (Some m) h g in cc

  beyond : {m : ℕ × ℕ} → length s < from → FindsSeparator source newline s from (Some m) → ⊥
  beyond {m = m} h (p, is, best) = let le = match_le s (separating newline p) m.0 m.1 best.matches in
      omega (arith, best.after, best.within)

one_separators : {source : List ℕ} {newline : Bool} {s : List ℕ} {from : ℕ} {ms ns : List (ℕ × ℕ)}
    → Separators source newline s from ms → Separators source newline s from ns → ms ≡ ns
one_separators (behind a b c d h) (behind a' b' c' d' g) = refl
one_separators (behind a b c d h) (no_more a' b' c' d' g) = refl
one_separators (behind a b c d h) (passed a' b' c' d' at rest g e) = absurd (beyond a b c d h g)
one_separators (behind a b c d h) (then_one a' b' c' d' start end rest l g e) = absurd (beyond a b c d h g)
one_separators (no_more a b c d h) (behind a' b' c' d' g) = refl
one_separators (no_more a b c d h) (no_more a' b' c' d' g) = refl
one_separators (no_more a b c d h) (passed a' b' c' d' at rest g e) = absurd (no_separator a b c d h g)
one_separators (no_more a b c d h) (then_one a' b' c' d' start end rest l g e) = absurd (no_separator a b c d h g)
one_separators (passed a b c d at rest h e) (behind a' b' c' d' g) = absurd (beyond a b c d g h)
one_separators (passed a b c d at rest h e) (no_more a' b' c' d' g) = absurd (no_separator a b c d g h)
one_separators (passed a b c d at rest h e) (passed a' b' c' d' at' rest' g e') =
    one_separators e (subst (λ n. Separators a b c (n + 1) rest') (ap (λ m. m.0) (same_separator a b c d g h)) e')
one_separators (passed a b c d at rest h e) (then_one a' b' c' d' start end rest' l g e') =
    absurd (let x = same_separator a b c d h g in let y : at ≡ start = ap (λ m. m.0) x in
    let z : at ≡ end = ap (λ m. m.1) x in omega arith)
one_separators (then_one a b c d start end rest l h e) (behind a' b' c' d' g) = absurd (beyond a b c d g h)
one_separators (then_one a b c d start end rest l h e) (no_more a' b' c' d' g) = absurd (no_separator a b c d g h)
one_separators (then_one a b c d start end rest l h e) (passed a' b' c' d' at rest' g e') =
    absurd (let x = same_separator a b c d h g in let y : at ≡ start = ap (λ m. m.0) (sym x) in
    let z : at ≡ end = ap (λ m. m.1) (sym x) in omega arith)
one_separators (then_one a b c d start end rest l h e) (then_one a' b' c' d' start' end' rest' l' g e') =
    let m = same_separator a b c d h g in
    let r = one_separators e (subst (λ n. Separators a b c n rest') (ap (λ m. m.1) (sym m)) e') in
    ap (λ xs. (start, end) ∷ xs) r ∙ ap (λ x. x ∷ rest') m

one_parts : (by : Separator) (s : List ℕ) (xs ys : List (List ℕ)) → Parts by s xs → Parts by s ys → xs ≡ ys
one_parts blanks s xs ys h g = h ∙ sym g
one_parts nothing s xs ys h g = h ∙ sym g
one_parts (byte c newline) s xs ys h g = h ∙ sym g
one_parts (ere source newline) s xs ys (ms, h, e) (ns, g, d) = e ∙ ap (between s 0) (one_separators h g) ∙ sym d

pub one_list : OneList
one_list by [] xs ys h g = h ∙ sym g
one_list by (b ∷ s) xs ys h g = one_parts by (b ∷ s) xs ys h g

one_held : (whole : List ℕ) (held : Held) (fs gs : List Field) → AreHeld whole held fs → AreHeld whole held gs → fs ≡ gs
one_held whole (unsplit by) fs gs (xs, h, e) (ys, g, d) = e ∙ ap (map input) (one_list by whole xs ys h g) ∙ sym d
one_held whole (known found) fs gs h g = h ∙ sym g

pub one_row : OneRow
one_row row fs gs h g = one_held row.whole row.fields fs gs h g

pub kept_fields : KeptFields
kept_fields old new fields (inl e) = (
  (λ h. subst (λ r. HasFields r fields) e h),
  (λ h. subst (λ r. HasFields r fields) (sym e) h),
)
kept_fields old new fields (inr (fs, has, e)) = (
  (λ h. subst (λ xs. HasFields old xs) (sym (subst (λ r. HasFields r fields) e h)) has),
  (λ h. subst (λ r. HasFields r fields) (sym e) (one_row old fields fs h has)),
)

pub kept_again : KeptAgain
kept_again a b c (inl e) g = subst (λ r. IsKept r c) e g
kept_again a b c (inr h) (inl e) = subst (λ r. IsKept a r) (sym e) (inr h)
kept_again a b c (inr (fs, has, e)) (inr (gs, again, d)) =
    inr (
      gs,
      (kept_fields a b gs (inr (fs, has, e))).0 again,
      d ∙ ap (λ (r : Row). record { whole = r.whole; fields = known gs }) e,
    )
