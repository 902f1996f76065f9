-- The scan of a separator finds just where one stands.
use Rattle.std.proofs.Common.{◌≡◌, ◌≢◌, ℕ, ◌+◌, Bool, true, false, not, ◌&&◌, cond, eqb, List, [], ◌∷◌, ◌++◌, length}
use Rattle.std.proofs.Common.{take, drop, get_or, slice_index, sym, ap, refl, subst, ◌∙◌, inl, inr, arith}
use Rattle.std.specs.List.{list_all, prefix_len}
use Rattle.std.proofs.lemmas.Bool.{eqb-true, not-false, and_parts}
use Rattle.std.proofs.lemmas.List.{take-append-drop, length-take-le}
use Rattle.std.proofs.lemmas.List.Sums.{prefix_len-le-length}
use Rattle.awk_tokens.specs.Bytes.{Text, is_blank}
use Rattle.awk_tokens.specs.Reads.{IsGap, blank, joined, comment}
use Rattle.awk_tokens.specs.Scan.{gap_len, line_len}
use Rattle.awk_tokens.proofs.Choices.{chosen}
use Rattle.awk_tokens.proofs.Runs.{list_all_take, stops_at}

-- a separator of this length stands first
pub record Gap (z : Text) (n : ℕ) : Type 0 where
  pub gap : Text
  pub rest : Text
  pub parts : z ≡ gap ++ rest
  pub len_is : n ≡ length gap
  pub is : IsGap gap rest

newline_next : (z : Text) → get_or z 0 0 ≡ 10 → z ≡ 10 ∷ drop 1 z
newline_next [] e = absurd (omega arith)
newline_next (b ∷ z) e = ap (λ c. c ∷ z) e

-- a line stops at a newline or at the end
line_stops : (z rest : Text) → drop (line_len z) z ≡ rest → rest ≢ [] → slice_index rest 0 ≡ 10
line_stops z [] e some = absurd (some refl)
line_stops z (b ∷ rest) e some = eqb-true b 10 (not-false (eqb b 10) (stops_at (λ c. not (eqb c 10)) z rest b e))

a_comment : (z : Text) → Gap (35 ∷ z) (1 + line_len z)
a_comment z =
    let n = line_len z in
    record {
      gap = 35 ∷ take n z;
      rest = drop n z;
      parts = ap (λ w. 35 ∷ w) (sym (take-append-drop n z));
      len_is = omega (arith, length-take-le n z (prefix_len-le-length (λ c. not (eqb c 10)) z));
      is = comment (take n z) (drop n z) (list_all_take (λ c. not (eqb c 10)) z) (line_stops z (drop n z) refl);
    }

pub gap_found : (z : Text) (n : ℕ) → gap_len z ≡ n → n ≢ 0 → Gap z n
unfolding gap_len
gap_found [] n e some = absurd (some (sym e))
gap_found (b ∷ z) n e some =
    elim (chosen (is_blank b) 1 (cond (eqb b 92 && eqb (get_or z 0 0) 10) 2 (cond (eqb b 35) (line_len (b ∷ z)) 0)) n e) [
      | inl h ↦ record { gap = b ∷ []; rest = z; parts = refl; len_is = sym h.1; is = blank b z h.0 }
      | inr h ↦
          elim (chosen (eqb b 92 && eqb (get_or z 0 0) 10) 2 (cond (eqb b 35) (line_len (b ∷ z)) 0) n h.1) [
            | inl g ↦
                let both = and_parts (eqb b 92) (eqb (get_or z 0 0) 10) g.0 in
                record {
                  gap = 92 ∷ 10 ∷ [];
                  rest = drop 1 z;
                  parts = ap (λ c. c ∷ z) (eqb-true b 92 both.0) ∙ ap (λ w. 92 ∷ w)
                      (newline_next z (eqb-true (get_or z 0 0) 10 both.1));
                  len_is = sym g.1;
                  is = joined (drop 1 z);
                }
            | inr g ↦
                elim (chosen (eqb b 35) (line_len (b ∷ z)) 0 n g.1) [
                  | inl f ↦
                      let is35 = eqb-true b 35 f.0 in
                      let len : 1 + line_len z ≡ n = sym (ap (λ c. line_len (c ∷ z)) is35) ∙ f.1 in
                      subst (λ k. Gap (b ∷ z) k) len (subst (λ c. Gap (c ∷ z) (1 + line_len z)) (sym is35)
                      (a_comment z))
                  | inr f ↦ absurd (some (sym f.1))
                ]
          ]
    ]

pub blank_len : (b : ℕ) (z : Text) → is_blank b ≡ true → gap_len (b ∷ z) ≡ 1
unfolding gap_len
blank_len b z h = ap (λ t. cond t 1 (cond (eqb b 92 && eqb (get_or z 0 0) 10) 2 (cond (eqb b 35) (line_len (b ∷ z)) 0)))
    h

pub joined_len : (z : Text) → gap_len (92 ∷ 10 ∷ z) ≡ 2
unfolding gap_len
joined_len z = refl

pub comment_len : (z : Text) → gap_len (35 ∷ z) ≡ 1 + line_len z
unfolding gap_len
comment_len z = refl

pub no_gap : (z : Text) → gap_len z ≡ 0 → (gap rest : Text) → z ≡ gap ++ rest → IsGap gap rest → ⊥
no_gap z none _ _ parts (blank b rest h) =
    let len = blank_len b rest h in let same = ap gap_len parts in absurd (omega arith)
no_gap z none _ _ parts (joined rest) = let len = joined_len rest in let same = ap gap_len parts in absurd (omega arith)
no_gap z none _ _ parts (comment line rest h stops) =
    let len = comment_len (line ++ rest) in let same = ap gap_len parts in absurd (omega arith)
