-- Lemmas on the parts of a line.
use Rattle.std.proofs.Common.{◌≡◌, ℕ, zero, suc, ◌<◌, ◌≤◌, ◌+◌, ◌-◌, ◌^◌, Bool, true, false, List, [], ◌∷◌, ◌++◌}
use Rattle.std.proofs.Common.{length, get_or, take, drop, length-append, refl, sym, ap, subst, ◌∙◌, arith}
use Rattle.std.specs.Prelude.{◌==◌, slice_index}
use Rattle.std.specs.Char.{digit_value}
use Rattle.std.specs.Fmt.{decimal}
use Rattle.std.specs.Str.Parse.{AllDigits}
use Rattle.std.proofs.lemmas.Bool.{eq-eqb, eqb-true, false≢true}
use Rattle.std.proofs.lemmas.Fmt.{decimal_is_IsNumeral}
use Rattle.std.proofs.lemmas.Grind.{common_steps}
use Rattle.std.proofs.Math.Seq.{drop-append-add}
use Rattle.std.proofs.lemmas.List.{take_all}
use Rattle.awk_text.specs.declared.place.Place.{Place}
use Rattle.box_advice.specs.LogLines.{HasNo, place_text}

-- ---- cuts

has_no_at : (byte k : ℕ) (text : List ℕ) → HasNo byte text → k < length text → (slice_index text k == byte) ≡ false
has_no_at byte k [] all l = absurd (omega (arith, l))
has_no_at byte zero (one ∷ text) all l = all.0
has_no_at byte (suc k) (one ∷ text) all l = has_no_at byte k text all.1 (omega (arith, l))

front_at : (front back : List ℕ) (k : ℕ) → k < length front → slice_index (front ++ back) k ≡ slice_index front k
front_at front back k l = grind (arith, common_steps)

middle_at : (front back : List ℕ) (byte : ℕ) → slice_index (front ++ byte ∷ back) (length front) ≡ byte
middle_at front back byte = grind (arith, common_steps)

-- a text in which no byte has the value is not cut there
pub none_here : (byte : ℕ) (line front back : List ℕ)
    → ((k : ℕ) → k < length line → (slice_index line k == byte) ≡ false) → line ≡ front ++ byte ∷ back → ⊥
none_here byte line front back none e =
    let inside : length front < length line = grind (arith, common_steps, e) in
    let at : slice_index line (length front) ≡ byte = ap (λ text. slice_index text (length front)) e
    ∙ middle_at front back byte in
    false≢true (sym (none (length front) inside) ∙ eq-eqb _ _ at)

-- where the first byte of this value stands
pub first_here : (byte at : ℕ) (line front back : List ℕ)
    → ((k : ℕ) → k < at → (slice_index line k == byte) ≡ false) → slice_index line at ≡ byte
    → HasNo byte front → line ≡ front ++ byte ∷ back → at ≡ length front
first_here byte at line front back before here all e =
    let middle : slice_index line (length front) ≡ byte = ap (λ text. slice_index text (length front)) e
    ∙ middle_at front back byte in
    let no_more : length front < at → ⊥ = λ l. false≢true (sym (before (length front) l) ∙ eq-eqb _ _ middle) in
    let no_less : at < length front → ⊥ = λ l. false≢true (sym (has_no_at byte at front all l)
    ∙ ap (λ one. one == byte) (sym (front_at front (byte ∷ back) at l)) ∙ ap (λ text. slice_index text at == byte)
    (sym e) ∙ eq-eqb _ _ here) in
    omega (arith, no_more, no_less)

pub front_is : (line front back : List ℕ) (byte at : ℕ) → line ≡ front ++ byte ∷ back → at ≡ length front
    → take at line ≡ front
front_is line front back byte at e same = grind (arith, common_steps, e, same)

pub back_is : (line front back : List ℕ) (byte at : ℕ) → line ≡ front ++ byte ∷ back → at ≡ length front
    → take (length line - (at + 1)) (drop (at + 1) line) ≡ back
back_is line front back byte at e same =
    let behind : drop (at + 1) line ≡ back =
    ap (λ n. drop (n + 1) line) same ∙ ap (drop (length front + 1)) e ∙ drop-append-add front (byte ∷ back) 1 in
    let count : length back ≤ length line - (at + 1) = omega (
      arith,
      ap length e,
      length-append front (byte ∷ back),
      same,
    ) in
    ap (take (length line - (at + 1))) behind ∙ take_all (length line - (at + 1)) back count

-- a text of which no byte has the value
pub has_no_from : (byte : ℕ) (text : List ℕ) → ((k : ℕ) → k < length text → (slice_index text k == byte) ≡ false)
    → HasNo byte text
has_no_from byte [] none = tt
has_no_from byte (one ∷ text) none =
    (none 0 (omega arith), has_no_from byte text (λ k l. none (suc k) (omega (arith, l))))

pub front_has_no : (byte at : ℕ) (line : List ℕ) → at ≤ length line
    → ((k : ℕ) → k < at → (slice_index line k == byte) ≡ false)
    → HasNo byte (take at line)
front_has_no byte at line inside before = has_no_from byte (take at line) (λ k l.
    let short : k < at = grind (arith, common_steps, l) in
    let same : slice_index (take at line) k ≡ slice_index line k = grind (arith, common_steps, short) in
    ap (λ one. one == byte) same ∙ before k short)

-- ---- digits

digits_have_no : (byte : ℕ) (ds : List ℕ) → (digit_value byte < 10 → ⊥) → AllDigits 10 ds → HasNo byte ds
digits_have_no byte [] other all = tt
digits_have_no byte (d ∷ ds) other all = (differs (d == byte) refl, digits_have_no byte ds other all.1)
  where
    differs : (b : Bool) → (d == byte) ≡ b → (d == byte) ≡ false
    differs true e = absurd (other (subst (λ one. digit_value one < 10) (eqb-true d byte e) all.0))
    differs false e = e

pub no_colon : (n : ℕ) → n < 2 ^ 32 → HasNo 58 (decimal n)
no_colon n small = digits_have_no 58 (decimal n) (λ l. omega (arith, l))
    (decimal_is_IsNumeral n (omega (arith, small))).0.1

pub no_blank : (n : ℕ) → n < 2 ^ 32 → HasNo 32 (decimal n)
no_blank n small = digits_have_no 32 (decimal n) (λ l. omega (arith, l))
    (decimal_is_IsNumeral n (omega (arith, small))).0.1

joined_have_no : (byte : ℕ) (front back : List ℕ) → HasNo byte front → HasNo byte back → HasNo byte (front ++ back)
joined_have_no byte [] back first last = last
joined_have_no byte (one ∷ front) back first last = (first.0, joined_have_no byte front back first.1 last)

-- ---- places

abbrev place_at : ℕ → ℕ → Place
place_at line column = record { line = line; column = column }

pub same_place : (line column : ℕ) (place : Place) → line ≡ place.line → column ≡ place.column
    → place_at line column ≡ place
same_place line column place one other = ap (λ n. place_at n column) one ∙ ap (λ n. place_at place.line n) other

pub no_blank_in_place : (place : Place) → place.line < 2 ^ 32 → place.column < 2 ^ 32 → HasNo 32 (place_text place)
no_blank_in_place place line column =
    joined_have_no 32 (decimal place.line) (58 ∷ decimal place.column) (no_blank place.line line) (
      refl,
      no_blank place.column column,
    )
