-- Texts by significant digits.
use Rattle.std.proofs.Common.{ℕ, suc, ◌≡◌, ◌+◌, ◌-◌, ◌<◌, ◌≤◌, ◌==◌, ◌&&◌, Bool, true, false, List, [], ◌∷◌, ◌++◌}
use Rattle.std.proofs.Common.{length, take, replicate, get_or, refl, sym, ap, ◌∙◌, arith, length-append}
use Rattle.std.specs.Bool.{if◌then◌else◌}
use Rattle.std.proofs.lemmas.Bool.{eq-eqb, ne_eqb}
use Rattle.std.specs.Float.{Float, binary64, float_is_finite}
use lib.Ieee.{of_bits}
use lib.Seq.{take-suc}
use Rattle.awk_numbers.specs.Decimal.{padded, pointed}
use Rattle.awk_numbers.specs.Exponents.{exponent_text, mantissa, place}
use Rattle.awk_numbers.specs.General.{general, is_plain, plain, shortened, stripped}
use Rattle.awk_numbers.proofs.Closest.{no_fixed}
use Rattle.awk_numbers.proofs.Sizes.{text}
use Rattle.awk_numbers.proofs.Significant.{as_padded, by_mantissa, by_place, no_units_of}

-- ---- bytes off the end
stripped_same : (last : ℕ) (xs : List ℕ) → stripped last (xs ++ (last ∷ [])) ≡ stripped last xs
stripped_same last [] = rw (eq-eqb last last refl) refl
stripped_same last (b ∷ bs) =
    ap (λ (t : List ℕ). if b == last && length t == 0 then [] else b ∷ t) (stripped_same last bs)

pick : (p q : Bool) (u v : List ℕ) → q ≡ false → (if p && q then u else v) ≡ v
pick true q u v e = rw e refl
pick false q u v e = refl

stripped_other : (last d : ℕ) (xs : List ℕ) → (d ≡ last → ⊥) → stripped last (xs ++ (d ∷ [])) ≡ xs ++ (d ∷ [])
stripped_other last d [] h = rw (ne_eqb d last h) refl
stripped_other last d (b ∷ bs) h =
    let some : (length (bs ++ (d ∷ [])) == 0) ≡ false =
    ne_eqb (length (bs ++ (d ∷ []))) 0 (λ e. omega (arith, e, length-append bs (d ∷ []))) in
    ap (λ (t : List ℕ). if b == last && length t == 0 then [] else b ∷ t) (stripped_other last d bs h)
    ∙ pick (b == last) (length (bs ++ (d ∷ [])) == 0) [] (b ∷ (bs ++ (d ∷ []))) some

ending : (xs : List ℕ) (k : ℕ) → k ≤ length xs → 0 < k → take k xs ≡ take (k - 1) xs ++ (get_or xs (k - 1) 0 ∷ [])
ending xs k h l =
    let more : k ≡ suc (k - 1) = omega arith in
    ap (λ (t : ℕ). take t xs) more ∙ take-suc xs (k - 1) 0 (omega arith)

pub kept_end : (xs : List ℕ) (last k : ℕ) → k ≤ length xs → 0 < k → (get_or xs (k - 1) 0 ≡ last → ⊥)
    → stripped last xs ≡ stripped last (take k xs) → take k xs ≡ stripped last xs
kept_end xs last k h l ne e =
    ending xs k h l ∙ sym (stripped_other last (get_or xs (k - 1) 0) (take (k - 1) xs) ne)
    ∙ ap (stripped last) (sym (ending xs k h l)) ∙ sym e

pub dropped_end : (xs : List ℕ) (last k : ℕ) → k ≤ length xs → 0 < k → get_or xs (k - 1) 0 ≡ last
    → stripped last xs ≡ stripped last (take k xs) → stripped last xs ≡ stripped last (take (k - 1) xs)
dropped_end xs last k h l same e =
    e ∙ ap (stripped last) (ending xs k h l ∙ ap (λ (d : ℕ). take (k - 1) xs ++ (d ∷ [])) same)
    ∙ stripped_same last (take (k - 1) xs)

pub no_places : (places : ℕ) (t : List ℕ) → places ≡ 0 → t ≡ shortened places t
no_places places t e = rw (eq-eqb places 0 e) refl

pub some_places : (places : ℕ) (t : List ℕ) → (places ≡ 0 → ⊥) → stripped 46 (stripped 48 t) ≡ shortened places t
some_places places t h = rw (ne_eqb places 0 h) refl

-- ---- the two styles
abbrev with_exponent : ℕ → ℕ → List ℕ → ℕ → List ℕ
with_exponent letter count digits k = shortened (count - 1) (pointed (count - 1) digits) ++ exponent_text letter k

abbrev by_place_at : ℕ → Float → ℕ → ℕ → List ℕ → List ℕ
by_place_at letter x count k digits =
    if is_plain count k then plain x (count + 1073 - k) else with_exponent letter count digits k

general_is : (letter : ℕ) (x : Float) (count : ℕ)
    → general letter x count ≡ by_place_at letter x count (place x count) (padded count (mantissa x count))
unfolding general
general_is letter x count = refl

pub as_plain : (letter : ℕ) (x : Float) (count k : ℕ) → k ≡ place x count → is_plain count k ≡ true
    → plain x (count + 1073 - k) ≡ general letter x count
as_plain letter x count k e h =
    let own = padded count (mantissa x count) in
    sym (general_is letter x count ∙ ap (λ (t : ℕ). by_place_at letter x count t own) (sym e)
    ∙ ap (λ (b : Bool). if b then plain x (count + 1073 - k) else with_exponent letter count own k) h)

pub as_scientific : (letter : ℕ) (x : Float) (count k : ℕ) (own : List ℕ) → k ≡ place x count
    → is_plain count k ≡ false → own ≡ text (mantissa x count)
    → shortened (count - 1) (pointed (count - 1) (replicate (count - length own) 48 ++ own)) ++ exponent_text letter k
    ≡ general letter x count
as_scientific letter x count k own e h same =
    let all' = padded count (mantissa x count) in
    ap (λ (t : List ℕ). with_exponent letter count t k) (as_padded count (mantissa x count) own same)
    ∙ sym (general_is letter x count ∙ ap (λ (t : ℕ). by_place_at letter x count t all') (sym e)
    ∙ ap (λ (b : Bool). if b then plain x (count + 1073 - k) else with_exponent letter count all' k) h)

pub no_general : (letter : ℕ) (x : Float) (count : ℕ) → float_is_finite x ≡ false
    → general letter (of_bits binary64 0) count ≡ general letter x count
no_general letter x count h =
    let zero' = of_bits binary64 0 in
    let e = no_units_of x h in
    let k = place x count in
    let own = padded count (mantissa x count) in
    general_is letter zero' count
    ∙ (λ i. by_place_at letter zero' count (by_place zero' x count e i)
    (padded count (by_mantissa zero' x count e i)))
    ∙ ap (λ (t : List ℕ). if is_plain count k then shortened (count + 1073 - k) t
    else with_exponent letter count own k) (no_fixed x (count + 1073 - k) h)
    ∙ sym (general_is letter x count)
