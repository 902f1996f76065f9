-- Laws of the conversion specifications that a format has.
use Rattle.std.proofs.Common.{◌≡◌, ℕ, zero, suc, ◌+◌, ◌<◌, Bool, true, false, not, ◌&&◌, List, [], ◌∷◌, length, drop}
use Rattle.std.proofs.Common.{◌++◌, append_assoc, get_or, Result, Ok, Err, refl, sym, ap, subst, ◌∙◌, length-drop, arith}
use Rattle.std.specs.List.{position_or_len}
use Rattle.std.specs.Option.{option_to_list}
use Rattle.std.specs.Prelude.{Option}
use Rattle.awk_numbers.specs.declared.number.Numbers.{Numbers}
use Rattle.awk_text.specs.declared.fault.Fault.{Fault}
use Rattle.awk_text.specs.declared.value.Value.{Value}
use Rattle.awk_format.specs.declared.directive.Directive.{Directive}
use Rattle.awk_format.specs.Directives.{◌>>=◌, directive_of, tail_of}
use Rattle.awk_format.specs.Formatted.{pieces}
use Rattle.awk_format.specs.NumberTexts.{all_shown, directives, is_left, is_of_number, shown, shows_number}
use Rattle.awk_format.proofs.Steps.{directive_pieces, is_percent, percent_at}

-- ---- bytes before the first `%`

abbrev Passed : Numbers → ℕ → List ℕ → Type 0
Passed numbers n text = directives (pieces numbers text) ≡ directives (pieces numbers (drop n text))

passed_by : (numbers : Numbers) (here : Bool) (b : ℕ) (bs : List ℕ) → is_percent b ≡ here
    → Passed numbers (position_or_len is_percent bs) bs → Passed numbers (position_or_len is_percent (b ∷ bs)) (b ∷ bs)
passed_by numbers true b bs h rest =
    let none : 0 ≡ position_or_len is_percent (b ∷ bs) = rw h refl in
    subst (λ n. Passed numbers n (b ∷ bs)) none refl
passed_by numbers false b bs h rest =
    let n = position_or_len is_percent bs in
    let one : suc n ≡ 1 + n = omega arith in
    let more : suc n ≡ position_or_len is_percent (b ∷ bs) = rw h one in
    let next : Passed numbers (suc n) (b ∷ bs) = rw h rest in
    subst (λ n. Passed numbers n (b ∷ bs)) more next

pub passed : (numbers : Numbers) (text : List ℕ) → Passed numbers (position_or_len is_percent text) text
passed numbers [] = refl
passed numbers (b ∷ bs) = passed_by numbers (is_percent b) b bs refl (passed numbers bs)

-- ---- one piece

pub directive_left : (numbers : Numbers) (text : List ℕ) → is_percent (get_or text 0 0) ≡ false
    → directives (pieces numbers (0x25 ∷ text))
    ≡ directive_of numbers text ∷ directives (pieces numbers (drop 1 (tail_of text)))
directive_left numbers text h = ap directives (directive_pieces numbers text h)

pub one_left : (found : Bool) (d : Directive) (ds : List (Result Directive Fault))
    → found ≡ false → shows_number d.conversion ≡ true → is_left true ds ≡ is_left found (Ok d ∷ ds)
one_left found d ds e f = rw e (rw f refl)

-- ---- a turn of the loop

pub next_directives : (numbers : Numbers) (text back inner : List ℕ) (n : ℕ)
    → n ≡ position_or_len is_percent text → back ≡ drop n text → 0 < length back → inner ≡ drop 1 back
    → directives (pieces numbers (0x25 ∷ inner)) ≡ directives (pieces numbers text)
next_directives numbers text back inner n e back_is some inner_is =
    let some' : 0 < length (drop n text) = omega (arith, some, ap length back_is) in
    ap (λ t. directives (pieces numbers t)) (ap (λ t. 0x25 ∷ t) (inner_is ∙ ap (drop 1) back_is)
    ∙ sym (percent_at text n e some'))
    ∙ ap (λ m. directives (pieces numbers (drop m text))) e
    ∙ sym (passed numbers text)

pub next_left : (numbers : Numbers) (found : Bool) (text back inner : List ℕ) (n : ℕ)
    → n ≡ position_or_len is_percent text → back ≡ drop n text → 0 < length back → inner ≡ drop 1 back
    → is_left found (directives (pieces numbers (0x25 ∷ inner))) ≡ is_left found (directives (pieces numbers text))
next_left numbers found text back inner n e back_is some inner_is =
    ap (is_left found) (next_directives numbers text back inner n e back_is some inner_is)

pub wanted_next : (before : List Bool) (w : Option Bool) (here left rest whole : List Bool)
    → here ≡ option_to_list w ++ left → here ≡ rest → before ++ rest ≡ whole
    → (before ++ option_to_list w) ++ left ≡ whole
wanted_next before w here left rest whole e f h =
    append_assoc before (option_to_list w) left ∙ ap (λ t. before ++ t) (sym e ∙ f) ∙ h

-- ---- values one after the other

pub shown_fault : (by : List ℕ) (made : List Value) (x : Value) (left xs : List Value) (fault : Fault) → left ≡ x ∷ xs
    → shown by x ≡ Err fault → (all_shown by left >>= λ ys. Ok (made ++ ys)) ≡ Err fault
shown_fault by made x left xs fault e h = rw e (rw h refl)
