-- Laws of texts made piece by piece.
use Rattle.std.proofs.Common.{◌≡◌, ℕ, zero, suc, ◌+◌, ◌-◌, ◌<◌, ◌≤◌, ◌==◌, min, Bool, true, false, cond, List, [], ◌∷◌}
use Rattle.std.proofs.Common.{◌++◌, length, take, drop, get_or, Option, Some, None, Result, Ok, Err, refl, sym, ap}
use Rattle.std.proofs.Common.{subst, ◌∙◌, append_assoc, length-append, length-drop, arith}
use Rattle.std.proofs.lemmas.Bool.{eqb-true, false≢true}
use Rattle.std.proofs.lemmas.Bool.Decides.{nat_tests}
use Rattle.std.proofs.lemmas.List.{drop-drop, drop_min, drop_more}
use Rattle.std.proofs.lemmas.List.Sums.{passes_at_first}
use Rattle.std.specs.Char.{is_ascii_digit}
use Rattle.std.specs.List.{position_or_len, prefix_len}
use Rattle.awk_numbers.specs.declared.number.Numbers.{Numbers}
use Rattle.awk_text.specs.Numerals.{drop_while}
use Rattle.awk_text.specs.declared.fault.Fault.{Fault}
use Rattle.awk_text.specs.declared.value.Value.{Value}
use Rattle.awk_format.specs.declared.directive.Directive.{Directive}
use Rattle.awk_format.specs.Directives.{◌>>=◌, after_precision, after_width, directive_of, is_flag, tail_of}
use Rattle.awk_format.specs.Fields.{converted}
use Rattle.awk_format.specs.Formatted.{completed, directed, made, made_of, piece_length, piece_of, pieces, pieces_after}
use Rattle.awk_format.specs.Formatted.{within}
use Rattle.awk_format.specs.Written.{Writes, written}

-- one piece after the other is the two together
pub written-written : (o : Option (List ℕ)) (a b : List ℕ) → written (written o a) b ≡ written o (a ++ b)
written-written None a b = refl
written-written (Some text) a b = grind (arith, nat_tests, length-append {A = ℕ}, append_assoc {A = ℕ})

pub completed-written : (o : Option (List ℕ)) (piece : List ℕ) (r : Result (List ℕ) Fault)
    → completed (written o piece) r ≡ completed o (r >>= λ text. Ok (piece ++ text))
completed-written o piece (Err e) = refl
completed-written o piece (Ok text) = ap within (written-written o piece text)

pub pieces_after-drop : (numbers : Numbers) (k : ℕ) (text : List ℕ)
    → pieces_after numbers k text ≡ pieces numbers (drop k text)
pieces_after-drop numbers zero text = refl
pieces_after-drop numbers (suc k) [] = refl
pieces_after-drop numbers (suc k) (b ∷ bs) = pieces_after-drop numbers k bs

-- ---- bytes before the first `%`

none_before : (r : Result (List ℕ) Fault) → r ≡ (r >>= λ text. Ok ([] ++ text))
none_before (Ok text) = refl
none_before (Err e) = refl

one_before : (b : ℕ) (piece : List ℕ) (r : Result (List ℕ) Fault) → (r >>= λ text. Ok (piece ++ text))
    >>= (λ text. Ok (b ∷ text)) ≡ (r >>= λ text. Ok ((b ∷ piece) ++ text))
one_before b piece (Ok text) = refl
one_before b piece (Err e) = refl

abbrev pub is_percent : ℕ → Bool
is_percent b = b == 0x25

-- the first n bytes are made first
abbrev MadeFirst : Numbers → ℕ → List ℕ → List Value → Type 0
MadeFirst numbers n text values = made_of numbers text values
    ≡ (made_of numbers (drop n text) values >>= λ later. Ok (take n text ++ later))

abbrev BeforePercent : Numbers → List ℕ → List Value → Type 0
BeforePercent numbers text values = MadeFirst numbers (position_or_len is_percent text) text values

one_more_first : (numbers : Numbers) (b n : ℕ) (bs : List ℕ) (values : List Value) → is_percent b ≡ false
    → MadeFirst numbers n bs values
    → MadeFirst numbers (suc n) (b ∷ bs) values
one_more_first numbers b n bs values h rest = rw h (ap (λ r. r >>= λ text. Ok (b ∷ text)) rest
    ∙ one_before b (take n bs)
    (made_of numbers (drop n bs) values))

before_by : (numbers : Numbers) (here : Bool) (b : ℕ) (bs : List ℕ) (values : List Value) → is_percent b ≡ here
    → BeforePercent numbers bs values
    → BeforePercent numbers (b ∷ bs) values
before_by numbers true b bs values h rest =
    let P : ℕ → Type 0 = λ n. MadeFirst numbers n (b ∷ bs) values in
    let none : 0 ≡ position_or_len is_percent (b ∷ bs) = rw h refl in
    subst P none (none_before (made_of numbers (b ∷ bs) values))
before_by numbers false b bs values h rest =
    let P : ℕ → Type 0 = λ n. MadeFirst numbers n (b ∷ bs) values in
    let n = position_or_len is_percent bs in
    let one : suc n ≡ 1 + n = omega arith in
    let more : suc n ≡ position_or_len is_percent (b ∷ bs) = rw h one in
    subst P more (one_more_first numbers b n bs values h rest)

before_percent : (numbers : Numbers) (text : List ℕ) (values : List Value) → BeforePercent numbers text values
before_percent numbers [] values = refl
before_percent numbers (b ∷ bs) values = before_by numbers (is_percent b) b bs values refl
    (before_percent numbers bs values)

-- the bytes before the first `%` are made first
pub plain_step : (numbers : Numbers) (o : Option (List ℕ)) (text : List ℕ) (values : List Value) (n : ℕ)
    → n ≡ position_or_len is_percent text → completed (written o (take n text)) (made_of numbers (drop n text) values)
    ≡ completed o (made_of numbers text values)
plain_step numbers o text values n e =
    let m = position_or_len is_percent text in
    rw e (completed-written o (take m text) (made_of numbers (drop m text) values) ∙ ap (completed o)
    (sym (before_percent numbers text values)))

-- ---- what is left of a text

abbrev Rests : List ℕ → List ℕ → Type 0
Rests text rest = (n : ℕ) × (rest ≡ drop n text)

rests_of_rest : (text rest later : List ℕ) → Rests text rest → Rests rest later → Rests text later
rests_of_rest text rest later (m, e) (n, f) = (m + n, f ∙ ap (drop n) e ∙ drop-drop n m text)

precision_rests_by : (point : Bool) (b : ℕ) (bs : List ℕ)
    → Rests (b ∷ bs) (cond point (drop_while is_ascii_digit bs) (b ∷ bs))
precision_rests_by true b bs = (suc (prefix_len is_ascii_digit bs), refl)
precision_rests_by false b bs = (0, refl)

precision_rests : (text : List ℕ) → Rests text (after_precision text)
precision_rests [] = (0, refl)
precision_rests (b ∷ bs) = precision_rests_by (b == 0x2E) b bs

tail_rests : (text : List ℕ) → Rests text (tail_of text)
tail_rests text =
    let flags = prefix_len is_flag text in
    let width = prefix_len is_ascii_digit (drop flags text) in
    rests_of_rest text (after_width text) (tail_of text) (flags + width, drop-drop width flags text)
    (precision_rests (after_width text))

past_rest : (text rest : List ℕ) → Rests text rest → drop (length text - length rest + 1) text ≡ drop 1 rest
past_rest text rest (n, e) =
    let k = length text - length (drop n text) in
    let k_is : k ≡ min n (length text) = omega (arith, length-drop n text) in
    rw e (sym (drop-drop 1 k text) ∙ ap (drop 1) (ap (λ m. drop m text) k_is ∙ drop_min n text))

pub tail_is_shorter : (text : List ℕ) → length (drop 1 (tail_of text)) ≤ length text
tail_is_shorter text = by (tail_rests text)
  where
    by : Rests text (tail_of text) → length (drop 1 (tail_of text)) ≤ length text
    by (n, e) = omega (arith, length-drop 1 (tail_of text), ap length e, length-drop n text)

-- ---- one piece

pub percent_step : (numbers : Numbers) (o : Option (List ℕ)) (rest : List ℕ) (values : List Value)
    → completed (written o (0x25 ∷ [])) (made_of numbers rest values)
    ≡ completed o (made_of numbers (0x25 ∷ 0x25 ∷ rest) values)
percent_step numbers o rest values = completed-written o (0x25 ∷ []) (made_of numbers rest values)

directed_at : (numbers : Numbers) (text : List ℕ) → is_percent (get_or text 0 0) ≡ false
    → piece_of numbers text ≡ directed (directive_of numbers text)
directed_at numbers [] h = refl
directed_at numbers (b ∷ bs) h = rw h refl

drop-piece_length : (text : List ℕ) → is_percent (get_or text 0 0) ≡ false → drop (piece_length text) text
    ≡ drop 1 (tail_of text)
drop-piece_length [] h = refl
drop-piece_length (b ∷ bs) h = rw h (past_rest (b ∷ bs) (tail_of (b ∷ bs)) (tail_rests (b ∷ bs)))

-- what begins at a `%` with no other one behind it
pub directive_pieces : (numbers : Numbers) (text : List ℕ) → is_percent (get_or text 0 0) ≡ false
    → pieces numbers (0x25 ∷ text) ≡ directed (directive_of numbers text) ∷ pieces numbers (drop 1 (tail_of text))
directive_pieces numbers text h =
    ap (λ p. p ∷ pieces_after numbers (piece_length text) text) (directed_at numbers text h)
    ∙ ap (λ ps. directed (directive_of numbers text) ∷ ps) (pieces_after-drop numbers (piece_length text) text
    ∙ ap (pieces numbers) (drop-piece_length text h))

pub directive_step : (numbers : Numbers) (text : List ℕ) (values : List Value) → is_percent (get_or text 0 0) ≡ false
    → made_of numbers (0x25 ∷ text) values ≡ made numbers (directed (directive_of numbers text) ∷ pieces numbers (drop 1
    (tail_of text))) values
directive_step numbers text values h = ap (λ ps. made numbers ps values) (directive_pieces numbers text h)

pub converted_step : (o o' : Option (List ℕ)) (r later : Result (List ℕ) Fault) → Writes o r o'
    → completed o' later ≡ completed o (r >>= λ field. later >>= λ text. Ok (field ++ text))
converted_step o o' (Ok field) later h = rw h (completed-written o field later)
converted_step o o' (Err e) later h = absurd h

pub shown_step : (numbers : Numbers) (o o' : Option (List ℕ)) (text rest : List ℕ) (values others : List Value)
    (d : Directive)
    (value : Value) → is_percent (get_or text 0 0) ≡ false → directive_of numbers text ≡ Ok d
    → rest ≡ drop 1 (tail_of text)
    → values ≡ value ∷ others → Writes o (converted numbers d value) o' → completed o' (made_of numbers rest others)
    ≡ completed o (made_of numbers (0x25 ∷ text) values)
shown_step numbers o o' text rest values others d value h ok rest_is values_is wrote =
    let later = made_of numbers (drop 1 (tail_of text)) others in
    rw rest_is (rw values_is (
    converted_step o o' (converted numbers d value) later wrote
    ∙ ap (λ r. completed o (made numbers (directed r ∷ pieces numbers (drop 1 (tail_of text))) (value ∷ others)))
    (sym ok)
    ∙ ap (completed o) (sym (directive_step numbers text (value ∷ others) h))))

-- what the first `%` begins
pub percent_at : (text : List ℕ) (n : ℕ) → n ≡ position_or_len is_percent text → 0 < length (drop n text)
    → drop n text ≡ 0x25 ∷ drop 1 (drop n text)
percent_at text n e some =
    let within : n < length text = omega (arith, length-drop n text) in
    let passes : is_percent (get_or text n 0) ≡ true = rw e (passes_at_first is_percent text 0 (omega (arith, e))) in
    let here : get_or text n 0 ≡ 0x25 = eqb-true (get_or text n 0) 0x25 passes in
    drop_more text n 0 within ∙ ap (λ b. b ∷ drop (n + 1) text) here ∙ ap (λ bs. 0x25 ∷ bs) (sym (drop-drop 1 n text))

pub percent_shown : (numbers : Numbers) (o o' : Option (List ℕ)) (text rest : List ℕ) (values : List Value)
    → is_percent (get_or text 0 0)
    ≡ true → rest ≡ drop 1 text → o' ≡ written o (0x25 ∷ []) → completed o' (made_of numbers rest values)
    ≡ completed o (made_of numbers (0x25 ∷ text) values)
percent_shown numbers o o' [] rest values h rest_is wrote = absurd (false≢true h)
percent_shown numbers o o' (b ∷ bs) rest values h rest_is wrote =
    rw wrote (rw rest_is (percent_step numbers o bs values ∙ ap (λ x. completed o (made_of numbers
    (0x25 ∷ x ∷ bs) values))
    (sym (eqb-true b 0x25 h))))

-- ---- what the loop does in a turn

made_of_inner : (numbers : Numbers) (text back inner : List ℕ) (values : List Value) (n : ℕ)
    → n ≡ position_or_len is_percent text
    → back ≡ drop n text → 0 < length back → inner ≡ drop 1 back → made_of numbers (0x25 ∷ inner) values
    ≡ made_of numbers (drop n text) values
made_of_inner numbers text back inner values n e back_is some inner_is =
    let some' : 0 < length (drop n text) = omega (arith, some, ap length back_is) in
    ap (λ t. made_of numbers t values) (ap (λ t. 0x25 ∷ t) (inner_is ∙ ap (drop 1) back_is)
    ∙ sym (percent_at text n e some'))

pub next_step : (numbers : Numbers) (o o1 o2 : Option (List ℕ)) (text front back inner rest : List ℕ)
    (values others : List Value) (n : ℕ)
    (whole : Result (List ℕ) Fault) → n ≡ position_or_len is_percent text → front ≡ take n text → back ≡ drop n text
    → 0 < length back → inner ≡ drop 1 back → o1 ≡ written o front
    → completed o2 (made_of numbers rest others) ≡ completed o1
    (made_of numbers (0x25 ∷ inner) values) → completed o (made_of numbers text values) ≡ whole
    → completed o2 (made_of numbers rest others)
    ≡ whole
next_step numbers o o1 o2 text front back inner rest values others n whole e front_is back_is some inner_is wrote
    shown so_far =
    shown
    ∙ ap (completed o1) (made_of_inner numbers text back inner values n e back_is some inner_is)
    ∙ ap (λ x. completed x (made_of numbers (drop n text) values)) (wrote ∙ ap (written o) front_is)
    ∙ plain_step numbers o text values n e
    ∙ so_far

pub next_fault : (numbers : Numbers) (o : Option (List ℕ)) (text back inner : List ℕ) (values : List Value) (n : ℕ)
    (whole : Result (List ℕ) Fault) (fault : Fault) → n ≡ position_or_len is_percent text → back ≡ drop n text
    → 0 < length back → inner ≡ drop 1 back → made_of numbers (0x25 ∷ inner) values ≡ Err fault
    → completed o (made_of numbers text values) ≡ whole → whole ≡ Err fault
next_fault numbers o text back inner values n whole fault e back_is some inner_is failed so_far =
    sym so_far
    ∙ sym (plain_step numbers o text values n e)
    ∙ ap (completed (written o (take n text))) (sym (made_of_inner numbers text back inner values n e back_is some
    inner_is)
    ∙ failed)
