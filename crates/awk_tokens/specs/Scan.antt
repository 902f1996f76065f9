-- What the scanning functions answer, as functions of lists. The lexical rule does not stand on
-- them: it is proved of them.
use Rattle.std.specs.Prelude.{ℕ, zero, suc, ◌+◌, ◌-◌, Bool, true, false, min, not, ◌&&◌, ◌||◌, if◌then◌else◌, ◌==◌}
use Rattle.std.specs.Prelude.{[], ◌∷◌, take, drop, length, slice_index, Option, Some, None, Result, Ok, Err}
use Rattle.std.specs.Char.{is_ascii_digit, is_ascii_alphabetic}
use Rattle.std.specs.List.{prefix_len}
use Rattle.awk_numbers.specs.Numerals.{constant}
use Rattle.awk_numbers.specs.declared.number.Number.{Number as Value}
use Rattle.awk_numbers.specs.declared.number.NumberFault.{NumberFault}
use Rattle.awk_numbers.specs.declared.number.Numbers.{Numbers}
use Rattle.awk_numbers.specs.declared.number.Numbers.TheVariants.{Whole, Double}
use Rattle.awk_tokens.specs.Bytes.{Text, is_blank, begins_name, continues_name}
use Rattle.awk_tokens.specs.Signs.{sign_len}
use Rattle.awk_tokens.specs.Words.{word_kind}
use Rattle.awk_tokens.specs.Tokens.{is_whole}
use Rattle.awk_tokens.specs.declared.scan.ErePart.{ErePart}
use Rattle.awk_tokens.specs.declared.scan.ErePart.TheVariants.{Outside, Opened, Inside}
use Rattle.awk_tokens.specs.declared.scan.EreStep.{EreStep}
use Rattle.awk_tokens.specs.declared.scan.EreStep.TheVariants.{Ends, Breaks, Goes}
use Rattle.awk_tokens.specs.declared.kinds.TokenKind.{TokenKind}
use Rattle.awk_tokens.specs.declared.kinds.TokenKind.TheVariants.{Number, Quoted, Pattern, Sign}

abbrev pub digits_len : Text → ℕ
digits_len z = prefix_len is_ascii_digit z

abbrev pub letters_len : Text → ℕ
letters_len z = prefix_len is_ascii_alphabetic z

abbrev pub name_len : Text → ℕ
name_len z = prefix_len continues_name z

-- up to a newline
abbrev pub line_len : Text → ℕ
line_len z = prefix_len (λ b. not (b == 10)) z

-- how long the separator at the front is, 0 where there is none
unfoldable pub gap_len : Text → ℕ
gap_len z =
    if is_blank (slice_index z 0) then 1
    else (if slice_index z 0 == 92 && slice_index z 1 == 10 then 2
    else (if slice_index z 0 == 35 then line_len z else 0))

-- what is left behind the end of a string, if it ends; the flag says that a `\` stands before
abbrev pub string_rest : Bool → Text → Option Text
string_rest escaped [] = None
string_rest true (b ∷ z) = string_rest false z
string_rest false (b ∷ z) = if b == 34 then Some z else (if b == 10 then None else string_rest (b == 92) z)

-- how long the class at the front is, behind its `[`, 0 where there is none
unfoldable pub class_len : Text → ℕ
class_len z =
    if slice_index z 0 == 58
    then (let n = letters_len (drop 1 z) in if slice_index z (n + 1) == 58 && slice_index z (n + 2) == 93 then n + 3
    else 0)
    else 0

abbrev pub outside_step : ℕ → Text → EreStep
outside_step b z =
    if b == 47 then Ends
    else (if b == 10 then Breaks
    else (if b == 92 then Goes Outside 1
    else (if b == 91 then Goes Opened (if slice_index z 0 == 94 then 1 else 0) else Goes Outside 0)))

-- the part is the one behind a `]`
abbrev pub bracket_step : ErePart → ℕ → Text → EreStep
bracket_step part b z =
    if b == 93 then Goes part 0
    else (if b == 10 then Breaks
    else (if b == 92 then Goes Inside 1
    else (if b == 91 then Goes Inside (class_len z) else Goes Inside 0)))

abbrev pub step_of : ErePart → ℕ → Text → EreStep
step_of Outside b z = outside_step b z
step_of Opened b z = bracket_step Inside b z
step_of Inside b z = bracket_step Outside b z

abbrev pub stepped : EreStep → Text → (ErePart → ℕ → Option Text) → Option Text
stepped Ends z go = Some z
stepped Breaks z go = None
stepped (Goes part skip) z go = go part skip

-- what is left behind the end of a pattern, if it ends; the number counts the bytes to pass over
abbrev pub pattern_rest : ErePart → ℕ → Text → Option Text
pattern_rest part skip [] = None
pattern_rest part (suc skip) (b ∷ z) = pattern_rest part skip z
pattern_rest part zero (b ∷ z) = stepped (step_of part b z) z (λ next more. pattern_rest next more z)

abbrev pub saturated : ℕ → ℕ
saturated n = min n 18446744073709551615

-- a token's kind and length, or the code of a refusal
abbrev pub Scanned : Type 0
Scanned = Result (TokenKind × ℕ) ℕ

abbrev pub closed : TokenKind → Text → Option Text → Scanned
closed kind z None = Err 2
closed kind z (Some rest) = Ok (kind, length z - length rest)

-- of a number without a point
abbrev pub whole : Text → Scanned
whole z = let n = digits_len z in if is_whole (take n z) (drop n z) then Ok (Number, n) else Err 3

abbrev pub double : Option (ℕ × Result Value NumberFault) → Scanned
double (Some (n, Ok value)) = Ok (Number, n)
double (Some (n, Err fault)) = Err 3
double None = Err 3

-- of a text that begins as numerals do
unfoldable pub number : Numbers → Text → Scanned
number Whole z = whole z
number Double z = double (constant z)

unfoldable pub word : Numbers → Text → TokenKind × ℕ
word numbers z = let n = name_len z in (word_kind numbers (take n z) (drop n z), n)

unfoldable pub sign : Text → Scanned
sign z = let n = sign_len (slice_index z 0) (slice_index z 1) in if n == 0 then Err 1 else Ok (Sign, n)

-- a digit, or a point and a digit
unfoldable pub begins_number : ℕ → ℕ → Bool
begins_number b next = is_ascii_digit b || (b == 46 && is_ascii_digit next)

-- the token at the front of a text that is not empty and begins with no separator
unfoldable pub first_token : Numbers → Bool → Text → Scanned
first_token numbers operand z =
    let b = slice_index z 0 in
    if begins_number b (slice_index z 1) then number numbers z
    else (if begins_name b then Ok (word numbers z)
    else (if b == 34 then closed Quoted z (string_rest false (drop 1 z))
    else (if b == 47 && operand then closed Pattern z (pattern_rest Outside 0 (drop 1 z))
    else sign z)))
