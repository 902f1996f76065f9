-- Numbers that texts begin with. POSIX.1-2017, XCU awk, "Expressions in awk": the initial portion of a string is
-- blanks and a numeric constant; in profile whole a whole one in base ten, in profile double as awk_numbers has it.
use Rattle.std.specs.Prelude.{ℕ, Bool, false, ◌&&◌, ◌||◌, ◌==◌, nat_lt, nat_le, ℤ, pos, neg_ℤ, List, [], ◌∷◌, drop}
use Rattle.std.specs.Prelude.{Option, Some, None, Result, Ok, Err, if◌then◌else◌}
use Rattle.std.specs.List.{prefix_len, take_while, list_all}
use Rattle.std.specs.Char.{is_ascii_digit}
use Rattle.std.specs.Str.Parse.{digits_value}
use Rattle.std.specs.Option.{option_map}
use Rattle.awk_numbers.specs.declared.number.Number.{Number}
use Rattle.awk_numbers.specs.declared.number.Number.TheVariants.{Whole}
use Rattle.awk_numbers.specs.declared.number.Numbers.{Numbers}
use Rattle.awk_numbers.specs.declared.number.Numbers.TheVariants as profile
use Rattle.awk_numbers.specs.Numerals as double
use Rattle.awk_numbers.specs.Operators.{is_in_range}
use Rattle.awk_text.specs.declared.fault.Fault.{Fault}
use Rattle.awk_text.specs.Arithmetic.{ranged}
use Rattle.awk_text.specs.Faults.{or_fault}

-- the bytes of `isspace()` in the POSIX locale: 9 to 13, and the space
abbrev pub is_blank : ℕ → Bool
is_blank b = b == 32 || (nat_le 9 b && nat_le b 13)

-- what is left of a text once what passes at its start is taken away
abbrev pub drop_while : (ℕ → Bool) → List ℕ → List ℕ
drop_while p text = drop (prefix_len p text) text

-- whether a text begins with `-`, and what is left of it without a sign, `+` or `-`
abbrev pub has_minus : List ℕ → Bool
has_minus [] = false
has_minus (b ∷ bs) = b == 45

abbrev pub after_sign : List ℕ → List ℕ
after_sign [] = []
after_sign (b ∷ bs) = if b == 43 || b == 45 then bs else b ∷ bs

abbrev pub signed : Bool → ℕ → ℤ
signed minus n = if minus then neg_ℤ (pos n) else pos n

-- the number of the longest prefix that is blanks, an optional sign and digits, and 0 where that has no digit
abbrev pub number : List ℕ → ℤ
number text = let body =
    drop_while is_blank text in signed (has_minus body) (digits_value 10 (take_while is_ascii_digit (after_sign body)))

-- one or more digits, and then blanks to the end
abbrev pub is_numeral : List ℕ → Bool
is_numeral text = nat_lt 0 (prefix_len is_ascii_digit text) && list_all is_blank (drop_while is_ascii_digit text)

-- the number of a text that is blanks, an optional sign, one or more digits, and blanks, and in range
abbrev pub looks_numeric : List ℕ → Option ℤ
looks_numeric text =
    if is_numeral (after_sign (drop_while is_blank text)) && is_in_range (number text) then Some (number text) else None

-- a whole number as a number
abbrev pub wholly : Result ℤ Fault → Result Number Fault
wholly (Ok n) = Ok (Whole n)
wholly (Err e) = Err e

-- the number that a text begins with, by the profile
abbrev pub number_in : Numbers → List ℕ → Result Number Fault
number_in profile.Whole text = wholly (ranged (number text))
number_in profile.Double text = or_fault (double.number text)

-- the number of a text that looks numeric, by the profile
abbrev pub looks_in : Numbers → List ℕ → Option Number
looks_in profile.Whole text = option_map Whole (looks_numeric text)
looks_in profile.Double text = double.looks_numeric text

-- so many digits, and nothing else, are a number that no test of its range is needed for
abbrev pub most_digits : Numbers → ℕ
most_digits profile.Whole = 18
most_digits profile.Double = 15
