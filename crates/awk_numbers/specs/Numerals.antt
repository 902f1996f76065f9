-- Numerals, and the numbers of texts, in profile double. POSIX.1-2017, XCU awk, "Lexical Conventions" (FLOAT) and
-- "Expressions in awk": blanks, an optional sign and the longest numeral that a text begins with. A numeral is digits
-- with at most one point, then perhaps an exponent, always in base ten; it stands for the double nearest to it.
use Rattle.std.specs.Prelude.{ℕ, Bool, false, ◌&&◌, ◌||◌, ◌==◌, nat_le, pos, List, [], ◌∷◌, drop}
use Rattle.std.specs.Prelude.{Option, Some, None, Result, Ok, if◌then◌else◌}
use Rattle.std.specs.List.{prefix_len, list_all}
use Rattle.std.specs.Result.{result_ok}
use Rattle.std.specs.Float.{binary64}
use Rattle.fast_float.specs.Text.{Parts, scan, has_digits, nearest}
use Rattle.awk_numbers.specs.declared.number.Number.{Number}
use Rattle.awk_numbers.specs.declared.number.Number.TheVariants.{Whole}
use Rattle.awk_numbers.specs.declared.number.NumberFault.{NumberFault}
use Rattle.awk_numbers.specs.Numbers.{settled}

-- the bytes of `isspace()` in the POSIX locale: 9 to 13, and the space
abbrev pub is_blank : ℕ → Bool
is_blank b = b == 32 || (nat_le 9 b && nat_le b 13)

abbrev pub without_blanks : List ℕ → List ℕ
without_blanks text = drop (prefix_len is_blank text) text

-- whether a text begins with `-`, and what is left of it without a sign, `+` or `-`
abbrev pub has_minus : List ℕ → Bool
has_minus [] = false
has_minus (b ∷ bs) = b == 45

abbrev pub without_sign : List ℕ → List ℕ
without_sign [] = []
without_sign (b ∷ bs) = if b == 43 || b == 45 then bs else b ∷ bs

-- what a numeral stands for, with this sign: F1 where that is beyond the largest double
abbrev pub value_of : Bool → Parts → Result Number NumberFault
value_of minus numeral = settled (nearest binary64 minus numeral)

-- the number of a text whose blanks are off: 0 where it begins with no numeral
abbrev pub number_by : List ℕ → Parts → Result Number NumberFault
number_by text numeral = if has_digits numeral then value_of (has_minus text) numeral else Ok (Whole (pos 0))

abbrev pub number : List ℕ → Result Number NumberFault
number text = number_by (without_blanks text) (scan (without_sign (without_blanks text)))

-- the text is one numeral with blanks behind, and there is a number that it stands for
abbrev pub numeric_by : List ℕ → List ℕ → Parts → Option Number
numeric_by text rest numeral =
    if has_digits numeral && list_all is_blank (drop numeral.len rest)
    then result_ok (value_of (has_minus text) numeral)
    else None

abbrev pub looks_numeric : List ℕ → Option Number
looks_numeric text =
    numeric_by (without_blanks text) (without_sign (without_blanks text)) (scan (without_sign (without_blanks text)))

-- a constant of a script: how long the numeral is that a text begins with, and what it stands for
abbrev pub constant_by : Parts → Option (ℕ × Result Number NumberFault)
constant_by numeral = if has_digits numeral then Some (numeral.len, value_of false numeral) else None

abbrev pub constant : List ℕ → Option (ℕ × Result Number NumberFault)
constant text = constant_by (scan text)
