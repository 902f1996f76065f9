-- The readings of a text as a number, as relations on its parts. POSIX.1-2017, XCU awk, "Expressions in awk".
use Rattle.std.specs.Prelude.{◌≡◌, ℕ, ◌<◌, ◌≤◌, true, ℤ, pos, neg_ℤ, List, [], ◌∷◌, ◌++◌, length}
use Rattle.std.specs.Char.{is_ascii_digit}
use Rattle.std.specs.List.{list_all}
use Rattle.std.specs.Str.Parse.{digits_value}
use Rattle.awk_numbers.specs.Operators.{is_in_range}
use Rattle.awk_text.specs.Numerals.{is_blank}

-- an optional sign
pub data Sign : Type 0 where
  unsigned : Sign
  plus : Sign
  minus : Sign

abbrev pub sign_text : Sign → List ℕ
sign_text unsigned = []
sign_text plus = 43 ∷ []
sign_text minus = 45 ∷ []

abbrev pub with_sign : Sign → ℕ → ℤ
with_sign unsigned n = pos n
with_sign plus n = pos n
with_sign minus n = neg_ℤ (pos n)

-- the text is blanks, an optional sign and digits, none of these too, and z is its number
pub record Spells (text : List ℕ) (z : ℤ) : Type 0 where
  pub blanks : List ℕ
  pub sign : Sign
  pub digits : List ℕ
  pub whole : text ≡ blanks ++ (sign_text sign ++ digits)
  pub all_blank : list_all is_blank blanks ≡ true
  pub all_digits : list_all is_ascii_digit digits ≡ true
  pub value : z ≡ with_sign sign (digits_value 10 digits)

-- z is the number of the longest prefix of the text that is such a text
pub record Number (text : List ℕ) (z : ℤ) : Type 0 where
  pub front : List ℕ
  pub rest : List ℕ
  pub whole : text ≡ front ++ rest
  pub spells : Spells front z
  pub longest : (other later : List ℕ) (y : ℤ) → text ≡ other ++ later → Spells other y → length other ≤ length front

-- the text is blanks, an optional sign, one or more digits, and blanks, and z is its number and in range
pub record Looks (text : List ℕ) (z : ℤ) : Type 0 where
  pub blanks : List ℕ
  pub sign : Sign
  pub digits : List ℕ
  pub after : List ℕ
  pub whole : text ≡ blanks ++ (sign_text sign ++ (digits ++ after))
  pub all_blank : list_all is_blank blanks ≡ true
  pub some_digit : 0 < length digits
  pub all_digits : list_all is_ascii_digit digits ≡ true
  pub blank_after : list_all is_blank after ≡ true
  pub value : z ≡ with_sign sign (digits_value 10 digits)
  pub in_range : is_in_range z ≡ true
