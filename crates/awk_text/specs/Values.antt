-- Values as texts, numbers and truths, and their order. POSIX.1-2017, XCU awk, "Expressions in awk".
use Rattle.std.specs.Prelude.{ℕ, Bool, nat_lt, pos, List, [], length, Option, Some, None, Result, Ok}
use Rattle.std.specs.Ordering.{nat_cmp}
use Rattle.std.specs.declared.cmp.Ordering.{Ordering}
use Rattle.std.specs.Fmt.{signed_decimal}
use Rattle.std.specs.Cmp.Lexicographic.{slice_cmp}
use Rattle.awk_numbers.specs.declared.number.Number.{Number}
use Rattle.awk_numbers.specs.declared.number.Number.TheVariants as number
use Rattle.awk_numbers.specs.declared.number.Numbers.{Numbers}
use Rattle.awk_numbers.specs.Operators as on
use Rattle.awk_numbers.specs.Texts.{real_text}
use Rattle.awk_text.specs.declared.value.Value.{Value}
use Rattle.awk_text.specs.declared.value.Value.TheVariants.{Unset, Num, Real, Text, Input}
use Rattle.awk_text.specs.declared.fault.Fault.{Fault}
use Rattle.awk_text.specs.Numerals.{number_in, looks_in}

-- the value that a number is
abbrev pub of_number : Number → Value
of_number (number.Whole n) = Num n
of_number (number.Real x) = Real x

-- the text of a number: decimal digits, with `-` where it is negative; of one with a fraction as `%.6g` has it
abbrev pub number_text : Number → List ℕ
number_text (number.Whole n) = signed_decimal n
number_text (number.Real x) = real_text x

abbrev pub text_of : Value → List ℕ
text_of Unset = []
text_of (Num n) = number_text (number.Whole n)
text_of (Real x) = number_text (number.Real x)
text_of (Text text) = text
text_of (Input text) = text

-- the number by a profile: that which the text begins with, F1 where it is out of range
abbrev pub number_of : Numbers → Value → Result Number Fault
number_of numbers Unset = Ok (number.Whole (pos 0))
number_of numbers (Num n) = Ok (number.Whole n)
number_of numbers (Real x) = Ok (number.Real x)
number_of numbers (Text text) = number_in numbers text
number_of numbers (Input text) = number_in numbers text

-- the number of a value that is compared and tested as one
abbrev pub numeric : Numbers → Value → Option Number
numeric numbers Unset = Some (number.Whole (pos 0))
numeric numbers (Num n) = Some (number.Whole n)
numeric numbers (Real x) = Some (number.Real x)
numeric numbers (Text text) = None
numeric numbers (Input text) = looks_in numbers text

-- a number other than zero, or a text that is not empty
abbrev pub truth_by : Option Number → List ℕ → Bool
truth_by (Some n) text = on.truth n
truth_by None text = nat_lt 0 (length text)

abbrev pub truth : Numbers → Value → Bool
truth numbers value = truth_by (numeric numbers value) (text_of value)

-- two numbers by their order, and else two texts byte by byte
abbrev pub order_by : Option Number → Option Number → List ℕ → List ℕ → Ordering
order_by (Some m) (Some n) left right = on.order m n
order_by (Some m) None left right = slice_cmp nat_cmp left right
order_by None found left right = slice_cmp nat_cmp left right

abbrev pub order : Numbers → Value → Value → Ordering
order numbers left right = order_by (numeric numbers left) (numeric numbers right) (text_of left) (text_of right)
