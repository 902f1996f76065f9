-- What a conversion specification makes of its value. POSIX.1-2017, XBD 5, "File Format Notation", and XCU awk,
-- "Formatted Output"; a number that is shown without a sign is its 64 bits. `e f g` show the exact number, rounded
-- once.
use Rattle.std.specs.Prelude.{ℕ, ◌+◌, ◌-◌, ◌==◌, Bool, true, false, ◌&&◌, max, ℤ, pos, List, [], ◌∷◌, ◌++◌, length}
use Rattle.std.specs.Prelude.{take, replicate, Option, Some, None, Result, Ok, unwrap_or, is_none, unsigned_abs, int_lt}
use Rattle.std.specs.Prelude.{if◌then◌else◌}
use Rattle.std.specs.Float.{Float, is_sign_negative}
use Rattle.std.specs.Int.{int_rem_euclid}
use Rattle.std.specs.Fmt.{decimal, digits}
use Rattle.std.specs.Option.{option_map}
use Rattle.awk_numbers.specs.declared.number.Numbers.{Numbers}
use Rattle.awk_numbers.specs.declared.number.Number.TheVariants as number
use Rattle.awk_numbers.specs.Decimal.{padded}
use Rattle.awk_numbers.specs.Numbers.{double_of}
use Rattle.awk_numbers.specs.Shown.{bits_of, exponential_size, fixed_size, general_size, integral}
use Rattle.awk_text.specs.Arithmetic.{clamped}
use Rattle.awk_text.specs.Faults.{or_fault}
use Rattle.awk_text.specs.Numerals.{looks_in}
use Rattle.awk_text.specs.Values.{number_of, text_of}
use Rattle.awk_text.specs.declared.fault.Fault.{Fault}
use Rattle.awk_text.specs.declared.value.Value.{Value}
use Rattle.awk_text.specs.declared.value.Value.TheVariants.{Unset, Num, Real, Text, Input}
use Rattle.awk_format.specs.declared.directive.Conversion.{Conversion}
use Rattle.awk_format.specs.declared.directive.Conversion.TheVariants as conversion
use Rattle.awk_format.specs.declared.directive.Directive.{Directive}
use Rattle.awk_format.specs.declared.directive.Flags.{Flags}
use Rattle.awk_format.specs.Directives.{◌>>=◌}

-- the field: sign or prefix, and the rest, filled to the width. The fill is spaces on the left; with `-` it is on the
-- right, and else it may be zeros after the sign or prefix.
abbrev pub field : Directive → Bool → List ℕ → List ℕ → List ℕ
field d zeros lead body =
    let fill = d.width - length lead - length body in
    if d.flags.left then lead ++ body ++ replicate fill 32 else (
    if zeros then lead ++ replicate fill 48 ++ body else replicate fill 32 ++ lead ++ body)

-- of a number: `0` fills with zeros where there is no precision
abbrev pub number_field : Directive → List ℕ → List ℕ → List ℕ
number_field d lead body = field d (d.flags.zero && is_none d.precision) lead body

-- the least number of digits: the precision, and 1 where there is none
abbrev pub least_digits : Directive → ℕ
least_digits d = unwrap_or d.precision 1

-- the digits with zeros before them, up to the least number; zero has no digit of its own
abbrev pub numeral : ℕ → ℕ → List ℕ → List ℕ
numeral least n shown = let own = if n == 0 then [] else shown in replicate (least - length own) 48 ++ own

-- the sign of a number that has a minus or none
abbrev pub sign_text : Flags → Bool → List ℕ
sign_text flags minus =
    if minus then 45 ∷ [] else (if flags.plus then 43 ∷ [] else (if flags.space then 32 ∷ [] else []))

abbrev pub sign : Flags → ℤ → List ℕ
sign flags n = sign_text flags (int_lt n (pos 0))

abbrev pub signed_field : Directive → ℤ → List ℕ
signed_field d n = number_field d (sign d.flags n) (padded (least_digits d) (unsigned_abs n))

abbrev pub unsigned_field : Directive → ℕ → List ℕ
unsigned_field d n = number_field d [] (numeral (least_digits d) n (decimal n))

-- `#` increases the precision so that the first digit is a zero
abbrev pub octal_least : Directive → ℕ → ℕ
octal_least d n = if d.flags.alternate then max (least_digits d) ((if n == 0 then 0 else length (digits 8 false n)) + 1)
    else least_digits d

abbrev pub octal_field : Directive → ℕ → List ℕ
octal_field d n = number_field d [] (numeral (octal_least d n) n (digits 8 false n))

-- `#` puts `0x` or `0X` before a number that is not zero
abbrev pub hex_prefix : Directive → Bool → ℕ → List ℕ
hex_prefix d upper n = if d.flags.alternate then (if n == 0 then [] else 48 ∷ (if upper then 88 else 120) ∷ []) else []

abbrev pub hex_field : Directive → Bool → ℕ → List ℕ
hex_field d upper n = number_field d (hex_prefix d upper n) (numeral (least_digits d) n (digits 16 upper n))

-- of a number with a fraction: its sign, and its size as the conversion shows it; `0` fills with zeros
abbrev pub real_field : Directive → Float → List ℕ → List ℕ
real_field d x size = field d d.flags.zero (sign_text d.flags (is_sign_negative x)) size

-- the precision, which is 6 where there is none
abbrev pub places : Directive → ℕ
places d = unwrap_or d.precision 6

abbrev pub fixed_field : Directive → Float → List ℕ
fixed_field d x = real_field d x (fixed_size d.flags.alternate x (places d))

-- the letter stands before the exponent
abbrev pub exponential_field : Directive → ℕ → Float → List ℕ
exponential_field d letter x = real_field d x (exponential_size d.flags.alternate letter x (places d))

abbrev pub general_field : Directive → ℕ → Float → List ℕ
general_field d letter x = real_field d x (general_size d.flags.alternate letter x (places d))

-- the text, cut to the precision
abbrev pub cut : Option ℕ → List ℕ → List ℕ
cut None text = text
cut (Some most) text = take most text

-- the byte of a number modulo 256, where the value is one or looks numeric, and else the first byte of the text
abbrev pub byte_of : ℤ → List ℕ
byte_of n = unsigned_abs (int_rem_euclid n (pos 256)) ∷ []

abbrev pub code_of : Numbers → Value → Option ℤ
code_of numbers Unset = None
code_of numbers (Num n) = Some n
code_of numbers (Real x) = Some (clamped (number.Real x))
code_of numbers (Text text) = None
code_of numbers (Input text) = option_map clamped (looks_in numbers text)

abbrev pub byte_or : Option ℤ → List ℕ → List ℕ
byte_or (Some n) text = byte_of n
byte_or None text = take 1 text

abbrev pub character : Numbers → Value → List ℕ
character numbers value = byte_or (code_of numbers value) (text_of value)

-- the number without its fraction as 64 bits, F1 where it is outside of -2 ^ 63 to 2 ^ 64 - 1
abbrev pub bits : Numbers → Value → Result ℕ Fault
bits numbers value = number_of numbers value >>= λ n. or_fault (bits_of n)

-- a number with its fraction, by its double
abbrev pub shown : Numbers → Value → (Float → List ℕ) → Result (List ℕ) Fault
shown numbers value show = number_of numbers value >>= λ n. Ok (show (double_of n))

abbrev pub converted_by : Numbers → Conversion → Directive → Value → Result (List ℕ) Fault
converted_by numbers conversion.Signed d value = number_of numbers value >>= λ n. Ok (signed_field d (integral n))
converted_by numbers conversion.Unsigned d value = bits numbers value >>= λ n. Ok (unsigned_field d n)
converted_by numbers conversion.Octal d value = bits numbers value >>= λ n. Ok (octal_field d n)
converted_by numbers conversion.LowerHex d value = bits numbers value >>= λ n. Ok (hex_field d false n)
converted_by numbers conversion.UpperHex d value = bits numbers value >>= λ n. Ok (hex_field d true n)
converted_by numbers conversion.Text d value = Ok (field d false [] (cut d.precision (text_of value)))
converted_by numbers conversion.Byte d value = Ok (field d false [] (character numbers value))
converted_by numbers conversion.Fixed d value = shown numbers value (fixed_field d)
converted_by numbers conversion.LowerExponential d value = shown numbers value (exponential_field d 101)
converted_by numbers conversion.UpperExponential d value = shown numbers value (exponential_field d 69)
converted_by numbers conversion.LowerGeneral d value = shown numbers value (general_field d 101)
converted_by numbers conversion.UpperGeneral d value = shown numbers value (general_field d 69)

abbrev pub converted : Numbers → Directive → Value → Result (List ℕ) Fault
converted numbers d value = converted_by numbers d.conversion d value
