-- The conversion specifications of a format. POSIX.1-2017, XBD 5, "File Format Notation": after the `%` stand flags in
-- any order, then an optional width, then an optional precision after a `.`, and then the conversion specifier.
use Rattle.std.specs.Prelude.{ℕ, Bool, ◌||◌, ◌==◌, nat_le, List, [], ◌∷◌, Option, Some, None, Result, Ok, Err}
use Rattle.std.specs.Prelude.{if◌then◌else◌}
use Rattle.std.specs.Char.{is_ascii_digit}
use Rattle.std.specs.List.{list_any, take_while}
use Rattle.std.specs.Str.Parse.{digits_value}
use Rattle.awk_numbers.specs.declared.number.Numbers.{Numbers}
use Rattle.awk_numbers.specs.declared.number.Numbers.TheVariants as profile
use Rattle.awk_text.specs.Numerals.{drop_while}
use Rattle.awk_text.specs.declared.fault.Fault.{Fault}
use Rattle.awk_text.specs.declared.fault.Fault.TheVariants.{Format}
use Rattle.awk_format.specs.declared.directive.Conversion.{Conversion}
use Rattle.awk_format.specs.declared.directive.Conversion.TheVariants.{Signed, Unsigned, Octal, LowerHex, UpperHex}
use Rattle.awk_format.specs.declared.directive.Conversion.TheVariants.{Text, Byte, Fixed}
use Rattle.awk_format.specs.declared.directive.Conversion.TheVariants.{LowerExponential, UpperExponential}
use Rattle.awk_format.specs.declared.directive.Conversion.TheVariants.{LowerGeneral, UpperGeneral}
use Rattle.awk_format.specs.declared.directive.Directive.{Directive}
use Rattle.awk_format.specs.declared.directive.Flags.{Flags}

-- what follows where the step before found no fault
infixl 10 ◌>>=◌
abbrev pub ◌>>=◌ : {A B : Type 0} → Result A Fault → (A → Result B Fault) → Result B Fault
Ok x >>= f = f x
Err e >>= f = Err e

-- `-`, `+`, space, `#` and `0`
abbrev pub is_flag : ℕ → Bool
is_flag b = b == 0x2D || b == 0x2B || b == 0x20 || b == 0x23 || b == 0x30

abbrev pub has : ℕ → List ℕ → Bool
has b text = list_any (λ x. x == b) text

abbrev pub flags_of : List ℕ → Flags
flags_of run = record
    { left = has 0x2D run; plus = has 0x2B run; space = has 0x20 run; alternate = has 0x23 run; zero = has 0x30 run }

-- these flags and the one that a byte is, where it is one
abbrev pub with_flag : ℕ → Flags → Flags
with_flag b flags = record {
  left = b == 0x2D || flags.left;
  plus = b == 0x2B || flags.plus;
  space = b == 0x20 || flags.space;
  alternate = b == 0x23 || flags.alternate;
  zero = b == 0x30 || flags.zero;
}

-- a width or a precision: the digits that the text begins with, which may be none; over 65,535 is F4
abbrev pub columns_of : List ℕ → Result ℕ Fault
columns_of text =
    let n = digits_value 10 (take_while is_ascii_digit text) in if nat_le n 65535 then Ok n else Err Format

-- the precision that the text begins with, where a `.` stands there, and what follows it
abbrev pub precision_of : List ℕ → Result (Option ℕ) Fault
precision_of [] = Ok None
precision_of (b ∷ bs) = if b == 0x2E then (columns_of bs >>= λ n. Ok (Some n)) else Ok None

abbrev pub after_precision : List ℕ → List ℕ
after_precision [] = []
after_precision (b ∷ bs) = if b == 0x2E then drop_while is_ascii_digit bs else b ∷ bs

-- those of whole numbers and texts
abbrev pub whole_conversion : ℕ → Result Conversion Fault
whole_conversion b =
    if b == 0x64 || b == 0x69 then Ok Signed else (if b == 0x75 then Ok Unsigned else (if b == 0x6F then Ok Octal else (
    if b == 0x78 then Ok LowerHex else (if b == 0x58 then Ok UpperHex else (if b == 0x73 then Ok Text else (
    if b == 0x63 then Ok Byte else Err Format))))))

-- and those of numbers with a fraction
abbrev pub double_conversion : ℕ → Result Conversion Fault
double_conversion b =
    if b == 0x66 || b == 0x46 then Ok Fixed else (if b == 0x65 then Ok LowerExponential else (
    if b == 0x45 then Ok UpperExponential else (if b == 0x67 then Ok LowerGeneral else (
    if b == 0x47 then Ok UpperGeneral else whole_conversion b))))

abbrev pub conversion_of : Numbers → ℕ → Result Conversion Fault
conversion_of profile.Whole b = whole_conversion b
conversion_of profile.Double b = double_conversion b

-- the conversion specifier that the text begins with
abbrev pub specifier_of : Numbers → List ℕ → Result Conversion Fault
specifier_of numbers [] = Err Format
specifier_of numbers (b ∷ bs) = conversion_of numbers b

-- what is left of a text after its flags, after its width, and after its precision
abbrev pub after_flags : List ℕ → List ℕ
after_flags text = drop_while is_flag text

abbrev pub after_width : List ℕ → List ℕ
after_width text = drop_while is_ascii_digit (after_flags text)

abbrev pub tail_of : List ℕ → List ℕ
tail_of text = after_precision (after_width text)

-- the conversion specification whose `%` stands before this text
abbrev pub directive_of : Numbers → List ℕ → Result Directive Fault
directive_of numbers text = do
  width ← columns_of (after_flags text)
  precision ← precision_of (after_width text)
  conversion ← specifier_of numbers (tail_of text)
  Ok (record {
    flags = flags_of (take_while is_flag text);
    width = width;
    precision = precision;
    conversion =
        conversion;
  })
