-- The texts of numbers by a format of one number, as OFMT and CONVFMT are: POSIX.1-2017, XCU awk, "Variables and
-- Special Variables", "Expressions in awk".
-- A number without a fraction has its digits, whatever the format is.
use Rattle.std.specs.Prelude.{ℕ, Bool, true, false, not, ◌&&◌, List, [], ◌∷◌, codes, drop, get_or, Result, Ok, Err}
use Rattle.std.specs.Prelude.{if◌then◌else◌, Option, Some, None}
use Rattle.std.specs.Float.{Float}
use Rattle.std.specs.Str.{bytes_eq}
use Rattle.awk_numbers.specs.declared.number.Numbers.{Numbers}
use Rattle.awk_numbers.specs.declared.number.Numbers.TheVariants as profile
use Rattle.awk_numbers.specs.Texts.{is_integral}
use Rattle.awk_text.specs.declared.fault.Fault.{Fault}
use Rattle.awk_text.specs.declared.fault.Fault.TheVariants.{Format}
use Rattle.awk_text.specs.declared.value.Value.{Value}
use Rattle.awk_text.specs.declared.value.Value.TheVariants.{Real, Text}
use Rattle.awk_format.specs.declared.directive.Conversion.{Conversion}
use Rattle.awk_format.specs.declared.directive.Conversion.TheVariants as conversion
use Rattle.awk_format.specs.declared.directive.Directive.{Directive}
use Rattle.awk_format.specs.Directives.{◌>>=◌}
use Rattle.awk_format.specs.Formatted.{Piece, plain, directed, pieces, formatted}

-- the format that the text of a number goes by anyway: whole numbers need none
abbrev pub is_usual : Numbers → List ℕ → Bool
is_usual profile.Whole format = true
is_usual profile.Double format = bytes_eq format (codes "%.6g")

-- all conversions but those of a text and of a byte
abbrev pub shows_number : Conversion → Bool
shows_number conversion.Text = false
shows_number conversion.Byte = false
shows_number other = true

-- the conversion specifications among the pieces
abbrev pub directives : List Piece → List (Result Directive Fault)
directives [] = []
directives (plain b ∷ ps) = directives ps
directives (directed d ∷ ps) = d ∷ directives ps

-- a format of one number has one conversion specification, which shows a number
abbrev pub is_of_number : List (Result Directive Fault) → Bool
is_of_number (Ok d ∷ []) = shows_number d.conversion
is_of_number others = false

-- the same of what is left of them, where one that shows a number stood before it or none did
abbrev pub is_left : Bool → List (Result Directive Fault) → Bool
is_left found [] = found
is_left found (Err e ∷ ds) = false
is_left found (Ok d ∷ ds) = not found && (shows_number d.conversion && is_left true ds)

-- any other format is F4
abbrev pub number_text : List ℕ → Float → Result (List ℕ) Fault
number_text format x =
    if is_of_number (directives (pieces profile.Double format)) then formatted profile.Double format (Real x ∷ [])
    else Err Format

abbrev pub shown_real : List ℕ → Float → Result Value Fault
shown_real format x = if is_integral x then Ok (Real x) else number_text format x >>= λ text. Ok (Text text)

abbrev pub shown : List ℕ → Value → Result Value Fault
shown format (Real x) = shown_real format x
shown format other = Ok other

abbrev pub all_shown : List ℕ → List Value → Result (List Value) Fault
all_shown format [] = Ok []
all_shown format (x ∷ xs) = shown format x >>= λ y. all_shown format xs >>= λ ys. Ok (y ∷ ys)

-- the values, and of those that are numbers with a fraction the texts
abbrev pub values_by : Numbers → List ℕ → List Value → Result (List Value) Fault
values_by numbers format values = if is_usual numbers format then Ok values else all_shown format values

-- the same of one value, which is wanted as a text
abbrev pub value_by : Numbers → List ℕ → Value → Result Value Fault
value_by numbers format (Real x) = if is_usual numbers format then Ok (Real x) else shown_real format x
value_by numbers format other = Ok other

-- a number, or the text that stands for it
abbrev pub standing : Float → Option (List ℕ) → Value
standing x None = Real x
standing x (Some text) = Text text

-- ---- the values of another format, which has conversion specifications of its own

abbrev pub shows_text : Conversion → Bool
shows_text conversion.Text = true
shows_text other = false

-- of each conversion specification whether it shows a text, up to the first that is none
abbrev pub wants_texts : List (Result Directive Fault) → List Bool
wants_texts [] = []
wants_texts (Err e ∷ ds) = []
wants_texts (Ok d ∷ ds) = shows_text d.conversion ∷ wants_texts ds

abbrev pub shown_if : Bool → List ℕ → Value → Result Value Fault
shown_if true format x = shown format x
shown_if false format x = Ok x

abbrev pub shown_where : List ℕ → List Bool → List Value → Result (List Value) Fault
shown_where by wants [] = Ok []
shown_where by wants (x ∷ xs) =
    shown_if (get_or wants 0 false) by x >>= λ y. shown_where by (drop 1 wants) xs >>= λ ys. Ok (y ∷ ys)

-- the values, and of those that the format shows as texts the texts by the format of one number
abbrev pub texts_by : Numbers → (by format : List ℕ) → List Value → Result (List Value) Fault
texts_by numbers by format values =
    if is_usual numbers by then Ok values else shown_where by (wants_texts (directives (pieces numbers format))) values

-- the text of the format, of which numbers that it shows as texts go by the format of one number
abbrev pub formatted_with : Numbers → (by format : List ℕ) → List Value → Result (List ℕ) Fault
formatted_with numbers by format values = texts_by numbers by format values >>= λ shown. formatted numbers format shown
