-- What goes by CONVFMT, as the store has it (POSIX.1-2017 XCU awk, "Expressions in awk", "Formatted Output").
use Rattle.std.specs.Prelude.{List, drop, Option, Some, None, Result, Ok}
use Rattle.awk_numbers.specs.declared.number.Number.{Number}
use Rattle.awk_text.specs.Values.{numeric, text_of}
use Rattle.awk_text.specs.declared.fault.Fault.{Fault}
use Rattle.awk_text.specs.declared.value.Value.{Value}
use Rattle.awk_text.specs.declared.value.Value.TheVariants as v
use Rattle.awk_format.specs.Directives.{◌>>=◌}
use Rattle.awk_format.specs.NumberTexts.{formatted_with}
use Rattle.awk_program.specs.Slots.{Text}
use Rattle.awk_program.specs.declared.operators.Comparison.{Comparison}
use Rattle.awk_program.specs.declared.variables.Own.TheVariants as own
use Rattle.awk_machine.specs.Builtins.{first}
use Rattle.awk_machine.specs.Operators.{compared}
use Rattle.awk_store.specs.Kept.{Kept, by_convfmt, own_text}

-- a value that is compared with another one: its text is wanted where that is no number
abbrev pub beside : Kept → Option Number → Value → Result Value Fault
beside kept (Some n) x = Ok x
beside kept None x = by_convfmt kept x

abbrev pub compared_by : Kept → Comparison → Value → Value → Result Value Fault
compared_by kept how x y =
    beside kept (numeric kept.numbers y) x >>= λ a. beside kept (numeric kept.numbers x) y
    >>= λ b. Ok (compared kept.numbers how a b)

-- the text that printf and sprintf make: the first value is the format
abbrev pub formatted_by : Kept → List Value → Result Text Fault
formatted_by kept vs = formatted_with kept.numbers (own_text kept own.Convfmt) (text_of (first vs)) (drop 1 vs)

abbrev pub formatted_text : Kept → List Value → Result Value Fault
formatted_text kept vs = formatted_by kept vs >>= λ text. Ok (v.Text text)
