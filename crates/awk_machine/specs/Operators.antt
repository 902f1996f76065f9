-- What the operators give (POSIX.1-2017 XCU awk, "Expressions in awk").
use Rattle.std.specs.Prelude.{ℕ, ◌||◌, not, Bool, true, false, nat_le, if◌then◌else◌, pos, length, Result, Ok, Err}
use Rattle.std.specs.declared.cmp.Ordering.{Ordering}
use Rattle.std.specs.declared.cmp.Ordering.TheVariants as o
use Rattle.awk_numbers.specs.declared.number.Number.{Number}
use Rattle.awk_numbers.specs.declared.number.Number.TheVariants.{Whole}
use Rattle.awk_numbers.specs.declared.number.Numbers.{Numbers}
use Rattle.awk_text.specs.declared.value.Value.{Value}
use Rattle.awk_text.specs.declared.value.Value.TheVariants as v
use Rattle.awk_text.specs.declared.fault.Fault.{Fault}
use Rattle.awk_text.specs.declared.fault.Fault.TheVariants.{TextTooLong}
use Rattle.awk_text.specs.Arithmetic as on
use Rattle.awk_text.specs.Limits.{most_bytes}
use Rattle.awk_text.specs.Values.{number_of, of_number, order}
use Rattle.awk_format.specs.Directives.{◌>>=◌}
use Rattle.awk_program.specs.Slots.{Text}
use Rattle.awk_program.specs.declared.operators.Operator.{Operator}
use Rattle.awk_program.specs.declared.operators.Operator.TheVariants as a
use Rattle.awk_program.specs.declared.operators.Comparison.{Comparison}
use Rattle.awk_program.specs.declared.operators.Comparison.TheVariants as c
use Rattle.awk_program.specs.declared.operators.Sign.{Sign}
use Rattle.awk_program.specs.declared.operators.Sign.TheVariants as prefix
use Rattle.awk_program.specs.declared.operators.Step.{Step}
use Rattle.awk_program.specs.declared.operators.Step.TheVariants as step

abbrev pub of_truth : Bool → Value
of_truth b = v.Num (pos (if b then 1 else 0))

abbrev pub of_count : ℕ → Value
of_count n = v.Num (pos n)

abbrev pub operation : Numbers → Operator → Number → Number → Result Number Fault
operation numbers a.Add = on.add numbers
operation numbers a.Subtract = on.sub numbers
operation numbers a.Multiply = on.mul numbers
operation numbers a.Divide = on.div numbers
operation numbers a.Remainder = on.rem numbers
operation numbers a.Power = on.pow numbers

-- both values as numbers, the left one first, and then the operation
abbrev pub computed : Numbers → Operator → Value → Value → Result Value Fault
computed numbers how x y =
    number_of numbers x >>= λ m. number_of numbers y >>= λ n. operation numbers how m n >>= λ z. Ok (of_number z)

abbrev pub signed : Numbers → Sign → Value → Result Value Fault
signed numbers prefix.Plus x = number_of numbers x >>= λ n. Ok (of_number n)
signed numbers prefix.Minus x = number_of numbers x >>= λ n. on.neg numbers n >>= λ m. Ok (of_number m)

abbrev pub stepped : Numbers → Step → Number → Result Number Fault
stepped numbers step.Increment n = on.add numbers n (Whole (pos 1))
stepped numbers step.Decrement n = on.sub numbers n (Whole (pos 1))

abbrev pub is_less : Ordering → Bool
is_less o.Less = true
is_less o.Equal = false
is_less o.Greater = false

abbrev pub is_equal : Ordering → Bool
is_equal o.Less = false
is_equal o.Equal = true
is_equal o.Greater = false

abbrev pub holds : Comparison → Ordering → Bool
holds c.Less x = is_less x
holds c.LessOrEqual x = is_less x || is_equal x
holds c.Equal x = is_equal x
holds c.NotEqual x = not (is_equal x)
holds c.Greater x = not (is_less x || is_equal x)
holds c.GreaterOrEqual x = not (is_less x)

abbrev pub compared : Numbers → Comparison → Value → Value → Value
compared numbers how x y = of_truth (holds how (order numbers x y))

-- a text within the limit
abbrev pub limited : Text → Result Text Fault
limited text = if nat_le (length text) most_bytes then Ok text else Err TextTooLong
