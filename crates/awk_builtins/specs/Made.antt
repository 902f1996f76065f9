-- What forms make that the code keeps apart from values.
use Rattle.std.specs.Prelude.{List, ◌∷◌, Result, Ok}
use Rattle.awk_numbers.specs.declared.number.Number.{Number}
use Rattle.awk_numbers.specs.declared.number.Numbers.{Numbers}
use Rattle.awk_text.specs.Values.{number_of, of_number}
use Rattle.awk_text.specs.declared.place.Place.{Place}
use Rattle.awk_text.specs.declared.value.Value.{Value}
use Rattle.awk_text.specs.declared.value.Value.TheVariants as v
use Rattle.awk_text.specs.declared.fault.Fault.{Fault}
use Rattle.awk_format.specs.Directives.{◌>>=◌}
use Rattle.awk_program.specs.Slots.{Text}
use Rattle.awk_program.specs.Program.{Reference}
use Rattle.awk_program.specs.declared.operators.Operator.{Operator}
use Rattle.awk_program.specs.declared.operators.Step.{Step}
use Rattle.awk_program.specs.declared.operators.StepValue.{StepValue}
use Rattle.awk_machine.specs.Expressions.{either}
use Rattle.awk_machine.specs.Operators.{operation, stepped}
use Rattle.awk_machine.specs.Pieces.{Piece, Do, Give, Set}
use Rattle.awk_machine.specs.Targets.{target, stored}

-- a text as a value, where there is no fault
abbrev pub as_text : Result Text Fault → Result Value Fault
as_text made = made >>= λ t. Ok (v.Text t)

-- what an operator gives at two numbers, the left one of which is looked at first
abbrev pub of_both : Numbers → Operator → Result Number Fault → Result Number Fault → Result Number Fault
of_both numbers how a b = a >>= λ m. b >>= λ n. operation numbers how m n

-- the old number and the new one of `++` and `--`
abbrev pub both_numbers : Numbers → Step → Value → Result (Number × Number) Fault
both_numbers numbers how x = number_of numbers x >>= λ old. stepped numbers how old >>= λ new. Ok (old, new)

-- what is left to be done once these are known
abbrev pub stepping : Place → StepValue → Reference → Value → Number × Number → List Piece → List Piece
stepping place taken r at (old, new) k =
    Do (Set (target r at) place (of_number new)) ∷ Do (Give (either taken old new)) ∷ k

-- what is left to be done once the number is known that is stored
abbrev pub storing : Numbers → Place → Reference → Value → Number → List Piece → List Piece
storing numbers place r at n k =
    Do (Set (target r at) place (of_number n)) ∷ Do (Give (stored numbers (target r at) (of_number n))) ∷ k
