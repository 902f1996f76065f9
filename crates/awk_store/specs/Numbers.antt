-- Numbers that the code keeps apart from values.
use Rattle.std.specs.Prelude.{ℕ, ℤ, pos, unsigned_abs, Result, Ok}
use Rattle.std.specs.Int.{int_rem_euclid}
use Rattle.awk_numbers.specs.declared.number.Number.{Number}
use Rattle.awk_numbers.specs.declared.number.Numbers.{Numbers}
use Rattle.awk_text.specs.declared.value.Value.{Value}
use Rattle.awk_text.specs.declared.value.Value.TheVariants as v
use Rattle.awk_text.specs.declared.fault.Fault.{Fault}
use Rattle.awk_text.specs.Arithmetic.{whole_of}
use Rattle.awk_text.specs.Values.{number_of, of_number}
use Rattle.awk_format.specs.Directives.{◌>>=◌}

-- a whole number as a value, where there is no fault
abbrev pub as_value : Result ℤ Fault → Result Value Fault
as_value made = made >>= λ n. Ok (v.Num n)

-- a number as a value, where there is no fault
abbrev pub valued : Result Number Fault → Result Value Fault
valued made = made >>= λ n. Ok (of_number n)

-- the number of a value, without its fraction, as 64 bits hold it
abbrev pub whole_number : Numbers → Value → Result ℤ Fault
whole_number numbers x = number_of numbers x >>= whole_of

-- the status that an exit with this value gives: its number modulo 256 (POSIX.1-2017 XCU awk, "Actions")
abbrev pub exit_status : Numbers → Value → Result ℕ Fault
exit_status numbers x = whole_number numbers x >>= λ n. Ok (unsigned_abs (int_rem_euclid n (pos 256)))
