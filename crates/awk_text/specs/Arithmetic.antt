-- Arithmetic by profile, with the faults of a run: POSIX.1-2017, XCU awk, "Expressions in awk". What the operators give
-- is awk_numbers': in profile whole a result is exact, or it is F1, and a quotient is truncated toward zero.
use Rattle.std.specs.Prelude.{ℤ, Result, Ok, Err, if◌then◌else◌}
use Rattle.std.specs.Float.{float_to_signed}
use Rattle.std.specs.Int.{w64}
use Rattle.awk_numbers.specs.declared.number.Number.{Number}
use Rattle.awk_numbers.specs.declared.number.Number.TheVariants.{Whole, Real}
use Rattle.awk_numbers.specs.declared.number.Numbers.{Numbers}
use Rattle.awk_numbers.specs.Operators as on
use Rattle.awk_numbers.specs.Powers as powers
use Rattle.awk_text.specs.declared.fault.Fault.{Fault}
use Rattle.awk_text.specs.declared.fault.Fault.TheVariants.{OutOfRange}
use Rattle.awk_text.specs.Faults.{or_fault}

-- the whole number of 64 bits, or F1 where it is out of range
abbrev pub ranged : ℤ → Result ℤ Fault
ranged z = if on.is_in_range z then Ok z else Err OutOfRange

abbrev pub add : Numbers → Number → Number → Result Number Fault
add numbers a b = or_fault (on.add numbers a b)

abbrev pub sub : Numbers → Number → Number → Result Number Fault
sub numbers a b = or_fault (on.sub numbers a b)

abbrev pub mul : Numbers → Number → Number → Result Number Fault
mul numbers a b = or_fault (on.mul numbers a b)

abbrev pub div : Numbers → Number → Number → Result Number Fault
div numbers a b = or_fault (on.div numbers a b)

abbrev pub rem : Numbers → Number → Number → Result Number Fault
rem numbers a b = or_fault (on.rem numbers a b)

abbrev pub pow : Numbers → Number → Number → Result Number Fault
pow numbers a b = or_fault (powers.pow numbers a b)

abbrev pub neg : Numbers → Number → Result Number Fault
neg numbers a = or_fault (on.neg numbers a)

-- without the fraction
abbrev pub truncated : Number → Result Number Fault
truncated a = or_fault (on.truncated a)

-- without the fraction; what 64 bits can't hold is the first or the last that they can
abbrev pub clamped : Number → ℤ
clamped (Whole n) = n
clamped (Real x) = float_to_signed w64 x

-- without the fraction, as 64 bits hold it; F1 where they can't
abbrev pub whole_of : Number → Result ℤ Fault
whole_of a = or_fault (on.whole_of a)
