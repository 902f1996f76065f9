-- The text of a number where none is asked for by a conversion specification: POSIX.1-2017, XCU awk, "Expressions in
-- awk". A number with an integral value has its digits, of whatever size it is; another one is as `%.6g` has it.
use Rattle.std.specs.Prelude.{ℕ, Bool, List, if◌then◌else◌}
use Rattle.std.specs.Float.{Float, binary64, trunc}
use Rattle.std.specs.Float.Ieee
use Rattle.awk_numbers.specs.Decimal.{fixed_text}
use Rattle.awk_numbers.specs.General.{general_text}

abbrev pub is_integral : Float → Bool
is_integral x = Ieee.eq (trunc binary64 x) x

abbrev pub real_text : Float → List ℕ
real_text x = if is_integral x then fixed_text x 0 else general_text 101 x 6
