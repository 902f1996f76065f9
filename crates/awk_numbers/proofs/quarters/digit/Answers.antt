use Rattle.std.proofs.Common.{arith}
use Rattle.awk_numbers.proofs.Turns.{digit_is, no_digit}
use Rattle.awk_numbers.proofs.quarters.digit.Goals as goal

pub returns-then-place-lt19 : goal.returns-then-place-lt19
returns-then-place-lt19 c = digit_is c.args.place

pub returns-else-place-lt19 : goal.returns-else-place-lt19
returns-else-place-lt19 c = no_digit c.args.place (omega (arith, c.if-place-lt19.false))
