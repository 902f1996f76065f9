use Rattle.std.proofs.Common.{◌*ℤ◌, refl}
use Rattle.awk_numbers.proofs.Shortcuts.{checked, mul_at}
use Rattle.awk_numbers.proofs.doubles.mul.Goals as goal

pub returns-in-Some-checked_mul : goal.returns-in-Some-checked_mul
returns-in-Some-checked_mul c =
    let first = c.in-Some.ensures.first in
    let second = c.in-Some.ensures.second in
    mul_at c.args.x c.args.y c.in-Some.m c.in-Some.n _ first second
    (checked ◌*ℤ◌ c.in-Some.m c.in-Some.n c.in-Some-checked_mul.product first.1 second.1 c.in-Some-checked_mul.ensures)
    (c.if-is_exact.ensures.0 refl)
