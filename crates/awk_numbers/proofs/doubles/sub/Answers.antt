use Rattle.std.proofs.Common.{◌-ℤ◌, refl}
use Rattle.awk_numbers.proofs.Shortcuts.{checked, sub_at}
use Rattle.awk_numbers.proofs.doubles.sub.Goals as goal

pub returns-in-Some-checked_sub : goal.returns-in-Some-checked_sub
returns-in-Some-checked_sub c =
    let first = c.in-Some.ensures.first in
    let second = c.in-Some.ensures.second in
    sub_at c.args.x c.args.y c.in-Some.m c.in-Some.n _ first second
    (checked ◌-ℤ◌ c.in-Some.m c.in-Some.n c.in-Some-checked_sub.difference first.1 second.1
    c.in-Some-checked_sub.ensures) (c.if-is_exact.ensures.0 refl)
