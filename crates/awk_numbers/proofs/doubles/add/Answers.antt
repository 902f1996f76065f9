use Rattle.std.proofs.Common.{◌+ℤ◌, refl}
use Rattle.awk_numbers.proofs.Shortcuts.{checked, add_at}
use Rattle.awk_numbers.proofs.doubles.add.Goals as goal

pub returns-in-Some-checked_add : goal.returns-in-Some-checked_add
returns-in-Some-checked_add c =
    let first = c.in-Some.ensures.first in
    let second = c.in-Some.ensures.second in
    add_at c.args.x c.args.y c.in-Some.m c.in-Some.n _ first second
    (checked ◌+ℤ◌ c.in-Some.m c.in-Some.n c.in-Some-checked_add.sum first.1 second.1 c.in-Some-checked_add.ensures)
    (c.if-is_exact.ensures.0 refl)
