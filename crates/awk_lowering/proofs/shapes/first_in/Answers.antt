use Rattle.std.proofs.Common.{refl}
use Rattle.awk_lowering.proofs.Carried.{none_left, first_and_rest}
use Rattle.awk_lowering.proofs.shapes.first_in.Goals as goal

pub returns-in-empty : goal.returns-in-empty
returns-in-empty c = rw (none_left c.args.members.now c.in-empty.len_below) refl

pub returns-in-len1-up : goal.returns-in-len1-up
returns-in-len1-up c = rw (first_and_rest c.args.members.now c.first-item.result c.in-len1-up.len_at_least
    c.first-item.is) refl
