use Rattle.std.proofs.Common.{refl}
use Rattle.awk_lowering.proofs.Carried.{none_left}
use Rattle.awk_lowering.proofs.Lists.{later_is}
use Rattle.awk_lowering.proofs.shapes.later.Goals as goal

pub returns-in-empty : goal.returns-in-empty
returns-in-empty c = rw (none_left c.args.arrays.now c.in-empty.len_below) refl

pub returns-in-len1-up : goal.returns-in-len1-up
returns-in-len1-up c = later_is c.args.arrays.now c.in-len1-up.len_at_least
