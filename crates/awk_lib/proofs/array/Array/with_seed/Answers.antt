use Rattle.std.proofs.Common.{true}
use Rattle.awk_lib.proofs.Keeping.{none_kept}
use Rattle.awk_lib.proofs.array.Array.with_seed.Goals as goal

pub invariant_of-result : goal.invariant_of-result
invariant_of-result g c = none_kept true 0 c.new.result c.new.ensures.rows c.new.ensures.count c.new.ensures.apart
