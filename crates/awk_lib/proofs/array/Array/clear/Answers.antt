use Rattle.std.proofs.Common.{true}
use Rattle.awk_lib.proofs.Keeping.{none_kept}
use Rattle.awk_lib.proofs.array.Array.clear.Goals as goal

pub invariant_of-self : goal.invariant_of-self
invariant_of-self g c = none_kept true 0 c.clear.new.self c.clear.ensures.rows c.clear.ensures.count
    c.clear.ensures.apart
