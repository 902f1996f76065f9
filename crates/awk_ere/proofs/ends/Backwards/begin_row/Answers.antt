use Rattle.std.proofs.Common.{arith}
use Rattle.awk_ere.proofs.Ending.{over_begun}
use Rattle.awk_ere.proofs.ends.Backwards.begin_row.Goals as goal

pub returns-clause-begun : goal.returns-clause-begun
returns-clause-begun c = over_begun _ _ _ _ _ _ (omega (arith, c.requires.some, c.read_byte.ensures.len))
    c.read_byte.ensures.len c.read_byte.ensures.over
