use Rattle.std.proofs.Common.{arith}
use Rattle.awk_ere.proofs.Literals.{one_byte}
use Rattle.awk_ere.proofs.literal.find_short.Goals as goal

pub returns-in-len1 : goal.returns-in-len1
returns-in-len1 c = one_byte _ _ (omega (arith, c.in-len1.len_at_least, c.in-len1.len_below)) _ c.memchr.ensures
