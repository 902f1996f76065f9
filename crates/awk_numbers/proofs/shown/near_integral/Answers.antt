use Rattle.std.proofs.Common.{sym}
use Rattle.awk_numbers.proofs.Integral.{near_some}
use Rattle.awk_numbers.proofs.shown.near_integral.Goals as goal

pub returns : goal.returns
returns c = rw c.ok.ensures.value (near_some c.args.x c.whole_of.result c.whole_of.ensures)
