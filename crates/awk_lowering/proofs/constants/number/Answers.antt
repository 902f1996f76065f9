use Rattle.std.proofs.Common.{ap}
use Rattle.awk_program.specs.Program as p
use Rattle.awk_program.proofs.Views.{view-Number}
use Rattle.awk_lowering.proofs.constants.number.Goals as goal

pub returns : goal.returns
returns c = λ t. rw (view-Number) (ap p.number (rw c.bytes.ensures at c.constant.ensures))
