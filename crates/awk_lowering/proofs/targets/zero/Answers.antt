use Rattle.std.proofs.Common.{refl}
use Rattle.awk_program.proofs.Views.{view-Number}
use Rattle.awk_lowering.proofs.targets.zero.Goals as goal

pub returns : goal.returns
returns c = λ t. rw view-Number refl
