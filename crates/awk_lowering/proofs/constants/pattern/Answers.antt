use Rattle.std.proofs.Common.{refl}
use Rattle.awk_program.proofs.Views.{view-Pattern}
use Rattle.awk_lowering.proofs.constants.pattern.Goals as goal

pub returns : goal.returns
returns c = λ t. rw (view-Pattern, c.in_ok-copy.ensures) refl
