use Rattle.std.proofs.Common.{refl}
use Rattle.awk_program.proofs.Views.{view-Builtin}
use Rattle.awk_lowering.proofs.nodes.builtin_of.Goals as goal

pub returns-in-Ok : goal.returns-in-Ok
returns-in-Ok c = λ t a h. let p = rw c.in-Ok.is at h in rw (view-Builtin, p) refl
