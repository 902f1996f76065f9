use Rattle.std.proofs.Common.{refl}
use Rattle.awk_program.proofs.Views.{statement-DeleteAll}
use Rattle.awk_lowering.proofs.blocks.delete_all_of.Goals as goal

pub returns-in-Ok : goal.returns-in-Ok
returns-in-Ok c = λ t a h0. let p0 = rw c.in-Ok.is at h0 in rw (statement-DeleteAll, p0) refl
