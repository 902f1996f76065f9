use Rattle.std.proofs.Common.{refl}
use Rattle.awk_lowering.proofs.parts.value_of.Goals as goal

pub returns-in-Ok : goal.returns-in-Ok
returns-in-Ok c = λ t a h. let p = rw c.in-Ok.is at h in λ rest. rw (c.into_inner.ensures, p) refl
