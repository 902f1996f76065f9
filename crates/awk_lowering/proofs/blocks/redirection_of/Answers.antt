use Rattle.std.proofs.Common.{refl}
use Rattle.awk_lowering.proofs.blocks.redirection_of.Goals as goal

pub returns-in-Ok : goal.returns-in-Ok
returns-in-Ok c = λ t a h. let p = rw c.in-Ok.is at h in
    rw (c.into_inner-target.ensures, p, c.redirect-how.ensures) refl
