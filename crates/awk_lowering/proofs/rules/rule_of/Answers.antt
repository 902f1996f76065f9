use Rattle.std.proofs.Common.{refl}
use Rattle.awk_lowering.proofs.rules.rule_of.Goals as goal

pub returns-in-Ok : goal.returns-in-Ok
returns-in-Ok c = λ t a b h0 h1. let w = c.in-Ok.ensures in let p0 = rw w.0 at h0 in let p1 = rw w.1 at h1 in
    rw (p0, p1) refl
