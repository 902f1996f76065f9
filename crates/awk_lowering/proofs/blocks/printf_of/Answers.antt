use Rattle.std.proofs.Common.{refl}
use Rattle.awk_program.proofs.Views.{statement-Printf}
use Rattle.awk_lowering.proofs.blocks.printf_of.Goals as goal

pub returns-in-Ok : goal.returns-in-Ok
returns-in-Ok c = λ t a b d h0 h1 h2. let w = c.in-Ok.ensures in let p0 = rw w.0 at h0 in let p1 = rw w.1 at h1 in
    let p2 = rw w.2 at h2 in rw (c.into_inner.ensures, statement-Printf, p0, p1, p2) refl
