use Rattle.std.proofs.Common.{refl}
use Rattle.awk_program.proofs.Views.{statement-For}
use Rattle.awk_lowering.proofs.blocks.for_of.Goals as goal

pub returns-in-Ok : goal.returns-in-Ok
returns-in-Ok c = λ t a b d e h0 h1 h2 h3. let w = c.in-Ok.ensures in let p0 = rw w.0 at h0 in let p1 = rw w.1 at h1 in
    let p2 = rw w.2 at h2 in let p3 = rw w.3 at h3 in
    rw (c.unboxed-in-Ok.ensures, c.unboxed-in-Ok-2.ensures, c.unboxed.ensures, statement-For, p0, p1, p2, p3) refl
