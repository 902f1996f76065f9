use Rattle.std.proofs.Common.{refl}
use Rattle.awk_program.specs.View.{view}
use Rattle.awk_program.proofs.Views.{view-AsText}
use Rattle.awk_lowering.proofs.Carried.{boxed_is}
use Rattle.awk_lowering.proofs.texts.of_doubles.Goals as goal

pub returns-then-may_be_fraction : goal.returns-then-may_be_fraction
returns-then-may_be_fraction c = λ t a h. let p = rw c.in-Ok.is at h in
    let f = rw (c.get.ensures, p) at (c.may_be_fraction.ensures t) in
    rw (← f, c.if-may_be_fraction.true) (boxed_is (view t) _ _ _ c.boxed.ensures (rw (view-AsText, p) refl))

pub returns-else-may_be_fraction : goal.returns-else-may_be_fraction
returns-else-may_be_fraction c = λ t a h. let p = rw c.in-Ok.is at h in
    let f = rw (c.get.ensures, p) at (c.may_be_fraction.ensures t) in rw (← f, c.if-may_be_fraction.false) p
