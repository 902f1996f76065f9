use Rattle.std.proofs.Common.{rules, refl}
use Rattle.awk_program.proofs.Views.{view-Not, view-Signed}
use Rattle.awk_lowering.proofs.operators.signed_of.Goals as goal

pub returns-in_err-x : goal.returns-in_err-x
returns-in_err-x c = λ t a h. search rules

pub returns-in-Not : goal.returns-in-Not
returns-in-Not c = λ t a h. let p = rw c.in_ok-x.was at h in rw (c.in-Not.is, view-Not, p) refl

pub returns-in-Plus : goal.returns-in-Plus
returns-in-Plus c = λ t a h. let p = rw c.in_ok-x.was at h in rw (c.in-Plus.is, view-Signed, p) refl

pub returns-in-Minus : goal.returns-in-Minus
returns-in-Minus c = λ t a h. let p = rw c.in_ok-x.was at h in rw (c.in-Minus.is, view-Signed, p) refl
