use Rattle.std.proofs.Common.{◌≡◌, List, ℕ, OnOk, refl, subst, ◌∙◌}
use Rattle.std.specs.Prelude.{unsigned_abs}
use Rattle.awk_numbers.specs.Shown.{integral_of}
use Rattle.awk_format.specs.Written.{written}
use Rattle.awk_format.proofs.Signed.{signed_is}
use Rattle.awk_format.proofs.reals.push_far.Goals as goal

pub returns : goal.returns
returns c =
    subst (λ (t : List ℕ). OnOk c.push_digits.result (c.push_digits.new.out ≡ written c.args.out.now t))
    (signed_is c.args.directive.now (integral_of c.args.x) (unsigned_abs (integral_of c.args.x)) c.in_ok-minus.minus
    c.deref.result.now c.in_ok-minus.ensures.minus refl (c.deref.ensures.value ∙ c.in_ok-minus.ensures.digits))
    c.push_digits.ensures
