use Rattle.std.proofs.Common.{◌≡◌, List, ℕ, ℤ, pos, OnOk, subst, ap, ◌∙◌, w64}
use Rattle.std.proofs.lemmas.Int.{to_z-of_z}
use Rattle.std.specs.Prelude.{int_lt, unsigned_abs}
use Rattle.awk_format.specs.Written.{written}
use Rattle.awk_format.proofs.Signed.{signed_is}
use Rattle.awk_format.proofs.convert.push_signed.Goals as goal

pub returns : goal.returns
returns c =
    let same = to_z-of_z w64 c.args.number c.ranges.number in
    subst (λ (t : List ℕ). OnOk c.push_digits.result (c.push_digits.new.out ≡ written c.args.out.now t))
    (signed_is c.args.directive.now c.args.number c.unsigned_abs.result _ c.own_digits-shown.result.now
    (ap (λ (z : ℤ). int_lt z (pos 0)) same) (c.unsigned_abs.ensures.value ∙ ap unsigned_abs same)
    c.own_digits-shown.ensures) c.push_digits.ensures
