use Rattle.std.proofs.Common.{◌≡◌, ◌++◌, ◌+◌, ◌-◌, length, replicate, List, ℕ, IfOk, ap, subst, arith, ◌∙◌}
use Rattle.awk_numbers.specs.Decimal.{pointed}
use Rattle.awk_numbers.specs.Digits.{rounded}
use Rattle.awk_numbers.proofs.Closest.{as_fixed, long_enough}
use Rattle.awk_numbers.proofs.Sizes.{text}
use Rattle.awk_numbers.proofs.fixed.unsigned.Goals as goal

pub pointed-requires : goal.pointed-requires
pointed-requires c =
    omega (
      arith,
      long_enough c.deref-2.result.now c.deref.result.now (c.args.places + 1) (c.deref-2.ensures.value
          ∙ c.in_ok-all.ensures),
    )

pub returns : goal.returns
returns c =
    let p = c.args.places in
    let own : c.deref.result.now ≡ text (rounded c.args.x p) = c.deref.ensures.value ∙ c.in_ok-own.ensures in
    let all' : c.deref-2.result.now ≡ replicate (p + 1 - length c.deref.result.now) 48 ++ c.deref.result.now =
    c.deref-2.ensures.value ∙ c.in_ok-all.ensures in
    subst (λ (t : List ℕ). IfOk c.pointed.result (λ made. made.items ≡ t))
    (ap (pointed p) all' ∙ as_fixed c.args.x p c.deref.result.now own) c.pointed.ensures
