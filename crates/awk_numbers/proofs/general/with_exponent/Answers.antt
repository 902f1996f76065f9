use Rattle.std.proofs.Common.{◌≡◌, ◌++◌, ◌-◌, length, replicate, ap, arith, ◌∙◌}
use Rattle.awk_numbers.specs.Decimal.{pointed}
use Rattle.awk_numbers.specs.Exponents.{exponent_text}
use Rattle.awk_numbers.specs.General.{shortened}
use Rattle.awk_numbers.proofs.Closest.{long_enough}
use Rattle.awk_numbers.proofs.general.with_exponent.Goals as goal

pub pointed-requires : goal.pointed-requires
pointed-requires c = omega (
  arith,
  long_enough c.deref.result.now c.args.own.now c.args.count (c.deref.ensures.value
      ∙ c.in_ok-all.ensures),
)

pub returns : goal.returns
returns c =
    let less = c.args.count - 1 in
    let digits = replicate (c.args.count - length c.args.own.now) 48 ++ c.args.own.now in
    let head : c.shorten.new.text.items ≡ shortened less (pointed less digits) =
    c.shorten.ensures ∙ ap (shortened less) (c.in_ok-text.ensures ∙ ap (pointed less) (c.deref.ensures.value
    ∙ c.in_ok-all.ensures)) in
    let tail : c.deref-2.result.now ≡ exponent_text c.args.letter c.args.place =
    c.deref-2.ensures.value ∙ c.in_ok-tail.ensures in
    c.in_ok-extend_from_slice.ensures.items ∙ (λ i. head i ++ tail i)
